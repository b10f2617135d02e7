-- A vector store done below an element, from a memory that differs in pending bytes alone: what differs then is pending still.
use Rattle.std.proofs.Common.{◌≡◌, ℕ, ◌%◌, ◌≤◌, Bool, true, false, not, ◌&&◌, ◌||◌, nat_eq, List, [], ◌∷◌, ◌++◌, map, if◌then◌else◌, refl, sym, ap, ◌∙◌, subst}
use Rattle.std.specs.List.{All, filter, list_any}
use Rattle.std.specs.Prelude.{Option, Some, None, is_none}
use Rattle.std.proofs.Math.Bool.{and-false}
use Rattle.std.proofs.lemmas.Bool.{true≢false}
use Rattle.std.proofs.lemmas.List.Elements.{All-nil, All-cons, filter-append}
use Rattle.std.proofs.lemmas.List.Folds.{list_any-append}
use Rattle.std.proofs.lemmas.Option.{none-some}
use Rattle.vx_base.specs.declared.machine.Want.{Want}
use Rattle.vx_base.specs.declared.machine.Want.TheVariants.{Fetch, Store}
use Rattle.vx_decode.specs.Decoded.{decoded}
use Rattle.vx_decode.specs.Groups.{indices, mask_at, meet, destinations_as, sources_as}
use Rattle.vx_decode.specs.Legal.{some_group, needs_none, is_bad_group, is_too_long, may_write_mask, reads_first, may_meet, is_kept_apart, begins_at_first, is_high_half, is_illegal}
use Rattle.vx_decode.specs.declared.group.Group.{Group}
use Rattle.vx_decode.specs.declared.instr.Instr.{Instr}
use Rattle.vx_image.specs.Pages.{Memory, permits}
use Rattle.vx_rows.specs.Table.{class_of, shape_of}
use Rattle.vx_rows.specs.declared.row.Addressing.{Addressing}
use Rattle.vx_rows.specs.declared.row.Addressing.TheVariants.{Unit, FaultOnlyFirst, Whole, MaskBits, Strided, Unordered, Ordered}
use Rattle.vx_rows.specs.declared.row.Class.{Class}
use Rattle.vx_rows.specs.declared.row.Class.TheVariants.{VectorStore}
use Rattle.vx_rows.specs.declared.row.Eew.{Eew}
use Rattle.vx_vstate.specs.State.{SettingView}
use Rattle.vx_vstate.specs.Vtype.{vill, sew}
use Rattle.vx_vector.specs.Accesses.{Access, Movement, accesses_between, movement_count}
use Rattle.vx_flat.specs.Checks.{misaligned, page_fault}
use Rattle.vx_flat.specs.Splits.{IsWellFormed}
use Rattle.vx_flat.specs.State.{Flat, at_element, completed}
use Rattle.vx_flat.specs.Step.{upcoming, is_legal, is_legal_as, word_at_pc}
use Rattle.vx_flat.specs.Transfers.{Direction, Transfer, Failure, transfer, want_of, failure_of, failure_or, first_failure, below_done}
use Rattle.vx_flat.specs.Transfers.Direction.{Storing}
use Rattle.vx_flat.specs.Vectors.{setting_at}
use Rattle.vx_flat.specs.declared.upcoming.Upcoming.TheVariants.{Instruction}
use Rattle.vx_episode.specs.Show.{is_in, is_pending, spans_as, Span}
use Rattle.vx_pending.specs.Alike.{HaveSamePages, AreAlike, StandsFor, StandsExactlyFor, with_memory}
use Rattle.vx_pending.proofs.Between.{moved_alike, all-in-parts, rest-is}
use Rattle.vx_pending.proofs.Next.{Laws, next-parts, next-is, all-wide, pending-is, word-is}
use Rattle.vx_pending.proofs.Pages.{Agree, permits-alike, same-on, same-back}
use Rattle.vx_pending.proofs.Stored.{Wide, good_spans, stored, stored-same, stored-agree, stored-there, stored-leave, stores-are}

-- ---- legality, from an element on

-- legality, of the class, the groups, and whether the row can't begin where it does
abbrev illegal_by : Class → (ds ss : List Group) → Instr → (vtype : ℕ) → (late : Bool) → Bool
illegal_by c ds ss i vtype late =
    (nat_eq vtype vill && not (needs_none c))
    || (some_group ds is_bad_group || some_group ss is_bad_group)
    || (some_group ds is_too_long || some_group ss is_too_long)
    || (not i.vm && not (may_write_mask c) && some_group ds (meet (mask_at 0)))
    || (not (reads_first c) && some_group ds (λ d. some_group ss (λ s. meet d s && not (may_meet d s))))
    || (is_kept_apart c i.nf && some_group ds (λ d. some_group ss (meet d) || (not i.vm && meet d (mask_at 0))))
    || late
    || (nat_eq (sew vtype) 64 && is_high_half c)

abbrev late_at : Class → (vstart : ℕ) → Bool
late_at c vstart = not (nat_eq vstart 0) && begins_at_first c

by-class : (i : Instr) (at : SettingView) (c : Class) → class_of i.op ≡ c → is_illegal i at ≡ illegal_by c (destinations_as c i at) (sources_as c (shape_of i.op) i at) i at.vtype (late_at c at.vstart)
by-class i at c e = ap (λ c. illegal_by c (destinations_as c i at) (sources_as c (shape_of i.op) i at) i at.vtype (late_at c at.vstart)) e

indices_alike : (a : Addressing) (e : Eew) (i : Instr) (at : SettingView) (k : ℕ) → indices a e i (record at { vstart = k }) ≡ indices a e i at
indices_alike Unit e i at k = refl
indices_alike FaultOnlyFirst e i at k = refl
indices_alike Whole e i at k = refl
indices_alike MaskBits e i at k = refl
indices_alike Strided e i at k = refl
indices_alike Unordered e i at k = refl
indices_alike Ordered e i at k = refl

store-legal-alike : (a : Addressing) (e : Eew) (i : Instr) (at : SettingView) (k : ℕ) → class_of i.op ≡ VectorStore a e → is_illegal i (record at { vstart = k }) ≡ is_illegal i at
store-legal-alike a e i at k q =
    let group = moved_alike a e i at k in
    let index = indices_alike a e i at k in
    let late : late_at (VectorStore a e) k ≡ late_at (VectorStore a e) at.vstart = and-false (not (nat_eq k 0)) ∙ sym (and-false (not (nat_eq at.vstart 0))) in
    by-class i (record at { vstart = k }) (VectorStore a e) q
    ∙ (λ j. illegal_by (VectorStore a e) [] (group j ∷ index j) i at.vtype (late j))
    ∙ sym (by-class i at (VectorStore a e) q)

-- ---- failures

pub failures-alike : (d : Direction) (old new : Memory) → ((a : ℕ) (want : Want) → permits new a want ≡ permits old a want) → (l : List Access) → first_failure d new l ≡ first_failure d old l
failures-alike d old new h [] = refl
failures-alike d old new h (a ∷ l) = λ j. failure_or a (if not (nat_eq (a.address % a.width) 0) then Some (misaligned (want_of d)) else if not (h a.address (want_of d) j) then Some (page_fault (want_of d)) else None) (failures-alike d old new h l j)

pub neither : (a : Access) (c : Option ℕ) (later : Option Failure) → failure_or a c later ≡ None → (c ≡ None) × (later ≡ None)
neither a (Some cause) later h = absurd (none-some (record { access = a; cause = cause }) (sym h))
neither a None later h = (refl, h)

none-fails : (d : Direction) (memory : Memory) (l : List Access) → first_failure d memory l ≡ None → All (λ a. failure_of d memory a ≡ None) l
none-fails d memory [] h = All-nil (λ a. failure_of d memory a ≡ None)
none-fails d memory (a ∷ l) h =
    let parts = neither a (failure_of d memory a) (first_failure d memory l) h in
    All-cons (λ a. failure_of d memory a ≡ None) a l parts.0 (none-fails d memory l parts.1)

-- ---- the spans of two lists

abbrev span_of : Access → Span
span_of a = record { address = a.address; width = a.width }

map-behind : (xs ys : List Access) → map span_of (xs ++ ys) ≡ map span_of xs ++ map span_of ys
map-behind [] ys = refl
map-behind (a ∷ xs) ys = ap (λ (l : List Span). span_of a ∷ l) (map-behind xs ys)

any-behind : (memory : Memory) (xs ys : List Access) (c : ℕ) → list_any (is_in c) (good_spans memory (xs ++ ys)) ≡ (list_any (is_in c) (good_spans memory xs) || list_any (is_in c) (good_spans memory ys))
any-behind memory xs ys c =
    let good = λ (a : Access). is_none (failure_of Storing memory a) in
    ap (λ l. list_any (is_in c) (map span_of l)) (filter-append good xs ys)
    ∙ ap (list_any (is_in c)) (map-behind (filter good xs) (filter good ys))
    ∙ list_any-append (is_in c) (good_spans memory xs) (good_spans memory ys)

good-alike : (old new : Memory) → ((a : ℕ) (want : Want) → permits new a want ≡ permits old a want) → (l : List Access) → good_spans new l ≡ good_spans old l
good-alike old new h l = λ j. map (λ (x : Access). record { address = x.address; width = x.width }) (filter (λ (x : Access). is_none (if not (nat_eq (x.address % x.width) 0) then Some (misaligned Store) else if not (h x.address Store j) then Some (page_fault Store) else None)) l)

-- ---- the elements below one, done

module _ (L : Laws) (s : Flat) (m : Memory) (w : IsWellFormed s) (alike : AreAlike s m) (a : Addressing) (e : Eew) (i : Instr) (h : upcoming s ≡ Instruction i) (q : class_of i.op ≡ VectorStore a e) (k : ℕ) where
  abbrev t : Transfer
  t = transfer Storing a e s i

  abbrev moves : Movement
  moves = t.movement

  abbrev first : List Access
  first = accesses_between moves 0 k

  abbrev rest : List Access
  rest = accesses_between moves k (movement_count moves)

  abbrev memory : Memory
  memory = stored s.v.vlen s.v.words first s.memory

  abbrev shown_memory : Memory
  shown_memory = stored s.v.vlen s.v.words first m

  abbrev there : Flat
  there = at_element k (with_memory memory s)

  pub there-is : below_done t k s ≡ there
  there-is = ap (at_element k) (stores-are first s)

  pub shown-is : below_done (transfer Storing a e (with_memory m s) i) k (with_memory m s) ≡ with_memory shown_memory there
  shown-is = ap (at_element k) (stores-are first (with_memory m s))

  wide : (from to : ℕ) → All Wide (accesses_between moves from to)
  wide = all-wide L a e s i w h q

  same-there : HaveSamePages memory s.memory
  same-there = stored-same s.v.vlen s.v.words first s.memory

  permits-there : (address : ℕ) (want : Want) → permits memory address want ≡ permits s.memory address want
  permits-there = permits-alike memory s.memory same-there

  next-there : first_failure Storing s.memory first ≡ None → upcoming there ≡ Instruction i
  next-there good =
      let next = next-parts s i h in
      let word : word_at_pc there ≡ word_at_pc s = word-is s memory w next.fetched (λ c denied. stored-leave s.v.vlen s.v.words s.memory first s.memory c (wide 0 k) (none-fails Storing s.memory first good) denied) in
      let legal : is_legal there i ≡ is_legal s i =
      ap (λ c. is_legal_as c there i) q
      ∙ ap not (store-legal-alike a e i (setting_at s i) k q)
      ∙ sym (ap (λ c. is_legal_as c s i) q) in
      next-is there i (record {
        fetched = permits-there s.pc Fetch ∙ next.fetched;
        word = ap decoded word ∙ next.word;
        legal = legal ∙ next.legal;
      })

  -- what is pending here lies in the elements below k, or in those from k on
  pending-here : (c : ℕ) → is_pending s c ≡ (list_any (is_in c) (good_spans s.memory first) || list_any (is_in c) (good_spans s.memory rest))
  pending-here c =
      pending-is s (Instruction i) c h
      ∙ ap (λ x. list_any (is_in c) (spans_as x s i)) q
      ∙ ap (λ l. list_any (is_in c) (good_spans s.memory l)) (all-in-parts moves k)
      ∙ any-behind s.memory first rest c

  pending-there : s.v.vstart ≤ k → first_failure Storing s.memory first ≡ None → (c : ℕ) → is_pending there c ≡ list_any (is_in c) (good_spans s.memory rest)
  pending-there start good c =
      pending-is there (Instruction i) c (next-there good)
      ∙ ap (λ x. list_any (is_in c) (spans_as x there i)) q
      ∙ ap (λ l. list_any (is_in c) (good_spans memory l)) (rest-is moves k start)
      ∙ ap (list_any (is_in c)) (good-alike s.memory memory permits-there rest)

  same-both : HaveSamePages shown_memory memory
  same-both = same-on shown_memory m memory (stored-same s.v.vlen s.v.words first m) (same-on m s.memory memory alike.pages (same-back memory s.memory same-there))

  by-spans : (c : ℕ) (x y : Bool) → is_pending s c ≡ (x || y) → (x ≡ true → Agree shown_memory memory c) → y ≡ false → Agree shown_memory memory c
  by-spans c true y p f n = f refl
  by-spans c false true p f n = absurd (true≢false n)
  by-spans c false false p f n = stored-agree s.v.vlen s.v.words first m s.memory c alike.pages (alike.bytes c p)

  pub within-alike : s.v.vstart ≤ k → first_failure Storing s.memory first ≡ None → StandsFor (with_memory shown_memory there) there
  within-alike start good = record {
    is = refl;
    alike = record {
      pages = same-both;
      bytes = λ c p.
          by-spans c (list_any (is_in c) (good_spans s.memory first)) (list_any (is_in c) (good_spans s.memory rest)) (pending-here c)
          (stored-there s.v.vlen s.v.words s.memory first m s.memory c (wide 0 k) alike.pages)
          (sym (pending-there start good c) ∙ p);
    };
  }

  pub below-alike : s.v.vstart ≤ k → first_failure Storing s.memory first ≡ None → StandsFor (below_done t k (with_memory m s)) (below_done t k s)
  below-alike start good =
      subst (λ u. StandsFor u (below_done t k s)) (sym shown-is)
      (subst (λ u. StandsFor (with_memory shown_memory there) u) (sym there-is) (within-alike start good))

  -- where all elements are done, no byte differs
  all-agree : rest ≡ [] → (c : ℕ) → Agree shown_memory memory c
  all-agree none c =
      by-spans c (list_any (is_in c) (good_spans s.memory first)) (list_any (is_in c) (good_spans s.memory rest)) (pending-here c)
      (stored-there s.v.vlen s.v.words s.memory first m s.memory c (wide 0 k) alike.pages)
      (ap (λ l. list_any (is_in c) (good_spans s.memory l)) none)

  pub completed-alike : rest ≡ [] → StandsExactlyFor (completed (below_done t k (with_memory m s))) (completed (below_done t k s))
  completed-alike none =
      subst (λ u. StandsExactlyFor (completed u) (completed (below_done t k s))) (sym shown-is)
      (subst (λ u. StandsExactlyFor (completed (with_memory shown_memory there)) (completed u)) (sym there-is)
      (record { is = refl; pages = same-both; bytes = all-agree none }))

-- The instruction behind one that ends an episode isn't issued by the end.
use Rattle.std.proofs.Common.{◌≡◌, ℕ, ◌+◌, max, Bool, true, false, List, [], ◌∷◌, ◌++◌, refl, sym, ap, ◌∙◌, inl, inr, arith}
use Rattle.std.specs.Prelude.{nat_le, map, option_to_list, if◌then◌else◌}
use Rattle.std.specs.List.{list_all, list_any}
use Rattle.std.proofs.lemmas.Bool.{and_from, or_cases, or_left, or_right, cases_Bool, false≢true, leb-true, le-leb}
use Rattle.std.proofs.lemmas.List.Folds.{list_any-append}
use Rattle.vx_base.specs.declared.machine.Want.TheVariants.{Fetch}
use Rattle.vx_flat.specs.State.{Flat}
use Rattle.vx_image.specs.Pages.{is_canonical, page_of}
use Rattle.vx_tables.specs.Caches.{look_up}
use Rattle.vx_tables.specs.declared.look.Look.{Look}
use Rattle.vx_tables.specs.declared.look.Look.TheVariants.{Hit, Denied, Miss}
use Rattle.vx_episode.specs.Commits.{Happening, timed, happenings_of}
use Rattle.vx_episode.specs.Cycles.{Cycle, behind, later_of, latest, is_by}
use Rattle.vx_episode.specs.Cycles.Cycle.{At, Never}
use Rattle.vx_episode.specs.Footprint.{Footprint}
use Rattle.vx_episode.specs.History.{History, Entry, Walk, last_issue, last_retire, retire_before, trimming_before, register_ready, fills_of, fetch_walks}
use Rattle.vx_episode.specs.Instructions.{fetch_begin, fetch_times, fetch_by, fetch_at, issue_cycle, walk_time}
use Rattle.vx_episode.specs.Organisation.{Start, fetch_entries}
use Rattle.vx_course.proofs.From.{is_from, from-late, late-from, from-first, from-second}
use Rattle.vx_course.proofs.Late.{happenings-from, entry-from}
use Rattle.vx_course.proofs.Lists.{all-middle}
use Rattle.vx_course.proofs.Completing.{Completion, retires-from, retires-somehow}

-- ---- the issue

from-latest : (n : ℕ) (cycles : List Cycle) → list_any (is_from n) cycles ≡ true → is_from n (latest cycles) ≡ true
from-latest n [] h = absurd (false≢true h)
from-latest n (c ∷ cycles) h = elim (or_cases (is_from n c) (list_any (is_from n) cycles) h) [
  | inl here ↦ from-first n c (latest cycles) here
  | inr there ↦ from-second n c (latest cycles) (from-latest n cycles there)
]

any-before : (p : Cycle → Bool) (xs ys : List Cycle) → list_any p xs ≡ true → list_any p (xs ++ ys) ≡ true
any-before p xs ys h = list_any-append p xs ys ∙ or_left (list_any p xs) (list_any p ys) h

any-behind : (p : Cycle → Bool) (xs ys : List Cycle) → list_any p ys ≡ true → list_any p (xs ++ ys) ≡ true
any-behind p xs ys h = list_any-append p xs ys ∙ or_right (list_any p xs) (list_any p ys) h

one-more : (n : ℕ) (c : Cycle) → is_from n c ≡ true → is_from (n + 1) (behind c) ≡ true
one-more n (At c) h = let few = leb-true n c h in le-leb (n + 1) (c + 1) (omega arith)
one-more n Never h = refl

abbrev waits : Start → History → Cycle → Footprint → (window : ℕ) → List Cycle
waits start history fetched f window =
    fetched
    ∷ behind (last_issue start.cycle history)
    ∷ map (register_ready start.cycle history) f.reads
    ++ map behind (retire_before window history)
    ++ map behind (trimming_before history)
    ++ (if f.is_serial then behind (last_retire start.cycle history) ∷ [] else [])

-- of one in flight, it comes behind the last retire
waits-from : (start : Start) (history : History) (n : ℕ) (fetched : Cycle) (f : Footprint) → is_from n (last_retire start.cycle history) ≡ true → list_any (is_from (n + 1)) (waits start history fetched f 1) ≡ true
waits-from start [] n fetched f h =
    or_right (is_from (n + 1) fetched) _ (or_left (is_from (n + 1) (behind (At start.cycle))) _ (one-more n (At start.cycle) h))
waits-from start (e ∷ history) n fetched f h =
    let p = is_from (n + 1) in
    let registers = map (register_ready start.cycle (e ∷ history)) f.reads in
    let trimming = map behind (trimming_before (e ∷ history)) in
    let serial : List Cycle = if f.is_serial then behind e.retired ∷ [] else [] in
    let here : list_any p (behind e.retired ∷ []) ≡ true = or_left (p (behind e.retired)) false (one-more n e.retired h) in
    or_right (p fetched) _ (or_right (p (behind e.issued)) _
    (any-before p (registers ++ (behind e.retired ∷ []) ++ trimming) serial
    (any-before p (registers ++ (behind e.retired ∷ [])) trimming
    (any-behind p registers (behind e.retired ∷ []) here))))

pub issue-behind : (start : Start) (history : History) (n : ℕ) (fetched : Cycle) (f : Footprint) → start.machine.window ≡ 1 → is_from n (last_retire start.cycle history) ≡ true → is_from (n + 1) (issue_cycle start history fetched f) ≡ true
issue-behind start history n fetched f one h =
    ap (λ (window : ℕ). is_from (n + 1) (latest (waits start history fetched f window))) one
    ∙ from-latest (n + 1) (waits start history fetched f 1) (waits-from start history n fetched f h)

-- ---- what happens of an instruction comes no earlier than its issue

by-itself : (k : ℕ) → nat_le (k + 1) k ≡ true → ⊥
by-itself k h = let few = leb-true (k + 1) k h in omega arith

pub issued-by : (start : Start) (history : History) (s : Flat) (f : Footprint) (retired : Cycle) (before after : List Happening) (h : Happening) → happenings_of retired (timed start history s f) ≡ before ++ h ∷ after
    → is_by h.cycle (timed start history s f).issued ≡ true
issued-by start history s f retired before after h parts = elim (cases_Bool (is_by h.cycle (timed start history s f).issued)) [
  | inl early ↦ early
  | inr late ↦
      let is = entry-from start history s f (h.cycle + 1) (from-late h.cycle (timed start history s f).issued late) in
      absurd (by-itself h.cycle (all-middle (λ (x : Happening). nat_le (h.cycle + 1) x.cycle) before after h
      (sym (ap (list_all (λ (x : Happening). nat_le (h.cycle + 1) x.cycle)) parts) ∙ happenings-from (h.cycle + 1) (timed start history s f) is retired)))
]

-- ---- the instruction behind

pub waits-behind : (start : Start) (history : History) (s : Flat) (f : Footprint) → Completion start history s f → start.machine.window ≡ 1 → (retired : Cycle) (before after : List Happening) (h : Happening)
    → happenings_of retired (timed start history s f) ≡ before ++ h ∷ after → (t : Flat) (g : Footprint)
    → is_by h.cycle (timed start (timed start history s f ∷ history) t g).issued ≡ false
waits-behind start history s f known one retired before after h parts t g =
    let e : Entry = timed start history s f in
    late-from h.cycle (timed start (e ∷ history) t g).issued
    (issue-behind start (e ∷ history) h.cycle (timed start (e ∷ history) t g).fetch.ended g one (retires-from e retired before after h (retires-somehow start history s f known) parts))

-- ---- fetches

by-first : (k : ℕ) (a b : Cycle) → is_by k (later_of a b) ≡ true → is_by k a ≡ true
by-first k (At a) (At b) h = let few = leb-true (max a b) k h in le-leb a k (omega arith)
by-first k (At a) Never h = absurd (false≢true h)
by-first k Never b h = absurd (false≢true h)

module _ (start : Start) (history : History) (pc : ℕ) where
  -- a fetch ends no earlier than it begins
  look-from : (begun : ℕ) (look : Look) → is_from begun (fetch_by start history pc begun look).ended ≡ true
  look-from begun (Hit frame) = le-leb begun begun (omega arith)
  look-from begun Denied = le-leb begun begun (omega arith)
  look-from begun Miss = le-leb begun (begun + walk_time start.machine) (omega arith)

  canonical-from : (begun : ℕ) (canonical : Bool) (look : Look) → is_from begun (if canonical then fetch_by start history pc begun look else fetch_at start begun).ended ≡ true
  canonical-from begun true look = look-from begun look
  canonical-from begun false look = le-leb begun begun (omega arith)

  pub fetch-from : (begun : ℕ) → is_from begun (fetch_times start history pc (At begun)).ended ≡ true
  fetch-from begun = canonical-from begun (is_canonical pc) (look_up fetch_entries (fills_of (fetch_walks history)) (page_of pc) Fetch)

  -- its walk has ended once it has
  look-walk : (k begun : ℕ) (look : Look) → is_by k (fetch_by start history pc begun look).ended ≡ true → list_all (λ (w : Walk). nat_le w.ended k) (option_to_list (fetch_by start history pc begun look).walk) ≡ true
  look-walk k begun (Hit frame) h = refl
  look-walk k begun Denied h = refl
  look-walk k begun Miss h = and_from (nat_le (begun + walk_time start.machine) k) true h refl

  canonical-walk : (k begun : ℕ) (canonical : Bool) (look : Look) → is_by k (if canonical then fetch_by start history pc begun look else fetch_at start begun).ended ≡ true
      → list_all (λ (w : Walk). nat_le w.ended k) (option_to_list (if canonical then fetch_by start history pc begun look else fetch_at start begun).walk) ≡ true
  canonical-walk k begun true look h = look-walk k begun look h
  canonical-walk k begun false look h = refl

  fetch-walk : (k : ℕ) (begun : Cycle) → is_by k (fetch_times start history pc begun).ended ≡ true → list_all (λ (w : Walk). nat_le w.ended k) (option_to_list (fetch_times start history pc begun).walk) ≡ true
  fetch-walk k (At begun) h = canonical-walk k begun (is_canonical pc) (look_up fetch_entries (fills_of (fetch_walks history)) (page_of pc) Fetch) h
  fetch-walk k Never h = refl

module _ (start : Start) (history : History) (s : Flat) (f : Footprint) where
  -- an instruction is issued no earlier than its fetch begins, and its fetch's walk has ended by then
  pub issue-from : (begun : ℕ) → fetch_begin start history ≡ At begun → is_from begun (timed start history s f).issued ≡ true
  issue-from begun is =
      let e : Entry = timed start history s f in
      from-first begun e.fetch.ended (latest (
      behind (last_issue start.cycle history)
      ∷ map (register_ready start.cycle history) f.reads
      ++ map behind (retire_before start.machine.window history)
      ++ map behind (trimming_before history)
      ++ (if f.is_serial then behind (last_retire start.cycle history) ∷ [] else [])))
      (ap (λ (c : Cycle). is_from begun (fetch_times start history s.pc c).ended) is ∙ fetch-from start history s.pc begun)

  pub issue-walk : (k : ℕ) → is_by k (timed start history s f).issued ≡ true → list_all (λ (w : Walk). nat_le w.ended k) (option_to_list (timed start history s f).fetch.walk) ≡ true
  issue-walk k h =
      let e : Entry = timed start history s f in
      fetch-walk start history s.pc k (fetch_begin start history)
      (by-first k e.fetch.ended (latest (
      behind (last_issue start.cycle history)
      ∷ map (register_ready start.cycle history) f.reads
      ++ map behind (retire_before start.machine.window history)
      ++ map behind (trimming_before history)
      ++ (if f.is_serial then behind (last_retire start.cycle history) ∷ [] else []))) h)

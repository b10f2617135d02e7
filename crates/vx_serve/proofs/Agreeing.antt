-- What is known by a cycle decides what is queued by it.
use Rattle.std.proofs.Common.{◌≡◌, ℕ, ◌≤◌, true, false, cond, max, inl, inr, List, [], ◌∷◌, ◌++◌, reverse, refl, sym, ap, ◌∙◌, subst, arith}
use Rattle.std.specs.Prelude.{◌||◌, ◌⊎◌, nat_le, map, filter, flat_map, All}
use Rattle.std.specs.List.{list_any}
use Rattle.std.proofs.lemmas.Bool.{cases_Bool, cases_lt, le-leb, lt-leb, leb-true, leb-false, ne_eqb}
use Rattle.std.proofs.lemmas.List.{append-nil}
use Rattle.std.proofs.lemmas.List.Elements.{All-head, All-tail, filter-append}
use Rattle.vx_episode.specs.Batches.{Fate, Judged, Waiting, is_to, queued_to, unless_failed, queue_cycle, fails_by, judged, waiting_of, waiting_as, served_in_turn}
use Rattle.vx_episode.specs.Batches.Fate.{Good, Fails, Unknown}
use Rattle.vx_episode.specs.Cycles.{Cycle, later_of, latest}
use Rattle.vx_episode.specs.Cycles.Cycle.{At, Never}
use Rattle.vx_episode.specs.Footprint.{Access}
use Rattle.vx_episode.specs.History.{AccessTimes, queued_by}
use Rattle.vx_episode.specs.Ordered.{ordered}
use Rattle.vx_episode.specs.Organisation.{Organisation}
use Rattle.vx_serve.specs.Agreeing.{is_known_by, AgreeAt, AgreeBy, IsApart, AreApart}
use Rattle.vx_serve.specs.Serving.{served_of}
use Rattle.vx_serve.proofs.Judged.{as_judged, queue-end}
use Rattle.vx_serve.proofs.Split.{number_of, is_up_to, queued-served}

module _ (last : ℕ) where
  -- a cycle, where it comes by the last one
  abbrev cut : Cycle → Cycle
  cut (At cycle) = cond (nat_le cycle last) (At cycle) Never
  cut Never = Never

  later-never : (a : Cycle) → later_of a Never ≡ Never
  later-never (At a) = refl
  later-never Never = refl

  cut-later : (a b : Cycle) → cut (later_of a b) ≡ later_of (cut a) (cut b)
  cut-later (At a) (At b) =
      elim (cases_lt last a) [
        | inl beyond ↦
            let one = lt-leb a last beyond in
            let both = lt-leb (max a b) last (omega arith) in
            simp (one, both)
        | inr by ↦
            let one = le-leb a last by in
            elim (cases_lt last b) [
              | inl beyond ↦
                  let two = lt-leb b last beyond in
                  let both = lt-leb (max a b) last (omega arith) in
                  simp (one, two, both)
              | inr near ↦
                  let two = le-leb b last near in
                  let both = le-leb (max a b) last (omega arith) in
                  simp (one, two, both)
            ]
      ]
  cut-later (At a) Never = sym (later-never (cut (At a)))
  cut-later Never b = refl

  latest-cut : (cycles : List Cycle) → cut (latest cycles) ≡ latest (map cut cycles)
  latest-cut [] = let by = le-leb 0 last (omega arith) in rw by refl
  latest-cut (c ∷ cycles) = cut-later c (latest cycles) ∙ ap (later_of (cut c)) (latest-cut cycles)

  unless-cut : (js : List Judged) (c : Cycle) → cut (unless_failed js c) ≡ unless_failed js (cut c)
  unless-cut js Never = refl
  unless-cut js (At c) =
      elim (cases_Bool (nat_le c last)) [
        | inl by ↦
            elim (cases_Bool (list_any (λ (j : Judged). fails_by c j.fate) js)) [
              | inl failed ↦ simp (by, failed)
              | inr fine ↦ simp (by, fine)
            ]
        | inr beyond ↦
            elim (cases_Bool (list_any (λ (j : Judged). fails_by c j.fate) js)) [
              | inl failed ↦ simp (beyond, failed)
              | inr fine ↦ simp (beyond, fine)
            ]
      ]

  -- an access that isn't known by the last cycle isn't queued by it
  late-cycle : (js : List Judged) (fate : Fate) → is_known_by last fate ≡ false → cut (queue_cycle js fate) ≡ Never
  late-cycle js (Good cycle word) late =
      let never : cut (latest (At cycle ∷ queued_to word js)) ≡ Never = cut-later (At cycle) (latest (queued_to word js)) ∙ rw late refl in
      unless-cut js (latest (At cycle ∷ queued_to word js)) ∙ ap (unless_failed js) never
  late-cycle js (Fails cycle is_away) late = refl
  late-cycle js Unknown late = refl

  -- ---- two lists of judged accesses that are alike up to the last cycle

  record IsAlike (j k : Judged) : Type 0 where
    access : j.access ≡ k.access
    cuts : cut j.queued ≡ cut k.queued
    fates : (j.fate ≡ k.fate) ⊎ ((is_known_by last j.fate ≡ false) × (is_known_by last k.fate ≡ false) × (cut j.queued ≡ Never))

  abbrev AreAlike : List Judged → List Judged → Type 0
  AreAlike [] [] = Unit {0}
  AreAlike (j ∷ js) (k ∷ ks) = IsAlike j k × AreAlike js ks
  AreAlike [] (k ∷ ks) = ⊥
  AreAlike (j ∷ js) [] = ⊥

  -- no access that isn't known by then has the word
  abbrev IsClear : (word : ℕ) → List Judged → Type 0
  IsClear word [] = Unit {0}
  IsClear word (j ∷ js) = (is_known_by last j.fate ≡ false → is_to word j.fate ≡ false) × IsClear word js

  words-alike : (word : ℕ) (js ks : List Judged) → AreAlike js ks → IsClear word js → IsClear word ks → map cut (queued_to word js) ≡ map cut (queued_to word ks)
  words-alike word [] [] alike one two = refl
  words-alike word [] (k ∷ ks) alike one two = absurd alike
  words-alike word (j ∷ js) [] alike one two = absurd alike
  words-alike word (j ∷ js) (k ∷ ks) alike one two =
      let rest = words-alike word js ks alike.1 one.1 two.1 in
      elim (alike.0.fates) [
        | inl same ↦
            elim (cases_Bool (is_to word j.fate)) [
              | inl is ↦ let other : is_to word k.fate ≡ true = ap (is_to word) (sym same) ∙ is in simp (is, other) (λ i. alike.0.cuts i ∷ rest i)
              | inr isnt ↦ let other : is_to word k.fate ≡ false = ap (is_to word) (sym same) ∙ isnt in simp (isnt, other) rest
            ]
        | inr late ↦
            let first = one.0 late.0 in
            let second = two.0 late.1 in
            simp (first, second) rest
      ]

  late-fails : (cycle : ℕ) (fate : Fate) → cycle ≤ last → is_known_by last fate ≡ false → fails_by cycle fate ≡ false
  late-fails cycle (Good known word) by late = refl
  late-fails cycle (Fails known is_away) by late = let beyond = leb-false known last late in lt-leb known cycle (omega arith)
  late-fails cycle Unknown by late = refl

  fails-alike : (cycle : ℕ) (js ks : List Judged) → cycle ≤ last → AreAlike js ks → list_any (λ (j : Judged). fails_by cycle j.fate) js ≡ list_any (λ (j : Judged). fails_by cycle j.fate) ks
  fails-alike cycle [] [] by alike = refl
  fails-alike cycle [] (k ∷ ks) by alike = absurd alike
  fails-alike cycle (j ∷ js) [] by alike = absurd alike
  fails-alike cycle (j ∷ js) (k ∷ ks) by alike =
      let rest = fails-alike cycle js ks by alike.1 in
      let first : fails_by cycle j.fate ≡ fails_by cycle k.fate = elim (alike.0.fates) [
        | inl same ↦ ap (fails_by cycle) same
        | inr late ↦ late-fails cycle j.fate by late.0 ∙ sym (late-fails cycle k.fate by late.1)
      ] in
      λ i. first i || rest i

  unless-same : (js ks : List Judged) (c : Cycle) → AreAlike js ks → unless_failed js (cut c) ≡ unless_failed ks (cut c)
  unless-same js ks Never alike = refl
  unless-same js ks (At c) alike =
      elim (cases_Bool (nat_le c last)) [
        | inl by ↦ rw by (ap (λ t. cond t Never (At c)) (fails-alike c js ks (leb-true c last by) alike))
        | inr beyond ↦ rw beyond refl
      ]

  unless-alike : (js ks : List Judged) (c d : Cycle) → AreAlike js ks → cut c ≡ cut d → cut (unless_failed js c) ≡ cut (unless_failed ks d)
  unless-alike js ks c d alike same =
      unless-cut js c ∙ ap (unless_failed js) same ∙ unless-same js ks d alike ∙ sym (unless-cut ks d)

  cycle-alike : (js ks : List Judged) (fate : Fate) → AreAlike js ks → ((known word : ℕ) → fate ≡ Good known word → known ≤ last → IsClear word js × IsClear word ks)
      → cut (queue_cycle js fate) ≡ cut (queue_cycle ks fate)
  cycle-alike js ks (Good known word) alike clear =
      elim (cases_Bool (nat_le known last)) [
        | inl by ↦
            let is = clear known word refl (leb-true known last by) in
            unless-alike js ks (latest (At known ∷ queued_to word js)) (latest (At known ∷ queued_to word ks)) alike
            (latest-cut (At known ∷ queued_to word js) ∙ ap (λ cycles. latest (cut (At known) ∷ cycles)) (words-alike word js ks alike is.0 is.1) ∙ sym (latest-cut (At known ∷ queued_to word ks)))
        | inr late ↦ late-cycle js (Good known word) late ∙ sym (late-cycle ks (Good known word) late)
      ]
  cycle-alike js ks (Fails known is_away) alike clear = refl
  cycle-alike js ks Unknown alike clear = refl

  -- ---- a batch

  -- what isn't known by then of lower accesses is apart from what is of these
  abbrev AreLower : (Access → Fate) → List Judged → List Access → Type 0
  AreLower fate [] accesses = Unit {0}
  AreLower fate (j ∷ js) accesses = All (λ (b : Access). IsApart last j.fate (fate b)) accesses × AreLower fate js accesses

  apart-clear : (fate : Fate) (known word : ℕ) → known ≤ last → IsApart last fate (Good known word) → is_known_by last fate ≡ false → is_to word fate ≡ false
  apart-clear (Good cycle other) known word by apart late = ne_eqb other word (apart (leb-false cycle last late) by)
  apart-clear (Fails cycle is_away) known word by apart late = refl
  apart-clear Unknown known word by apart late = refl

  lower-clear : (fate : Access → Fate) (js : List Judged) (a : Access) (accesses : List Access) (known word : ℕ) → AreLower fate js (a ∷ accesses) → fate a ≡ Good known word → known ≤ last → IsClear word js
  lower-clear fate [] a accesses known word lower is by = tt
  lower-clear fate (j ∷ js) a accesses known word lower is by =
      let head : IsApart last j.fate (fate a) = All-head (λ (b : Access). IsApart last j.fate (fate b)) a accesses lower.0 in
      let apart : IsApart last j.fate (Good known word) = subst (λ f. IsApart last j.fate f) is head in
      (apart-clear j.fate known word by apart, lower-clear fate js a accesses known word lower.1 is by)

  lower-tail : (fate : Access → Fate) (js : List Judged) (a : Access) (accesses : List Access) → AreLower fate js (a ∷ accesses) → AreLower fate js accesses
  lower-tail fate [] a accesses lower = tt
  lower-tail fate (j ∷ js) a accesses lower =
      (All-tail (λ (b : Access). IsApart last j.fate (fate b)) a accesses lower.0, lower-tail fate js a accesses lower.1)

  judged-alike : (fate other : Access → Fate) (js ks : List Judged) (accesses : List Access) → AreAlike js ks → AgreeBy last fate other accesses
      → AreApart last fate accesses → AreApart last other accesses → AreLower fate js accesses → AreLower other ks accesses → AreAlike (judged fate js accesses) (judged other ks accesses)
  judged-alike fate other js ks [] alike agree one two first second = alike
  judged-alike fate other js ks (a ∷ accesses) alike agree one two first second =
      let j = as_judged a (fate a) (queue_cycle js (fate a)) in
      let k = as_judged a (other a) (queue_cycle ks (other a)) in
      let heads : AgreeAt last (fate a) (other a) = All-head (λ (b : Access). AgreeAt last (fate b) (other b)) a accesses agree in
      let next : IsAlike j k = elim heads [
        | inl same ↦ record {
          access = refl;
          cuts =
              cycle-alike js ks (fate a) alike (λ known word is by. (lower-clear fate js a accesses known word first is by, lower-clear other ks a accesses known word second (sym same ∙ is) by))
              ∙ ap (λ f. cut (queue_cycle ks f)) same;
          fates = inl same;
        }
        | inr late ↦ record {
          access = refl;
          cuts = late-cycle js (fate a) late.0 ∙ sym (late-cycle ks (other a) late.1);
          fates = inr (late.0, late.1, late-cycle js (fate a) late.0);
        }
      ] in
      judged-alike fate other (j ∷ js) (k ∷ ks) accesses (next, alike)
      (All-tail (λ (b : Access). AgreeAt last (fate b) (other b)) a accesses agree) one.1 two.1
      (one.0, lower-tail fate js a accesses first) (two.0, lower-tail other ks a accesses second)

  -- ---- what is queued by then

  waiting-cut : (a : Access) (fate : Fate) (c : Cycle) → filter (is_up_to number_of last) (waiting_as a fate c) ≡ filter (is_up_to number_of last) (waiting_as a fate (cut c))
  waiting-cut a (Good known word) (At c) =
      elim (cases_Bool (nat_le c last)) [
        | inl by ↦ simp by
        | inr beyond ↦ simp beyond
      ]
  waiting-cut a (Good known word) Never = refl
  waiting-cut a (Fails known is_away) c = refl
  waiting-cut a Unknown c = refl

  waiting-never : (a : Access) (fate : Fate) → waiting_as a fate Never ≡ []
  waiting-never a (Good known word) = refl
  waiting-never a (Fails known is_away) = refl
  waiting-never a Unknown = refl

  none-waits : (j : Judged) → cut j.queued ≡ Never → filter (is_up_to number_of last) (waiting_of j) ≡ []
  none-waits j never =
      waiting-cut j.access j.fate j.queued
      ∙ ap (λ c. filter (is_up_to number_of last) (waiting_as j.access j.fate c)) never
      ∙ ap (filter (is_up_to number_of last)) (waiting-never j.access j.fate)

  one-alike : (j k : Judged) → IsAlike j k → filter (is_up_to number_of last) (waiting_of j) ≡ filter (is_up_to number_of last) (waiting_of k)
  one-alike j k alike =
      elim (alike.fates) [
        | inl same ↦
            waiting-cut j.access j.fate j.queued
            ∙ (λ i. filter (is_up_to number_of last) (waiting_as (alike.access i) (same i) (alike.cuts i)))
            ∙ sym (waiting-cut k.access k.fate k.queued)
        | inr late ↦ none-waits j late.2 ∙ sym (none-waits k (sym alike.cuts ∙ late.2))
      ]

  abbrev waiting_by : List Judged → List Waiting
  waiting_by js = filter (is_up_to number_of last) (flat_map waiting_of (reverse js))

  waiting-end : (js : List Judged) (j : Judged) → waiting_by (j ∷ js) ≡ waiting_by js ++ filter (is_up_to number_of last) (waiting_of j)
  waiting-end js j =
      ap (filter (is_up_to number_of last)) (queue-end js j ∙ ap (λ (ws : List Waiting). flat_map waiting_of (reverse js) ++ ws) (append-nil (waiting_of j)))
      ∙ filter-append (is_up_to number_of last) (flat_map waiting_of (reverse js)) (waiting_of j)

  waiting-alike : (js ks : List Judged) → AreAlike js ks → waiting_by js ≡ waiting_by ks
  waiting-alike [] [] alike = refl
  waiting-alike [] (k ∷ ks) alike = absurd alike
  waiting-alike (j ∷ js) [] alike = absurd alike
  waiting-alike (j ∷ js) (k ∷ ks) alike =
      waiting-end js j ∙ (λ i. waiting-alike js ks alike.1 i ++ one-alike j k alike.0 i) ∙ sym (waiting-end ks k)

  -- what is known by then is enough
  pub agree-served : (machine : Organisation) (earlier : List AccessTimes) (fate other : Access → Fate) (accesses : List Access) → AgreeBy last fate other accesses
      → AreApart last fate accesses → AreApart last other accesses → queued_by last (served_of machine earlier fate accesses) ≡ queued_by last (served_of machine earlier other accesses)
  agree-served machine earlier fate other accesses agree one two =
      queued-served machine earlier last (flat_map waiting_of (reverse (judged fate [] accesses)))
      ∙ ap (λ (items : List Waiting). served_in_turn machine earlier [] (ordered number_of items))
      (waiting-alike (judged fate [] accesses) (judged other [] accesses) (judged-alike fate other [] [] accesses tt agree one two tt tt))
      ∙ sym (queued-served machine earlier last (flat_map waiting_of (reverse (judged other [] accesses))))

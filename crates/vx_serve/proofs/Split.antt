-- A list in order is its items up to a number in order, and behind them those beyond it.
use Rattle.std.proofs.Common.{◌≡◌, ℕ, ◌<◌, ◌≤◌, Bool, inl, inr, List, [], ◌∷◌, ◌++◌, take, refl, ap, ◌∙◌, arith}
use Rattle.std.proofs.Math.Numerals.{one-add}
use Rattle.std.specs.Prelude.{nat_le, map, filter, not}
use Rattle.std.specs.List.{prefix_len}
use Rattle.std.proofs.lemmas.Bool.{cases_Bool, le-leb, lt-leb, leb-true, leb-false, cond_both}
use Rattle.vx_episode.specs.Batches.{Waiting, served_in_turn, served_at, serve_cycle}
use Rattle.vx_episode.specs.History.{AccessTimes, queued_by}
use Rattle.vx_episode.specs.Ordered.{placed, ordered}
use Rattle.vx_episode.specs.Organisation.{Organisation}

module _ {A : Type 0} (number : A → ℕ) (last : ℕ) where
  abbrev pub is_up_to : A → Bool
  is_up_to a = nat_le (number a) last

  abbrev pub is_beyond : A → Bool
  is_beyond a = not (nat_le (number a) last)

  abbrev pub AreUpTo : List A → Type 0
  AreUpTo [] = Unit {0}
  AreUpTo (a ∷ items) = (number a ≤ last) × AreUpTo items

  abbrev pub AreBeyond : List A → Type 0
  AreBeyond [] = Unit {0}
  AreBeyond (a ∷ items) = (last < number a) × AreBeyond items

  placed-up : (x : A) (items : List A) → number x ≤ last → AreUpTo items → AreUpTo (placed number x items)
  placed-up x [] p all = (p, tt)
  placed-up x (y ∷ items) p all =
      cond_both (nat_le (number x) (number y)) (x ∷ y ∷ items) (y ∷ placed number x items) AreUpTo (λ _. (p, all)) (λ _. (all.0, placed-up x items p all.1))

  placed-beyond : (x : A) (items : List A) → last < number x → AreBeyond items → AreBeyond (placed number x items)
  placed-beyond x [] p all = (p, tt)
  placed-beyond x (y ∷ items) p all =
      cond_both (nat_le (number x) (number y)) (x ∷ y ∷ items) (y ∷ placed number x items) AreBeyond (λ _. (p, all)) (λ _. (all.0, placed-beyond x items p all.1))

  pub ordered-up : (items : List A) → AreUpTo (ordered number (filter is_up_to items))
  ordered-up [] = tt
  ordered-up (x ∷ items) =
      elim (cases_Bool (nat_le (number x) last)) [
        | inl is ↦ rw is (placed-up x (ordered number (filter is_up_to items)) (leb-true (number x) last is) (ordered-up items))
        | inr other ↦ rw other (ordered-up items)
      ]

  pub ordered-beyond : (items : List A) → AreBeyond (ordered number (filter is_beyond items))
  ordered-beyond [] = tt
  ordered-beyond (x ∷ items) =
      elim (cases_Bool (nat_le (number x) last)) [
        | inl is ↦ rw is (ordered-beyond items)
        | inr other ↦ rw other (placed-beyond x (ordered number (filter is_beyond items)) (leb-false (number x) last other) (ordered-beyond items))
      ]

  placed-front : (x : A) (items others : List A) → number x ≤ last → AreBeyond others → placed number x (items ++ others) ≡ placed number x items ++ others
  placed-front x [] [] p all = refl
  placed-front x [] (z ∷ others) p all =
      let below : number x ≤ number z = omega (arith, all.0) in
      rw (le-leb (number x) (number z) below) refl
  placed-front x (y ∷ items) others p all =
      elim (cases_Bool (nat_le (number x) (number y))) [
        | inl is ↦ simp is
        | inr other ↦ simp other (ap (λ (rest : List A). y ∷ rest) (placed-front x items others p all))
      ]

  placed-back : (x : A) (items others : List A) → last < number x → AreUpTo items → placed number x (items ++ others) ≡ items ++ placed number x others
  placed-back x [] others p all = refl
  placed-back x (y ∷ items) others p all =
      let below : number y < number x = omega (arith, all.0) in
      rw (lt-leb (number x) (number y) below) (ap (λ (rest : List A). y ∷ rest) (placed-back x items others p all.1))

  pub ordered-split : (items : List A) → ordered number items ≡ ordered number (filter is_up_to items) ++ ordered number (filter is_beyond items)
  ordered-split [] = refl
  ordered-split (x ∷ items) =
      let before = ap (placed number x) (ordered-split items) in
      elim (cases_Bool (nat_le (number x) last)) [
        | inl is ↦
            let at = placed-front x (ordered number (filter is_up_to items)) (ordered number (filter is_beyond items)) (leb-true (number x) last is) (ordered-beyond items) in
            rw is (before ∙ at)
        | inr other ↦
            let at = placed-back x (ordered number (filter is_up_to items)) (ordered number (filter is_beyond items)) (leb-false (number x) last other) (ordered-up items) in
            rw other (before ∙ at)
      ]

  -- the front of such a list
  pub take-front : (items others : List A) → AreUpTo items → AreBeyond others → take (prefix_len is_up_to (items ++ others)) (items ++ others) ≡ items
  take-front [] [] up beyond = refl
  take-front [] (z ∷ others) up beyond = rw (lt-leb (number z) last beyond.0) refl
  take-front (y ∷ items) others up beyond =
      rw (le-leb (number y) last up.0, one-add) (ap (λ (rest : List A). y ∷ rest) (take-front items others up.1 beyond))

pub map-up : {A B : Type 0} (number : A → ℕ) (other : B → ℕ) (f : A → B) (last : ℕ) → ((a : A) → other (f a) ≡ number a) → (items : List A) → AreUpTo number last items → AreUpTo other last (map f items)
map-up number other f last same [] up = tt
map-up number other f last same (a ∷ items) up = (rw (same a) up.0, map-up number other f last same items up.1)

pub map-beyond : {A B : Type 0} (number : A → ℕ) (other : B → ℕ) (f : A → B) (last : ℕ) → ((a : A) → other (f a) ≡ number a) → (items : List A) → AreBeyond number last items → AreBeyond other last (map f items)
map-beyond number other f last same [] beyond = tt
map-beyond number other f last same (a ∷ items) beyond = (rw (same a) beyond.0, map-beyond number other f last same items beyond.1)

-- ---- serves of such a queue

abbrev pub number_of : Waiting → ℕ
number_of w = w.queued

module _ (machine : Organisation) (earlier : List AccessTimes) where
  served-append : (now : List AccessTimes) (queue others : List Waiting) → served_in_turn machine earlier now (queue ++ others) ≡ served_in_turn machine earlier (served_in_turn machine earlier now queue) others
  served-append now [] others = refl
  served-append now (w ∷ queue) others =
      served-append (served_at machine (serve_cycle machine (now ++ earlier) w.word w.queued) w ∷ now) queue others

  queued-beyond : (last : ℕ) (now : List AccessTimes) (queue : List Waiting) → AreBeyond number_of last queue → queued_by last (served_in_turn machine earlier now queue) ≡ queued_by last now
  queued-beyond last now [] beyond = refl
  queued-beyond last now (w ∷ queue) beyond =
      let t = served_at machine (serve_cycle machine (now ++ earlier) w.word w.queued) w in
      let dropped : queued_by last (t ∷ now) ≡ queued_by last now = rw (lt-leb w.queued last beyond.0) refl in
      queued-beyond last (t ∷ now) queue beyond.1 ∙ dropped

  queued-up : (last : ℕ) (now : List AccessTimes) (queue : List Waiting) → AreUpTo number_of last queue → queued_by last now ≡ now
      → queued_by last (served_in_turn machine earlier now queue) ≡ served_in_turn machine earlier now queue
  queued-up last now [] up same = same
  queued-up last now (w ∷ queue) up same =
      let t = served_at machine (serve_cycle machine (now ++ earlier) w.word w.queued) w in
      let kept : queued_by last (t ∷ now) ≡ t ∷ now = rw (le-leb w.queued last up.0) (ap (λ (rest : List AccessTimes). t ∷ rest) same) in
      queued-up last (t ∷ now) queue up.1 kept

  -- those that are queued by a cycle are served as if there were no others
  pub queued-served : (last : ℕ) (items : List Waiting) → queued_by last (served_in_turn machine earlier [] (ordered number_of items)) ≡ served_in_turn machine earlier [] (ordered number_of (filter (is_up_to number_of last) items))
  queued-served last items =
      let front = ordered number_of (filter (is_up_to number_of last) items) in
      let back = ordered number_of (filter (is_beyond number_of last) items) in
      ap (λ (queue : List Waiting). queued_by last (served_in_turn machine earlier [] queue)) (ordered-split number_of last items)
      ∙ ap (queued_by last) (served-append [] front back)
      ∙ queued-beyond last (served_in_turn machine earlier [] front) back (ordered-beyond number_of last items)
      ∙ queued-up last [] front (ordered-up number_of last items) refl

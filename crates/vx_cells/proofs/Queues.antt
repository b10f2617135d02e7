-- What the removal of one access leaves of the queues.
use Rattle.std.proofs.Common.{◌≡◌, ℕ, zero, suc, ◌+◌, ◌%◌, ◌<◌, ◌≤◌, Bool, true, false, ltb, Some, None, inl, inr, List, [], ◌∷◌, ◌++◌, ◌*◌, get_or, length, refl, sym, ap, ◌∙◌, arith}
use Rattle.std.specs.Prelude.{filter, remove, position, slice_set}
use Rattle.std.specs.List.{position_or_len}
use Rattle.std.proofs.lemmas.Bool.{cases_Bool, cases_lt, ltb-false, eqb-true, ne_eqb}
use Rattle.std.proofs.lemmas.List.Quantifiers.{position-Some}
use Rattle.std.proofs.Math.Nat.{mod-lt}
use Rattle.std.proofs.lemmas.List.Elements.{All-append}
use Rattle.std.proofs.lemmas.List.Edits.{length-remove, get_or-remove_below, get_or-remove_above}
use Rattle.vx_cells.specs.Banks.{BanksView, is_on_bank, queue_of, access_of, value_of, AreWithin, IsFree, IsReady, Serves}
use Rattle.vx_cells.specs.Cells.{CellsState, Makes}
use Rattle.vx_cells.specs.declared.banks.Queued.{Queued}
use Rattle.vx_cells.specs.declared.banks.Served.{Served}

module _ (p : Queued → Bool) where
  -- the first that passes, and those behind it
  pub filter-first : (xs : List Queued) (i : ℕ) (d : Queued) → i < length xs → p (get_or xs i d) ≡ true → ((k : ℕ) → k < i → p (get_or xs k d) ≡ false) → filter p xs ≡ get_or xs i d ∷ filter p (remove xs i)
  filter-first [] i d within passes before = absurd (omega arith)
  filter-first (x ∷ xs) zero d within passes before = rw passes refl
  filter-first (x ∷ xs) (suc i) d within passes before =
      rw (before 0 (omega arith)) (filter-first xs i d (omega arith) passes (λ k lt. before (suc k) (omega arith)))

  -- one that doesn't pass
  pub filter-other : (xs : List Queued) (i : ℕ) (d : Queued) → i < length xs → p (get_or xs i d) ≡ false → filter p (remove xs i) ≡ filter p xs
  filter-other [] i d within fails = absurd (omega arith)
  filter-other (x ∷ xs) zero d within fails = rw fails refl
  filter-other (x ∷ xs) (suc i) d within fails = rw (filter-other xs i d (omega arith) fails) refl

  -- the same, where a search found the first
  pub filter-found : (xs : List Queued) (i : ℕ) (d : Queued) → position p xs ≡ Some i → filter p xs ≡ get_or xs i d ∷ filter p (remove xs i)
  filter-found xs i d found =
      let first = position-Some p xs i d found in
      filter-first xs i d first.0 first.1 first.2

  -- where none passes
  none-passes : (xs : List Queued) → length xs ≤ position_or_len p xs → filter p xs ≡ []
  none-passes [] past = refl
  none-passes (x ∷ xs) past =
      elim (cases_Bool (p x)) [
        | inl is ↦ absurd (omega (arith, rw is at past))
        | inr fails ↦ let rest = rw fails at past in rw fails (none-passes xs (omega (arith, rest)))
      ]

  pub filter-none : (xs : List Queued) → position p xs ≡ None → filter p xs ≡ []
  filter-none xs none =
      elim (cases_Bool (ltb (position_or_len p xs) (length xs))) [
        | inl is ↦ let found = rw is at none in absurd (cc found)
        | inr fails ↦ none-passes xs (ltb-false (position_or_len p xs) (length xs) fails)
      ]

-- a found access lies on the bank
pub found_on_bank : (queued : List Queued) (banks bank place : ℕ) (d : Queued) → position (is_on_bank banks bank) queued ≡ Some place → (get_or queued place d).word % banks ≡ bank
found_on_bank queued banks bank place d found =
    eqb-true ((get_or queued place d).word % banks) bank (position-Some (is_on_bank banks bank) queued place d found).1

nothing : Queued
nothing = record { tag = 0; word = 0; bytes = 0; value = 0; store = false }

pub bank_below : (queued : List Queued) (banks bank place : ℕ) → 0 < banks → position (is_on_bank banks bank) queued ≡ Some place → bank < banks
bank_below queued banks bank place some found =
    omega (arith, mod-lt (get_or queued place nothing).word some, found_on_bank queued banks bank place nothing found)

-- the first access of a queue is made
pub Serves-first : (before after : BanksView) (bank place : ℕ) (q : Queued) (cells now : CellsState) (served : Served) → position (is_on_bank before.banks bank) before.queued ≡ Some place → q ≡ get_or before.queued place q → after ≡ record before { queued = remove before.queued place; served = slice_set before.served bank (Some cells.cycle) } → Makes cells now (access_of cells q ∷ []) → served ≡ record { tag = q.tag; value = value_of cells q } → Serves before after bank cells now served
Serves-first before after bank place q cells now served found is becomes makes answer =
    let first = position-Some (is_on_bank before.banks bank) before.queued place q found in
    let on_bank : q.word % before.banks ≡ bank = ap (λ (x : Queued). x.word % before.banks) is ∙ found_on_bank before.queued before.banks bank place q found in
    record {
      first = q;
      queue = filter-found (is_on_bank before.banks bank) before.queued place q found
          ∙ ap (λ (x : Queued). x ∷ queue_of (record before { queued = remove before.queued place }) bank) (sym is)
          ∙ ap (λ (view : BanksView). q ∷ queue_of view bank) (sym becomes);
      others = λ other differs.
          ap (λ (view : BanksView). queue_of view other) becomes
          ∙ filter-other (is_on_bank before.banks other) before.queued place q first.0
          (ap (λ (x : Queued). is_on_bank before.banks other x) (sym is) ∙ ne_eqb (q.word % before.banks) other (λ same. differs (sym same ∙ on_bank)));
      count = sym (ap (λ (view : BanksView). length view.queued + 1) becomes ∙ length-remove before.queued place first.0);
      last = ap (λ (view : BanksView). view.served) becomes;
      banks = ap (λ (view : BanksView). view.banks) becomes;
      bank_time = ap (λ (view : BanksView). view.bank_time) becomes;
      makes = makes;
      answer = answer;
    }

-- a bank whose queue is empty isn't ready, and another one is where its time is over
pub ready-none : (view : BanksView) (bank now : ℕ) → position (is_on_bank view.banks bank) view.queued ≡ None → IsReady view bank now → ⊥
ready-none view bank now none ready =
    omega (arith, ready.waits, ap length (filter-none (is_on_bank view.banks bank) view.queued none))

pub ready-some : (view : BanksView) (bank now place : ℕ) → position (is_on_bank view.banks bank) view.queued ≡ Some place → IsFree (get_or view.served bank None) view.bank_time now → IsReady view bank now
ready-some view bank now place found free = record {
  waits = omega (arith, ap length (filter-found (is_on_bank view.banks bank) view.queued place nothing found));
  is_free = free;
}

-- the words that still wait
pub AreWithin-remove : (queued : List Queued) (place frames : ℕ) → place < length queued → AreWithin queued frames → AreWithin (remove queued place) frames
AreWithin-remove queued place frames lt all k d within =
    let count : length (remove queued place) + 1 ≡ length queued = length-remove queued place lt in
    elim (cases_lt k place) [
      | inl below ↦ rw (get_or-remove_below queued place d k below lt) (all k d (omega arith))
      | inr above ↦ rw (get_or-remove_above queued place d k above lt) (all (k + 1) d (omega arith))
    ]

-- one more that waits
pub AreWithin-more : (queued : List Queued) (q : Queued) (frames : ℕ) → AreWithin queued frames → q.word < 512 * frames → AreWithin (queued ++ q ∷ []) frames
AreWithin-more queued q frames all within = All-append (λ (x : Queued). x.word < 512 * frames) queued (q ∷ []) all (λ k d lt. one k d lt)
  where
    one : (k : ℕ) (d : Queued) → k < length (q ∷ []) → (get_or (q ∷ []) k d).word < 512 * frames
    one zero d lt = within
    one (suc k) d lt = absurd (omega arith)

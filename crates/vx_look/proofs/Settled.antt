-- A list of fates, set one by one.
use Rattle.std.proofs.Common.{◌≡◌, ◌≢◌, ℕ, ◌+◌, ◌<◌, eqb, inl, inr, List, length, get_or, set, sym, subst, ◌∙◌, arith, get_or-set_same, get_or-set_other}
use Rattle.std.proofs.lemmas.Bool.{cases_Bool, eqb-true, eq-eqb, false≢true}

-- what holds of each place so far, and of what the next is set to, holds of each place up to it
pub set-more : (X : Type 0) (P : ℕ → X → Type 0) (xs : List X) (k : ℕ) (x d : X) → k < length xs → ((j : ℕ) → j < k → P j (get_or xs j d)) → P k x → (j : ℕ) → j < k + 1 → P j (get_or (set xs k x) j d)
set-more X P xs k x d lt done now j less =
    elim (cases_Bool (eqb j k)) [
      | inl same ↦
          let e : j ≡ k = eqb-true j k same in
          subst (λ (n : ℕ). P n (get_or (set xs k x) n d)) (sym e) (subst (P k) (sym (get_or-set_same xs k x d lt)) now)
      | inr differs ↦
          let apart : j ≢ k = λ e. false≢true (sym differs ∙ eq-eqb j k e) in
          let below : j < k = omega (arith, apart) in
          subst (P j) (sym (get_or-set_other xs k j x d apart)) (done j below)
    ]

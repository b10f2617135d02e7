-- The words outside of the pages' frames.
use Rattle.std.proofs.Common.{◌≡◌, ℕ, zero, suc, ◌+◌, ◌/◌, ◌<◌, true, false, List, [], ◌∷◌, length, get_or, set, refl, sym, ap, ◌∙◌, add-zero, arith}
use Rattle.std.specs.Prelude.{if◌then◌else◌}
use Rattle.std.proofs.lemmas.Bool.{eq-eqb}
use Rattle.std.proofs.lemmas.List.Folds.{list_any_at}
use Rattle.vx_paged.specs.Left.{is_framed, blanked}
use Rattle.vx_paged.specs.declared.placement.FramedPage.{FramedPage}

pub blanked-set : (placement : List FramedPage) (values : List ℕ) (word k value : ℕ) → is_framed placement ((word + k) / 512) ≡ true → blanked placement word (set values k value) ≡ blanked placement word values
unfolding blanked
blanked-set placement [] word k value framed = refl
blanked-set placement (v ∷ values) word zero value framed =
    let here : is_framed placement (word / 512) ≡ true = ap (λ (n : ℕ). is_framed placement (n / 512)) (sym (add-zero word)) ∙ framed in
    rw here refl
blanked-set placement (v ∷ values) word (suc k) value framed =
    let there : word + 1 + k ≡ word + suc k = omega arith in
    ap (λ (ws : List ℕ). (if is_framed placement (word / 512) then 0 else v) ∷ ws) (blanked-set placement values (word + 1) k value (ap (λ (n : ℕ). is_framed placement (n / 512)) there ∙ framed))

pub blanked-get : (placement : List FramedPage) (values : List ℕ) (word k : ℕ) → is_framed placement ((word + k) / 512) ≡ false → get_or (blanked placement word values) k 0 ≡ get_or values k 0
unfolding blanked
blanked-get placement [] word k other = refl
blanked-get placement (v ∷ values) word zero other =
    let here : is_framed placement (word / 512) ≡ false = ap (λ (n : ℕ). is_framed placement (n / 512)) (sym (add-zero word)) ∙ other in
    rw here refl
blanked-get placement (v ∷ values) word (suc k) other =
    let there : word + 1 + k ≡ word + suc k = omega arith in
    blanked-get placement values (word + 1) k (ap (λ (n : ℕ). is_framed placement (n / 512)) there ∙ other)

pub length-blanked : (placement : List FramedPage) (values : List ℕ) (word : ℕ) → length (blanked placement word values) ≡ length values
unfolding blanked
length-blanked placement [] word = refl
length-blanked placement (v ∷ values) word = ap suc (length-blanked placement values (word + 1))

-- a page's frame is one
pub is_framed-at : (placement : List FramedPage) (k : ℕ) (d : FramedPage) (frame : ℕ) → k < length placement → (get_or placement k d).frame ≡ frame → is_framed placement frame ≡ true
is_framed-at placement k d frame below same = list_any_at _ placement k d below (eq-eqb (get_or placement k d).frame frame same)

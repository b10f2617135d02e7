-- A form behind others.
use Rattle.std.proofs.Common.{◌≡◌, ℕ, true, cond, List, [], ◌∷◌, ◌++◌, map, refl, ap, ◌∙◌, bytes_eq}
use Rattle.std.proofs.lemmas.Slice.Eq.{bytes_eq-Decides}
use Rattle.vx_language.specs.Forms as language
use Rattle.vx_statement.specs.Ways.{form_of, named_form}
use Rattle.vx_statement.specs.declared.form.Form.{Form}
use Rattle.vx_statement.specs.declared.form.NamedForm.{NamedForm}

pub map-behind : {A B : Type 0} (f : A → B) (xs : List A) (x : A) → map f (xs ++ x ∷ []) ≡ map f xs ++ f x ∷ []
map-behind f [] x = refl
map-behind f (y ∷ ys) x = ap (λ zs. f y ∷ zs) (map-behind f ys x)

pub named-pushed : (name : List ℕ) (named : NamedForm) (old new : List Form) → bytes_eq name named.name.now ≡ true → new ≡ old ++ named.form ∷ [] → (commas : ℕ) → map (form_of name commas) new ≡ map (form_of name commas) old ++ cond (bytes_eq name named.name.now) (named_form commas named ∷ []) []
named-pushed name named old new same pushed commas =
    let e : name ≡ named.name.now = (bytes_eq-Decides name named.name.now).0 same in
    let here : form_of name commas named.form ≡ named_form commas named = ap (λ (n : List ℕ). form_of n commas named.form) e in
    rw same (ap (map (form_of name commas)) pushed ∙ map-behind (form_of name commas) old named.form ∙ ap (λ (f : language.Form). map (form_of name commas) old ++ f ∷ []) here)

-- The first of faults is the first of the firsts of their parts.
use Rattle.std.proofs.Common.{◌≡◌, List, [], ◌∷◌, ◌++◌, Option, Some, None, refl, sym, ap, ◌∙◌, append_assoc}
use Rattle.vx_language.specs.Faults.{earlier, earliest, first_of}
use Rattle.vx_language.specs.declared.fault.Fault.{Fault}
use Rattle.vx_language.proofs.First as language

pub first_of-append : (xs ys : List Fault) → first_of (xs ++ ys) ≡ earliest (first_of xs) (first_of ys)
first_of-append xs ys = language.first_of-append xs ys

-- the faults whose first is this one, where there is one
as-list : Option Fault → List Fault
as-list None = []
as-list (Some fault) = fault ∷ []

first-as : (a : Option Fault) → first_of (as-list a) ≡ a
unfolding as-list first_of earlier
first-as None = refl
first-as (Some fault) = refl

joined : (a b : Option Fault) → first_of (as-list a ++ as-list b) ≡ earliest a b
joined a b =
    first_of-append (as-list a) (as-list b)
    ∙ ap (λ (o : Option Fault). earliest o (first_of (as-list b))) (first-as a)
    ∙ ap (earliest a) (first-as b)

pub first-twice : (a b c : Option Fault) → earliest (earliest a b) c ≡ earliest a (earliest b c)
first-twice a b c =
    let both = as-list b ++ as-list c in
    ap (λ (o : Option Fault). earliest o c) (sym (joined a b))
    ∙ ap (earliest (first_of (as-list a ++ as-list b))) (sym (first-as c))
    ∙ sym (first_of-append (as-list a ++ as-list b) (as-list c))
    ∙ ap first_of (append_assoc (as-list a) (as-list b) (as-list c))
    ∙ first_of-append (as-list a) both
    ∙ ap (λ (o : Option Fault). earliest o (first_of both)) (first-as a)
    ∙ ap (earliest a) (joined b c)

pub first-none : (a : Option Fault) → earliest a None ≡ a
unfolding earlier
first-none None = refl
first-none (Some a) = refl

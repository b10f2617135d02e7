-- The field nf with which an operation has a mnemonic.
use Rattle.std.proofs.Common.{◌≡◌, ℕ, zero, suc, ◌+◌, ◌<◌, ◌≤◌, Bool, true, false, cond, List, [], ◌∷◌, drop, find, Some, None, refl, sym, ap, ◌∙◌, arith}
use Rattle.std.proofs.lemmas.List.{drop_all}
use Rattle.vx_rows.specs.declared.row.Nf.{Nf}
use Rattle.vx_rows.specs.declared.row.Nf.TheVariants.{Any}
use Rattle.vx_language.specs.Names.{named_nfs}

-- those of segments, in order
pub fields : List ℕ
fields = 0 ∷ 1 ∷ 2 ∷ 3 ∷ 4 ∷ 5 ∷ 6 ∷ 7 ∷ []

from-field : (q : ℕ → Bool) (n : ℕ) → n < 8 → find q (drop n fields) ≡ cond (q n) (Some n) (find q (drop (n + 1) fields))
unfolding fields
from-field q zero h = refl
from-field q (suc zero) h = refl
from-field q (suc (suc zero)) h = refl
from-field q (suc (suc (suc zero))) h = refl
from-field q (suc (suc (suc (suc zero)))) h = refl
from-field q (suc (suc (suc (suc (suc zero))))) h = refl
from-field q (suc (suc (suc (suc (suc (suc zero)))))) h = refl
from-field q (suc (suc (suc (suc (suc (suc (suc zero))))))) h = refl
from-field q (suc (suc (suc (suc (suc (suc (suc (suc n)))))))) h = absurd (omega (arith, h))

all-fields : (q : ℕ → Bool) (nf : Nf) → nf ≡ Any → find q fields ≡ find q (named_nfs nf)
unfolding fields
all-fields q nf e = rw e refl

pub field-found : (q : ℕ → Bool) (nf : Nf) (n : ℕ) → nf ≡ Any → n < 8 → q n ≡ true → find q (drop n fields) ≡ find q fields → Some n ≡ find q (named_nfs nf)
field-found q nf n e within h before =
    sym (from-field q n within ∙ ap (λ (b : Bool). cond b (Some n) (find q (drop (n + 1) fields))) h) ∙ before ∙ all-fields q nf e

pub field-passed : (q : ℕ → Bool) (n : ℕ) → n < 8 → q n ≡ false → find q (drop n fields) ≡ find q fields → find q (drop (n + 1) fields) ≡ find q fields
field-passed q n within h before =
    sym (from-field q n within ∙ ap (λ (b : Bool). cond b (Some n) (find q (drop (n + 1) fields))) h) ∙ before

pub no-field : (q : ℕ → Bool) (nf : Nf) (n : ℕ) → nf ≡ Any → 8 ≤ n → find q (drop n fields) ≡ find q fields → None ≡ find q (named_nfs nf)
unfolding fields
no-field q nf n e past before =
    sym (ap (find q) (drop_all n fields past)) ∙ before ∙ all-fields q nf e

-- What is true of every state of a run: it is so at the boot, and each step keeps it.
use Rattle.std.proofs.Common.{◌≡◌, ℕ, ◌*◌, ◌/◌, ◌%◌, ◌^◌, ◌<◌, ◌≤◌, Bool, true, false, not, ◌&&◌, ◌||◌, IsTrue, nat_eq, ltb, List, length, if◌then◌else◌, refl, sym, ap, subst, arith}
use Rattle.std.proofs.lemmas.Bool.{or_parts, or_right, not-false, eqb-true, ne_eqb, ltb-true}
use Rattle.vx_bits.specs.Arithmetic.{sum_at}
use Rattle.vx_vstate.specs.Configuration.{Configuration, configured, length_for, is_lost}
use Rattle.vx_vstate.specs.Registers.{with_element, is_byte_width}
use Rattle.vx_vstate.specs.Vtype.{vill, sew, lmul_eighths, vlmax, is_accepted, is_same_ratio, is_vtype, most_elements}
use Rattle.vx_vstate.specs.declared.avl.Avl.{Avl}
use Rattle.vx_vstate.specs.declared.avl.Avl.TheVariants.{Value, Max, Keep}
use Rattle.vx_vector.specs.Arithmetic.{words_after}
use Rattle.vx_vector.specs.Reading.{Reading}
use Rattle.vx_flat.specs.Scalar.{next_pc, branched}
use Rattle.vx_flat.specs.declared.effect.Effect.{Effect}
use Rattle.vx_flat.specs.declared.effect.Effect.TheVariants as effects
use Rattle.vx_flat.proofs.Apart.{by_width}

-- what the crates below say of widths, and of how many words there are
pub record CountLaws : Type 0 where
  pub width : (vtype : ℕ) → IsTrue (is_vtype vtype) → IsTrue (is_byte_width (sew vtype))
  pub set : (vlen : ℕ) (words : List ℕ) (register width index value : ℕ) → length (with_element vlen words register width index value) ≡ length words
  pub after : (r : Reading) → length (words_after r) ≡ length r.words

-- ---- the pc

abbrev pub Aligned : Effect → Type 0
Aligned (effects.Value value pc) = pc % 4 ≡ 0
Aligned (effects.Next pc) = pc % 4 ≡ 0
Aligned (effects.Misaligned target) = Unit {0}

pub next-aligned : (pc : ℕ) → pc % 4 ≡ 0 → next_pc pc % 4 ≡ 0
next-aligned pc h = omega arith

pub jump-aligned : (target : ℕ) (done : Effect) → (target % 4 ≡ 0 → Aligned done) → Aligned (if nat_eq (target % 4) 0 then done else effects.Misaligned target)
jump-aligned target done h = by_test (nat_eq (target % 4) 0) (λ e. h (eqb-true (target % 4) 0 e))
  where
    by_test : (b : Bool) → (b ≡ true → Aligned done) → Aligned (if b then done else effects.Misaligned target)
    by_test true f = f refl
    by_test false f = tt

pub branch-aligned : (holds : Bool) (pc n : ℕ) → pc % 4 ≡ 0 → Aligned (branched holds pc n)
branch-aligned true pc n h = jump-aligned (sum_at 64 pc n) (effects.Next (sum_at 64 pc n)) (λ e. e)
branch-aligned false pc n h = next-aligned pc h

-- ---- a configuration

ratio-length : (a b x y : ℕ) → is_byte_width a ≡ true → is_byte_width b ≡ true → a * y ≡ b * x → x / (8 * a) ≤ y / (8 * b)
ratio-length a b x y h g e =
    by_width (λ a. a * y ≡ b * x → x / (8 * a) ≤ y / (8 * b)) a
    (by_width (λ b. 8 * y ≡ b * x → x / (8 * 8) ≤ y / (8 * b)) b (λ e. omega arith) (λ e. omega arith) (λ e. omega arith) (λ e. omega arith) g)
    (by_width (λ b. 16 * y ≡ b * x → x / (8 * 16) ≤ y / (8 * b)) b (λ e. omega arith) (λ e. omega arith) (λ e. omega arith) (λ e. omega arith) g)
    (by_width (λ b. 32 * y ≡ b * x → x / (8 * 32) ≤ y / (8 * b)) b (λ e. omega arith) (λ e. omega arith) (λ e. omega arith) (λ e. omega arith) g)
    (by_width (λ b. 64 * y ≡ b * x → x / (8 * 64) ≤ y / (8 * b)) b (λ e. omega arith) (λ e. omega arith) (λ e. omega arith) (λ e. omega arith) g)
    h e

pub record IsConfiguration (vlen : ℕ) (c : Configuration) : Type 0 where
  pub vtype : IsTrue (is_vtype c.vtype)
  pub vl : c.vl ≤ most_elements vlen c.vtype

-- vtypes that are accepted have an SEW
accepted-below : (vtype : ℕ) → is_accepted vtype ≡ true → vtype < 2 ^ 8
accepted-below vtype h = ltb-true vtype (2 ^ 8) (first_of (ltb vtype (2 ^ 8)) _ _ _ h)
  where
    first_of : (a b c d : Bool) → (a && b && c && d) ≡ true → a ≡ true
    first_of true b c d h = refl
    first_of false true true true h = h
    first_of false true true false h = h
    first_of false true false true h = h
    first_of false true false false h = h
    first_of false false true true h = h
    first_of false false true false h = h
    first_of false false false true h = h
    first_of false false false false h = h

accepted-most : (vlen vtype : ℕ) → is_accepted vtype ≡ true → most_elements vlen vtype ≡ vlmax vlen vtype
accepted-most vlen vtype h =
    let below = accepted-below vtype h in
    ap (λ b. if b then 0 else vlmax vlen vtype) (ne_eqb vtype vill (λ e. omega (arith, below, e)))

module _ (L : CountLaws) (vlen : ℕ) (old : Configuration) (is : IsConfiguration vlen old) (wanted : ℕ) (good : is_accepted wanted ≡ true) where
  wanted-vtype : IsTrue (is_vtype wanted)
  wanted-vtype = or_right (nat_eq wanted vill) (is_accepted wanted) good

  kept-length : is_lost Keep old.vtype wanted ≡ false → old.vl ≤ vlmax vlen wanted
  kept-length h =
      let parts = or_parts (nat_eq old.vtype vill) (not (is_same_ratio old.vtype wanted)) h in
      let same = eqb-true (sew old.vtype * lmul_eighths wanted) (sew wanted * lmul_eighths old.vtype) (not-false (is_same_ratio old.vtype wanted) parts.1) in
      let scaled : sew old.vtype * lmul_eighths wanted * vlen ≡ sew wanted * lmul_eighths old.vtype * vlen = ap (λ n. n * vlen) same in
      let most : most_elements vlen old.vtype ≡ vlmax vlen old.vtype = ap (λ b. if b then 0 else vlmax vlen old.vtype) parts.0 in
      let less = ratio-length (sew old.vtype) (sew wanted) (lmul_eighths old.vtype * vlen) (lmul_eighths wanted * vlen) (L.width old.vtype is.vtype) (L.width wanted wanted-vtype) (omega (arith, scaled)) in
      let top = is.vl in
      omega (arith, less, most, top)

  length-fits : (avl : Avl) → is_lost avl old.vtype wanted ≡ false → length_for avl (vlmax vlen wanted) old.vl ≤ vlmax vlen wanted
  length-fits (Value n) h = omega arith
  length-fits Max h = omega arith
  length-fits Keep h = kept-length h

  accepted-is : (avl : Avl) → is_lost avl old.vtype wanted ≡ false → IsConfiguration vlen (record { vl = length_for avl (vlmax vlen wanted) old.vl; vtype = wanted })
  accepted-is avl h = record { vtype = wanted-vtype; vl = subst (λ n. length_for avl (vlmax vlen wanted) old.vl ≤ n) (sym (accepted-most vlen wanted good)) (length-fits avl h) }

pub configured-is : (L : CountLaws) (vlen : ℕ) (old : Configuration) → IsConfiguration vlen old → (avl : Avl) (wanted : ℕ) → IsConfiguration vlen (configured vlen old avl wanted)
configured-is L vlen old is avl wanted =
    by_test (not (is_accepted wanted) || is_lost avl old.vtype wanted)
    (λ h. let parts = or_parts (not (is_accepted wanted)) (is_lost avl old.vtype wanted) h in accepted-is L vlen old is wanted (not-false (is_accepted wanted) parts.0) avl parts.1)
  where
    by_test : (b : Bool) → (b ≡ false → IsConfiguration vlen (record { vl = length_for avl (vlmax vlen wanted) old.vl; vtype = wanted })) → IsConfiguration vlen (if b then record { vl = 0; vtype = vill } else record { vl = length_for avl (vlmax vlen wanted) old.vl; vtype = wanted })
    by_test true f = record { vtype = refl; vl = omega arith }
    by_test false f = f refl

-- What vsetvli, vsetivli and vsetvl configure: RISC-V "V" 1.0, section 6. Where the standard leaves a choice: vl is the
-- lesser of the application's length and VLMAX, and a request to keep vl that would change the ratio of SEW to LMUL, or
-- that is made while vill is set, sets vill.
use Rattle.std.specs.Prelude.{ℕ, min, Bool, false, not, ◌==◌, ◌||◌, if◌then◌else◌}
use Rattle.vx_vstate.specs.Vtype.{vill, vlmax, is_accepted, is_same_ratio}
use Rattle.vx_vstate.specs.declared.avl.Avl.{Avl}
use Rattle.vx_vstate.specs.declared.avl.Avl.TheVariants.{Value, Max, Keep}

pub record Configuration : Type 0 where
  pub vl : ℕ
  pub vtype : ℕ

-- vl under a vtype that is accepted
abbrev pub length_for : Avl → (vlmax old : ℕ) → ℕ
length_for (Value n) vlmax old = min n vlmax
length_for Max vlmax old = vlmax
length_for Keep vlmax old = old

-- vl can't be kept under the wanted vtype
abbrev pub is_lost : Avl → (old wanted : ℕ) → Bool
is_lost (Value n) old wanted = false
is_lost Max old wanted = false
is_lost Keep old wanted = old == vill || not (is_same_ratio old wanted)

-- the configuration behind the old one, of an application's length and a wanted vtype
abbrev pub configured : (vlen : ℕ) → (old : Configuration) → Avl → (wanted : ℕ) → Configuration
configured vlen old avl wanted =
    if not (is_accepted wanted) || is_lost avl old.vtype wanted then record { vl = 0; vtype = vill }
    else record { vl = length_for avl (vlmax vlen wanted) old.vl; vtype = wanted }

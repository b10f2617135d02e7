-- What a step does, by what stands at the pc.
use Rattle.std.proofs.Common.{◌≡◌, ℕ, Bool, Option, Some, true, false, is_some, if◌then◌else◌, refl, sym, ap, ◌∙◌}
use Rattle.std.proofs.lemmas.Bool.{false≢true}
use Rattle.vx_base.specs.declared.machine.Fault.{Fault}
use Rattle.vx_decode.specs.declared.instr.Instr.{Instr}
use Rattle.vx_rows.specs.Table.{class_of}
use Rattle.vx_rows.specs.declared.row.Class.{Class}
use Rattle.vx_rows.specs.declared.row.Class.TheVariants as class
use Rattle.vx_flat.specs.State.{Flat}
use Rattle.vx_base.specs.declared.machine.Want.TheVariants.{Fetch}
use Rattle.vx_decode.specs.Decoded.{decoded}
use Rattle.vx_image.specs.Pages.{permits}
use Rattle.vx_flat.specs.Outcome.{Outcome, faulted}
use Rattle.vx_flat.specs.Step.{affect, upcoming, meaning, is_legal, is_legal_as, performed, word_at_pc}
use Rattle.vx_flat.specs.declared.upcoming.Upcoming.TheVariants.{Denied, Illegal, Instruction}
use Rattle.vx_hart.specs.Effects.{is_effect_class}
use Rattle.vx_hart.specs.Outcomes.{outcome_as, outcome_next, outcome_of}
use Rattle.vx_hart.specs.declared.progress.Progress.{Progress}
use Rattle.vx_hart.specs.declared.progress.Progress.TheVariants as progress

-- what stands at the pc where it can't be fetched, and where it is this word
pub upcoming-denied : (s : Flat) → permits s.memory s.pc Fetch ≡ false → upcoming s ≡ Denied
unfolding upcoming
upcoming-denied s e = rw e refl

pub upcoming-word : (s : Flat) (word : ℕ) (o : Option Instr) → permits s.memory s.pc Fetch ≡ true → word ≡ word_at_pc s → o ≡ decoded word → upcoming s ≡ meaning s word o
unfolding upcoming
upcoming-word s word o e at is = rw (e, is, at) refl

-- an instruction that is legal, and one that isn't
meaning-as : (b : Bool) (s : Flat) (word : ℕ) (i : Instr) → is_legal s i ≡ b → meaning s word (Some i) ≡ (if b then Instruction i else Illegal word)
meaning-as b s word i e = ap (λ (a : Bool). if a then Instruction i else Illegal word) e

is_legal-by : (s : Flat) (i : Instr) (c : Class) → c ≡ class_of i.op → (is_legal_as c s i) ≡ is_legal s i
is_legal-by s i c is = ap (λ (k : Class). is_legal_as k s i) is

pub meaning-legal : (s : Flat) (word : ℕ) (i : Instr) (c : Class) → c ≡ class_of i.op → (is_legal_as c s i) ≡ true → meaning s word (Some i) ≡ Instruction i
meaning-legal s word i c is e = meaning-as true s word i (sym (is_legal-by s i c is) ∙ e)

pub meaning-illegal : (s : Flat) (word : ℕ) (i : Instr) (c : Class) → c ≡ class_of i.op → (is_legal_as c s i) ≡ false → meaning s word (Some i) ≡ Illegal word
meaning-illegal s word i c is e = meaning-as false s word i (sym (is_legal-by s i c is) ∙ e)

-- what is done, or asked for
pub outcome-denied : (s : Flat) → outcome_next s Denied ≡ Some (faulted s 12 s.pc)
unfolding performed
outcome-denied s = refl

pub outcome-illegal : (s : Flat) (word : ℕ) → outcome_next s (Illegal word) ≡ Some (faulted s 2 word)
unfolding performed
outcome-illegal s word = refl

pub outcome-instruction : (s : Flat) (i : Instr) (c : Class) → c ≡ class_of i.op → outcome_as c s i ≡ outcome_next s (Instruction i)
unfolding performed
outcome-instruction s i c is = ap (λ (k : Class). outcome_as k s i) is

-- an instruction of a class that is always legal
pub outcome-legal : (s : Flat) (word : ℕ) (i : Instr) (c : Class) → c ≡ class_of i.op → (is_legal_as c s i) ≡ true → outcome_as c s i ≡ outcome_next s (meaning s word (Some i))
outcome-legal s word i c is legal = outcome-instruction s i c is ∙ ap (outcome_next s) (sym (meaning-legal s word i c is legal))

-- one that only has an effect
pub outcome-affect : (s : Flat) (word : ℕ) (i : Instr) (c : Class) → c ≡ class_of i.op → is_effect_class c ≡ true → Some (affect s i) ≡ outcome_next s (meaning s word (Some i))
outcome-affect s word i class.Arithmetic is effect = outcome-legal s word i class.Arithmetic is refl
outcome-affect s word i class.Multiply is effect = outcome-legal s word i class.Multiply is refl
outcome-affect s word i class.Divide is effect = outcome-legal s word i class.Divide is refl
outcome-affect s word i class.Jump is effect = outcome-legal s word i class.Jump is refl
outcome-affect s word i class.Branch is effect = outcome-legal s word i class.Branch is refl
outcome-affect s word i class.Fence is effect = outcome-legal s word i class.Fence is refl
outcome-affect s word i other is effect = absurd (false≢true effect)

-- what leads to an outcome asks for nothing
pub asks-nothing : (p : Progress) (fault : Fault) (s : Flat) (o : Outcome) → outcome_of p fault s ≡ Some o → p ≡ progress.Asks → ⊥
asks-nothing p fault s o leads is = false≢true (ap is_some (ap (λ (q : Progress). outcome_of q fault s) (sym is) ∙ leads))

-- Vector arithmetic: what it reads, what it takes in time, and where it is refused.
use Rattle.std.proofs.Common.{◌≡◌, ℕ, ◌+◌, ◌*◌, ◌<◌, ◌≤◌, max, Bool, true, false, not, List, length, Some, None, refl, sym, ap, subst, ◌∙◌, arith, is_some}
use Rattle.std.specs.Prelude.{Option}
use Rattle.vx_decode.specs.Encoded.{IsRegister, IsValid}
use Rattle.vx_decode.specs.Legal.{is_illegal}
use Rattle.vx_decode.specs.declared.instr.Instr.{Instr}
use Rattle.vx_flat.specs.Outcome.{faulted}
use Rattle.vx_flat.specs.Outcome.Outcome.{Next}
use Rattle.vx_flat.specs.State.{Flat}
use Rattle.vx_flat.specs.Step.{calculate_by, is_legal, is_legal_as, meaning, performed, performed_as, step, upcoming}
use Rattle.vx_flat.specs.Vectors.{reading_at, setting_at}
use Rattle.vx_flat.specs.declared.upcoming.Upcoming.TheVariants.{Illegal, Instruction}
use Rattle.vx_base.specs.declared.machine.Fault.{Fault}
use Rattle.vx_hart.specs.Outcomes.{outcome_of}
use Rattle.vx_hart.specs.declared.progress.Progress.{Progress}
use Rattle.vx_hart.specs.declared.progress.Progress.TheVariants as progress
use Rattle.vx_rows.specs.Families.{unit_of}
use Rattle.vx_rows.specs.Layouts.{layout_of}
use Rattle.vx_rows.specs.Table.{class_of, shape_of}
use Rattle.vx_rows.specs.declared.family.Family.{Family}
use Rattle.vx_rows.specs.declared.op.Op.{Op}
use Rattle.vx_rows.specs.declared.op.Op.TheVariants.{Scalar, Set, Elem, Widen, Fixed, Mask, Perm, Memory}
use Rattle.vx_rows.specs.declared.op.ElemOp.TheVariants.{VaddVv}
use Rattle.vx_rows.specs.declared.op.FixedOp.TheVariants.{VsadduVv}
use Rattle.vx_rows.specs.declared.op.MaskOp.TheVariants.{VredsumVs}
use Rattle.vx_rows.specs.declared.op.MemoryOp.TheVariants.{Vle8}
use Rattle.vx_rows.specs.declared.op.PermOp.TheVariants.{VrgatherVv}
use Rattle.vx_rows.specs.declared.op.ScalarOp.TheVariants.{Lui}
use Rattle.vx_rows.specs.declared.op.SetOp.TheVariants.{Vsetvli}
use Rattle.vx_rows.specs.declared.op.WidenOp.TheVariants.{VadcVvm}
use Rattle.vx_rows.specs.declared.row.Class.{Class}
use Rattle.vx_rows.specs.declared.row.Class.TheVariants.{VectorArithmetic}
use Rattle.vx_rows.specs.declared.row.Shape.{Shape}
use Rattle.vx_rows.specs.declared.row.Shape.TheVariants.{Vector}
use Rattle.vx_scalar.specs.Operands.{NamesRegisters}
use Rattle.vx_vector.specs.Instructions.{places_of, reading_as, reading_of}
use Rattle.vx_vector.specs.Reading.{Reading}
use Rattle.vx_vector.specs.Words.{handled_words}
use Rattle.vx_vector.specs.declared.places.Places.{Places}
use Rattle.vx_vstate.specs.State.{SettingView}
use Rattle.vx_episode.specs.Footprint.{Footprint, calculating, calculating_by, footprint_as, footprint_of, groups_made, groups_of}
use Rattle.vx_episode.specs.Organisation.{Organisation}
use Rattle.vx_episode.specs.declared.ended.Ended.TheVariants as ended
use Rattle.vx_pipe.specs.Beating.{beats_span}
use Rattle.vx_pipe.specs.Plain.{IsStopping, IsWithoutAccesses}
use Rattle.vx_pipe.proofs.Beating.{calculating-is}
use Rattle.vx_pipe.proofs.Plainly.{faults-illegal, illegal-next, legal-next}

-- ---- a valid instruction names registers

below-32 : (has : Bool) (n : ℕ) → IsRegister has n → n < 32
below-32 true n is = is
below-32 false n is = omega arith

pub names_registers : (i : Instr) → IsValid i → NamesRegisters i
names_registers i valid =
    let layout = layout_of (shape_of i.op) in
    record { rd = below-32 layout.rd i.rd valid.rd; rs1 = below-32 layout.rs1 i.rs1 valid.rs1; rs2 = below-32 layout.rs2 i.rs2 valid.rs2 }

-- ---- by whether it was found legal

pub legal-by : (b : Bool) → true ≡ not b → b ≡ false
legal-by true is = cc
legal-by false is = refl

pub illegal-by : (b : Bool) → false ≡ not b → b ≡ true
illegal-by true is = refl
illegal-by false is = cc

-- ---- what it reads is there, and of its family

abbrev is_calculating : Class → Bool
is_calculating (VectorArithmetic family) = true
is_calculating other = false

reads-where : (op : Op) (at : SettingView) (places : Places) (words : List ℕ) → is_some (reading_of op at places words) ≡ is_calculating (class_of op)
reads-where (Scalar Lui) at places words = refl
reads-where (Scalar op) at places words = refl
reads-where (Set Vsetvli) at places words = refl
reads-where (Set op) at places words = refl
reads-where (Elem VaddVv) at places words = refl
reads-where (Elem op) at places words = refl
reads-where (Widen VadcVvm) at places words = refl
reads-where (Widen op) at places words = refl
reads-where (Fixed VsadduVv) at places words = refl
reads-where (Fixed op) at places words = refl
reads-where (Mask VredsumVs) at places words = refl
reads-where (Mask op) at places words = refl
reads-where (Perm VrgatherVv) at places words = refl
reads-where (Perm op) at places words = refl
reads-where (Memory Vle8) at places words = refl
reads-where (Memory op) at places words = refl

there : (o : Option Reading) → is_some o ≡ true → (r : Reading) × (o ≡ Some r)
there None is = cc
there (Some r) is = (r, refl)

-- an instruction of the class reads something
pub reads : (s : Flat) (i : Instr) (family : Family) → class_of i.op ≡ VectorArithmetic family → (r : Reading) × (reading_at s i ≡ Some r)
reads s i family of = there (reading_at s i) (reads-where i.op (setting_at s i) (places_of i) s.v.words ∙ ap is_calculating of)

family-by : (shape : Shape) (family : Family) (at : SettingView) (places : Places) (words : List ℕ) (r : Reading) → reading_as (VectorArithmetic family) shape at places words ≡ Some r → r.family ≡ family
family-by (Vector first second vm) family at places words r h =
    let q : record { family = family; first = first; vm = vm; at = at; places = places; words = words } ≡ r = cc in
    sym (ap (λ (x : Reading). x.family) q)
family-by other family at places words r h = absurd (cc)

family-as : (class : Class) (shape : Shape) (family : Family) (at : SettingView) (places : Places) (words : List ℕ) (r : Reading) → class ≡ VectorArithmetic family → reading_as class shape at places words ≡ Some r → r.family ≡ family
family-as class shape family at places words r c h =
    family-by shape family at places words r (subst (λ (k : Class). reading_as k shape at places words ≡ Some r) c h)

-- ---- it completes, and has so many beats

completed-by : (p : Progress) (fault : Fault) (v w : Flat) → outcome_of p fault v ≡ Some (Next w) → v ≡ w
completed-by progress.Completed fault v w is = cc
completed-by progress.Asks fault v w is = cc
completed-by progress.Faulted fault v w is = cc

module _ (machine : Organisation) (u : Flat) (word : ℕ) (i : Instr) (family : Family) (of : class_of i.op ≡ VectorArithmetic family) (next : upcoming u ≡ meaning u word (Some i)) where
  legality : is_legal u i ≡ not (is_illegal i (setting_at u i))
  legality = ap (λ (k : Class). is_legal_as k u i) of

  -- where it is legal, the step is what it calculates, and the footprint has its beats
  pub calculates : (beats : ℕ) (p : Progress) (fault : Fault) (v : Flat) → is_illegal i (setting_at u i) ≡ false
      → ((r : Reading) → reading_at u i ≡ Some r → length (groups_made r (groups_of machine.lanes (handled_words r))) ≡ beats)
      → outcome_of p fault v ≡ Some (calculate_by (reading_at u i) u i)
      → (step u ≡ Next v) × IsWithoutAccesses (footprint_of machine u (upcoming u)) (beats_span (unit_of family) beats) false true
  unfolding performed
  calculates beats p fault v legal count outcome =
      let at : upcoming u ≡ Instruction i = next ∙ legal-next u word i (legality ∙ ap not legal) in
      let found : (r : Reading) × (reading_at u i ≡ Some r) = reads u i family of in
      let r : Reading = found.0 in
      let is : r.family ≡ family = family-as (class_of i.op) (shape_of i.op) family (setting_at u i) (places_of i) u.v.words r of found.1 in
      let steps : step u ≡ calculate_by (Some r) u i = ap (performed u) at ∙ ap (λ (k : Class). performed_as k u i) of ∙ ap (λ (x : Option Reading). calculate_by x u i) found.1 in
      let done : outcome_of p fault v ≡ Some (calculate_by (Some r) u i) = outcome ∙ ap (λ (x : Option Reading). Some (calculate_by x u i)) found.1 in
      let here : footprint_of machine u (upcoming u) ≡ calculating machine i r =
      ap (footprint_of machine u) at ∙ ap (λ (k : Class). footprint_as machine k u i) of ∙ ap (λ (x : Option Reading). calculating_by machine u i x) found.1 in (
        steps ∙ ap Next (sym (completed-by p fault v _ done)),
        subst (λ (f : Family). IsWithoutAccesses (footprint_of machine u (upcoming u)) (beats_span (unit_of f) beats) false true) is
            (subst (λ (f : Footprint). IsWithoutAccesses f (beats_span (unit_of r.family) beats) false true) (sym here) (calculating-is machine i r beats (count r found.1))),
      )

  -- where it is illegal, it faults with its word
  pub refuses : is_illegal i (setting_at u i) ≡ true
      → (step u ≡ faulted u 2 word) × IsStopping (footprint_of machine u (upcoming u)) (ended.Faulted (record { cause = 2; tval = word; vstart = u.v.vstart }))
  unfolding performed
  refuses illegal =
      let at : upcoming u ≡ Illegal word = next ∙ illegal-next u word i (legality ∙ ap not illegal) in
      let steps : step u ≡ faulted u 2 word = ap (performed u) at in
      (steps, faults-illegal machine u word (record { cause = 2; tval = word; vstart = u.v.vstart }) u at steps)

-- ---- when

module _ (fetched begun retired time issued : ℕ) (near : fetched ≤ begun + 4 * time) (short : time ≤ 16) (soon : begun ≤ retired + 1) (is : issued ≡ max fetched (retired + 1)) where
  pub behind : retired < issued
  behind = omega (arith, is)

  pub issued-soon : issued ≤ retired + 65
  issued-soon = omega (arith, is, near, short, soon)

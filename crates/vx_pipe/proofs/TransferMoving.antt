-- What is known of a vector load or store once it is issued.
use Rattle.std.proofs.Common.{◌≡◌, ℕ, zero, suc, ◌+◌, ◌-◌, ◌*◌, ◌/◌, ◌<◌, ◌≤◌, Bool, true, false, not, List, [], ◌∷◌, ◌++◌, Some, map, refl, sym, ap, subst, ◌∙◌, arith}
use Rattle.std.specs.Prelude.{Option}
use Rattle.std.proofs.Math.Nat.{mul-le-mul, mul-le-mul_left, mul-le-mul_right}
use Rattle.std.proofs.lemmas.Bool.Decides.{nat_tests}
use Rattle.vx_base.specs.Options.{is_register_length}
use Rattle.vx_base.specs.declared.machine.Fault.{Fault}
use Rattle.vx_base.specs.declared.perm.PageEntry.{PageEntry}
use Rattle.vx_base.specs.declared.machine.Want.{Want}
use Rattle.vx_cells.specs.Cells.{CellsState}
use Rattle.vx_decode.specs.Encoded.{IsRegister, IsValid}
use Rattle.vx_decode.specs.Legal.{is_illegal}
use Rattle.vx_decode.specs.declared.instr.Instr.{Instr}
use Rattle.vx_flat.specs.Continued.{continued, good_done, passed_as, passed_over}
use Rattle.vx_flat.specs.Outcome.{Outcome}
use Rattle.vx_flat.specs.Outcome.Outcome.{Next, Faulted}
use Rattle.vx_flat.specs.Prefix.{transfer_as, transfer_next}
use Rattle.vx_flat.specs.Process.{Process}
use Rattle.vx_flat.specs.State.{Flat, following}
use Rattle.vx_flat.specs.Step.{is_legal, is_legal_as, meaning, performed, performed_as, step, upcoming}
use Rattle.vx_flat.specs.Transfers.{Direction, Transfer, first_failure, is_fault_only_first, transfer, transferred, want_of}
use Rattle.vx_flat.specs.Transfers.Direction.{Loading, Storing}
use Rattle.vx_flat.specs.Vectors.{setting_at}
use Rattle.vx_flat.specs.declared.upcoming.Upcoming.TheVariants.{Instruction}
use Rattle.vx_image.specs.Images.{entry_of_page}
use Rattle.vx_hart.specs.Outcomes.{outcome_of}
use Rattle.vx_hart.specs.declared.progress.Progress.{Progress}
use Rattle.vx_hart.specs.declared.progress.Progress.TheVariants as progress
use Rattle.vx_rows.specs.Layouts.{layout_of}
use Rattle.vx_rows.specs.Table.{class_of, shape_of}
use Rattle.vx_rows.specs.declared.row.Addressing.{Addressing}
use Rattle.vx_rows.specs.declared.row.Class.{Class}
use Rattle.vx_rows.specs.declared.row.Eew.{Eew}
use Rattle.vx_scalar.specs.Operands.{NamesRegisters}
use Rattle.vx_tables.specs.Residency.{IsOf}
use Rattle.vx_tables.specs.Tables.{AreHeld}
use Rattle.vx_tlb.specs.declared.tlb.Kept.{Kept}
use Rattle.vx_vector.specs.Accesses.{Movement, access_bits, movement_count, registers_of_field, fields_of}
use Rattle.vx_vector.specs.Movements.{IsSoundMovement}
use Rattle.vx_vstate.specs.Registers.{is_byte_width}
use Rattle.vx_episode.specs.Commits.{entry_of}
use Rattle.vx_episode.specs.Footprint.{Batch, Footprint, footprint, footprint_as, footprint_of, moving}
use Rattle.vx_episode.specs.History.{History, Entry, after_walks, data_walks}
use Rattle.vx_episode.specs.Organisation.{Organisation, Start}
use Rattle.vx_course.specs.Course.{Course}
use Rattle.vx_paged.specs.Framed.{entries_of, shown, shown_page}
use Rattle.vx_paged.specs.declared.placement.FramedPage.{FramedPage}
use Rattle.vx_serve.specs.Stamps.{BankStamps}
use Rattle.vx_pipe.specs.Going.{IsEpisodeOn, IsIssuing, fetches_with}
use Rattle.vx_pipe.specs.Moving.{IsMoving, class_by}
use Rattle.vx_pipe.specs.Passing.{AreTrue, IsPassing, IsSet}
use Rattle.vx_pipe.specs.Transfers.{IsTransferring, element_batches}
use Rattle.vx_pipe.proofs.AccessTruths.{first-answered}
use Rattle.vx_pipe.proofs.Kept.{present}
use Rattle.vx_pipe.proofs.Plainly.{legal-next}
use Rattle.vx_pipe.proofs.TransferElements.{EndsBehindOne, batches-are}
use Rattle.vx_pipe.proofs.TransferFetch.{fetched-for-no-store}
use Rattle.vx_pipe.proofs.TransferOver.{continued-pc}
use Rattle.vx_pipe.proofs.TransferPassing.{counted-none}
use Rattle.vx_pipe.proofs.TransferSteps.{BatchesBegin, begins}
use Rattle.vx_pipe.proofs.TransferValues.{none-below}

-- ---- a valid instruction names registers

below-32 : (has : Bool) (n : ℕ) → IsRegister has n → n < 32
below-32 true n is = is
below-32 false n is = omega arith

pub names-registers : (i : Instr) → IsValid i → NamesRegisters i
names-registers i valid =
    let layout = layout_of (shape_of i.op) in
    record { rd = below-32 layout.rd i.rd valid.rd; rs1 = below-32 layout.rs1 i.rs1 valid.rs1; rs2 = below-32 layout.rs2 i.rs2 valid.rs2 }

-- ---- what an outcome tells

pub done-next : (p : Progress) (last : Fault) (v w : Flat) → outcome_of p last v ≡ Some (Next w) → v ≡ w
done-next progress.Completed last v w is = cc
done-next progress.Asks last v w is = absurd (cc)
done-next progress.Faulted last v w is = absurd (cc)

pub done-faulted : (p : Progress) (last : Fault) (v w : Flat) (o : Outcome) → outcome_of p last v ≡ Some o → (fault : Fault) → o ≡ Faulted fault w → (v ≡ w) × (outcome_of p last v ≡ Some (Faulted fault v))
done-faulted progress.Completed last v w o is fault that = absurd (cc)
done-faulted progress.Asks last v w o is fault that = absurd (cc)
done-faulted progress.Faulted last v w o is fault that =
    let same : v ≡ w = cc in
    let why : last ≡ fault = cc in
    (same, ap (λ (x : Fault). Some (Faulted x v)) why)

-- ---- the instruction

class-legal : (d : Direction) (a : Addressing) (e : Eew) (s : Flat) (i : Instr) → is_legal_as (class_by d a e) s i ≡ not (is_illegal i (setting_at s i))
class-legal Loading a e s i = refl
class-legal Storing a e s i = refl

class-does : (d : Direction) (a : Addressing) (e : Eew) (s : Flat) (i : Instr) → performed_as (class_by d a e) s i ≡ transferred (transfer d a e s i) s
class-does Loading a e s i = refl
class-does Storing a e s i = refl

class-passes : (d : Direction) (a : Addressing) (e : Eew) (s : Flat) (i : Instr) → passed_as (class_by d a e) s i ≡ good_done (transfer d a e s i) s
class-passes Loading a e s i = refl
class-passes Storing a e s i = refl

class-moves : (machine : Organisation) (d : Direction) (a : Addressing) (e : Eew) (s : Flat) (i : Instr) → footprint_as machine (class_by d a e) s i ≡ moving machine (transfer d a e s i)
class-moves machine Loading a e s i = refl
class-moves machine Storing a e s i = refl

class-next : (d : Direction) (a : Addressing) (e : Eew) (s : Flat) (i : Instr) → transfer_as (class_by d a e) s i ≡ Some (transfer d a e s i)
class-next Loading a e s i = refl
class-next Storing a e s i = refl

performed-next : (s : Flat) (i : Instr) → performed s (Instruction i) ≡ performed_as (class_of i.op) s i
unfolding performed
performed-next s i = refl

module _ (d : Direction) (a : Addressing) (e : Eew) (i : Instr) (is : class_of i.op ≡ class_by d a e) where
  pub comes-next : (s : Flat) (word : ℕ) → upcoming s ≡ meaning s word (Some i) → not (is_illegal i (setting_at s i)) ≡ true → upcoming s ≡ Instruction i
  comes-next s word next legal = next ∙ legal-next s word i (ap (λ (k : Class). is_legal_as k s i) is ∙ class-legal d a e s i ∙ legal)

  pub illegal-comes : (s : Flat) → is_legal s i ≡ not (is_illegal i (setting_at s i))
  illegal-comes s = ap (λ (k : Class). is_legal_as k s i) is ∙ class-legal d a e s i

  pub steps-so : (s : Flat) → upcoming s ≡ Instruction i → step s ≡ transferred (transfer d a e s i) s
  steps-so s next = ap (performed s) next ∙ performed-next s i ∙ ap (λ (k : Class). performed_as k s i) is ∙ class-does d a e s i

  pub moves-so : (machine : Organisation) (s : Flat) → upcoming s ≡ Instruction i → footprint_of machine s (upcoming s) ≡ moving machine (transfer d a e s i)
  moves-so machine s next = ap (footprint_of machine s) next ∙ ap (λ (k : Class). footprint_as machine k s i) is ∙ class-moves machine d a e s i

  pub transfer-so : (s : Flat) → upcoming s ≡ Instruction i → transfer_next s (upcoming s) ≡ Some (transfer d a e s i)
  transfer-so s next = ap (transfer_next s) next ∙ ap (λ (k : Class). transfer_as k s i) is ∙ class-next d a e s i

  pub pc-so : (s : Flat) → upcoming s ≡ Instruction i → (continued s).pc ≡ following s
  pc-so s next =
      continued-pc (transfer d a e s i) s (steps-so s next) (ap (passed_over s) next ∙ ap (λ (k : Class). passed_as k s i) is ∙ class-passes d a e s i)

pub moving-is : EndsBehindOne → (machine : Organisation) (t : Transfer) → machine.batch_limit ≡ 1 → IsMoving (moving machine t) t
moving-is law machine t one = record {
  stop = refl;
  groups = refl;
  latency = refl;
  wants = refl;
  trims = refl;
  batches = ap (λ (n : ℕ). (moving (record machine { batch_limit = n }) t).batches) one ∙ batches-are law t machine.lanes;
  jumps_is = refl;
  changes_is = refl;
}

-- ---- how many elements

words-most : (vlen : ℕ) → is_register_length vlen ≡ true → vlen / 64 ≤ 32
words-most vlen long = grind (arith, nat_tests, long)

wide-by : (bits : ℕ) → is_byte_width bits ≡ true → 8 ≤ bits
wide-by bits width = grind (arith, nat_tests, width)

one-regs : (rd fields regs : ℕ) → 1 ≤ fields → rd + fields * regs ≤ 32 → regs ≤ 32
one-regs rd fields regs some room = let more : 1 * regs ≤ fields * regs = mul-le-mul_right regs some in omega (arith, more, room)

least : (bits k : ℕ) → 8 ≤ bits → k * bits / 64 < 1024 → k < 8192
least bits k wide less = let more : k * 8 ≤ k * bits = mul-le-mul_left k wide in omega (arith, more, less)

few-by : (bits k regs vlen : ℕ) → 8 ≤ bits → regs ≤ 32 → vlen / 64 ≤ 32 → k * bits / 64 < regs * (vlen / 64) → k < 8192
few-by bits k regs vlen wide few long less =
    let most : regs * (vlen / 64) ≤ 32 * 32 = mul-le-mul few long in
    least bits k wide (omega (arith, less, most))

few-elements : (count : ℕ) → ((i : ℕ) → i < count → i < 8192) → count ≤ 8192
few-elements zero each = omega arith
few-elements (suc k) each = omega (arith, each k (omega arith))

pub few-so : (m : Movement) → IsSoundMovement m → movement_count m ≤ 8192
few-so m sound =
    few-elements (movement_count m)
    (λ i less. few-by (access_bits m) i (registers_of_field m) m.at.vlen (wide-by (access_bits m) sound.width) (one-regs m.i.rd (fields_of m) (registers_of_field m) sound.some_field sound.room) (words-most m.at.vlen sound.setting.vlen_in_range) (sound.within i less))

-- ---- the memory that is shown has the residency's pages

page-entries : (memory : ℕ → ℕ) (placement : List FramedPage) → map entry_of_page (map (shown_page memory) placement) ≡ entries_of placement
page-entries memory [] = refl
page-entries memory (p ∷ placement) = ap (λ (es : List PageEntry). p.entry ∷ es) (page-entries memory placement)

shown-entries : (placement : List FramedPage) (contents : List ℕ) → map entry_of_page (shown placement contents) ≡ entries_of placement
unfolding shown
shown-entries placement contents = page-entries _ placement

-- ---- from the issue on

module _ (machine : Organisation) (root : ℕ) (placement : List FramedPage) (start : Start) (until : ℕ) (from : Process) (first : CellsState) (course : Course) (fetched : ℕ) (loads fetches : List (Option Kept)) (stamps : BankStamps) (before : CellsState) (u : Flat) (issued : ℕ) (t : Transfer)
    (on : IsEpisodeOn machine root placement start) (i : IsIssuing start until from first course fetched (record { loads = loads; fetches = fetches; stamps = stamps }) before u) where
  abbrev f : Footprint
  f = footprint start.machine start.has_vectors start.residency i.now.state

  abbrev e : Entry
  e = entry_of start i.history i.now.state

  pub set-so : (contents : List ℕ) (bank_time : ℕ) (want : Want) (m : Movement) → IsMoving f t → machine.bank_time ≡ bank_time → want ≡ want_of t.direction → t.movement ≡ m → IsSet start i.history e f t bank_time want m
  set-so contents bank_time want m is-moving time wants moved = record {
    bank = ap (λ (x : Organisation). x.bank_time) on.machine_is ∙ time;
    wants = is-moving.wants ∙ sym wants;
    wanted = sym wants;
    trims = is-moving.trims ∙ ap (λ (x : Movement). is_fault_only_first x.addressing) moved;
    moved = moved;
    fetched = fetched-for-no-store start i.history i.now.state f;
    present = present placement start.residency on.placed.frames;
    memory = shown placement contents;
    of = on.placed.entries ∙ sym (shown-entries placement contents);
    answered = subst (λ (h : History). AreTrue start.residency (data_walks h)) (sym i.on.under_way.instructions) (first-answered start course.completed from.state);
  }

  pub is-of : (contents : List ℕ) → IsOf start.residency (shown placement contents)
  is-of contents = on.placed.entries ∙ sym (shown-entries placement contents)

  pub passing-so : BatchesBegin → IsMoving f t → course.retired < issued
      → IsPassing start i.history e course.retired issued f t t.movement.at.vstart (element_batches t (movement_count t.movement - t.movement.at.vstart) t.movement.at.vstart) (record { looked = issued; committed = course.retired + 1; before = 0; done = 0 }) root loads stamps before before
  passing-so begin is-moving behind =
      let so = begins begin start i.history e course.retired issued f root loads stamps before i.on.quiet behind
      (record { kept = i.loads; held = subst (λ (r : ℕ). AreHeld before r (after_walks start.residency (fetches_with e i.history ++ data_walks i.history))) on.root_is i.cells_are.held }) i.banks in
      record {
        own = [];
        transferring = subst (λ (bs : List Batch). IsTransferring start i.history e course.retired issued f [] bs issued (course.retired + 1) 0 0 root loads stamps before before) is-moving.batches so;
        count = omega arith;
        ends = tt;
        counted = counted-none;
        answered = λ k d less. absurd (omega arith);
        below = refl;
        free = λ memory of. ap (first_failure t.direction memory) (none-below t.movement t.movement.at.vstart (omega arith));
      }

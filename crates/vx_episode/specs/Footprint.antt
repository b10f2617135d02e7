-- What timing sees of an instruction: the only place where timing meets the instruction set. This project's own. Words of
-- vector registers are told by their places in the list of all.
use Rattle.std.specs.Prelude.{ℕ, ◌+◌, ◌/◌, Bool, true, false, ◌==◌, ◌&&◌, not, List, [], ◌∷◌, ◌++◌, map, flat_map, filter, Option, Some, None, is_some, if◌then◌else◌}
use Rattle.std.specs.List.{range_with_len}
use Rattle.std.specs.Option.{option_map_or}
use Rattle.vx_base.specs.declared.machine.Want.{Want}
use Rattle.vx_base.specs.declared.machine.Want.TheVariants.{Fetch, Load, Store}
use Rattle.vx_decode.specs.Decoded.{decoded}
use Rattle.vx_decode.specs.declared.instr.Instr.{Instr}
use Rattle.vx_flat.specs.Access.{access_address, access_width}
use Rattle.vx_flat.specs.Control.{writes}
use Rattle.vx_flat.specs.Operands.{change_in, source_in, vtype_source_in, control_number}
use Rattle.vx_flat.specs.Outcome.{Outcome}
use Rattle.vx_flat.specs.Outcome.Outcome.{Next, Exited, Faulted}
use Rattle.vx_flat.specs.Scalar.{effect}
use Rattle.vx_flat.specs.State.{Flat, register}
use Rattle.vx_flat.specs.Step.{step, upcoming, word_at_pc}
use Rattle.vx_flat.specs.Transfers.{Direction, Transfer, transfer, is_fault_only_first, want_of}
use Rattle.vx_flat.specs.Transfers.Direction.{Loading, Storing}
use Rattle.vx_flat.specs.Vectors.{reading_at}
use Rattle.vx_flat.specs.declared.control.Source.{Source}
use Rattle.vx_flat.specs.declared.control.Source.TheVariants as source
use Rattle.vx_flat.specs.declared.effect.Effect.{Effect}
use Rattle.vx_flat.specs.declared.effect.Effect.TheVariants as effect
use Rattle.vx_flat.specs.declared.upcoming.Upcoming.{Upcoming}
use Rattle.vx_flat.specs.declared.upcoming.Upcoming.TheVariants.{Denied, Illegal, Instruction}
use Rattle.vx_rows.specs.Families.{operands_of, unit_of}
use Rattle.vx_rows.specs.Table.{class_of}
use Rattle.vx_rows.specs.declared.family.Operand.{Operand}
use Rattle.vx_rows.specs.declared.family.Operand.TheVariants.{Absent}
use Rattle.vx_rows.specs.declared.family.Unit.{Unit}
use Rattle.vx_rows.specs.declared.family.Unit.TheVariants as unit
use Rattle.vx_rows.specs.declared.row.Addressing.{Addressing}
use Rattle.vx_rows.specs.declared.row.Addressing.TheVariants as addressing
use Rattle.vx_rows.specs.declared.row.Class.{Class}
use Rattle.vx_rows.specs.declared.row.Class.TheVariants as class
use Rattle.vx_rows.specs.declared.row.First.{First}
use Rattle.vx_rows.specs.declared.row.First.TheVariants as first
use Rattle.vx_tables.specs.Residency.{Residency, page_map, is_store}
use Rattle.vx_tables.specs.declared.walked.Walked.{Walked}
use Rattle.vx_tables.specs.declared.walked.Walked.TheVariants as walked
use Rattle.vx_vector.specs.Accesses as vector
use Rattle.vx_vector.specs.Batches.{batches, accesses_of_batch, batch_words, place_of_access}
use Rattle.vx_vector.specs.Batches as run
use Rattle.vx_vector.specs.Reading.{Reading}
use Rattle.vx_vector.specs.Rules.{Rule, rule_of}
use Rattle.vx_vector.specs.Rules.Rule.{Each, Index, Permute, Reduce, Pack, Put, Tell}
use Rattle.vx_vector.specs.Words.{handled_words, made_by, source_words}
use Rattle.vx_vstate.specs.Control.{control_of}
use Rattle.vx_vstate.specs.Registers.{place_of}
use Rattle.vx_episode.specs.Organisation.{Organisation}
use Rattle.vx_episode.specs.declared.ended.Ended.{Ended}
use Rattle.vx_episode.specs.declared.ended.Ended.TheVariants as ended

-- an access: the element that it belongs to, so many bytes from an address on; what it stores, where it is a store; and the word
-- of the vector registers that it is loaded into, where there is one
pub record Access : Type 0 where
  pub element : ℕ
  pub address : ℕ
  pub width : ℕ
  pub stored : Option ℕ
  pub loaded : Option ℕ

-- accesses that are looked up together: those of the elements from one on, up to another; and the words of the vector registers
-- that they need
pub record Batch : Type 0 where
  pub from : ℕ
  pub after : ℕ
  pub accesses : List Access
  pub sources : List ℕ

-- words that are handled in one beat: those that they need, and those that are made
pub record Group : Type 0 where
  pub sources : List ℕ
  pub made : List ℕ

pub record Footprint : Type 0 where
  -- it is a jump or a branch
  pub jumps : Bool
  -- it waits for the retire of the instruction before it
  pub is_serial : Bool
  -- the x registers that it reads, and those that it writes
  pub reads : List ℕ
  pub writes : List ℕ
  -- how many cycles after its issue it completes, if its beats and its accesses don't take longer
  pub latency : ℕ
  -- the unit of its beats, and what is handled in each, the first of them first
  pub unit : Unit
  pub groups : List Group
  -- what its accesses want, and its batches, the first of them first
  pub want : Want
  pub batches : List Batch
  -- an access that fails behind element 0 shortens vl
  pub is_fault_only_first : Bool
  -- once it has committed, wholly or partly, the vector state has changed
  pub changes_vectors : Bool
  -- why it stops its episode without an access, where it does
  pub stop : Option Ended

-- an instruction that takes a cycle, and reads and writes nothing
abbrev pub plain : Footprint
plain = record {
  jumps = false;
  is_serial = false;
  reads = [];
  writes = [];
  latency = 1;
  unit = unit.Arithmetic;
  groups = [];
  want = Load;
  batches = [];
  is_fault_only_first = false;
  changes_vectors = false;
  stop = None;
}

-- ---- instructions that stop their episode

abbrev pub stopping : Ended → Footprint
stopping why = record plain { is_serial = true; stop = Some why }

-- why the episode of an instruction ends that neither completes in it nor waits for a page: by what its step leads to, it has
-- faulted, or it asks for a service
abbrev pub ended_by : Outcome → Ended
ended_by (Next s) = ended.Service
ended_by (Exited code) = ended.Service
ended_by (Faulted fault s) = ended.Faulted fault

abbrev pub halting : Flat → Footprint
halting s = stopping (ended_by (step s))

-- ---- scalar instructions

-- how many cycles after its issue a multiplication completes, and a division or a remainder
abbrev pub multiply_latency : ℕ
multiply_latency = 3

abbrev pub divide_latency : ℕ
divide_latency = 20

-- one that touches no memory; an operand that its shape lacks is x0, which no instruction writes
abbrev pub computing : Instr → (latency : ℕ) → Footprint
computing i latency = record plain { reads = i.rs1 ∷ i.rs2 ∷ []; writes = i.rd ∷ []; latency = latency }

-- a jump or a branch, by what it does: it stops where its target is misaligned
abbrev pub jumping : Flat → Instr → Effect → Footprint
jumping s i (effect.Value value pc) = record (computing i 1) { jumps = true }
jumping s i (effect.Next pc) = record (computing i 1) { jumps = true }
jumping s i (effect.Misaligned target) = halting s

-- a scalar load or store: a batch of one access
abbrev pub one_batch : Access → List Batch
one_batch access = record { from = 0; after = 1; accesses = access ∷ []; sources = [] } ∷ []

abbrev pub scalar_access : Flat → Instr → (stored : Option ℕ) → Access
scalar_access s i stored =
    record { element = 0; address = access_address i s.x; width = access_width i.op; stored = stored; loaded = None }

abbrev pub loading : Flat → Instr → Footprint
loading s i = record plain { reads = i.rs1 ∷ []; writes = i.rd ∷ []; want = Load; batches = one_batch (scalar_access s i None) }

abbrev pub storing : Flat → Instr → Footprint
storing s i = record plain { reads = i.rs1 ∷ i.rs2 ∷ []; want = Store; batches = one_batch (scalar_access s i (Some (register s i.rs2))) }

-- ---- instructions on the control registers, and those that configure vectors

-- the register in which an operand stands, where it doesn't stand in the instruction
abbrev pub read_by : Source → (r : ℕ) → List ℕ
read_by source.Register r = r ∷ []
read_by source.Immediate r = []

abbrev pub controlling : Instr → Footprint
controlling i = record plain {
  is_serial = true;
  reads = read_by (source_in i.op) i.rs1;
  writes = i.rd ∷ [];
  changes_vectors = writes (change_in i.op) i.rs1;
}

abbrev pub configuring : Instr → Footprint
configuring i = record plain {
  reads = read_by (source_in i.op) i.rs1 ++ read_by (vtype_source_in i.op) i.rs2;
  writes = i.rd ∷ [];
  changes_vectors = true;
}

-- ---- vector arithmetic

-- the x register in the place of vs1, where one stands there
abbrev pub scalar_operand : First → (r : ℕ) → List ℕ
scalar_operand first.Integer r = r ∷ []
scalar_operand other r = []

-- the x register that is written, by a row that has no destination in vector registers
abbrev pub told_register : Operand → (rd : ℕ) → List ℕ
told_register Absent rd = rd ∷ []
told_register other rd = []

-- a row has one result, which is made once all its words are handled
abbrev pub has_one_result : Rule → Bool
has_one_result (Each f) = false
has_one_result (Index f) = false
has_one_result (Permute f) = false
has_one_result (Reduce f) = true
has_one_result Pack = false
has_one_result Put = false
has_one_result (Tell f) = true

module _ (r : Reading) where
  -- the place of word w of the destination, of a row that has one in vector registers
  abbrev pub destination_place : Operand → (w : ℕ) → List ℕ
  destination_place Absent w = []
  destination_place operand w = place_of r.at.vlen r.places.vd w ∷ []

  -- the places of the words that are made when word w is handled
  abbrev pub places_made : (w : ℕ) → List ℕ
  places_made w = destination_place (operands_of r.family).destination (made_by r (rule_of r.family) w)

  -- words that are handled in one beat, of which some are made in it
  abbrev pub group_of : (makes : Bool) → (words : List ℕ) → Group
  group_of makes words = record { sources = flat_map (source_words r) words; made = if makes then flat_map places_made words else [] }

-- the handled words with a number from g * lanes to g * lanes + lanes - 1
abbrev pub words_of_group : (lanes : ℕ) → List ℕ → (g : ℕ) → List ℕ
words_of_group lanes words g = filter (λ w. w / lanes == g) words

-- how many words there are up to the last of some in rising order
abbrev pub words_up_to : List ℕ → ℕ
words_up_to [] = 0
words_up_to (w ∷ []) = w + 1
words_up_to (w ∷ v ∷ words) = words_up_to (v ∷ words)

abbrev pub is_not_empty : List ℕ → Bool
is_not_empty [] = false
is_not_empty (w ∷ words) = true

-- the groups that have a handled word, in rising order
abbrev pub groups_of : (lanes : ℕ) → List ℕ → List (List ℕ)
groups_of lanes words = filter is_not_empty (map (words_of_group lanes words) (range_with_len 0 (words_up_to words / lanes + 1)))

-- the beats' groups; of a row with one result, that is made with the last
abbrev pub groups_made : Reading → List (List ℕ) → List Group
groups_made r [] = []
groups_made r (words ∷ []) = group_of r true words ∷ []
groups_made r (words ∷ others ∷ groups) = group_of r (not (has_one_result (rule_of r.family))) words ∷ groups_made r (others ∷ groups)

abbrev pub calculating : Organisation → Instr → Reading → Footprint
calculating machine i r = record plain {
  reads = scalar_operand r.first i.rs1;
  writes = told_register (operands_of r.family).destination i.rd;
  unit = unit_of r.family;
  groups = groups_made r (groups_of machine.lanes (handled_words r));
  changes_vectors = true;
}

-- what an instruction reads there is in every state in which it is legal
abbrev pub calculating_by : Organisation → Flat → Instr → Option Reading → Footprint
calculating_by machine s i (Some r) = calculating machine i r
calculating_by machine s i None = halting s

-- ---- vector memory

-- the stride in rs2, where the row has one
abbrev pub stride_operand : Addressing → (r : ℕ) → List ℕ
stride_operand addressing.Strided r = r ∷ []
stride_operand other r = []

-- an access, by its direction
abbrev pub moved_access : Direction → vector.Movement → vector.Access → Access
moved_access Loading m a =
    record { element = a.element; address = a.address; width = a.width; stored = None; loaded = Some (place_of_access m.at.vlen a) }
moved_access Storing m a =
    record { element = a.element; address = a.address; width = a.width; stored = Some (vector.value_stored m.at.vlen m.words a); loaded = None }

abbrev pub moved_batch : Transfer → run.Batch → Batch
moved_batch t b = record {
  from = b.from;
  after = b.after;
  accesses = map (moved_access t.direction t.movement) (accesses_of_batch t.movement b);
  sources = batch_words t.movement (is_store (want_of t.direction)) b;
}

abbrev pub moving : Organisation → Transfer → Footprint
moving machine t = record plain {
  reads = t.movement.i.rs1 ∷ stride_operand t.movement.addressing t.movement.i.rs2;
  want = want_of t.direction;
  batches = map (moved_batch t) (batches t.movement machine.lanes machine.batch_limit);
  is_fault_only_first = is_fault_only_first t.movement.addressing;
  changes_vectors = true;
}

-- ---- any instruction

abbrev pub footprint_as : Organisation → Class → Flat → Instr → Footprint
footprint_as machine class.Arithmetic s i = computing i 1
footprint_as machine class.Multiply s i = computing i multiply_latency
footprint_as machine class.Divide s i = computing i divide_latency
footprint_as machine class.Jump s i = jumping s i (effect i s.x s.pc)
footprint_as machine class.Branch s i = jumping s i (effect i s.x s.pc)
footprint_as machine class.Load s i = loading s i
footprint_as machine class.Store s i = storing s i
footprint_as machine class.Fence s i = record plain { is_serial = true }
footprint_as machine class.Ecall s i = halting s
footprint_as machine class.Ebreak s i = halting s
footprint_as machine class.Csr s i = controlling i
footprint_as machine class.Set s i = configuring i
footprint_as machine (class.VectorArithmetic family) s i = calculating_by machine s i (reading_at s i)
footprint_as machine (class.VectorLoad addressing width) s i = moving machine (transfer Loading addressing width s i)
footprint_as machine (class.VectorStore addressing width) s i = moving machine (transfer Storing addressing width s i)

-- of what comes next
abbrev pub footprint_of : Organisation → Flat → Upcoming → Footprint
footprint_of machine s Denied = halting s
footprint_of machine s (Illegal word) = halting s
footprint_of machine s (Instruction i) = footprint_as machine (class_of i.op) s i

-- ---- vectors that the process hasn't got, and pages that are away

-- an instruction is one of vectors, or of a control register of theirs
abbrev pub needs_vectors_as : Class → Instr → Bool
needs_vectors_as class.Arithmetic i = false
needs_vectors_as class.Multiply i = false
needs_vectors_as class.Divide i = false
needs_vectors_as class.Jump i = false
needs_vectors_as class.Branch i = false
needs_vectors_as class.Load i = false
needs_vectors_as class.Store i = false
needs_vectors_as class.Fence i = false
needs_vectors_as class.Ecall i = false
needs_vectors_as class.Ebreak i = false
needs_vectors_as class.Csr i = is_some (control_of (control_number i))
needs_vectors_as class.Set i = true
needs_vectors_as (class.VectorArithmetic family) i = true
needs_vectors_as (class.VectorLoad addressing width) i = true
needs_vectors_as (class.VectorStore addressing width) i = true

abbrev pub needs_vectors : Option Instr → Bool
needs_vectors i = option_map_or (λ (i : Instr). needs_vectors_as (class_of i.op) i) i false

-- of what comes next, where the process may lack vectors: an instruction that needs them stops, legal or not
abbrev pub footprint_with : Organisation → (has_vectors : Bool) → Flat → Upcoming → Footprint
footprint_with machine has_vectors s Denied = footprint_of machine s Denied
footprint_with machine has_vectors s next =
    if not has_vectors && needs_vectors (decoded (word_at_pc s)) then stopping ended.Vector else footprint_of machine s next

-- where its page may be away
abbrev pub footprint_found : Organisation → (has_vectors : Bool) → Flat → (fetched : Walked) → Footprint
footprint_found machine has_vectors s walked.Away = stopping (ended.Away s.pc Fetch)
footprint_found machine has_vectors s other = footprint_with machine has_vectors s (upcoming s)

unfoldable pub footprint : Organisation → (has_vectors : Bool) → Residency → Flat → Footprint
footprint machine has_vectors residency s = footprint_found machine has_vectors s (page_map residency s.pc Fetch)

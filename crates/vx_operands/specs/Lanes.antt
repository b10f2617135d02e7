-- Elements of operands as lanes of words, and the elements that become.
use Rattle.std.specs.Prelude.{◌≡◌, ℕ, ◌+◌, ◌*◌, ◌/◌, ◌%◌, ◌^◌, ◌<◌, Bool, true, false, not, ◌==◌, ◌&&◌}
use Rattle.vx_bits.specs.declared.saturation.Sat.{Sat}
use Rattle.vx_packed.specs.Joined.{lane}
use Rattle.vx_packed.specs.Made.{lane_of}
use Rattle.vx_packed.specs.declared.elements.Lane.{Lane}
use Rattle.vx_packed.specs.declared.elements.Made.{Made}
use Rattle.vx_packed.specs.declared.elements.Packing.{Packing}
use Rattle.vx_packed.specs.declared.elements.Sources.{Sources}
use Rattle.vx_rows.specs.declared.family.Family.{Family}
use Rattle.vx_rows.specs.declared.family.Operand.{Operand}
use Rattle.vx_rows.specs.declared.family.Operand.TheVariants.{Single, Double, Half, Quarter, Eighth}
use Rattle.vx_rows.specs.declared.family.Operands.{Operands}
use Rattle.vx_rows.specs.declared.row.First.{First}
use Rattle.vx_rows.specs.declared.row.First.TheVariants as first
use Rattle.vx_rows.specs.declared.row.Vm.{Vm}
use Rattle.vx_rows.specs.declared.row.Vm.TheVariants as vm
use Rattle.vx_vector.specs.Laws.{per_word}
use Rattle.vx_vector.specs.Numbers.{Numbers, plain}
use Rattle.vx_vector.specs.Reading.{Reading, destination_width, is_active, numbers_at, mask_bit, sew_of, vs2_width, whole_registers}
use Rattle.vx_vector.specs.Rules.{Rule, rule_of}
use Rattle.vx_vector.specs.Rules.Rule.{Each}

-- the first lanes of a word, so many, are these numbers
abbrev pub AreLanes : (width word count : ℕ) → (f : ℕ → ℕ) → Type 0
AreLanes width word count f = (k : ℕ) → k < count → lane width word k ≡ f k

-- an element becomes something of the numbers at its own index
abbrev pub is_each : Rule → Bool
is_each (Each f) = true
is_each other = false

-- what it becomes
abbrev pub answer_by : Rule → Numbers → Sat
answer_by (Each f) n = f n
answer_by other n = plain 0

abbrev pub answer : Family → Numbers → Sat
answer family n = answer_by (rule_of family) n

-- the numbers at a lane
abbrev pub numbers_of : (sew mode : ℕ) → Lane → Numbers
numbers_of sew mode l = record { sew = sew; mode = mode; a = l.a; b = l.b; d = l.d; m = l.m }

-- the destination, and the operands that are registers, have elements of SEW
abbrev pub is_single : Operand → Bool
is_single Single = true
is_single other = false

abbrev pub is_even : First → Operands → Bool
is_even first.Vector operands = is_single operands.destination && is_single operands.vs2 && is_single operands.vs1
is_even other operands = is_single operands.destination && is_single operands.vs2

-- an operand is a group of elements of a width of its own, and so are the registers of a row
abbrev pub is_group : Operand → Bool
is_group Single = true
is_group Double = true
is_group Half = true
is_group Quarter = true
is_group Eighth = true
is_group other = false

abbrev pub are_groups : First → Operands → Bool
are_groups first.Vector operands = is_group operands.destination && is_group operands.vs2 && is_single operands.vs1
are_groups other operands = is_group operands.destination && is_group operands.vs2

-- whole registers, without a mask
abbrev pub is_whole : Operands → Vm → Bool
is_whole operands vm.One = not (whole_registers operands.destination == 0) && whole_registers operands.destination == whole_registers operands.vs2
is_whole operands other = false

-- elements of a width, so many, fill a word or a half, a quarter, .. of one
abbrev pub FillsPart : (width count : ℕ) → Type 0
FillsPart width count = 64 / (width * count) * (width * count) ≡ 64

-- how the elements of a row's operands stand in words: as many as make a word of the destination
abbrev pub packing_of : Reading → Packing
packing_of r = record { count = per_word r; width = destination_width r; a = vs2_width r; b = sew_of r }

module _ (r : Reading) (w : ℕ) where
  -- the index of the element at a lane of word w of the destination
  abbrev pub index_at : (k : ℕ) → ℕ
  index_at k = w * per_word r + k

  -- a bit for each lane says whether its bit of the mask in v0 is set
  abbrev pub AreMaskBits : (bits : ℕ) → Type 0
  AreMaskBits bits = (k : ℕ) → k < per_word r → (lane 1 bits k == 1) ≡ mask_bit r (index_at k)

  -- the numbers at the lanes of some words are those at the elements of word w
  abbrev pub AreSources : Packing → Sources → Type 0
  AreSources at from = (k : ℕ) → k < per_word r → numbers_of (sew_of r) r.at.vxrm (lane_of at from k) ≡ numbers_at r (index_at k)

  -- the active elements have become what they must
  pub record AreMade (made : Made) : Type 0 where
    pub value : (k : ℕ) → k < per_word r → is_active r (index_at k) ≡ true → lane (destination_width r) made.value k ≡ (answer r.family (numbers_at r (index_at k))).value % 2 ^ destination_width r
    pub sats : (k : ℕ) → k < per_word r → is_active r (index_at k) ≡ true → (lane 1 made.sats k == 1) ≡ (answer r.family (numbers_at r (index_at k))).sat

-- Which words of the registers an instruction of vector arithmetic handles, one after another, and which it needs for each.
-- This project's own: times and the order in which words are made speak of these. Words are told by their places in the
-- list of all.
use Rattle.std.specs.Prelude.{ℕ, ◌+◌, ◌-◌, ◌*◌, ◌/◌, min, max, nat_lt, List, [], ◌∷◌, ◌++◌, flat_map, if◌then◌else◌}
use Rattle.std.specs.List.{range_with_len}
use Rattle.vx_decode.specs.Groups.{eighths_of}
use Rattle.vx_rows.specs.Families.{operands_of, unit_of}
use Rattle.vx_rows.specs.declared.family.Operand.{Operand}
use Rattle.vx_rows.specs.declared.family.Operand.TheVariants.{Absent, Element, Mask}
use Rattle.vx_rows.specs.declared.family.Unit.{Unit}
use Rattle.vx_rows.specs.declared.family.Unit.TheVariants.{Arithmetic, Multiply, Divide, Permute}
use Rattle.vx_rows.specs.declared.row.First.{First}
use Rattle.vx_rows.specs.declared.row.First.TheVariants as first
use Rattle.vx_vstate.specs.Groups.{registers_of_group}
use Rattle.vx_vstate.specs.Registers.{words_of_register, place_of, element_word}
use Rattle.vx_vector.specs.Reading.{Reading, destination_width, vs2_width, vs1_width, count_of}
use Rattle.vx_vector.specs.Rules.{Rule, rule_of}
use Rattle.vx_vector.specs.Rules.Rule.{Each, Index, Permute as Permutes, Reduce, Pack, Put, Tell}

module _ (r : Reading) where
  -- the registers of an operand
  abbrev pub registers_of_operand : Operand → ℕ
  registers_of_operand operand = registers_of_group (eighths_of operand r.at.vtype)

  -- the places of all words of an operand that begins at a register
  abbrev pub places_of_operand : Operand → (register : ℕ) → List ℕ
  places_of_operand Absent register = []
  places_of_operand operand register =
      range_with_len (place_of r.at.vlen register 0) (registers_of_operand operand * words_of_register r.at.vlen)

  -- the places of the destination's words
  abbrev pub destination_words : List ℕ
  destination_words = places_of_operand (operands_of r.family).destination r.places.vd

  -- the words, counted from a group's first, that hold an element of a width from vstart on up to the last
  abbrev pub words_holding : (width : ℕ) → List ℕ
  words_holding width =
      let from = element_word width r.at.vstart in
      if nat_lt r.at.vstart (count_of r) then range_with_len from (element_word width (count_of r - 1) + 1 - from) else []

  -- the words of vs2 that an integer register is told of: those of a mask's bits, or that of element 0
  abbrev pub words_told_of : Operand → List ℕ
  words_told_of Element = 0 ∷ []
  words_told_of operand = words_holding (vs2_width r)

  -- the words that are handled one after another: those of the destination; of a reduction, and of a row that counts or
  -- finds bits of a mask, those of vs2; of the moves of element 0, the first, into a vector where vstart is below vl
  abbrev pub handled_by : Rule → List ℕ
  handled_by (Each f) = words_holding (destination_width r)
  handled_by (Index f) = words_holding (destination_width r)
  handled_by (Permutes f) = words_holding (destination_width r)
  handled_by Pack = words_holding (destination_width r)
  handled_by (Reduce f) = words_holding (vs2_width r)
  handled_by Put = if nat_lt r.at.vstart r.at.vl then 0 ∷ [] else []
  handled_by (Tell f) = words_told_of (operands_of r.family).vs2

  abbrev pub handled_words : List ℕ
  handled_words = handled_by (rule_of r.family)

  -- ---- the words that a word needs

  -- the elements in a word of the destination, from vstart on up to the last
  abbrev pub elements_in : (w : ℕ) → List ℕ
  elements_in w =
      let per_word = 64 / destination_width r in
      let from = max r.at.vstart (w * per_word) in
      range_with_len from (min (count_of r) ((w + 1) * per_word) - from)

  -- the place of the word with an element of an operand, where there is such an operand
  abbrev pub place_of_element : Operand → (register width i : ℕ) → List ℕ
  place_of_element Absent register width i = []
  place_of_element operand register width i = place_of r.at.vlen register (element_word width i) ∷ []

  -- the operand in the place of vs1, where a register stands there
  abbrev pub vs1_operand_by : First → Operand
  vs1_operand_by first.Vector = (operands_of r.family).vs1
  vs1_operand_by other = Absent

  abbrev pub vs1_operand : Operand
  vs1_operand = vs1_operand_by r.first

  -- the mask in v0, where it is read
  abbrev pub mask_operand : Operand
  mask_operand = if r.places.vm then Absent else Mask

  -- the words of the operands of an element
  abbrev pub places_of_element : ℕ → List ℕ
  places_of_element i =
      place_of_element (operands_of r.family).vs2 r.places.vs2 (vs2_width r) i
      ++ place_of_element vs1_operand r.places.vs1 (vs1_width r) i
      ++ place_of_element mask_operand 0 1 i

  -- the old word, of a row that has a destination in vector registers
  abbrev pub old_word : Operand → (w : ℕ) → List ℕ
  old_word Absent w = []
  old_word operand w = place_of r.at.vlen r.places.vd w ∷ []

  -- all words of all sources
  abbrev pub places_of_sources : List ℕ
  places_of_sources =
      places_of_operand (operands_of r.family).vs2 r.places.vs2
      ++ places_of_operand vs1_operand r.places.vs1
      ++ places_of_operand mask_operand 0

  -- what a word of the destination needs, in a unit: those of its elements; where elements come from other places, all
  abbrev pub sources_in : Unit → (w : ℕ) → List ℕ
  sources_in Arithmetic w = flat_map places_of_element (elements_in w)
  sources_in Multiply w = flat_map places_of_element (elements_in w)
  sources_in Divide w = flat_map places_of_element (elements_in w)
  sources_in Permute w = places_of_sources

  -- the word of the destination that is made when a word is handled: a row with one result makes its first
  abbrev pub made_by : Rule → (w : ℕ) → ℕ
  made_by (Each f) w = w
  made_by (Index f) w = w
  made_by (Permutes f) w = w
  made_by Pack w = w
  made_by (Reduce f) w = 0
  made_by Put w = w
  made_by (Tell f) w = 0

  -- the words that handling word w needs
  abbrev pub source_words : (w : ℕ) → List ℕ
  source_words w =
      sources_in (unit_of r.family) w ++ old_word (operands_of r.family).destination (made_by (rule_of r.family) w)

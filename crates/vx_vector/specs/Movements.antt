-- What the laws of vector memory say. This project's own.
use Rattle.std.specs.Prelude.{◌≡◌, ◌⊎◌, ℕ, ◌+◌, ◌*◌, ◌/◌, ◌%◌, ◌^◌, ◌<◌, ◌≤◌, true, false, ◌==◌, IsTrue, List, length, fold, filter}
use Rattle.vx_decode.specs.Encoded.{IsValid}
use Rattle.vx_decode.specs.Groups.{bits_of_eew}
use Rattle.vx_decode.specs.Legal.{is_illegal}
use Rattle.vx_rows.specs.Table.{class_of}
use Rattle.vx_rows.specs.declared.row.Class.TheVariants.{VectorLoad, VectorStore}
use Rattle.vx_vstate.specs.Groups.{emul_eighths, registers_of_group}
use Rattle.vx_vstate.specs.Registers.{words_of_register, words_of_all, element_word, element_bit, with_field, is_byte_width}
use Rattle.vx_vstate.specs.State.{IsSetting}
use Rattle.vx_vector.specs.Accesses.{Access, Movement, access_bits, fields_of, registers_of_field, movement_count, with_loaded}
use Rattle.vx_vector.specs.Batches.{has_indices, place_of_access}

-- ---- the words of a load

module _ (vlen : ℕ) (value : Access → ℕ) where
  -- the registers after accesses, one behind another, that loaded these values
  abbrev pub after_loads : (words : List ℕ) → List Access → List ℕ
  after_loads words accesses = fold (λ ws a. with_loaded vlen ws a (value a)) words accesses

  -- a word in which an access lies, with what it loaded
  abbrev pub with_access : (word : ℕ) → Access → ℕ
  with_access word a = with_field word (element_bit (8 * a.width) (a.byte / a.width)) (8 * a.width) (value a)

  -- the word at a place, with what those of the accesses loaded that lie in it
  abbrev pub loaded_word : (place word : ℕ) → List Access → ℕ
  loaded_word place word accesses = fold with_access word (filter (λ a. place_of_access vlen a == place) accesses)

-- ---- what is read is as it must be

-- a movement of a valid instruction that is legal
pub record IsLegalMovement (m : Movement) : Type 0 where
  pub setting : IsSetting m.at
  pub valid : IsValid m.i
  pub row : (class_of m.i.op ≡ VectorLoad m.addressing m.encoded) ⊎ (class_of m.i.op ≡ VectorStore m.addressing m.encoded)
  pub legal : is_illegal m.i m.at ≡ false

-- the registers of the indices
abbrev pub registers_of_indices : Movement → ℕ
registers_of_indices m = registers_of_group (emul_eighths m.at.vtype (bits_of_eew m.encoded))

-- the words are those of all registers; the elements have a width of whole bytes, and lie with all fields in registers that
-- there are; so do the indices, and the bits of the mask lie in one register
pub record IsSoundMovement (m : Movement) : Type 0 where
  pub setting : IsSetting m.at
  pub words : length m.words ≡ words_of_all m.at.vlen
  pub width : IsTrue (is_byte_width (access_bits m))
  pub some_field : 1 ≤ fields_of m
  pub few_fields : fields_of m ≤ 8
  pub room : m.i.rd + fields_of m * registers_of_field m ≤ 32
  pub within : (i : ℕ) → i < movement_count m → element_word (access_bits m) i < registers_of_field m * words_of_register m.at.vlen
  pub masked : (i : ℕ) → i < movement_count m → element_word 1 i < words_of_register m.at.vlen
  pub index_room : has_indices m.addressing ≡ true → m.i.rs2 + registers_of_indices m ≤ 32
  pub indexed : has_indices m.addressing ≡ true → (i : ℕ) → i < movement_count m → element_word (bits_of_eew m.encoded) i < registers_of_indices m * words_of_register m.at.vlen

-- an access has a width of whole bytes and an address of 64 bits, and its place is that of an element of its width in
-- registers that there are
pub record IsPlacedAccess (vlen : ℕ) (a : Access) : Type 0 where
  pub width : IsTrue (is_byte_width (8 * a.width))
  pub address : a.address < 2 ^ 64
  pub register : a.register < 32
  pub aligned : a.byte % a.width ≡ 0
  pub inside : place_of_access vlen a < words_of_all vlen

-- ---- the words that are needed

-- the movement with other words
abbrev pub movement_others : Movement → List ℕ → Movement
movement_others m others = record m { words = others }

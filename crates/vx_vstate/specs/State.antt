-- The vector state: RISC-V "V" 1.0, section 3. At the start all is 0 but vill, which is this project's own choice.
use Rattle.std.specs.Prelude.{◌≡◌, ℕ, ◌<◌, ◌≤◌, List, length, Bool, false, ◌||◌, IsTrue}
use Rattle.vx_base.specs.Options.{is_register_length}
use Rattle.vx_vstate.specs.Configuration.{Configuration, configured}
use Rattle.vx_vstate.specs.Registers.{no_words, words_of_all, with_word, with_words}
use Rattle.vx_vstate.specs.Vtype.{vill, is_vtype, most_elements}
use Rattle.vx_vstate.specs.declared.avl.Avl.{Avl}

pub record VectorState : Type 0 where
  pub vlen : ℕ
  -- the words of the registers
  pub words : List ℕ
  pub vl : ℕ
  pub vtype : ℕ
  pub vstart : ℕ
  pub vxsat : Bool
  pub vxrm : ℕ

-- what is true of every vector state
pub record IsVectorState (s : VectorState) : Type 0 where
  pub vlen_in_range : IsTrue (is_register_length s.vlen)
  pub words_in_all : length s.words ≡ words_of_all s.vlen
  pub vtype_in_range : IsTrue (is_vtype s.vtype)
  pub vl_in_range : s.vl ≤ most_elements s.vlen s.vtype
  pub vstart_in_range : s.vstart < s.vlen
  pub vxrm_in_range : s.vxrm < 4

abbrev pub first_state : (vlen : ℕ) → VectorState
first_state vlen = record { vlen = vlen; words = no_words vlen; vl = 0; vtype = vill; vstart = 0; vxsat = false; vxrm = 0 }

abbrev pub configuration_of : VectorState → Configuration
configuration_of s = record { vl = s.vl; vtype = s.vtype }

-- the state after a configuration, which sets vstart to 0
abbrev pub set : VectorState → Configuration → VectorState
set s c = record s { vl = c.vl; vtype = c.vtype; vstart = 0 }

abbrev pub with_setting : VectorState → Avl → (wanted : ℕ) → VectorState
with_setting s avl wanted = set s (configured s.vlen (configuration_of s) avl wanted)

-- vstart set, and vxsat joined with what an instruction saturated
abbrev pub finished : VectorState → (vstart : ℕ) → Bool → VectorState
finished s vstart sat = record s { vstart = vstart; vxsat = s.vxsat || sat }

-- one instruction's view: the configuration, where to start, the rounding, and the scalar operand
pub record SettingView : Type 0 where
  pub vlen : ℕ
  pub vl : ℕ
  pub vtype : ℕ
  pub vstart : ℕ
  pub vxrm : ℕ
  pub scalar : ℕ

-- what is true of every setting
pub record IsSetting (s : SettingView) : Type 0 where
  pub vlen_in_range : IsTrue (is_register_length s.vlen)
  pub vtype_in_range : IsTrue (is_vtype s.vtype)
  pub vl_in_range : s.vl ≤ most_elements s.vlen s.vtype
  pub vstart_in_range : s.vstart < s.vlen
  pub vxrm_in_range : s.vxrm < 4

abbrev pub setting_of : VectorState → (scalar : ℕ) → SettingView
setting_of s scalar = record { vlen = s.vlen; vl = s.vl; vtype = s.vtype; vstart = s.vstart; vxrm = s.vxrm; scalar = scalar }

-- a view after a configuration
abbrev pub reconfigured : SettingView → Avl → (wanted : ℕ) → SettingView
reconfigured s avl wanted =
    let c = configured s.vlen (record { vl = s.vl; vtype = s.vtype }) avl wanted in
    record s { vl = c.vl; vtype = c.vtype; vstart = 0 }

-- a word of a register set
abbrev pub with_register_word : VectorState → (register w value : ℕ) → VectorState
with_register_word s register w value = record s { words = with_word s.vlen s.words register w value }

-- words of a group set, one behind another
abbrev pub with_register_words : VectorState → (register w : ℕ) → (values : List ℕ) → VectorState
with_register_words s register w values = record s { words = with_words s.vlen s.words register w values }

-- The words of the command line and what they ask for; the program's name isn't among them. This project's own.
use Rattle.std.specs.Prelude.{◌≡◌, ◌≢◌, ℕ, ◌+◌, ◌^◌, ◌<◌, ◌≤◌, Bool, true, false, ◌⊎◌, List, [], ◌∷◌, ◌++◌, length, take, Option, Some, None, if◌then◌else◌, codes, decimal}
use Rattle.vx_base.specs.Options.{is_register_length, is_lane_count, is_bank_count}
use Rattle.vx_words.specs.declared.image_job.ImageJob.{ImageJob}
use Rattle.vx_words.specs.declared.image_job.ImageJob.TheVariants.{Run, Alone}

-- the options, each of which takes a number
pub data OptionName : Type 0 where
  Vlen : OptionName
  Window : OptionName
  Lanes : OptionName
  Banks : OptionName
  BankTime : OptionName
  Frames : OptionName
  Budget : OptionName

-- the word of an option, the least and the greatest number that it takes, and which of those between it takes
pub record OptionRow : Type 0 where
  pub word : List ℕ
  pub least : ℕ
  pub greatest : ℕ
  pub takes : ℕ → Bool

-- each number
abbrev pub every : ℕ → Bool
every number = true

abbrev pub row_of : OptionName → OptionRow
row_of Vlen = record { word = codes "--vlen"; least = 128; greatest = 2048; takes = is_register_length }
row_of Window = record { word = codes "--window"; least = 1; greatest = 1; takes = every }
row_of Lanes = record { word = codes "--lanes"; least = 1; greatest = 8; takes = is_lane_count }
row_of Banks = record { word = codes "--banks"; least = 1; greatest = 16; takes = is_bank_count }
row_of BankTime = record { word = codes "--bank-time"; least = 1; greatest = 16; takes = every }
row_of Frames = record { word = codes "--frames"; least = 16; greatest = 16384; takes = every }
row_of Budget = record { word = codes "--budget"; least = 1; greatest = 2 ^ 40; takes = every }

-- the word of what is done with an image
abbrev pub job_word : ImageJob → List ℕ
job_word Run = codes "run"
job_word Alone = codes "alone"

-- whether the option may be given for it
abbrev pub is_option_of : ImageJob → OptionName → Bool
is_option_of Run Vlen = true
is_option_of Run Window = true
is_option_of Run Lanes = true
is_option_of Run Banks = true
is_option_of Run BankTime = true
is_option_of Run Frames = true
is_option_of Run Budget = true
is_option_of Alone Vlen = true
is_option_of Alone Window = false
is_option_of Alone Lanes = false
is_option_of Alone Banks = false
is_option_of Alone BankTime = false
is_option_of Alone Frames = false
is_option_of Alone Budget = true

abbrev pub is_same : OptionName → OptionName → Bool
is_same Vlen Vlen = true
is_same Window Window = true
is_same Lanes Lanes = true
is_same Banks Banks = true
is_same BankTime BankTime = true
is_same Frames Frames = true
is_same Budget Budget = true
is_same one other = false

-- an option and the number that it is given
pub record Given : Type 0 where
  pub option : OptionName
  pub number : ℕ

-- the number that an option is given, where it is given one
abbrev pub given_number : OptionName → List Given → Option ℕ
given_number option [] = None
given_number option (given ∷ givens) = if is_same given.option option then Some given.number else given_number option givens

-- the number is one that the option takes
abbrev pub IsInRange : Given → Type 0
IsInRange given =
    ((row_of given.option).least ≤ given.number)
    × (given.number ≤ (row_of given.option).greatest)
    × ((row_of given.option).takes given.number ≡ true)

-- the option may be given for the job, and takes the number
abbrev pub IsFor : ImageJob → Given → Type 0
IsFor job given = (is_option_of job given.option ≡ true) × IsInRange given

-- the words are the option and its number: two words, or one. A number is its decimal digits, without a leading zero.
abbrev pub Spell : List (List ℕ) → Given → Type 0
Spell words given =
    (words ≡ (row_of given.option).word ∷ decimal given.number ∷ [])
    ⊎ (words ≡ ((row_of given.option).word ++ codes "=" ++ decimal given.number) ∷ [])

-- the words are options of the job with their numbers, one after another, and no option is given twice
abbrev pub SpellAll : ImageJob → List (List ℕ) → List Given → Type 0
SpellAll job words [] = words ≡ []
SpellAll job words (given ∷ givens) =
    (option : List (List ℕ))
    × (rest : List (List ℕ))
    × (words ≡ option ++ rest)
    × Spell option given
    × IsFor job given
    × (given_number given.option givens ≡ None)
    × SpellAll job rest givens

-- the word is a file: it isn't empty, and doesn't begin with `-`
abbrev pub IsFile : List ℕ → Type 0
IsFile [] = ⊥
IsFile (first ∷ rest) = first ≢ 45

-- what file an image is in: raw bytes, or an ELF file
pub data ImageFile : Type 0 where
  Raw : (name : List ℕ) → ImageFile
  Elf : (name : List ℕ) → ImageFile

-- the file's name
abbrev pub name_of : ImageFile → List ℕ
name_of (Raw name) = name
name_of (Elf name) = name

-- the word is raw bytes under this name
abbrev pub IsRawImage : List ℕ → List ℕ → Type 0
IsRawImage word name = (0 < length name) × (word ≡ codes "raw:" ++ name)

-- the word is the image: `raw:` and a name is raw bytes, any other file an ELF file
abbrev pub IsImage : List ℕ → ImageFile → Type 0
IsImage word (Raw name) = IsRawImage word name
IsImage word (Elf name) = (word ≡ name) × IsFile word × ((raw : List ℕ) → IsRawImage word raw → ⊥)

pub data Command : Type 0 where
  -- do the job with the image, under these options
  Execute : (job : ImageJob) (givens : List Given) (image : ImageFile) → Command
  -- list the instructions of the file of this name
  Dis : (name : List ℕ) → Command
  -- assemble the source in the file of this name
  Asm : (name : List ℕ) → Command

-- the name of the file that a command is on
abbrev pub file_of : Command → List ℕ
file_of (Execute job givens image) = name_of image
file_of (Dis name) = name
file_of (Asm name) = name

-- the words ask for the command
abbrev pub AskFor : List (List ℕ) → Command → Type 0
AskFor words (Execute job givens image) =
    (options : List (List ℕ))
    × (word : List ℕ)
    × (words ≡ job_word job ∷ (options ++ word ∷ []))
    × SpellAll job options givens
    × IsImage word image
AskFor words (Dis name) = (words ≡ codes "dis" ∷ name ∷ []) × IsFile name
AskFor words (Asm name) = (words ≡ codes "asm" ∷ name ∷ []) × IsFile name

-- the words ask for a command on the file of this name
abbrev pub AskForFile : List (List ℕ) → List ℕ → Type 0
AskForFile words name = (command : Command) × AskFor words command × (file_of command ≡ name)

-- the words ask for a job with the image
abbrev pub AskToExecute : List (List ℕ) → ImageFile → Type 0
AskToExecute words image = (job : ImageJob) × (givens : List Given) × AskFor words (Execute job givens image)

-- the words ask for no command
abbrev pub AreOutside : List (List ℕ) → Type 0
AreOutside words = (command : Command) → AskFor words command → ⊥

-- the words begin some that ask for a command
abbrev pub AreBegun : List (List ℕ) → Type 0
AreBegun words = (rest : List (List ℕ)) × (command : Command) × AskFor (words ++ rest) command

-- the words before this index begin a command, and with the word at it they begin none; where all of them begin one, the
-- index is their number
pub record IsFirstBad (words : List (List ℕ)) (index : ℕ) : Type 0 where
  pub begun : AreBegun (take index words)
  pub within : index ≤ length words
  pub bad : index < length words → AreBegun (take (index + 1) words) → ⊥

-- Small sources and what they are, as a table that the definitions are computed on. This project's own.
use Rattle.std.specs.Prelude.{◌≡◌, ℕ, List, [], ◌∷◌, ◌++◌, map, codes, Option, Some, None}
use Rattle.vx_elf.specs.declared.program.Program.{Program}
use Rattle.vx_language.specs.Assembly.{first_fault, assembled}
use Rattle.vx_language.specs.declared.fault.Fault.{Fault}
use Rattle.vx_language.specs.declared.fault.FaultKind.{FaultKind}
use Rattle.vx_language.specs.declared.fault.FaultKind.TheVariants.{BadByte, BadToken, UnknownName, BadOperand, OutOfRange, Twice, Undefined, TooLarge}

-- a source, and its first fault
pub record FaultExample : Type 0 where
  pub source : List ℕ
  pub fault : Option Fault

abbrev pub at : FaultKind → ℕ → ℕ → Option Fault
at kind start end = Some (record { kind = kind; span = record { start = start; end = end } })

abbrev pub faulty : List ℕ → Option Fault → FaultExample
faulty source fault = record { source = source; fault = fault }

unfoldable pub fault_examples : List FaultExample
fault_examples =
    faulty [] None ∷
    faulty (codes "addi a0, a0, 2047") None ∷
    faulty (codes "addi a0, a0, 2048") (at OutOfRange 13 17) ∷
    -- a part that is read is judged, also where the statement breaks later
    faulty (codes "addi a0, a0, 5000, 5") (at OutOfRange 13 17) ∷
    -- in a target's place every name is a label
    faulty (codes "jal a0, a0, 4") (at Undefined 8 10) ∷
    -- lexical faults don't end the reading: x is defined
    faulty (codes "j x\n@\nx:") (at BadToken 4 5) ∷
    faulty (codes "fo" ++ 200 ∷ []) (at UnknownName 0 2) ∷
    faulty (codes ".ascii \"a" ++ 7 ∷ codes "\"") (at BadByte 9 10) ∷
    faulty (codes ".ascii \"a" ++ 7 ∷ []) (at BadToken 7 10) ∷
    faulty (codes "li a0, 18446744073709551616") (at BadToken 7 27) ∷
    -- the line's end is behind its comment
    faulty (codes "add a0,  # one\n") (at BadOperand 14 14) ∷
    faulty (codes ".data\nnop") (at BadOperand 6 9) ∷
    faulty (codes ".byte 1, 256") (at OutOfRange 9 12) ∷
    faulty (codes "x: x:") (at Twice 3 4) ∷
    -- offsets are judged where there is no other fault
    faulty (codes ".zero 4096\nx: .byte 0\nbeqz a0, x") (at BadOperand 22 26) ∷
    faulty (codes "beqz a0, x\n.zero 4092\nx:") (at OutOfRange 9 10) ∷
    faulty (codes ".zero 8388608") None ∷
    faulty (codes ".zero 8388608\nx: nop") (at TooLarge 17 20) ∷
    []

-- a source without a fault, and its program
pub record ProgramExample : Type 0 where
  pub source : List ℕ
  pub program : Program

abbrev pub written : List ℕ → (entry : ℕ) → (code vars : List ℕ) → ℕ → ProgramExample
written source entry code vars zeros = record { source = source; program = record { entry = entry; code = code; vars = vars; zero = zeros } }

unfoldable pub program_examples : List ProgramExample
program_examples =
    written [] 0x10000 [] [] 0 ∷
    written (codes "addi a0, a0, 2047") 0x10000 (0x13 ∷ 0x05 ∷ 0xf5 ∷ 0x7f ∷ []) [] 0 ∷
    written (codes "nop\n_start: j _start") 0x10004 (0x13 ∷ 0 ∷ 0 ∷ 0 ∷ 0x6f ∷ 0 ∷ 0 ∷ 0 ∷ []) [] 0 ∷
    -- -2049 is lui and addiw: the low part is 2047, so the high part is 0xfffff
    written (codes "li a0, -2049") 0x10000 (0x37 ∷ 0xf5 ∷ 0xff ∷ 0xff ∷ 0x1b ∷ 0x05 ∷ 0xf5 ∷ 0x7f ∷ []) [] 0 ∷
    -- the variables begin at 0x11000
    written (codes "la a0, x\n.data\n.byte 1\nx: .ascii \"\\n\"\n.zero 5") 0x10000 (0x17 ∷ 0x15 ∷ 0 ∷ 0 ∷ 0x13 ∷ 0x05 ∷ 0x15 ∷ 0 ∷ []) (1 ∷ 10 ∷ []) 5 ∷
    -- zeros of `.align` aren't made by `.zero`
    written (codes ".data\n.zero 3\n.align 2") 0x10000 [] (0 ∷ 0 ∷ 0 ∷ 0 ∷ []) 0 ∷
    []

-- lines of vector instructions, and their words
unfoldable pub vector_examples : List ProgramExample
vector_examples =
    written (codes "vadd.vv v1, v2, v3") 0x10000 (0xd7 ∷ 0x80 ∷ 0x21 ∷ 0x02 ∷ []) [] 0 ∷
    -- a multiply-add has the factor in rs1 first; vm is 0
    written (codes "vmacc.vx v1, a0, v2, v0.t") 0x10000 (0xd7 ∷ 0x60 ∷ 0x25 ∷ 0xb4 ∷ []) [] 0 ∷
    -- vtype by its words and by its number
    written (codes "vsetvli t0, a0, e32, m2, ta, ma") 0x10000 (0xd7 ∷ 0x72 ∷ 0x15 ∷ 0x0d ∷ []) [] 0 ∷
    written (codes "vsetvli t0, a0, 0xd1") 0x10000 (0xd7 ∷ 0x72 ∷ 0x15 ∷ 0x0d ∷ []) [] 0 ∷
    -- two fields: nf is 1
    written (codes "vlseg2e8.v v2, (a0), v0.t") 0x10000 (0x07 ∷ 0x01 ∷ 0x05 ∷ 0x20 ∷ []) [] 0 ∷
    []

-- faults in lines of vector instructions
unfoldable pub vector_fault_examples : List FaultExample
vector_fault_examples =
    -- the number of vadd.vi is signed
    faulty (codes "vadd.vi v1, v2, 16") (at OutOfRange 16 18) ∷
    faulty (codes "vsetvli t0, a0, e33, m2, ta, ma") (at BadOperand 16 19) ∷
    -- a row without a mask
    faulty (codes "vmv.x.s a0, v1, v0.t") (at BadOperand 14 15) ∷
    faulty (codes "vlseg9e8.v v2, (a0)") (at UnknownName 0 10) ∷
    []

-- the definitions give what the tables say
pub record ExamplesHold : Type 0 where
  pub faults : map (λ (e : FaultExample). first_fault e.source) fault_examples ≡ map (λ (e : FaultExample). e.fault) fault_examples
  pub programs : map (λ (e : ProgramExample). assembled e.source) program_examples ≡ map (λ (e : ProgramExample). e.program) program_examples
  pub vector_faults : map (λ (e : FaultExample). first_fault e.source) vector_fault_examples ≡ map (λ (e : FaultExample). e.fault) vector_fault_examples
  pub vectors : map (λ (e : ProgramExample). assembled e.source) vector_examples ≡ map (λ (e : ProgramExample). e.program) vector_examples

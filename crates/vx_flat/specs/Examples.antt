-- Small states and where they lead, on which the definitions are computed. VLEN is 128; the registers from v8 on hold 1 to 8
-- where nothing else is said. This project's own; the values are worked out by hand.
use Rattle.std.specs.Prelude.{◌≡◌, ℕ, ◌^◌, ◌-◌, true, false, List, [], ◌∷◌, ◌++◌, map, pos, replicate}
use Rattle.vx_decode.specs.declared.instr.Instr.{Instr}
use Rattle.vx_image.specs.Pages.{Memory}
use Rattle.vx_rows.specs.declared.op.Op.{Op}
use Rattle.vx_rows.specs.declared.op.Op.TheVariants.{Elem, Memory as MemoryRow}
use Rattle.vx_rows.specs.declared.op.ElemOp.TheVariants.{VaddVv}
use Rattle.vx_rows.specs.declared.op.MemoryOp.TheVariants.{Vle64ff, Vsse64}
use Rattle.vx_rows.specs.declared.row.Addressing.TheVariants.{FaultOnlyFirst, Strided}
use Rattle.vx_rows.specs.declared.row.Eew.TheVariants.{E64}
use Rattle.vx_vstate.specs.Configuration.{configured}
use Rattle.vx_vstate.specs.declared.avl.Avl.TheVariants.{Value}
use Rattle.vx_flat.specs.Memory.{put_number}
use Rattle.vx_flat.specs.Outcome.{faulted}
use Rattle.vx_flat.specs.Outcome.Outcome.{Next}
use Rattle.vx_flat.specs.State.{Flat, at_element, completed}
use Rattle.vx_flat.specs.Step.{calculate_by}
use Rattle.vx_flat.specs.Transfers.{transfer, transferred}
use Rattle.vx_flat.specs.Transfers.Direction.{Loading, Storing}
use Rattle.vx_flat.specs.Vectors.{reading_at}

-- registers of 128 bits, v0 with a mask in its first word
abbrev pub words_with : (mask : ℕ) → List ℕ
words_with mask = (mask ∷ replicate 15 0) ++ (1 ∷ 2 ∷ 3 ∷ 4 ∷ 5 ∷ 6 ∷ 7 ∷ 8 ∷ replicate 40 0)

-- page 16, which may be read and written; of its bytes the first 64
abbrev pub one_page : Memory
one_page = record { number = 16; permissions = 6; bytes = replicate 64 0 } ∷ []

-- a state with e64, m4, a length and a vstart, an address in x10, a stride in x11, and a mask
abbrev pub state_at : (vl vstart address stride mask : ℕ) → Flat
state_at vl vstart address stride mask = record {
  pc = 0;
  x = replicate 10 0 ++ (address ∷ stride ∷ replicate 20 0);
  v = record { vlen = 128; words = words_with mask; vl = vl; vtype = 0x1a; vstart = vstart; vxsat = false; vxrm = 0 };
  memory = one_page;
  output = [];
}

-- an instruction with v8 as its first operand, x10 and x11
abbrev pub instr : Op → Instr
instr op = record { op = op; rd = 8; rs1 = 10; rs2 = 11; imm = pos 0; vm = true; nf = 0 }

abbrev pub masked : Op → Instr
masked op = record (instr op) { vm = false }

pub record ExamplesHold : Type 0 where
  -- at VLEN 256 with e32, m2, the lengths 0, 16, 17 and 2 ^ 64 - 1 give vl 0, 16, 16 and 16
  pub lengths : map (λ (n : ℕ). (configured 256 (record { vl = 0; vtype = 2 ^ 63 }) (Value n) 0x11).vl) (0 ∷ 16 ∷ 17 ∷ (2 ^ 64 - 1) ∷ []) ≡ 0 ∷ 16 ∷ 16 ∷ 16 ∷ []
  -- vadd.vv with vstart 4 and vl 4, and with vl 0: no register changes, and vstart is 0
  pub at_the_end : let s = state_at 4 4 0 0 0 in calculate_by (reading_at s (instr (Elem VaddVv))) s (instr (Elem VaddVv)) ≡ Next (completed s)
  pub of_none : let s = state_at 0 0 0 0 0 in calculate_by (reading_at s (instr (Elem VaddVv))) s (instr (Elem VaddVv)) ≡ Next (completed s)
  -- vsse64.v with stride 0: the elements 1 to 8 go to one word, which then holds 8
  pub to_one_word : let s = state_at 8 0 0x10000 0 0 in
      transferred (transfer Storing Strided E64 s (instr (MemoryRow Vsse64))) s ≡ Next (completed (record s { memory = put_number one_page 0x10000 8 8 }))
  -- vsse64.v with stride 4096: element 0 is stored, and element 1, whose page isn't mapped, faults
  pub fails_within : let s = state_at 8 0 0x10000 4096 0 in
      transferred (transfer Storing Strided E64 s (instr (MemoryRow Vsse64))) s ≡ faulted (at_element 1 (record s { memory = put_number one_page 0x10000 8 1 })) 15 0x11000
  -- vle64ff.v whose element 6 lies on the next page, which isn't mapped: six are loaded, of zeros, and vl is 6
  pub is_cut_off : let s = state_at 8 0 0x10fd0 0 0 in
      transferred (transfer Loading FaultOnlyFirst E64 s (instr (MemoryRow Vle64ff))) s
      ≡ Next (completed (record s { v = record s.v { vl = 6; words = replicate 22 0 ++ (7 ∷ 8 ∷ replicate 40 0) } }))
  -- vle64ff.v at a misaligned address: element 0 isn't active, so vl is 1, and nothing is loaded
  pub is_masked_off : let s = state_at 8 0 0x10001 0 0xfe in
      transferred (transfer Loading FaultOnlyFirst E64 s (masked (MemoryRow Vle64ff))) s ≡ Next (completed (record s { v = record s.v { vl = 1 } }))
  -- with element 0 active, it faults there, and vl stays
  pub faults_first : let s = state_at 8 0 0x10001 0 0xff in
      transferred (transfer Loading FaultOnlyFirst E64 s (masked (MemoryRow Vle64ff))) s ≡ faulted s 4 0x10001

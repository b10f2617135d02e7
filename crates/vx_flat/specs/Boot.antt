-- The boot of an image on a hart. This project's own; that x2 is the stack pointer is the RISC-V psABI's.
use Rattle.std.specs.Prelude.{ℕ, List, [], ◌∷◌, replicate}
use Rattle.vx_image.specs.Pages.{Image}
use Rattle.vx_vstate.specs.State.{first_state}
use Rattle.vx_flat.specs.State.{Flat}
use Rattle.vx_flat.specs.declared.hart.Hart.{Hart}

-- x2 points below the top of the stack, and the other registers are 0
unfoldable pub first_registers : List ℕ
first_registers = 0 ∷ 0 ∷ 0x3fffffff00 ∷ replicate 29 0

-- the first state of a process
unfoldable pub booted : Hart → Image → Flat
booted hart image = record {
  pc = image.entry;
  x = first_registers;
  v = first_state hart.vlen;
  memory = image.pages;
  output = [];
}

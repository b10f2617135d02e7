-- Vector registers that are kept. This project's own.
use Rattle.std.specs.Prelude.{ℕ, List}

pub record Registers : Type 0 where
  pub vlen : ℕ
  -- their words, those of a register one behind another
  pub words : List ℕ

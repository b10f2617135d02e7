-- What an instruction leaves of physical memory, where a process's memory stands on one. This project's own.
use Rattle.std.specs.Prelude.{ℕ, List}
use Rattle.vx_base.specs.declared.perm.PageEntry.{PageEntry}

pub record Rest : Type 0 where
  -- the frames, and the current cycle
  pub frames : ℕ
  pub cycle : ℕ
  -- the words, with those of the process's pages made 0
  pub words : List ℕ
  -- the process's pages, and the frame of each
  pub pages : List PageEntry
  pub places : List ℕ

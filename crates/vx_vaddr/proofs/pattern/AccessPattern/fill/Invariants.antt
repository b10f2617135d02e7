-- The fields so far are in the list.
use Rattle.vx_vaddr.specs.Views.{movement_with}
use Rattle.vx_vaddr.proofs.Offsets.{IsFilled}
use Rattle.vx_vaddr.proofs.pattern.AccessPattern.fill.Given as goal

abbrev pub invariant-loop-field : goal.invariant-loop-field
invariant-loop-field g l = IsFilled (movement_with l.self (g.S.WordFile.words l.file)) l.i l.field l.list

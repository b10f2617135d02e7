-- One leaf entry more.
use Rattle.std.proofs.Common.{ℕ, ◌+◌, ◌*◌, refl, ap, ◌∙◌}
use Rattle.vx_tables.specs.Residency.{at_boot}
use Rattle.vx_tables.specs.Tables.{leaf_entry}
use Rattle.vx_walk.proofs.Written.{no-words, one-more}
use Rattle.vx_walk.proofs.building.write_leaves.Goals as goal

pub loop-i-init : goal.loop-i-init
loop-i-init g c = record {
  frames = refl;
  makes = no-words c.accesses_are_made_in_turn.ensures.none (g.C.Cells.state c.args.cells.now) (512 * c.args.frame) (λ i. leaf_entry (at_boot c.args.first_page c.args.pages.now) (c.args.base + i));
}

pub loop-i-preserved : goal.loop-i-preserved
loop-i-preserved g c = record {
  frames = c.write_word.ensures.frames ∙ c.loop-i.invariant.frames;
  makes = one-more c.accesses_are_made_in_turn.ensures.joined (g.C.Cells.state c.args.cells.now) (g.C.Cells.state c.loop-i.cells) (g.C.Cells.state c.write_word.new.cells) (512 * c.args.frame) (λ i. leaf_entry (at_boot c.args.first_page c.args.pages.now) (c.args.base + i)) c.loop-i.i _ c.leaf_value-value.result refl
      (c.leaf_value-value.ensures ∙ ap (λ (n : ℕ). leaf_entry (at_boot c.args.first_page c.args.pages.now) (c.args.base + n)) c.from.ensures)
      c.loop-i.invariant.makes c.write_word.ensures;
}

-- One word more.
use Rattle.std.proofs.Common.{◌*◌, refl, ◌∙◌, arith}
use Rattle.vx_paged.specs.Booting.{word_in}
use Rattle.vx_paged.proofs.Turns.{no-words, one-more}
use Rattle.vx_paged.proofs.boot.write_page.Goals as goal

pub loop-w-init : goal.loop-w-init
loop-w-init g c = record {
  frames = refl;
  makes = no-words c.accesses_are_made_in_turn.ensures.none (g.C.Cells.state c.args.cells.now) (512 * c.args.frame) (word_in c.args.bytes.now);
}

pub loop-w-preserved : goal.loop-w-preserved
loop-w-preserved g c = record {
  frames = c.write_word.ensures.frames ∙ c.loop-w.invariant.frames;
  makes = one-more c.accesses_are_made_in_turn.ensures.joined (g.C.Cells.state c.args.cells.now) (g.C.Cells.state c.loop-w.cells) (g.C.Cells.state c.write_word.new.cells) (512 * c.args.frame) (word_in c.args.bytes.now) c.loop-w.w _ c.word_at.result refl
      c.word_at.ensures
      c.loop-w.invariant.makes c.write_word.ensures;
}

pub returns-clause-small : goal.returns-clause-small
returns-clause-small g c = λ i. omega (arith, c.type_inv.bytes i)

-- Of the words that were asked for those that are full.
use Rattle.std.proofs.Common.{◌≡◌, ◌<◌, ◌≤◌, IsTrue, arith, rules}
use Rattle.vx_operands.specs.Forms.{reading}
use Rattle.vx_operands.proofs.Filled.{never_sat}
use Rattle.vx_vstate.specs.Views.{view_of}
use Rattle.vx_elem.specs.Kinds.{is_plain}
use Rattle.vx_elem.proofs.Facts.{plain_each}
use Rattle.vx_elem.proofs.Unrounded.{unsaturated}
use Rattle.vx_elem.proofs.full.words_of_form.Goals as goal

pub words_at-requires-clause-within : goal.words_at-requires-clause-within
words_at-requires-clause-within c k l = let most : c.full_count-count.result ≤ c.args.most = c.full_count-count.ensures.most in c.requires.within k (omega (arith, l, most))

pub returns-clause-sat : goal.returns-clause-sat
returns-clause-sat c k l =
    let kind : IsTrue (is_plain c.args.form.family) = search rules in
    never_sat (reading c.args.form (view_of c.args.at.now) c.args.regs.now c.args.words.now) k (plain_each c.args.form.family kind) (unsaturated c.args.form.family kind)

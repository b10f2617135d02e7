-- Of the words that were asked for those that are full.
use Rattle.std.proofs.Common.{◌≡◌, ◌*◌, ◌+◌, ◌<◌, ◌≤◌, IsTrue, inl, arith, rules}
use Rattle.vx_operands.specs.Forms.{reading}
use Rattle.vx_operands.proofs.ByIndex.{quiet}
use Rattle.vx_vector.specs.Laws.{per_word}
use Rattle.vx_vstate.specs.Views.{view_of}
use Rattle.vx_mask.specs.Kinds.{is_logic}
use Rattle.vx_mask.proofs.Bitwise.{logic_quiet}
use Rattle.vx_mask.proofs.Families.{two_registers}
use Rattle.vx_mask.proofs.full.words_of_form.Goals as goal

pub words_by_family-requires-clause-registers : goal.words_by_family-requires-clause-registers
words_by_family-requires-clause-registers c =
    let kind : IsTrue (is_logic c.args.form.family) = search rules in
    two_registers c.args.form c.requires.kind (inl kind)

pub words_by_family-requires-clause-within : goal.words_by_family-requires-clause-within
words_by_family-requires-clause-within c k l = let most : c.full_count-count.result ≤ c.args.most = c.full_count-count.ensures.most in c.requires.within k (omega (arith, l, most))

pub returns-clause-sat : goal.returns-clause-sat
returns-clause-sat c w l =
    let kind : IsTrue (is_logic c.args.form.family) = search rules in
    let r = reading c.args.form (view_of c.args.at.now) c.args.regs.now c.args.words.now in
    quiet r w (λ k l. logic_quiet r kind (w * per_word r + k))

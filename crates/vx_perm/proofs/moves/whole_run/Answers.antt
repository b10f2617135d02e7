-- All elements are below vl.
use Rattle.vx_vstate.specs.Views.{view_of}
use Rattle.std.proofs.Common.{ℕ, List, [], ◌+◌, ◌&&◌, leb, sym, ◌∙◌}
use Rattle.std.proofs.lemmas.Bool.{and_parts}
use Rattle.vx_operands.specs.Forms.{is_unmasked, reading}
use Rattle.vx_perm.proofs.Joining.{leb_tells}
use Rattle.vx_perm.proofs.moves.whole_run.Goals as goal

pub run_of-requires-clause-below : goal.run_of-requires-clause-below
run_of-requires-clause-below c =
    let none : List ℕ = [] in
    let r = reading c.args.form (view_of c.args.at.now) c.args.regs.now none in
    let all = sym (c.are_active.ensures none) ∙ c.if-are_active.true in
    let two = and_parts (is_unmasked r && leb c.args.at.now.vstart c.args.first) (leb (c.args.first + c.args.count) c.args.at.now.vl) all in
    leb_tells (c.args.first + c.args.count) c.args.at.now.vl two.1

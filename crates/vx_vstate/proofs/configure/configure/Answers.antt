use Rattle.std.proofs.Common.{rules, IsTrue, ◌≡◌, false}
use Rattle.vx_vstate.specs.Vtype.{is_accepted}
use Rattle.vx_vstate.specs.Configuration.{is_lost}
use Rattle.vx_vstate.proofs.Lengths.{length-le}
use Rattle.vx_vstate.proofs.configure.configure.Goals as goal

pub returns-clause-vl_in_range : goal.returns-clause-vl_in_range
returns-clause-vl_in_range c =
    let accepted : IsTrue (is_accepted c.args.wanted) = search rules in
    let kept : is_lost c.args.avl c.args.old.vtype c.args.wanted ≡ false = search rules in
    rw (c.length_for-vl.ensures, c.vlmax.ensures) (length-le c.args.avl c.args.vlen c.args.old.vl c.args.old.vtype c.args.wanted accepted kept c.requires.vl_in_range)

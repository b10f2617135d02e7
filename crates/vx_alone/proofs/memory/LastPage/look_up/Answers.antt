-- The page of an address serves all of its addresses.
use Rattle.std.proofs.Common.{arith}
use Rattle.vx_alone.proofs.Accesses.{place-within, serves-page}
use Rattle.vx_alone.proofs.memory.LastPage.look_up.Goals as goal

pub overflow_sub-self : goal.overflow_sub-self
overflow_sub-self c =
    let granted = rw c.deref.ensures.value at c.in-Some.ensures in
    place-within c.args.entries.now.items c.requires.rising c.args.address c.in-Some.place granted.place

pub returns-clause-serves : goal.returns-clause-serves
returns-clause-serves c =
    let granted = rw c.deref.ensures.value at c.in-Some.ensures in
    let within = place-within c.args.entries.now.items c.requires.rising c.args.address c.in-Some.place granted.place in
    serves-page c.args.entries.now.items c.requires.rising c.args.want c.args.address c.in-Some.place _ granted (omega (arith, within))

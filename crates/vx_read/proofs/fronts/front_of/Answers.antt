use Rattle.std.proofs.Common.{map, string_bytes}
use Rattle.vx_read.proofs.First.{bad_none, bad_form}
use Rattle.vx_read.proofs.fronts.front_of.Goals as goal

pub returns-in_default : goal.returns-in_default
returns-in_default c = rw c.in_default.ensures (bad_none c.args.job c.args.numbers.now)

pub returns-in-Image : goal.returns-in-Image
returns-in-Image c = rw c.in-Some.ensures (c.image_front.ensures c.in-Some.word.now c.in-Image.ensures)

pub returns-in-Both : goal.returns-in-Both
returns-in-Both c = rw c.in-Some.ensures (c.both_front.ensures c.in-Some.word.now c.in-Both.ensures)

pub returns-in-Other : goal.returns-in-Other
returns-in-Other c = rw c.in-Some.ensures (bad_form c.args.job c.args.numbers.now c.in-Some.word.now (map string_bytes c.in-Some.rest.now) c.in-Other.ensures)

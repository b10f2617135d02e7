-- Lane by lane.
use Rattle.std.proofs.Common.{rules, if◌then◌else◌}
use Rattle.vx_vector.specs.Numbers.{extended_at, plain}
use Rattle.vx_elem.proofs.words.extended.Goals as goal

pub returns : goal.returns
returns c = c.make.ensures.value (λ l. plain (if c.args.is_signed then extended_at c.args.widths.a c.args.widths.width l.a else l.a)) (λ l s w p. search rules)

use Rattle.std.proofs.Common.{sym, ◌∙◌, ap, arith}
use Rattle.vx_language.specs.Faults.{first_of}
use Rattle.vx_lex.proofs.First.{first_bad-at, bad_bytes-more, bad_bytes-none}
use Rattle.vx_lex.proofs.byte.first_bad_byte.Goals as goal

pub returns-then-not-is_source_byte : goal.returns-then-not-is_source_byte
returns-then-not-is_source_byte c =
    sym (ap first_of c.loop-i.invariant ∙ first_bad-at c.args.source.now c.loop-i.i (omega arith) (sym c.is_source_byte.ensures ∙ c.if-not-is_source_byte.true))

pub loop-i-preserved : goal.loop-i-preserved
loop-i-preserved c = c.loop-i.invariant ∙ bad_bytes-more c.args.source.now c.loop-i.i (omega arith) (sym c.is_source_byte.ensures ∙ c.if-not-is_source_byte.false)

pub returns : goal.returns
unfolding first_of
returns c = sym (ap first_of (c.loop-i.invariant ∙ bad_bytes-none c.loop-i.i c.args.source.now c.loop-i.i (omega arith)))

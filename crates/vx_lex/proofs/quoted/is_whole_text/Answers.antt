use Rattle.std.proofs.Common.{sym, ◌∙◌, ap, drop, ◌+◌, arith}
use Rattle.std.proofs.Math.ListN.{drop_of_length-le}
use Rattle.vx_language.specs.Texts.{is_whole_text}
use Rattle.vx_lex.proofs.Quotes.{is_whole_text-broken, is_whole_text-closed, is_whole_text-more}
use Rattle.vx_lex.proofs.quoted.is_whole_text.Goals as goal

pub returns-then-breaks : goal.returns-then-breaks
returns-then-breaks c =
    sym (c.loop-byte.invariant ∙ is_whole_text-broken c.loop-byte.escaped c.args.bytes.now c.loop-byte.byte-index (omega arith) (sym c.breaks.ensures ∙ c.if-breaks.true))

pub returns-then-closes : goal.returns-then-closes
returns-then-closes c =
    sym (c.loop-byte.invariant ∙ is_whole_text-closed c.loop-byte.escaped c.args.bytes.now c.loop-byte.byte-index (omega arith) (sym c.breaks.ensures ∙ c.if-breaks.false) (sym c.closes.ensures ∙ c.if-closes.true))

pub loop-byte-preserved : goal.loop-byte-preserved
loop-byte-preserved c =
    c.loop-byte.invariant
    ∙ (is_whole_text-more c.loop-byte.escaped c.args.bytes.now c.loop-byte.byte-index (omega arith) (sym c.breaks.ensures ∙ c.if-breaks.false) (sym c.closes.ensures ∙ c.if-closes.false)
    ∙ sym (ap (λ e. is_whole_text e (drop (c.loop-byte.byte-index + 1) c.args.bytes.now)) c.escapes-escaped.ensures))

pub returns : goal.returns
unfolding is_whole_text
returns c = sym (c.loop-byte.invariant ∙ ap (is_whole_text c.loop-byte.escaped) (drop_of_length-le c.args.bytes.now {i = c.loop-byte.byte-index} (omega arith)))

use Rattle.std.proofs.Common.{◌≡◌, false, eqb, drop, ◌+◌, sym, ◌∙◌, ap, arith}
use Rattle.std.proofs.Math.ListN.{drop_of_length-le}
use Rattle.std.proofs.lemmas.Bool.{ne_eqb}
use Rattle.vx_language.specs.Bytes.{newline}
use Rattle.vx_language.specs.Texts.{text_length}
use Rattle.vx_lex.proofs.Quotes.{text_length-newline, text_length-closed, text_length-more}
use Rattle.vx_lex.proofs.quoted.text_length.Goals as goal

pub returns-then-byte-eq10-clause-value : goal.returns-then-byte-eq10-clause-value
returns-then-byte-eq10-clause-value c =
    let rest = text_length-newline c.loop-i.escaped c.args.bytes.now c.loop-i.i (omega arith) (ap (λ b. eqb b newline) c.if-byte-eq10.true) in
    let all : text_length false c.args.bytes.now ≡ c.loop-i.i + text_length c.loop-i.escaped (drop c.loop-i.i c.args.bytes.now) = c.loop-i.invariant in
    omega (arith, rest, all)

pub returns-then-closes-clause-value : goal.returns-then-closes-clause-value
returns-then-closes-clause-value c =
    let rest = text_length-closed c.loop-i.escaped c.args.bytes.now c.loop-i.i (omega arith) (ne_eqb _ _ c.if-byte-eq10.false) (sym c.closes.ensures ∙ c.if-closes.true) in
    let all : text_length false c.args.bytes.now ≡ c.loop-i.i + text_length c.loop-i.escaped (drop c.loop-i.i c.args.bytes.now) = c.loop-i.invariant in
    omega (arith, rest, all)

pub loop-i-preserved : goal.loop-i-preserved
loop-i-preserved c =
    let rest = text_length-more c.loop-i.escaped c.args.bytes.now c.loop-i.i (omega arith) (ne_eqb _ _ c.if-byte-eq10.false) (sym c.closes.ensures ∙ c.if-closes.false) in
    let all : text_length false c.args.bytes.now ≡ c.loop-i.i + text_length c.loop-i.escaped (drop c.loop-i.i c.args.bytes.now) = c.loop-i.invariant in
    let same = ap (λ e. text_length e (drop (c.loop-i.i + 1) c.args.bytes.now)) c.escapes-escaped.ensures in
    let next : text_length false c.args.bytes.now ≡ c.loop-i.i + 1 + text_length c.escapes-escaped.result (drop (c.loop-i.i + 1) c.args.bytes.now) = omega (arith, rest, all, same) in
    next

pub returns-clause-value : goal.returns-clause-value
unfolding text_length
returns-clause-value c =
    let none = ap (text_length c.loop-i.escaped) (drop_of_length-le c.args.bytes.now {i = c.loop-i.i} (omega arith)) in
    let all : text_length false c.args.bytes.now ≡ c.loop-i.i + text_length c.loop-i.escaped (drop c.loop-i.i c.args.bytes.now) = c.loop-i.invariant in
    omega (arith, none, all)

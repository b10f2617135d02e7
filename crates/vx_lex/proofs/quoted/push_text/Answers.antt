use Rattle.std.proofs.Common.{List, ℕ, get_or, sym, ◌∙◌, ap, drop, ◌+◌, ◌++◌, append_assoc, append-nil, arith}
use Rattle.std.proofs.Math.ListN.{drop_of_length-le}
use Rattle.vx_language.specs.Texts.{meant, text_bytes}
use Rattle.vx_lex.proofs.Quotes.{text_bytes-closed, text_bytes-more}
use Rattle.vx_lex.proofs.quoted.push_text.Goals as goal

pub returns-then-closes : goal.returns-then-closes
returns-then-closes c =
    let rest = text_bytes-closed c.loop-byte.escaped c.args.bytes.now c.loop-byte.byte-index (omega arith) (sym c.closes.ensures ∙ c.if-closes.true) in
    let out = c.loop-byte.out.items in
    sym (append-nil out) ∙ (sym (ap (λ (r : List ℕ). out ++ r) rest) ∙ c.loop-byte.invariant)

pub loop-byte-preserved : goal.loop-byte-preserved
loop-byte-preserved c =
    let bytes = c.args.bytes.now in
    let escaped = c.loop-byte.escaped in
    let out = c.loop-byte.out.items in
    let rest : List ℕ = drop (c.loop-byte.byte-index + 1) bytes in
    let here = meant escaped (get_or bytes c.loop-byte.byte-index 0) in
    let more = text_bytes-more escaped bytes c.loop-byte.byte-index (omega arith) (sym c.closes.ensures ∙ c.if-closes.false) in
    ap (λ (o : List ℕ). o ++ text_bytes c.escapes-escaped.result rest) c.in_ok-push_meant.ensures
    ∙ (append_assoc out here (text_bytes c.escapes-escaped.result rest)
    ∙ (ap (λ e. out ++ (here ++ text_bytes e rest)) c.escapes-escaped.ensures
    ∙ (sym (ap (λ (r : List ℕ). out ++ r) more) ∙ c.loop-byte.invariant)))

pub returns : goal.returns
unfolding text_bytes
returns c =
    let out = c.loop-byte.out.items in
    let none = ap (text_bytes c.loop-byte.escaped) (drop_of_length-le c.args.bytes.now {i = c.loop-byte.byte-index} (omega arith)) in
    sym (append-nil out) ∙ (sym (ap (λ (r : List ℕ). out ++ r) none) ∙ c.loop-byte.invariant)

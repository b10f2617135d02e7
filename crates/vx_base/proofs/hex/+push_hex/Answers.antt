use Rattle.std.proofs.Common.{◌≡◌, ◌<◌, ◌++◌, ◌∙◌, ap, [], ◌∷◌, sym, append_assoc, append-nil, string_bytes, arith}
use Rattle.vx_base.proofs.Digits.{hex_digits-more, hex_digits-none}
use Rattle.vx_base.proofs.hex.+push_hex.Goals as goal

pub returns-in_ok-push : goal.returns-in_ok-push
returns-in_ok-push t c =
    let more = hex_digits-more c.args.count c.args.n c.if-count-gt0.true in
    let front = c.in_ok-push_hex.ensures in
    let digit = c.hex_digit.ensures.value in
    let small : c.from.result < 128 = omega arith in
    let last : string_bytes c.push.new.self ≡ string_bytes c.push_hex.new.text ++ c.from.result ∷ [] =
    c.in_ok-push.ensures.bytes ∙ ap (λ l. string_bytes c.push_hex.new.text ++ l) (c.in_ok-push.ensures.ascii small) in
    rw (← more) (rw (← append_assoc) (cc))

pub returns-else-count-gt0 : goal.returns-else-count-gt0
returns-else-count-gt0 t c = rw (hex_digits-none c.args.count c.args.n c.if-count-gt0.false) (sym (append-nil (string_bytes c.args.text.now)))

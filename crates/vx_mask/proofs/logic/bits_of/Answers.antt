-- Each operation, bit by bit.
use Rattle.std.proofs.Common.{◌≡◌, ◌^◌, ◌<◌, Bool, not, ◌&&◌, ◌||◌, bit_and, bit_or, w64, sym, ap, ◌∙◌, rules}
use Rattle.std.specs.Prelude.{bit_xor}
use Rattle.std.specs.Int.{bit_not}
use Rattle.std.proofs.lemmas.Nat.{or_lt, xor_lt}
use Rattle.vx_base.specs.Numbers.{truth}
use Rattle.vx_rows.specs.declared.family.Family.{Family}
use Rattle.vx_operands.specs.Lanes.{answer}
use Rattle.vx_mask.proofs.Bitwise.{set, and_lane, or_lane, xor_lane, not_lane, set_of, same_bits, differ}
use Rattle.vx_mask.proofs.logic.bits_of.Goals as goal

pub returns-in-Vmand : goal.returns-in-Vmand
returns-in-Vmand c n k l ea eb =
    and_lane c.args.a c.args.b k ∙ same_bits (λ x y. x && y) c.args.a c.args.b n k ea eb ∙ sym (ap (λ (f : Family). (answer f n).value) c.in-Vmand.is)

pub returns-in-Vmnand : goal.returns-in-Vmnand
returns-in-Vmnand c n k l ea eb =
    let small : bit_and c.args.a c.args.b < 2 ^ 64 = search rules in
    not_lane (bit_and c.args.a c.args.b) k small l ∙ ap (λ b. truth (not b)) (set_of (bit_and c.args.a c.args.b) k (set c.args.a k && set c.args.b k) (and_lane c.args.a c.args.b k)) ∙ same_bits (λ x y. not (x && y)) c.args.a c.args.b n k ea eb ∙ sym (ap (λ (f : Family). (answer f n).value) c.in-Vmnand.is)

pub returns-in-Vmandn : goal.returns-in-Vmandn
returns-in-Vmandn c n k l ea eb =
    and_lane c.args.a (bit_not w64 c.args.b) k ∙ ap (λ b. truth (set c.args.a k && b)) (set_of (bit_not w64 c.args.b) k (not (set c.args.b k)) (not_lane c.args.b k c.ranges.b.fits l)) ∙ same_bits (λ x y. x && not y) c.args.a c.args.b n k ea eb ∙ sym (ap (λ (f : Family). (answer f n).value) c.in-Vmandn.is)

pub returns-in-Vmxor : goal.returns-in-Vmxor
returns-in-Vmxor c n k l ea eb =
    xor_lane c.args.a c.args.b k ∙ same_bits (λ x y. differ x y) c.args.a c.args.b n k ea eb ∙ sym (ap (λ (f : Family). (answer f n).value) c.in-Vmxor.is)

pub returns-in-Vmor : goal.returns-in-Vmor
returns-in-Vmor c n k l ea eb =
    or_lane c.args.a c.args.b k ∙ same_bits (λ x y. x || y) c.args.a c.args.b n k ea eb ∙ sym (ap (λ (f : Family). (answer f n).value) c.in-Vmor.is)

pub returns-in-Vmnor : goal.returns-in-Vmnor
returns-in-Vmnor c n k l ea eb =
    let small : bit_or c.args.a c.args.b < 2 ^ 64 = or_lt 64 c.args.a c.args.b c.ranges.a.fits c.ranges.b.fits in
    not_lane (bit_or c.args.a c.args.b) k small l ∙ ap (λ b. truth (not b)) (set_of (bit_or c.args.a c.args.b) k (set c.args.a k || set c.args.b k) (or_lane c.args.a c.args.b k)) ∙ same_bits (λ x y. not (x || y)) c.args.a c.args.b n k ea eb ∙ sym (ap (λ (f : Family). (answer f n).value) c.in-Vmnor.is)

pub returns-in-Vmorn : goal.returns-in-Vmorn
returns-in-Vmorn c n k l ea eb =
    or_lane c.args.a (bit_not w64 c.args.b) k ∙ ap (λ b. truth (set c.args.a k || b)) (set_of (bit_not w64 c.args.b) k (not (set c.args.b k)) (not_lane c.args.b k c.ranges.b.fits l)) ∙ same_bits (λ x y. x || not y) c.args.a c.args.b n k ea eb ∙ sym (ap (λ (f : Family). (answer f n).value) c.in-Vmorn.is)

pub returns-in-Vmxnor : goal.returns-in-Vmxnor
returns-in-Vmxnor c n k l ea eb =
    let small : bit_xor c.args.a c.args.b < 2 ^ 64 = xor_lt 64 c.args.a c.args.b c.ranges.a.fits c.ranges.b.fits in
    not_lane (bit_xor c.args.a c.args.b) k small l ∙ ap (λ b. truth (not b)) (set_of (bit_xor c.args.a c.args.b) k (differ (set c.args.a k) (set c.args.b k)) (xor_lane c.args.a c.args.b k)) ∙ same_bits (λ x y. not (differ x y)) c.args.a c.args.b n k ea eb ∙ sym (ap (λ (f : Family). (answer f n).value) c.in-Vmxnor.is)

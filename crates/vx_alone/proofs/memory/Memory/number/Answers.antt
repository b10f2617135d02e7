-- The number that is read is that of the bytes at the address.
use Rattle.std.proofs.Common.{◌≡◌, ℕ, ◌+◌, ◌*◌, ◌%◌, List, take, drop, length, sym, ap, ◌∙◌, arith}
use Rattle.vx_base.specs.Numbers.{from_little_endian}
use Rattle.vx_base.specs.declared.machine.Want.TheVariants.{Load}
use Rattle.vx_image.specs.Pages.{Memory, permits, page_of}
use Rattle.vx_flat.specs.Memory.{bytes_at}
use Rattle.vx_alone.proofs.Accesses.{bytes_on_page, ends_on_page}
use Rattle.vx_alone.proofs.memory.Memory.number.Goals as goal

pub returns-clause-number : goal.returns-clause-number
returns-clause-number c =
    let entries = c.self.inside.entries.items in
    let bytes = c.self.inside.bytes.items in
    let address = c.args.address in
    let width = c.args.width in
    let granted = c.in_ok-at.ensures.index in
    let place = granted.granted.place in
    let k = granted.place in
    let within = place.within in
    let whole : length bytes ≡ 4096 * length entries = c.self.invariant.kept.whole in
    let room = ends_on_page width address c.requires.width c.requires.aligned c.ranges.address.fits in
    let read = bytes_on_page entries c.self.invariant.kept.rising bytes (page_of address) k place width (address % 4096) address (omega arith) room.0 room.1 (omega (arith, room.0)) in
    let value : c.number_of_width.result ≡ from_little_endian (take width (drop (4096 * k + address % 4096) bytes)) =
    c.number_of_width.ensures ∙ ap (λ (bs : List ℕ). from_little_endian (take width (drop c.in_ok-at.at bs))) c.deref.ensures.value
    ∙ ap (λ (i : ℕ). from_little_endian (take width (drop i bytes))) granted.byte in (
      ap (λ (m : Memory). permits m address Load) (sym c.self.view_is) ∙ granted.granted.permitted bytes,
      value ∙ ap from_little_endian (sym read) ∙ ap (λ (m : Memory). from_little_endian (bytes_at m address width)) c.self.view_is,
    )

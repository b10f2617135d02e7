-- The word that is read is that of the four bytes at the address.
use Rattle.std.proofs.Common.{◌≡◌, ℕ, ◌+◌, ◌*◌, ◌%◌, List, take, drop, length, refl, sym, ap, ◌∙◌, arith}
use Rattle.vx_base.specs.Numbers.{from_little_endian}
use Rattle.vx_base.specs.declared.machine.Want.TheVariants.{Fetch}
use Rattle.vx_image.specs.Pages.{Memory, permits, page_of}
use Rattle.vx_flat.specs.Memory.{bytes_at}
use Rattle.vx_alone.proofs.Accesses.{bytes_on_page, ends_on_page}
use Rattle.vx_alone.proofs.memory.Memory.fetched.Goals as goal

pub returns-clause-word : goal.returns-clause-word
returns-clause-word c =
    let entries = c.self.inside.entries.items in
    let bytes = c.self.inside.bytes.items in
    let address = c.args.address in
    let granted = c.in_ok-at.ensures.index in
    let place = granted.granted.place in
    let k = granted.place in
    let within = place.within in
    let whole : length bytes ≡ 4096 * length entries = c.self.invariant.kept.whole in
    let room = ends_on_page 4 address refl c.requires c.ranges.address.fits in
    let read = bytes_on_page entries c.self.invariant.kept.rising bytes (page_of address) k place 4 (address % 4096) address (omega arith) room.0 room.1 (omega (arith, room.0)) in
    let value : c.word_at.result ≡ from_little_endian (take 4 (drop (4096 * k + address % 4096) bytes)) =
    c.word_at.ensures ∙ ap (λ (bs : List ℕ). from_little_endian (take 4 (drop c.in_ok-at.at bs))) c.deref.ensures.value
    ∙ ap (λ (i : ℕ). from_little_endian (take 4 (drop i bytes))) granted.byte in (
      ap (λ (m : Memory). permits m address Fetch) (sym c.self.view_is) ∙ granted.granted.permitted bytes,
      value ∙ ap from_little_endian (sym read) ∙ ap (λ (m : Memory). from_little_endian (bytes_at m address 4)) c.self.view_is,
    )

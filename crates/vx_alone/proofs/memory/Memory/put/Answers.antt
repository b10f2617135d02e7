-- The bytes that are put are those at the address.
use Rattle.std.proofs.Common.{◌≡◌, ℕ, ◌+◌, ◌*◌, ◌%◌, ◌++◌, List, take, drop, length, vec_len, sym, ap, ◌∙◌, arith}
use Rattle.std.proofs.lemmas.List.{with_items_is}
use Rattle.vx_base.specs.Numbers.{little_endian}
use Rattle.vx_image.specs.Pages.{Memory, page_of}
use Rattle.vx_flat.specs.Memory.{put_bytes}
use Rattle.vx_image.specs.Kept.{pages_of}
use Rattle.vx_alone.proofs.Numbers.{length-little_endian}
use Rattle.vx_alone.proofs.Accesses.{put_on_page, ends_on_page}
use Rattle.vx_alone.proofs.memory.Memory.put.Goals as goal

pub returns-clause-memory : goal.returns-clause-memory
returns-clause-memory c =
    let entries = c.self.inside.entries.items in
    let bytes = c.self.inside.bytes.items in
    let address = c.args.address in
    let width = c.args.width in
    let values = little_endian width c.args.value in
    let granted = c.in-Some.ensures.index in
    let place = granted.granted.place in
    let k = granted.place in
    let within = place.within in
    let whole : length bytes ≡ 4096 * length entries = c.self.invariant.kept.whole in
    let room = ends_on_page width address c.requires.width c.requires.aligned c.ranges.address.fits in
    let count : length values ≡ width = length-little_endian width c.args.value in
    let put = put_on_page entries c.self.invariant.kept.rising (page_of address) k place values bytes (address % 4096) address (omega arith) (omega (arith, room.0, count)) (omega (arith, room.1, count)) (omega (arith, room.0, count)) in
    let written : c.put_of_width.new.bytes ≡ take (4096 * k + address % 4096) bytes ++ (values ++ drop (4096 * k + address % 4096 + length values) bytes) =
    rw (count, sym granted.byte, sym c.deref_mut.ensures.value) c.put_of_width.ensures in
    let kept : length c.put_of_width.new.bytes ≡ vec_len c.self.inside.bytes = omega (arith, c.put_of_width.auto.bytes, c.deref_mut.ensures.len) in
    ap (λ (bs : List ℕ). pages_of entries bs) (with_items_is c.self.inside.bytes c.put_of_width.new.bytes kept ∙ written)
    ∙ sym put
    ∙ ap (λ (m : Memory). put_bytes m address values) c.self.view_is

-- The bytes so far go on with those of the next page.
use Rattle.std.proofs.Common.{◌≡◌, ℕ, ◌+◌, ◌-◌, ◌*◌, ◌++◌, List, take, drop, length, true, sym, ap, ◌∙◌, append_assoc, is_ok, length-drop, arith}
use Rattle.std.proofs.lemmas.List.{length-take-le}
use Rattle.std.proofs.lemmas.Bool.{false≢true}
use Rattle.vx_base.specs.declared.machine.Want.TheVariants.{Load}
use Rattle.vx_flat.specs.Memory.{bytes_at}
use Rattle.vx_image.specs.Kept.{pages_of}
use Rattle.vx_alone.proofs.Accesses.{readable_parts, one_of_all, bytes_more}
use Rattle.vx_alone.proofs.memory.append_readable.Goals as goal

pub unreachable-requires : goal.unreachable-requires
unreachable-requires c =
    let memory = pages_of c.args.entries.now c.args.bytes.now in
    let parts = readable_parts memory c.args.address c.args.count c.requires.readable in
    let granted = one_of_all memory Load c.args.address c.loop-done.done c.args.count c.loop-done-test.true parts.fits parts.all in
    false≢true (sym (c.in_default.ensures c.args.bytes.now) ∙ granted)

pub loop-done-preserved : goal.loop-done-preserved
loop-done-preserved c =
    let entries = c.args.entries.now in
    let bytes = c.args.bytes.now in
    let start = c.index_of-start.result in
    let step = c.count_on_page-step.result in
    let place = c.in-Some.ensures.place in
    let inside = place.within in
    let whole : length bytes ≡ 4096 * length entries = c.requires.kept.whole in
    let parts = readable_parts (pages_of entries bytes) c.args.address c.args.count c.requires.readable in
    let width : start + step - start ≡ step = omega arith in
    let long : length (take step (drop start bytes)) ≡ step = length-take-le step (drop start bytes) (omega (arith, length-drop start bytes)) in
    let appends = rw width at c.extend_from_slice.ensures.items in
    let succeeds = rw (width, long) at c.extend_from_slice.ensures.succeeds in
    let grows = rw (width, long) at c.extend_from_slice.ensures.len in
    let capacity = c.extend_from_slice.ensures.capacity in
    let ok : is_ok c.extend_from_slice.result ≡ true = succeeds (omega arith) in
    let appended = rw ok at appends in
    let grown = rw ok at grows in
    let more = bytes_more entries c.requires.kept.rising bytes whole c.args.address c.loop-done.done step c.in-Some.place place (omega arith) (omega arith) (omega arith) in
    record {
      within = omega arith;
      appended =
          appended
          ∙ ap (λ (xs : List ℕ). xs ++ take step (drop start bytes)) c.loop-done.invariant.appended
          ∙ append_assoc c.args.out.now.items (bytes_at (pages_of entries bytes) c.args.address c.loop-done.done) (take step (drop start bytes))
          ∙ ap (λ (i : ℕ). c.args.out.now.items ++ (bytes_at (pages_of entries bytes) c.args.address c.loop-done.done ++ take step (drop i bytes))) c.index_of-start.ensures
          ∙ ap (λ (xs : List ℕ). c.args.out.now.items ++ xs) (sym more);
      room = omega arith;
      capacity = omega arith;
    }

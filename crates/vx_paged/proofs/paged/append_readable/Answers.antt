-- The bytes so far go on with those of the next word.
use Rattle.std.proofs.Common.{◌≡◌, ℕ, ◌+◌, ◌*◌, ◌/◌, ◌%◌, ◌^◌, ◌≤◌, ◌++◌, List, take, drop, get_or, sym, ap, ◌∙◌, append_assoc, arith}
use Rattle.std.proofs.lemmas.Bool.{false≢true}
use Rattle.vx_base.specs.Numbers.{little_endian}
use Rattle.vx_base.specs.declared.machine.Want.TheVariants.{Load}
use Rattle.vx_flat.specs.Memory.{bytes_at}
use Rattle.vx_paged.specs.Framed.{shown}
use Rattle.vx_paged.proofs.Accesses.{below_frames, bytes_there}
use Rattle.vx_paged.proofs.Ranges.{readable_parts, one_of_all, bytes_join}
use Rattle.vx_paged.proofs.paged.append_readable.Goals as goal

pub unreachable-requires : goal.unreachable-requires
unreachable-requires g c =
    let contents = (g.C.Cells.state c.args.cells.now).contents in
    let memory = shown c.args.pages.now contents in
    let parts = readable_parts memory c.args.address c.args.count c.requires.readable in
    let granted = one_of_all memory Load c.args.address c.loop-done.done c.args.count c.loop-done-test.true parts.fits parts.all in
    false≢true (sym (c.in_default.ensures.frame contents) ∙ granted)

pub read_word-word-requires : goal.read_word-word-requires
read_word-word-requires g c =
    let below = below_frames c.args.pages.now (c.args.address + c.loop-done.done) c.in-Some.frame Load c.in-Some.ensures.frame (g.C.Cells.state c.args.cells.now).frames c.requires.fits.within in
    omega (arith, below, c.loop-done.invariant.frames)

pub loop-done-preserved : goal.loop-done-preserved
loop-done-preserved g c =
    let contents = (g.C.Cells.state c.args.cells.now).contents in
    let pages = c.args.pages.now in
    let memory = shown pages contents in
    let address : ℕ = c.args.address in
    let done : ℕ = c.loop-done.done in
    let step : ℕ = c.count_in_word-step.result in
    let frame : ℕ = c.in-Some.frame in
    let parts = readable_parts memory address c.args.count c.requires.readable in
    let fits : (address + done) % 8 + step ≤ 8 = omega (arith, c.count_in_word-step.ensures) in
    let room : address + done + step ≤ 2 ^ 64 = omega (arith, c.count_in_word-step.ensures, parts.fits) in
    let index : ℕ = 512 * frame + (address + done) % 4096 / 8 in
    let word : c.read_word-word.result ≡ get_or contents index 0 = c.read_word-word.ensures.value ∙ ap (λ (ws : List ℕ). get_or ws index 0) c.loop-done.invariant.contents in
    let piece : take step (drop ((address + done) % 8) (little_endian 8 c.read_word-word.result)) ≡ bytes_at memory (address + done) step =
    ap (λ (w : ℕ). take step (drop ((address + done) % 8) (little_endian 8 w))) word
    ∙ sym (bytes_there pages (address + done) frame Load c.in-Some.ensures.frame contents step fits room) in
    let more = bytes_join memory done step address room (omega (arith, c.count_in_word-step.ensures)) in
    record {
      within = omega (arith, c.count_in_word-step.ensures);
      serves = c.in-Some.ensures.serves;
      memory = c.read_word-word.ensures.memory;
      frames = c.read_word-word.ensures.frames ∙ c.loop-done.invariant.frames;
      cycle = c.read_word-word.ensures.cycle ∙ c.loop-done.invariant.cycle;
      contents = c.read_word-word.ensures.contents ∙ c.loop-done.invariant.contents;
      appended =
          c.push_part.ensures.bytes
          ∙ ap (λ (xs : List ℕ). xs ++ take step (drop ((address + done) % 8) (little_endian 8 c.read_word-word.result))) c.loop-done.invariant.appended
          ∙ append_assoc c.args.out.now.items (bytes_at memory address done) (take step (drop ((address + done) % 8) (little_endian 8 c.read_word-word.result)))
          ∙ ap (λ (xs : List ℕ). c.args.out.now.items ++ (bytes_at memory address done ++ xs)) piece
          ∙ ap (λ (xs : List ℕ). c.args.out.now.items ++ xs) (sym more);
      room = omega (arith, c.push_part.ensures.len, c.push_part.ensures.capacity, c.loop-done.invariant.room);
      capacity = omega (arith, c.push_part.ensures.capacity, c.loop-done.invariant.capacity);
    }

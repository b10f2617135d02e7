-- One element more, the end, and an element of which an access fails.
use Rattle.std.proofs.Common.{◌≡◌, ℕ, ◌<◌, min, refl, sym, ap, ◌∙◌, subst, arith}
use Rattle.vx_flat.specs.Transfers.{first_failure}
use Rattle.vx_flat.specs.Transfers.Direction.{Storing}
use Rattle.vx_vaddr.specs.Views.{movement_with}
use Rattle.vx_vector.specs.Accesses.{Movement, accesses_between, accesses_of_element}
use Rattle.vx_vector.specs.Movements.{IsPlacedAccess}
use Rattle.vx_vstate.specs.State.{SettingView}
use Rattle.vx_hart.specs.Transfers.{after_stores}
use Rattle.vx_hart.proofs.Moved.{among-all}
use Rattle.vx_hart.proofs.Elements.{IsStopped, stored-first, stored-more, stored-stopped, at-end}
use Rattle.vx_hart.proofs.transfers.store_elements.Goals as goal

pub loop-i-init : goal.loop-i-init
loop-i-init g c =
    let m : Movement = movement_with c.args.pattern.now c.args.v.now.words in
    let start : m.at.vstart ≡ c.args.at.now.vstart = ap (λ (s : SettingView). s.vstart) c.requires.setting in
    let first : c.min-i.result ≡ min m.at.vstart c.args.end = omega (arith, c.min-i.ensures) in
    record {
      fits = c.requires.fits;
      rest = refl;
      so =
          stored-first m c.args.end c.args.v.now (g.M.Memory.state c.args.memory.now c.args.physical.now) c.min-i.result first;
    }

pub store_next-requires-clause-placed : goal.store_next-requires-clause-placed
store_next-requires-clause-placed g c =
    let m : Movement = movement_with c.args.pattern.now c.args.v.now.words in
    let below : c.loop-i.i < c.args.end = c.loop-i-test.true in
    let length : m.at.vlen ≡ c.args.v.now.vlen = ap (λ (s : SettingView). s.vlen) c.requires.setting ∙ sym c.requires.same in
    λ a h. subst (λ (n : ℕ). IsPlacedAccess n a) length (c.legal_movements_are_sound.ensures.placed m a c.requires.sound (among-all m c.loop-i.i a (omega (arith, below, c.requires.end)) h))

pub returns-in-Some-clause-failure : goal.returns-in-Some-clause-failure
returns-in-Some-clause-failure g c =
    let m : Movement = movement_with c.args.pattern.now c.args.v.now.words in
    let below : c.loop-i.i < c.args.end = c.loop-i-test.true in
    let s : IsStopped Storing m c.args.end (g.M.Memory.state c.args.memory.now c.args.physical.now) c.loop-i.i c.in-Some.failed = stored-stopped m c.args.end c.args.v.now (g.M.Memory.state c.args.memory.now c.args.physical.now) (g.M.Memory.state c.loop-i.memory c.loop-i.physical) c.loop-i.i c.in-Some.failed (accesses_of_element m c.loop-i.i) below refl c.in-Some.ensures.failure c.loop-i.invariant.so in
    s.failure

pub returns-in-Some-clause-among : goal.returns-in-Some-clause-among
returns-in-Some-clause-among g c =
    let m : Movement = movement_with c.args.pattern.now c.args.v.now.words in
    let below : c.loop-i.i < c.args.end = c.loop-i-test.true in
    let s : IsStopped Storing m c.args.end (g.M.Memory.state c.args.memory.now c.args.physical.now) c.loop-i.i c.in-Some.failed = stored-stopped m c.args.end c.args.v.now (g.M.Memory.state c.args.memory.now c.args.physical.now) (g.M.Memory.state c.loop-i.memory c.loop-i.physical) c.loop-i.i c.in-Some.failed (accesses_of_element m c.loop-i.i) below refl c.in-Some.ensures.failure c.loop-i.invariant.so in
    s.among

pub returns-in-Some-clause-stored : goal.returns-in-Some-clause-stored
returns-in-Some-clause-stored g c =
    let m : Movement = movement_with c.args.pattern.now c.args.v.now.words in
    let below : c.loop-i.i < c.args.end = c.loop-i-test.true in
    let s : IsStopped Storing m c.args.end (g.M.Memory.state c.args.memory.now c.args.physical.now) c.loop-i.i c.in-Some.failed = stored-stopped m c.args.end c.args.v.now (g.M.Memory.state c.args.memory.now c.args.physical.now) (g.M.Memory.state c.loop-i.memory c.loop-i.physical) c.loop-i.i c.in-Some.failed (accesses_of_element m c.loop-i.i) below refl c.in-Some.ensures.failure c.loop-i.invariant.so in
    c.in-Some.ensures.stored ∙ c.loop-i.invariant.so.done ∙ ap (λ (n : ℕ). after_stores c.args.v.now.vlen c.args.v.now.words (g.M.Memory.state c.args.memory.now c.args.physical.now) (accesses_between m 0 n)) s.here

pub loop-i-preserved : goal.loop-i-preserved
loop-i-preserved g c =
    let m : Movement = movement_with c.args.pattern.now c.args.v.now.words in
    let below : c.loop-i.i < c.args.end = c.loop-i-test.true in
    record {
      fits = c.in_default.ensures.fits;
      rest = c.in_default.ensures.rest ∙ c.loop-i.invariant.rest;
      so =
          stored-more m c.args.end c.args.v.now (g.M.Memory.state c.args.memory.now c.args.physical.now) (g.M.Memory.state c.loop-i.memory c.loop-i.physical) (g.M.Memory.state c.store_next.new.memory c.store_next.new.physical) c.loop-i.i (accesses_of_element m c.loop-i.i) below refl c.in_default.ensures.failure c.in_default.ensures.stored c.loop-i.invariant.so;
    }

pub returns-clause-failure : goal.returns-clause-failure
returns-clause-failure g c =
    let m : Movement = movement_with c.args.pattern.now c.args.v.now.words in
    let past : c.loop-i.i ≡ c.args.end = at-end m c.args.end c.loop-i.i c.loop-i-test.false c.loop-i.invariant.so.next in
    sym c.loop-i.invariant.so.free ∙ ap (λ (n : ℕ). first_failure Storing (g.M.Memory.state c.args.memory.now c.args.physical.now) (accesses_between m 0 n)) past

pub returns-clause-stored : goal.returns-clause-stored
returns-clause-stored g c =
    let m : Movement = movement_with c.args.pattern.now c.args.v.now.words in
    let past : c.loop-i.i ≡ c.args.end = at-end m c.args.end c.loop-i.i c.loop-i-test.false c.loop-i.invariant.so.next in
    c.loop-i.invariant.so.done ∙ ap (λ (n : ℕ). after_stores c.args.v.now.vlen c.args.v.now.words (g.M.Memory.state c.args.memory.now c.args.physical.now) (accesses_between m 0 n)) past

-- What was gone through is all that is below the element.
use Rattle.std.proofs.Common.{◌≡◌, ◌<◌, ◌∙◌, ℕ, [], ap, sym, subst}
use Rattle.vx_flat.specs.State.{Flat}
use Rattle.vx_flat.specs.Transfers.{Transfer, below_done}
use Rattle.vx_vaddr.specs.Views.{movement_with}
use Rattle.vx_vector.specs.Accesses.{Movement}
use Rattle.vx_vstate.specs.State.{SettingView}
use Rattle.vx_hart.specs.Directions.{direction_of}
use Rattle.vx_hart.specs.Outcomes.{flat_of}
use Rattle.vx_hart.specs.Transfers.{transfer_with}
use Rattle.vx_hart.proofs.Ended.{below-length, moved-length, reached, reached-prefix, vlen-here}
use Rattle.vx_hart.proofs.movements.reach.Goals as goal

pub set_vstart-requires : goal.set_vstart-requires
set_vstart-requires g c =
    let m : Movement = movement_with c.args.pattern.now c.args.arch.now.v.words in
    let old : Flat = flat_of c.args.arch.now (g.M.Memory.state c.args.memory.now c.args.physical.now) [] in
    let new : Flat = flat_of c.go_through-failed.new.arch (g.M.Memory.state c.go_through-failed.new.memory c.go_through-failed.new.physical) [] in
    subst (λ (n : ℕ). c.args.k < n)
    (vlen-here c.args.arch.now.v c.args.pattern.now c.args.at.now c.requires.moves
    ∙ sym (moved-length (direction_of c.args.direction) m c.args.k old new c.go_through-failed.result (c.go_through-failed.ensures.moved [])))
    (below-length m c.args.k c.requires.moves.sound c.requires.below)

pub returns-clause-done : goal.returns-clause-done
returns-clause-done g c output =
    let t : Transfer = transfer_with (direction_of c.args.direction) c.args.pattern.now c.args.arch.now.v in
    let old : Flat = flat_of c.args.arch.now (g.M.Memory.state c.args.memory.now c.args.physical.now) output in
    let new : Flat = flat_of c.go_through-failed.new.arch (g.M.Memory.state c.go_through-failed.new.memory c.go_through-failed.new.physical) output in
    c.set_vstart.ensures (g.M.Memory.state c.go_through-failed.new.memory c.go_through-failed.new.physical) output
    ∙ reached t c.args.k old new c.go_through-failed.result c.requires.free (c.go_through-failed.ensures.moved output)

pub returns-clause-prefix : goal.returns-clause-prefix
returns-clause-prefix g c output next =
    let t : Transfer = transfer_with (direction_of c.args.direction) c.args.pattern.now c.args.arch.now.v in
    let old : Flat = flat_of c.args.arch.now (g.M.Memory.state c.args.memory.now c.args.physical.now) output in
    let new : Flat = flat_of c.go_through-failed.new.arch (g.M.Memory.state c.go_through-failed.new.memory c.go_through-failed.new.physical) output in
    let last : Flat = flat_of c.set_vstart.new.arch (g.M.Memory.state c.go_through-failed.new.memory c.go_through-failed.new.physical) output in
    let done : last ≡ below_done t c.args.k old =
    c.set_vstart.ensures (g.M.Memory.state c.go_through-failed.new.memory c.go_through-failed.new.physical) output
    ∙ reached t c.args.k old new c.go_through-failed.result c.requires.free (c.go_through-failed.ensures.moved output) in
    let start : t.movement.at.vstart ≡ c.args.arch.now.v.vstart = ap (λ (x : SettingView). x.vstart) (c.requires.moves.setting ∙ c.requires.moves.here) in
    reached-prefix t old last c.args.k start c.requires.from c.requires.free done next

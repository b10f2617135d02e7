-- The end of what was gone through is that of the instruction.
use Rattle.std.proofs.Common.{◌≡◌, ◌≤◌, ◌∙◌, true, Some, IfSome, [], ap, sym, subst, arith}
use Rattle.vx_flat.specs.State.{Flat}
use Rattle.vx_flat.specs.Transfers.{Transfer, is_fault_only_first}
use Rattle.vx_rows.specs.declared.row.Addressing.{Addressing}
use Rattle.vx_vaddr.specs.Views.{movement_with}
use Rattle.vx_vector.specs.Accesses.{Movement, movement_count}
use Rattle.vx_hart.specs.Directions.{direction_of}
use Rattle.vx_hart.specs.Outcomes.{flat_of}
use Rattle.vx_hart.specs.Transfers.{stopped, transfer_with}
use Rattle.vx_hart.specs.declared.failures.Failed.{Failed}
use Rattle.vx_hart.proofs.Ended.{ended, moved-trims, moved-within, vl-here, vlen-here}
use Rattle.vx_hart.proofs.movements.transfer.Goals as goal

pub go_through-failed-requires-clause-end : goal.go_through-failed-requires-clause-end
go_through-failed-requires-clause-end g c =
    let count : c.count-count.result ≡ movement_count (movement_with c.args.pattern.now c.args.arch.now.v.words) = c.count-count.ensures c.args.arch.now.v.words in
    omega (arith, count)

pub stop-requires-clause-within : goal.stop-requires-clause-within
stop-requires-clause-within g c =
    let m : Movement = movement_with c.args.pattern.now c.args.arch.now.v.words in
    let old : Flat = flat_of c.args.arch.now (g.M.Memory.state c.args.memory.now c.args.physical.now) [] in
    let new : Flat = flat_of c.go_through-failed.new.arch (g.M.Memory.state c.go_through-failed.new.memory c.go_through-failed.new.physical) [] in
    let count : c.count-count.result ≡ movement_count m = c.count-count.ensures c.args.arch.now.v.words in
    moved-within (direction_of c.args.direction) m c.count-count.result old new c.go_through-failed.result (omega (arith, count)) (c.go_through-failed.ensures.moved []) c.requires.moves.sound
    (vlen-here c.args.arch.now.v c.args.pattern.now c.args.at.now c.requires.moves)

pub stop-requires-clause-trims : goal.stop-requires-clause-trims
stop-requires-clause-trims g c =
    let m : Movement = movement_with c.args.pattern.now c.args.arch.now.v.words in
    let old : Flat = flat_of c.args.arch.now (g.M.Memory.state c.args.memory.now c.args.physical.now) [] in
    let new : Flat = flat_of c.go_through-failed.new.arch (g.M.Memory.state c.go_through-failed.new.memory c.go_through-failed.new.physical) [] in
    let count : c.count-count.result ≡ movement_count m = c.count-count.ensures c.args.arch.now.v.words in
    subst (λ (a : Addressing). IfSome c.go_through-failed.result (λ (f : Failed). is_fault_only_first a ≡ true → f.item.element ≤ c.go_through-failed.new.arch.v.vl)) c.requires.addressing
    (moved-trims (direction_of c.args.direction) m c.count-count.result old new c.go_through-failed.result (omega (arith, count)) (c.go_through-failed.ensures.moved [])
    (vl-here c.args.arch.now.v c.args.pattern.now c.args.at.now c.requires.moves))

pub returns-clause-done : goal.returns-clause-done
returns-clause-done g c output =
    let t : Transfer = transfer_with (direction_of c.args.direction) c.args.pattern.now c.args.arch.now.v in
    let old : Flat = flat_of c.args.arch.now (g.M.Memory.state c.args.memory.now c.args.physical.now) output in
    let new : Flat = flat_of c.go_through-failed.new.arch (g.M.Memory.state c.go_through-failed.new.memory c.go_through-failed.new.physical) output in
    let count : c.count-count.result ≡ movement_count t.movement = c.count-count.ensures c.args.arch.now.v.words in
    c.stop.ensures (g.M.Memory.state c.go_through-failed.new.memory c.go_through-failed.new.physical) output
    ∙ ap (λ (a : Addressing). Some (stopped a new c.go_through-failed.result)) (sym c.requires.addressing)
    ∙ ap Some (ended t c.count-count.result old new c.go_through-failed.result count (c.go_through-failed.ensures.moved output))

-- A legal instruction is executable, and the state after it is that of its reading.
use Rattle.std.proofs.Common.{◌≡◌, Some, slice_index}
use Rattle.vx_exec.specs.Executed.{IsExecutable, reads}
use Rattle.vx_flat.specs.State.{Flat}
use Rattle.vx_flat.specs.Vectors.{reading_at}
use Rattle.vx_hart.specs.Outcomes.{flat_of, outcome_of}
use Rattle.vx_vstate.specs.Views.{view_of}
use Rattle.vx_hart.proofs.Calculated.{is-executable, is-calculated, reads-at}
use Rattle.vx_hart.proofs.arithmetic.calculate.Goals as goal

pub execute-told-requires-clause-executable : goal.execute-told-requires-clause-executable
execute-told-requires-clause-executable c =
    is-executable c.args.i.now (view_of c.args.at.now) c.args.family c.requires.valid c.requires.class c.requires.accepted

pub returns : goal.returns
returns c =
    let at = view_of c.args.at.now in
    let i = c.args.i.now in
    let v = c.args.arch.now.v in
    let executable : IsExecutable i at = is-executable i at c.args.family c.requires.valid c.requires.class c.requires.accepted in
    let r = reads i at v.words in
    λ fault memory output.
    let s : Flat = flat_of c.args.arch.now memory output in
    let reading : reading_at s i ≡ Some r = reads-at i v (slice_index c.args.arch.now.regs.x i.rs1) at r c.requires.setting (c.instructions_read.ensures i at v.words executable) in
    is-calculated s i r (outcome_of c.complete.result fault (flat_of c.complete.new.arch memory output)) c.put_told.new.regs.x c.execute-told.new.v c.execute-told.result reading c.execute-told.ensures.told c.put_told.ensures c.execute-told.ensures.done (c.complete.ensures fault memory output)

use Rattle.std.proofs.Common.{◌≡◌, ℕ, ◌-◌, true, false, subst, arith}
use Rattle.std.specs.Prelude.{is_some}
use Rattle.vx_system.proofs.UnderWay.{IsUnderWay-start, IsUnderWay-goes, RunsAlone-goes, RunsAlone-spent, is-none, less-left}
use Rattle.vx_system.specs.Solo.{GoesOn}
use Rattle.vx_system.proofs.solo.run_alone.Goals as goal

pub loop-process-init : goal.loop-process-init
loop-process-init c = IsUnderWay-start c.args.budget c.args.process.now c.requires.running c.requires.unbegun

pub loop-process-preserved : goal.loop-process-preserved
loop-process-preserved c =
    let goes : is_some c.go_on.new.process.over ≡ false = cc in
    let P : ℕ → Type 0 = λ n. GoesOn (c.args.budget - n) c.loop-process.process c.go_on.new.process in
    IsUnderWay-goes c.args.budget c.args.process.now c.loop-process.process c.go_on.new.process c.requires.budget c.loop-process.invariant (subst P c.count-in-loop-process.ensures c.go_on.ensures) (is-none c.go_on.new.process.over goes)

pub loop-process-smaller : goal.loop-process-smaller
loop-process-smaller c =
    let goes : is_some c.go_on.new.process.over ≡ false = cc in
    let P : ℕ → Type 0 = λ n. GoesOn (c.args.budget - n) c.loop-process.process c.go_on.new.process in
    less-left c.args.budget c.args.process.now c.loop-process.process c.go_on.new.process c.requires.budget c.loop-process.invariant (subst P c.count-in-loop-process.ensures c.go_on.ensures) (is-none c.go_on.new.process.over goes)

pub returns-then-is_some : goal.returns-then-is_some
returns-then-is_some c =
    let ended : is_some c.go_on.new.process.over ≡ true = cc in
    let P : ℕ → Type 0 = λ n. GoesOn (c.args.budget - n) c.loop-process.process c.go_on.new.process in
    RunsAlone-goes c.args.budget c.args.process.now c.loop-process.process c.go_on.new.process c.requires.budget c.loop-process.invariant (subst P c.count-in-loop-process.ensures c.go_on.ensures) ended

pub returns : goal.returns
returns c = RunsAlone-spent c.args.budget c.args.process.now c.loop-process.process.count c.loop-process.process (omega arith) c.loop-process.invariant

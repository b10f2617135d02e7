use Rattle.std.proofs.Common.{◌≡◌, ℕ, ◌+◌, ◌*◌, ◌<◌, max, refl, sym, ap, subst, ◌∙◌, arith}
use Rattle.std.specs.Prelude.{◌-◌, ◌&&◌, nat_le, nat_lt, List, ◌∷◌, false}
use Rattle.vx_episode.specs.Footprint.{Batch}
use Rattle.vx_vector.specs.Accesses.{Movement, movement_count}
use Rattle.vx_pipe.specs.Passing.{IsPassing}
use Rattle.vx_pipe.specs.Transfers.{element_batch, element_batches}
use Rattle.vx_pipe.proofs.TransferLoop.{early-by, late-by, next-batches, sooner, through-all}
use Rattle.vx_pipe.proofs.passing.pass_elements.Goals as goal

pub loop-at-init : goal.loop-at-init
loop-at-init g c = record {
  tables = c.requires.tables;
  kept = (refl, refl);
  from = omega arith;
  within = omega (arith, c.requires.among);
  here = λ less. absurd (omega (arith, less));
  soon = record { looked = omega arith; committed = omega arith; done = omega (arith, c.requires.done) };
  by = λ bank. omega (arith, c.requires.stamps bank);
  before = c.requires.before;
  done = c.requires.done;
  later = omega arith;
  behind = λ less. absurd (omega (arith, less));
  early = λ less. absurd (omega (arith, less));
  early_before = λ less. absurd (omega (arith, less));
  passing = λ start history e retired issued f t first s p. p;
}

pub loop-at-preserved : goal.loop-at-preserved
loop-at-preserved g c =
    let b : ℕ = max c.args.numbers.now.looked c.args.numbers.now.committed + 700 * (c.loop-at.at - c.args.i.now) in
    let none : (nat_lt (c.loop-at.at + 1) c.args.count && nat_le c.args.until c.pass_element-passed.new.numbers.committed) ≡ false = sym c.is_late.ensures ∙ c.if-is_late.false in
    record {
      tables = c.in-Goes.ensures.tables;
      kept = (c.in-Goes.ensures.kept.0 ∙ c.loop-at.invariant.kept.0, c.in-Goes.ensures.kept.1 ∙ c.loop-at.invariant.kept.1);
      from = omega (arith, c.loop-at.invariant.from);
      within = omega (arith, c.loop-at-test.true);
      here = λ less. refl;
      soon = sooner (b + 700) _ c.pass_element-passed.new.numbers (omega (arith, c.loop-at.invariant.from))
          (c.in-Goes.ensures.soon b c.loop-at.invariant.soon.looked c.loop-at.invariant.soon.committed (λ bank. omega (arith, c.loop-at.invariant.by bank, c.loop-at.invariant.soon.done)));
      by = c.in-Goes.ensures.by (max c.args.numbers.now.committed c.pass_element-passed.new.numbers.done) (λ bank. omega (arith, c.loop-at.invariant.by bank, c.in-Goes.ensures.more)) (omega arith);
      before = c.in-Goes.ensures.before;
      done = c.in-Goes.ensures.done refl;
      later = omega (arith, c.in-Goes.ensures.later, c.loop-at.invariant.later);
      behind = λ less. omega (arith, c.in-Goes.ensures.later, c.loop-at.invariant.later);
      early = λ less below. early-by (c.loop-at.at + 1) c.args.count c.args.until c.pass_element-passed.new.numbers.committed none below;
      early_before = λ less. omega (arith, c.in-Goes.ensures.before_is refl, c.loop-at.invariant.early (omega (arith, less)) c.loop-at-test.true);
      passing = λ start history e retired issued f t first s p.
          c.in-Goes.ensures.passed start history e retired issued f t (element_batches t (c.args.count - (c.loop-at.at + 1)) (c.loop-at.at + 1)) first s
          (subst (λ (bs : List Batch). IsPassing start history e retired issued f t c.loop-at.at bs c.loop-at.numbers c.args.root c.loop-at.loads c.loop-at.banks first (g.C.Cells.state c.loop-at.cells)) (next-batches t c.args.count c.loop-at.at c.loop-at-test.true)
          (c.loop-at.invariant.passing start history e retired issued f t first s p));
    }

pub returns-in-Completes-clause-soon : goal.returns-in-Completes-clause-soon
returns-in-Completes-clause-soon g c =
    let b : ℕ = max c.args.numbers.now.looked c.args.numbers.now.committed + 700 * (c.loop-at.at - c.args.i.now) in
    sooner (b + 700) _ c.pass_element-passed.new.numbers (omega (arith, c.loop-at.invariant.from))
    (c.in-Completes.ensures.soon b c.loop-at.invariant.soon.looked c.loop-at.invariant.soon.committed (λ bank. omega (arith, c.loop-at.invariant.by bank, c.loop-at.invariant.soon.done)))

pub returns-in-Completes-clause-by : goal.returns-in-Completes-clause-by
returns-in-Completes-clause-by g c =
    c.in-Completes.ensures.by (max c.args.numbers.now.committed c.pass_element-passed.new.numbers.done) (λ bank. omega (arith, c.loop-at.invariant.by bank, c.in-Completes.ensures.more)) (omega arith)

pub returns-in-Completes-clause-passed : goal.returns-in-Completes-clause-passed
returns-in-Completes-clause-passed g c start history e retired issued f t first s p =
    c.in-Completes.ensures.passed start history e retired issued f t (element_batches t (c.args.count - (c.loop-at.at + 1)) (c.loop-at.at + 1)) first s
    (subst (λ (bs : List Batch). IsPassing start history e retired issued f t c.loop-at.at bs c.loop-at.numbers c.args.root c.loop-at.loads c.loop-at.banks first (g.C.Cells.state c.loop-at.cells)) (next-batches t c.args.count c.loop-at.at c.loop-at-test.true)
    (c.loop-at.invariant.passing start history e retired issued f t first s p))

pub returns-in-Stops-clause-soon : goal.returns-in-Stops-clause-soon
returns-in-Stops-clause-soon g c =
    let b : ℕ = max c.args.numbers.now.looked c.args.numbers.now.committed + 700 * (c.loop-at.at - c.args.i.now) in
    sooner (b + 700) _ c.pass_element-passed.new.numbers (omega (arith, c.loop-at.invariant.from))
    (c.in-Stops.ensures.soon b c.loop-at.invariant.soon.looked c.loop-at.invariant.soon.committed (λ bank. omega (arith, c.loop-at.invariant.by bank, c.loop-at.invariant.soon.done)))

pub returns-in-Stops-clause-by : goal.returns-in-Stops-clause-by
returns-in-Stops-clause-by g c =
    c.in-Stops.ensures.by (max c.args.numbers.now.committed c.pass_element-passed.new.numbers.done) (λ bank. omega (arith, c.loop-at.invariant.by bank, c.in-Stops.ensures.more)) (omega arith)

pub returns-in-Stops-clause-passed : goal.returns-in-Stops-clause-passed
returns-in-Stops-clause-passed g c start history e retired issued f t first s p =
    c.in-Stops.ensures.passed start history e retired issued f t (element_batches t (c.args.count - (c.loop-at.at + 1)) (c.loop-at.at + 1)) first s
    (subst (λ (bs : List Batch). IsPassing start history e retired issued f t c.loop-at.at bs c.loop-at.numbers c.args.root c.loop-at.loads c.loop-at.banks first (g.C.Cells.state c.loop-at.cells)) (next-batches t c.args.count c.loop-at.at c.loop-at-test.true)
    (c.loop-at.invariant.passing start history e retired issued f t first s p))

pub returns-then-is_late-clause-soon : goal.returns-then-is_late-clause-soon
returns-then-is_late-clause-soon g c =
    let b : ℕ = max c.args.numbers.now.looked c.args.numbers.now.committed + 700 * (c.loop-at.at - c.args.i.now) in
    sooner (b + 700) _ c.pass_element-passed.new.numbers (omega (arith, c.loop-at.invariant.from))
    (c.in-Goes.ensures.soon b c.loop-at.invariant.soon.looked c.loop-at.invariant.soon.committed (λ bank. omega (arith, c.loop-at.invariant.by bank, c.loop-at.invariant.soon.done)))

pub returns-then-is_late-clause-by : goal.returns-then-is_late-clause-by
returns-then-is_late-clause-by g c =
    c.in-Goes.ensures.by (max c.args.numbers.now.committed c.pass_element-passed.new.numbers.done) (λ bank. omega (arith, c.loop-at.invariant.by bank, c.in-Goes.ensures.more)) (omega arith)

pub returns-then-is_late-clause-passed : goal.returns-then-is_late-clause-passed
returns-then-is_late-clause-passed g c start history e retired issued f t first s p =
    let below : c.loop-at.at + 1 < c.args.count = (late-by (c.loop-at.at + 1) c.args.count c.args.until c.pass_element-passed.new.numbers.committed (sym c.is_late.ensures ∙ c.if-is_late.true)).0 in
    let is : c.args.count ≡ movement_count t.movement = c.requires.count ∙ ap movement_count (sym s.moved) in
    subst (λ (bs : List Batch). IsPassing start history e retired issued f t (c.loop-at.at + 1) bs c.pass_element-passed.new.numbers c.args.root c.pass_element-passed.new.loads c.pass_element-passed.new.banks first (g.C.Cells.state c.pass_element-passed.new.cells))
    (next-batches t c.args.count (c.loop-at.at + 1) below ∙ ap (λ (k : ℕ). element_batch t (c.loop-at.at + 1) ∷ element_batches t (k - (c.loop-at.at + 1 + 1)) (c.loop-at.at + 1 + 1)) is)
    (c.in-Goes.ensures.passed start history e retired issued f t (element_batches t (c.args.count - (c.loop-at.at + 1)) (c.loop-at.at + 1)) first s
    (subst (λ (bs : List Batch). IsPassing start history e retired issued f t c.loop-at.at bs c.loop-at.numbers c.args.root c.loop-at.loads c.loop-at.banks first (g.C.Cells.state c.loop-at.cells)) (next-batches t c.args.count c.loop-at.at c.loop-at-test.true)
    (c.loop-at.invariant.passing start history e retired issued f t first s p)))

pub returns-clause-passed : goal.returns-clause-passed
returns-clause-passed g c start history e retired issued f t first s p =
    let end : c.loop-at.at ≡ c.args.count = omega (arith, c.loop-at-test.false, c.loop-at.invariant.within) in
    let last : c.args.count ≡ c.loop-at.i + 1 = omega (arith, end, c.loop-at.invariant.here (omega (arith, end, c.requires.among))) in
    let is : c.args.count ≡ movement_count t.movement = c.requires.count ∙ ap movement_count (sym s.moved) in
    let start-at : t.movement.at.vstart ≡ c.args.i.now = ap (λ (m : Movement). m.at.vstart) s.moved ∙ c.requires.from in
    through-all c.batches_commit.ensures.more c.happenings_are_counted.ensures.commits start history e retired issued f t c.loop-at.i c.loop-at.numbers c.args.root c.loop-at.loads c.loop-at.banks first (g.C.Cells.state c.loop-at.cells)
    c.args.count last is (omega (arith, start-at, last, c.requires.among))
    (subst (λ (k : ℕ). IsPassing start history e retired issued f t k (element_batches t (c.args.count - k) k) c.loop-at.numbers c.args.root c.loop-at.loads c.loop-at.banks first (g.C.Cells.state c.loop-at.cells)) end
    (c.loop-at.invariant.passing start history e retired issued f t first s p))

pub returns-then-is_late-clause-late : goal.returns-then-is_late-clause-late
returns-then-is_late-clause-late g c is = (late-by (c.loop-at.at + 1) c.args.count c.args.until c.pass_element-passed.new.numbers.committed (sym c.is_late.ensures ∙ c.if-is_late.true)).1

pub returns-then-is_late-clause-among : goal.returns-then-is_late-clause-among
returns-then-is_late-clause-among g c = (late-by (c.loop-at.at + 1) c.args.count c.args.until c.pass_element-passed.new.numbers.committed (sym c.is_late.ensures ∙ c.if-is_late.true)).0

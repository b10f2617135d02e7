use Rattle.std.proofs.Common.{arith, refl}
use Rattle.vx_language.specs.Lines.{labels_before}
use Rattle.vx_statement.specs.Lexemes.{pieces_of}
use Rattle.vx_asm.proofs.Naming.{amid-begun, amid-more, amid-over, put-more, put-over}
use Rattle.vx_asm.proofs.Labelled.{label-within, label-cut, label-none}
use Rattle.vx_asm.proofs.defining.define_all.Goals as goal

pub loop-place-init : goal.loop-place-init
loop-place-init c = record {
  within = omega arith;
  places = λ name. refl;
  amid = λ names known. amid-begun (labels_before (pieces_of c.args.tokens.now)) names c.args.labels.now known;
}

pub loop-place-preserved : goal.loop-place-preserved
loop-place-preserved c =
    let begins = rw c.loop-place-test.true at c.begin_with_label.ensures in
    record {
      within = label-within c.args.tokens.now c.loop-place.at begins c.loop-place.invariant.within;
      places = λ name. put-more name _ _ c.loop-place.labels _ _ _ _ (label-cut c.args.tokens.now c.loop-place.at _ begins c.index-tokens-at.is) (c.in_ok-fault.ensures.places name) (c.loop-place.invariant.places name);
      amid = λ names known.
          amid-more _ _ _ _ names _ _ c.loop-place.found _ _ (label-cut c.args.tokens.now c.loop-place.at _ begins c.index-tokens-at.is) (λ before knows. c.in_ok-fault.ensures.fault before knows) c.first-found.ensures (c.loop-place.invariant.amid names known);
    }

pub returns-clause-fault : goal.returns-clause-fault
returns-clause-fault c names known =
    amid-over _ _ names _ c.loop-place.found (label-none c.args.tokens.now c.loop-place.at (rw c.loop-place-test.false at c.begin_with_label.ensures)) (c.loop-place.invariant.amid names known)

pub returns-clause-places : goal.returns-clause-places
returns-clause-places c name =
    put-over name _ c.loop-place.labels _ _ (label-none c.args.tokens.now c.loop-place.at (rw c.loop-place-test.false at c.begin_with_label.ensures)) (c.loop-place.invariant.places name)

-- What was looked at goes on with a page that can be read, or ends with one that can't.
use Rattle.std.proofs.Common.{sym, arith}
use Rattle.vx_base.specs.declared.machine.Want.TheVariants.{Load}
use Rattle.vx_paged.specs.Framed.{shown}
use Rattle.vx_paged.proofs.Accesses.{permitted_there}
use Rattle.vx_paged.proofs.Ranges.{all_more, not_all}
use Rattle.vx_paged.proofs.paged.all_readable.Goals as goal

pub returns-in_default : goal.returns-in_default
returns-in_default c contents =
    sym (not_all (shown c.args.pages.now contents) Load c.args.address c.loop-done.done c.args.count c.loop-done-test.true c.requires.within (c.in_default.ensures contents))

pub loop-done-preserved : goal.loop-done-preserved
loop-done-preserved c = record {
  within = omega (arith, c.count_on_page-done.ensures);
  readable = λ contents.
      all_more (shown c.args.pages.now contents) Load c.args.address c.loop-done.done c.count_on_page-done.result
      (c.loop-done.invariant.readable contents) (permitted_there c.args.pages.now _ c.in-Some.field-0 Load c.in-Some.ensures contents) (omega arith) (omega arith) (omega arith);
}

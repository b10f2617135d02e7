-- What was looked at goes on with a page that can be read, or ends with one that can't.
use Rattle.std.proofs.Common.{sym, arith}
use Rattle.vx_base.specs.declared.machine.Want.TheVariants.{Load}
use Rattle.vx_image.specs.Kept.{pages_of}
use Rattle.vx_alone.proofs.Accesses.{all_more, not_all}
use Rattle.vx_alone.proofs.memory.all_readable.Goals as goal

pub returns-in_default : goal.returns-in_default
returns-in_default c bytes =
    sym (not_all (pages_of c.args.entries.now bytes) Load c.args.address c.loop-done.done c.args.count c.loop-done-test.true c.requires.within (c.in_default.ensures bytes))

pub loop-done-preserved : goal.loop-done-preserved
loop-done-preserved c = record {
  within = omega (arith, c.count_on_page-done.ensures);
  readable = λ bytes.
      all_more (pages_of c.args.entries.now bytes) Load c.args.address c.loop-done.done c.count_on_page-done.result
      (c.loop-done.invariant.readable bytes) (c.in-Some.ensures.permitted bytes) (omega arith) (omega arith) (omega arith);
}

-- One entry more, and one table where the region has a page.
use Rattle.std.proofs.Common.{◌≡◌, ℕ, ◌+◌, ◌*◌, refl, ap, subst, ◌∙◌, arith}
use Rattle.std.specs.Prelude.{Bool, if◌then◌else◌}
use Rattle.vx_cells.specs.Cells.{Makes}
use Rattle.vx_tables.specs.Building.{kernel_writes, pointer_for}
use Rattle.vx_tables.specs.Tables.{regions_below, has_region}
use Rattle.vx_tables.specs.Entries.{pointer}
use Rattle.vx_walk.proofs.Written.{no-words, one-more}
use Rattle.vx_walk.proofs.building.write_pointers.Goals as goal

pub loop-i-init : goal.loop-i-init
loop-i-init g c = record {
  few = omega arith;
  frames = refl;
  next = λ from is. let e : c.args.base + 0 ≡ c.args.base = omega arith in rw e is;
  makes = λ from is. no-words c.accesses_are_made_in_turn.ensures.none (g.C.Cells.state c.args.cells.now) (512 * c.args.frame) (λ i. pointer_for from c.args.size c.args.pages.now (c.args.base + i));
}

pub loop-i-preserved : goal.loop-i-preserved
loop-i-preserved g c =
    let n : c.args.base + c.from.result ≡ c.args.base + c.loop-i.i = ap (λ (k : ℕ). c.args.base + k) c.from.ensures in
    let is_mapped : c.has_region-is_mapped.result ≡ has_region c.args.size (c.args.base + c.loop-i.i) c.args.pages.now =
    c.has_region-is_mapped.ensures ∙ ap (λ (k : ℕ). has_region c.args.size k c.args.pages.now) n in
    record {
      few = omega (arith, c.loop-i.invariant.few, c.count_of-next.ensures.few);
      frames = c.write_word.ensures.frames ∙ c.loop-i.invariant.frames;
      next = λ from is.
          let step = c.tables_are_built_in_turn.ensures.step c.args.size (c.args.base + c.loop-i.i) c.args.pages.now in
          let e : c.args.base + (c.loop-i.i + 1) ≡ c.args.base + c.loop-i.i + 1 = omega arith in
          let one : c.count_of-next.result ≡ (if has_region c.args.size (c.args.base + c.loop-i.i) c.args.pages.now then 1 else 0) =
          c.count_of-next.ensures.value ∙ ap (λ (b : Bool). if b then 1 else 0) is_mapped in
          rw e (omega (arith, c.loop-i.invariant.next from is, one, step));
      makes = λ from is.
          one-more c.accesses_are_made_in_turn.ensures.joined (g.C.Cells.state c.args.cells.now) (g.C.Cells.state c.loop-i.cells) (g.C.Cells.state c.write_word.new.cells) (512 * c.args.frame) (λ i. pointer_for from c.args.size c.args.pages.now (c.args.base + i)) c.loop-i.i _ c.pointer_or_none.result refl
          (c.pointer_or_none.ensures
          ∙ ap (λ (b : Bool). if b then pointer c.loop-i.next else 0) is_mapped
          ∙ ap (λ (k : ℕ). if has_region c.args.size (c.args.base + c.loop-i.i) c.args.pages.now then pointer k else 0) (c.loop-i.invariant.next from is))
          (c.loop-i.invariant.makes from is) c.write_word.ensures;
    }

pub returns-clause-next : goal.returns-clause-next
returns-clause-next g c from is =
    let e : c.loop-i.i ≡ 512 = omega arith in
    c.loop-i.invariant.next from is ∙ ap (λ (k : ℕ). from + regions_below c.args.size (c.args.base + k) c.args.pages.now) e

pub returns-clause-makes : goal.returns-clause-makes
returns-clause-makes g c from is =
    let e : c.loop-i.i ≡ 512 = omega arith in
    subst (λ (k : ℕ). Makes (g.C.Cells.state c.args.cells.now) (g.C.Cells.state c.loop-i.cells) (kernel_writes (g.C.Cells.state c.args.cells.now).cycle (512 * c.args.frame) (λ i. pointer_for from c.args.size c.args.pages.now (c.args.base + i)) k)) e (c.loop-i.invariant.makes from is)

-- Each fault of the entries is that of their pages.
use Rattle.std.proofs.Common.{◌≡◌, ◌%◌, eqb, true, false, refl, sym, ◌∙◌}
use Rattle.std.proofs.Math.Bool.{and-false}
use Rattle.std.proofs.lemmas.Bool.{eq-eqb, ne_eqb}
use Rattle.vx_image.specs.Images.{is_code}
use Rattle.vx_image.specs.Kept.{pages_of}
use Rattle.vx_image.proofs.PageFaults.{fault_both, fault_count, fault_entry, fault_none}
use Rattle.vx_image.proofs.build.pages_fault.Goals as goal
use Rattle.vx_image.proofs.build.pages_fault.Goals.{else-entry-eq0-via-then-entry-eq0+else-is_code, else-entry-eq0-via-else-entry-eq0}

pub returns-in-Some : goal.returns-in-Some
returns-in-Some c bytes = fault_both c.args.entry c.args.entries.now bytes c.in-Some.page c.in-Some.ensures

pub returns-then-count-gt-PAGE_LIMIT : goal.returns-then-count-gt-PAGE_LIMIT
returns-then-count-gt-PAGE_LIMIT c bytes =
    fault_count c.args.entry c.args.entries.now bytes c.in_default.ensures c.if-count-gt-PAGE_LIMIT.true

pub returns-then-is_code : goal.returns-then-is_code
returns-then-is_code c bytes =
    let aligned : eqb (c.args.entry % 4) 0 ≡ true = eq-eqb (c.args.entry % 4) 0 c.if-entry-eq0.true in
    let code : is_code c.args.entry (pages_of c.args.entries.now bytes) ≡ true = sym (c.if-is_code.ensures bytes) in
    fault_none c.args.entry c.args.entries.now bytes c.in_default.ensures c.if-count-gt-PAGE_LIMIT.false (rw (aligned, code) refl)

pub returns : goal.returns
returns c bytes =
    fault_entry c.args.entry c.args.entries.now bytes c.in_default.ensures c.if-count-gt-PAGE_LIMIT.false
    (elim c.else-entry-eq0.branch [
      | else-entry-eq0-via-then-entry-eq0+else-is_code w ↦
          let code : is_code c.args.entry (pages_of c.args.entries.now bytes) ≡ false = sym (w.is_code.ensures bytes) ∙ w.if-is_code.false in
          rw code (and-false (eqb (c.args.entry % 4) 0))
      | else-entry-eq0-via-else-entry-eq0 w ↦
          let odd : eqb (c.args.entry % 4) 0 ≡ false = ne_eqb (c.args.entry % 4) 0 w.if-entry-eq0.false in
          rw odd refl
    ])

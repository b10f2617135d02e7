-- The process is seen by its parts.
use Rattle.std.proofs.Common.{◌≡◌, ◌∙◌, true, ap, subst, sym}
use Rattle.std.specs.Prelude.{is_some}
use Rattle.vx_flat.specs.Process.{Process}
use Rattle.vx_hart.specs.Outcomes.{flat_of}
use Rattle.vx_alone.specs.Advances.{Advances}
use Rattle.vx_alone.specs.Settled.{process_of}
use Rattle.vx_alone.proofs.Steps.{rests}
use Rattle.vx_alone.proofs.alone.Alone.advance.Goals as goal

pub returns-then-is_some : goal.returns-then-is_some
returns-then-is_some c =
    let over : is_some c.self.inside.over ≡ true = cc in
    rests c.args.most c.args.self.now (sym (ap (λ (p : Process). is_some p.over) c.self.view_is) ∙ over)

pub returns : goal.returns
returns c =
    let new : Process = process_of (flat_of c.advance_on.new.arch c.advance_on.new.memory c.self.inside.output.items) c.advance_on.new.count c.advance_on.new.over in
    let P : Process → Type 0 = λ p. Advances c.args.most p new c.advance_on.result in
    subst P c.self.view_is (c.advance_on.ensures c.self.inside.output.items)

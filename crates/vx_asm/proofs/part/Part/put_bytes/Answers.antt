use Rattle.std.proofs.Common.{ℕ, List, ◌++◌, sym, ap, ◌∙◌}
use Rattle.std.specs.Prelude.{◌==◌}
use Rattle.std.proofs.lemmas.Bool.{eqb-true, false≢true}
use Rattle.vx_asm.specs.declared.part.Part.{Part}
use Rattle.vx_asm.proofs.Chunks.{part-with-none, part-with-bytes}
use Rattle.vx_asm.proofs.part.Part.put_bytes.Goals as goal

pub returns-then-is_empty-clause-part : goal.returns-then-is_empty-clause-part
returns-then-is_empty-clause-part c chunks is =
    part-with-none chunks c.args.self.now c.args.bytes.now (eqb-true _ 0 (sym c.is_empty.ensures ∙ c.if-is_empty.true)) is

pub returns-clause-part : goal.returns-clause-part
returns-clause-part c chunks is =
    let made : Part = record { bytes = c.extend_from_slice.new.self; zeros = c.flush.new.self.zeros } in
    let put = c.in_ok-extend_from_slice.ensures.items ∙ ap (λ (l : List ℕ). l ++ c.args.bytes.now) c.in_ok-flush.ensures.bytes in
    part-with-bytes chunks c.args.self.now made c.args.bytes.now (λ e. false≢true (sym c.if-is_empty.false ∙ c.is_empty.ensures ∙ ap (λ (n : ℕ). n == 0) e)) put c.in_ok-flush.ensures.zeros is

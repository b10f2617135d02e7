-- The answer is put into a0, and the pc moves on.
use Rattle.std.proofs.Common.{◌≡◌, ◌∙◌, ap, rules}
use Rattle.vx_base.specs.Numbers.{reduced}
use Rattle.vx_flat.specs.Service.{Answer, service}
use Rattle.vx_flat.specs.State.{Flat, following, with_register}
use Rattle.vx_hart.specs.Outcomes.{flat_of}
use Rattle.vx_hart.proofs.service.serve_other.Goals as goal

pub returns-clause-answered : goal.returns-clause-answered
returns-clause-answered g c =
    let s : Flat = flat_of c.args.arch.now (g.M.Memory.state c.args.memory.now c.args.physical.now) c.args.output.now.items in
    let a : Answer = service s c.args.number in
    let cast : c.cast_unsigned.result ≡ reduced 64 c.answer-value.result = search rules in
    let put : c.write.new.self.x ≡ with_register s.x 10 (reduced 64 a.value) =
    c.write.ensures ∙ ap (with_register s.x 10) (cast ∙ ap (reduced 64) (c.answer-value.ensures.value)) in
    λ j. record s { pc = following s; x = put j; memory = c.answer-value.ensures.memory j; output = c.answer-value.ensures.written j }

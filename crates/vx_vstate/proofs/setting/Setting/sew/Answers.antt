use Rattle.std.proofs.Common.{subst, sym, IsTrue, ℕ}
use Rattle.vx_vstate.specs.Registers.{is_byte_width}
use Rattle.vx_vstate.proofs.Groups.{sew-width}
use Rattle.vx_vstate.proofs.setting.Setting.sew.Goals as goal

pub returns-clause-in_range : goal.returns-clause-in_range
returns-clause-in_range c = subst (λ (n : ℕ). IsTrue (is_byte_width n)) (sym c.sew.ensures) (sew-width c.args.self.now.vtype c.args.self.now.vtype_in_range)

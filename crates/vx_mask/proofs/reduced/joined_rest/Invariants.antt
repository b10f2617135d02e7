use Rattle.std.proofs.Common.{◌≡◌, ℕ, ◌*◌, ◌/◌}
use Rattle.vx_vstate.specs.Views.{view_of}
use Rattle.vx_mask.specs.declared.reduced.Terms.{Terms}
use Rattle.vx_operands.specs.Forms.{reading}
use Rattle.vx_operands.specs.Rising.{joined_below}
use Rattle.vx_vector.specs.Reading.{element_of, is_active}
use Rattle.vx_mask.proofs.reduced.joined_rest.Given as goal

abbrev pub invariant-loop-w : goal.invariant-loop-w
invariant-loop-w g l = (h : ℕ → ℕ → ℕ) → ((t : Terms) (v : ℕ) → goal.F-post g l.f t v → v ≡ h t.sum t.x) → (x : ℕ) → l.start ≡ joined_below h x (is_active (reading l.form (view_of l.at) l.regs (g.S.WordFile.words l.file))) (element_of (reading l.form (view_of l.at) l.regs (g.S.WordFile.words l.file)) l.regs.vs2 l.sew) (l.words * (64 / l.sew)) → l.sum ≡ joined_below h x (is_active (reading l.form (view_of l.at) l.regs (g.S.WordFile.words l.file))) (element_of (reading l.form (view_of l.at) l.regs (g.S.WordFile.words l.file)) l.regs.vs2 l.sew) (l.w * (64 / l.sew))

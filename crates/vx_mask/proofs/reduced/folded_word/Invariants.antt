use Rattle.std.proofs.Common.{◌≡◌, ℕ, true}
use Rattle.vx_packed.specs.Joined.{lane}
use Rattle.vx_mask.specs.declared.reduced.Terms.{Terms}
use Rattle.vx_operands.specs.Rising.{joined_below}
use Rattle.vx_mask.proofs.reduced.folded_word.Given as goal

abbrev pub invariant-loop-k : goal.invariant-loop-k
invariant-loop-k g l = (h : ℕ → ℕ → ℕ) → ((t : Terms) (v : ℕ) → goal.F-post g l.f t v → v ≡ h t.sum t.x) → l.sum ≡ joined_below h l.start (λ k. true) (λ k. lane l.width l.word k) l.k

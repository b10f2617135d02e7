use Rattle.std.proofs.Common.{ℕ, ◌%◌, sym, ap, ◌∙◌, eqb-true}
use Rattle.vx_episode.specs.Batches.Fate.{Good}
use Rattle.vx_look.proofs.Lasting.{fate-hit}
use Rattle.vx_look.proofs.looking.fate_at_last.Goals as goal

pub returns-in-Some-clause-looked : goal.returns-in-Some-clause-looked
returns-in-Some-clause-looked c known start history earlier a at width stands =
    ap (λ (n : ℕ). Good c.args.started n) c.word_in.ensures
    ∙ fate-hit start history earlier c.args.want c.args.started a c.args.tlb.now c.args.address c.args.width c.in-Some.frame at width (eqb-true (c.args.address % c.args.width) 0 (sym c.if-not-is_aligned.ensures)) c.in-Some.ensures stands

use Rattle.std.proofs.Common.{subst, List, ℕ}
use Rattle.std.specs.Prelude.{true, false}
use Rattle.std.proofs.lemmas.List.{append-nil}
use Rattle.vx_language.specs.Assembly.{IsSourceOf}
use Rattle.vx_source.specs.Lines.{line_of}
use Rattle.vx_lines.proofs.Whole.{line-is-source}
use Rattle.vx_lines.proofs.law.lines_are_sources.Goals as goal

pub returns-clause-bare : goal.returns-clause-bare
returns-clause-bare c = λ word small.
    subst (λ (bs : List ℕ). IsSourceOf bs word) (append-nil (line_of word))
    (line-is-source word false small (λ i e. (c.decoded_is_valid.ensures word i e, c.decoded_has_its_word.ensures word i small e)))

pub returns-clause-ended : goal.returns-clause-ended
returns-clause-ended c = λ word small.
    line-is-source word true small (λ i e. (c.decoded_is_valid.ensures word i e, c.decoded_has_its_word.ensures word i small e))

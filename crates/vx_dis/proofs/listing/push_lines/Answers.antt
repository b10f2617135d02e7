use Rattle.std.proofs.Common.{string_bytes, refl, ap, ◌∙◌, ◌++◌, arith, List, ℕ}
use Rattle.vx_source.specs.Lines.{line_of}
use Rattle.vx_dis.proofs.Listings.{listing-next, listing-over}
use Rattle.vx_dis.proofs.listing.push_lines.Goals as goal

pub loop-word-preserved : goal.loop-word-preserved
loop-word-preserved c =
    let cut = c.in-Some.ensures.cases in
    listing-next c.loop-word.rest.now c.in-Some.word.now c.in-Some.later.now (string_bytes c.loop-word.text) (string_bytes c.push_line.new.text) (string_bytes c.push.new.self) _ (c.in-Some.ensures.variant.0 refl) cut.0 cut.1 (c.in_ok-push_line.ensures ∙ ap (λ (n : ℕ). string_bytes c.loop-word.text ++ line_of n) c.from_le_bytes.ensures) (c.in_ok-push.ensures.bytes ∙ ap (λ (l : List ℕ). string_bytes c.push_line.new.text ++ l) (c.in_ok-push.ensures.ascii (omega arith))) c.loop-word.invariant

pub returns : goal.returns
returns c = listing-over c.loop-word.rest.now (string_bytes c.loop-word.text) _ c.in_default.ensures.cases c.loop-word.invariant

-- The family's lanes are what the row makes.
use Rattle.std.proofs.Common.{◌≡◌, ℕ, sym, ap, ◌∙◌, rules, IsTrue, subst}
use Rattle.vx_packed.specs.Made.{even_packing, made}
use Rattle.vx_packed.specs.declared.elements.Made.{Made}
use Rattle.vx_packed.specs.declared.elements.Sources.{Sources}
use Rattle.vx_rows.specs.declared.family.Family.{Family}
use Rattle.vx_operands.specs.Lanes.{answer, numbers_of}
use Rattle.vx_elem.specs.Kinds.{is_plain}
use Rattle.vx_elem.proofs.Unrounded.{unrounded}
use Rattle.vx_elem.proofs.Facts.{plain_each, plain_even}
use Rattle.vx_elem.proofs.full.words_of.Goals as goal

-- the lanes of a family are those of the row, whose family it is
of_row : (named family : Family) (sew mode : ℕ) (from : Sources) (new : Made) → IsTrue (is_plain named) → named ≡ family → new ≡ made (even_packing sew) from (λ l. answer named (numbers_of sew 0 l)) → new ≡ made (even_packing sew) from (λ l. answer family (numbers_of sew mode l))
of_row named family sew mode from new plain same is =
    is
    ∙ (λ i. made (even_packing sew) from (λ l. unrounded named plain sew mode l i))
    ∙ ap (λ (f : Family). made (even_packing sew) from (λ l. answer f (numbers_of sew mode l))) same

pub full_words-requires-clause-each : goal.full_words-requires-clause-each
full_words-requires-clause-each g c = plain_each c.args.form.family c.requires.kind

pub full_words-requires-clause-even : goal.full_words-requires-clause-even
full_words-requires-clause-even g c = plain_even c.args.form.family c.args.form.first c.requires.kind

pub full_words-requires-clause-makes : goal.full_words-requires-clause-makes
full_words-requires-clause-makes g c from new p =
    let named : Family = g.N.Named.family c.args.named.now in
    let is : new ≡ made (even_packing 8) from (λ l. answer named (numbers_of 8 0 l)) = search rules in
    of_row named c.args.form.family 8 c.args.at.now.vxrm from new c.requires.named c.requires.family is

pub full_words-requires-in-16-clause-each : goal.full_words-requires-in-16-clause-each
full_words-requires-in-16-clause-each g c = plain_each c.args.form.family c.requires.kind

pub full_words-requires-in-16-clause-even : goal.full_words-requires-in-16-clause-even
full_words-requires-in-16-clause-even g c = plain_even c.args.form.family c.args.form.first c.requires.kind

pub full_words-requires-in-16-clause-makes : goal.full_words-requires-in-16-clause-makes
full_words-requires-in-16-clause-makes g c from new p =
    let named : Family = g.N.Named.family c.args.named.now in
    let is : new ≡ made (even_packing 16) from (λ l. answer named (numbers_of 16 0 l)) = search rules in
    of_row named c.args.form.family 16 c.args.at.now.vxrm from new c.requires.named c.requires.family is

pub full_words-requires-in-32-clause-each : goal.full_words-requires-in-32-clause-each
full_words-requires-in-32-clause-each g c = plain_each c.args.form.family c.requires.kind

pub full_words-requires-in-32-clause-even : goal.full_words-requires-in-32-clause-even
full_words-requires-in-32-clause-even g c = plain_even c.args.form.family c.args.form.first c.requires.kind

pub full_words-requires-in-32-clause-makes : goal.full_words-requires-in-32-clause-makes
full_words-requires-in-32-clause-makes g c from new p =
    let named : Family = g.N.Named.family c.args.named.now in
    let is : new ≡ made (even_packing 32) from (λ l. answer named (numbers_of 32 0 l)) = search rules in
    of_row named c.args.form.family 32 c.args.at.now.vxrm from new c.requires.named c.requires.family is

pub full_words-requires-in_default-clause-each : goal.full_words-requires-in_default-clause-each
full_words-requires-in_default-clause-each g c = plain_each c.args.form.family c.requires.kind

pub full_words-requires-in_default-clause-even : goal.full_words-requires-in_default-clause-even
full_words-requires-in_default-clause-even g c = plain_even c.args.form.family c.args.form.first c.requires.kind

pub full_words-requires-in_default-clause-makes : goal.full_words-requires-in_default-clause-makes
full_words-requires-in_default-clause-makes g c from new p =
    let named : Family = g.N.Named.family c.args.named.now in
    let is : new ≡ made (even_packing 64) from (λ l. answer named (numbers_of 64 0 l)) = search rules in
    of_row named c.args.form.family 64 c.args.at.now.vxrm from new c.requires.named c.requires.family is

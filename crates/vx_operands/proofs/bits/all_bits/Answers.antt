-- By a width that is known.
use Rattle.std.proofs.Common.{◌≡◌, ◌∙◌, sym, subst}
use Rattle.vx_packed.specs.Made.{made}
use Rattle.vx_operands.specs.Lanes.{answer, numbers_of}
use Rattle.vx_operands.specs.Parts.{bit_packing}
use Rattle.vx_operands.proofs.bits.all_bits.Goals as goal

pub new_bits-requires-clause-sew : goal.new_bits-requires-clause-sew
new_bits-requires-clause-sew g c = sym c.in-8.is ∙ c.requires.sew

pub new_bits-requires-clause-makes : goal.new_bits-requires-clause-makes
new_bits-requires-clause-makes g c from new p = subst (λ s. new ≡ made (bit_packing s) from (λ l. answer c.args.form.family (numbers_of s c.args.at.now.vxrm l))) c.in-8.is (c.requires.makes from new p)

pub new_bits-requires-in-16-clause-sew : goal.new_bits-requires-in-16-clause-sew
new_bits-requires-in-16-clause-sew g c = sym c.in-16.is ∙ c.requires.sew

pub new_bits-requires-in-16-clause-makes : goal.new_bits-requires-in-16-clause-makes
new_bits-requires-in-16-clause-makes g c from new p = subst (λ s. new ≡ made (bit_packing s) from (λ l. answer c.args.form.family (numbers_of s c.args.at.now.vxrm l))) c.in-16.is (c.requires.makes from new p)

pub new_bits-requires-in-32-clause-sew : goal.new_bits-requires-in-32-clause-sew
new_bits-requires-in-32-clause-sew g c = sym c.in-32.is ∙ c.requires.sew

pub new_bits-requires-in-32-clause-makes : goal.new_bits-requires-in-32-clause-makes
new_bits-requires-in-32-clause-makes g c from new p = subst (λ s. new ≡ made (bit_packing s) from (λ l. answer c.args.form.family (numbers_of s c.args.at.now.vxrm l))) c.in-32.is (c.requires.makes from new p)

use Rattle.std.proofs.Common.{◌≡◌, ℕ, bit_or, ◌*◌, ◌%◌, ap, sym, ◌∙◌}
use Rattle.vx_rows.specs.Table.{shape_of}
use Rattle.vx_rows.specs.Layouts.{layout_of}
use Rattle.vx_decode.specs.Decoded.{decoded}
use Rattle.vx_decode.specs.Encoded.{number_bits, vm_bits, word_of}
use Rattle.vx_decode.proofs.Encoding.{encoded-decodes, encoded-only, encoded-joined}
use Rattle.vx_decode.proofs.encoder.encode.Goals as goal

-- what the body joins
abbrev joined : (bits rd rs1 rs2 number vm fields : ℕ) → ℕ
joined bits rd rs1 rs2 number vm fields =
    bit_or bits (bit_or (bit_or (bit_or (bit_or (bit_or (rd * 128 % 4294967296) (rs1 * 32768 % 4294967296)) (rs2 * 1048576 % 4294967296)) number) vm) fields)

word : (c : goal.After-field_bits) → joined c.bits.result c.from.result c.from-2.result c.from-3.result c.number.result c.mask_bits-unmasked.result c.field_bits.result ≡ word_of c.args.i.now
word c =
    let i = c.args.i.now in
    let shape : c.shape-shape.result ≡ shape_of i.op = c.shape-shape.ensures in
    let number : c.number.result ≡ number_bits (layout_of (shape_of i.op)).number i.imm = c.number.ensures ∙ ap (λ s. number_bits (layout_of s).number i.imm) shape in
    let vm : c.mask_bits-unmasked.result ≡ vm_bits (layout_of (shape_of i.op)).vm i.vm = c.mask_bits-unmasked.ensures ∙ ap (λ l. vm_bits l.vm i.vm) (c.layout.ensures ∙ ap layout_of shape) in
    rw (c.bits.ensures, c.from.ensures, c.from-2.ensures, c.from-3.ensures, c.field_bits.ensures, number, vm) (encoded-joined i c.requires)

pub returns-clause-value : goal.returns-clause-value
returns-clause-value c = word c

pub returns-clause-decodes : goal.returns-clause-decodes
returns-clause-decodes c = ap decoded (word c) ∙ encoded-decodes c.has_its_rows.ensures c.args.i.now c.requires

pub returns-clause-only : goal.returns-clause-only
returns-clause-only c = λ w below e. encoded-only w c.args.i.now below e ∙ sym (word c)

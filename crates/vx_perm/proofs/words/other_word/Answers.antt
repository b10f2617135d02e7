-- A row that packs has its mask in the place of vs1; any other puts element 0.
use Rattle.std.proofs.Common.{sym, ◌∙◌}
use Rattle.vx_operands.specs.Forms.{is_vector}
use Rattle.vx_perm.proofs.Facts.{pack_family, put_family, pack_registers}
use Rattle.vx_perm.proofs.words.other_word.Goals as goal

pub packed_word-requires-clause-family : goal.packed_word-requires-clause-family
packed_word-requires-clause-family g c = pack_family c.args.form.family (sym c.is_pack.ensures ∙ c.if-is_pack.true)

pub packed_word-requires-clause-register : goal.packed_word-requires-clause-register
packed_word-requires-clause-register g c = pack_registers c.args.form c.requires.kind (pack_family c.args.form.family (sym c.is_pack.ensures ∙ c.if-is_pack.true))

pub put_word-requires-clause-family : goal.put_word-requires-clause-family
put_word-requires-clause-family g c = put_family c.args.form.family (is_vector c.args.form.first) c.requires.kind c.requires.no_slide c.requires.no_gather (sym c.is_pack.ensures ∙ c.if-is_pack.false)

use Rattle.std.proofs.Common.{[], ◌∷◌, refl, ◌∙◌}
use Rattle.vx_rows.specs.Table.{operations}
use Rattle.vx_decode.proofs.Rows.{operation_of-found, operation_of-last}
use Rattle.vx_decode.proofs.vector.set.Goals as goal

pub returns-in-Some : goal.returns-in-Some
returns-in-Some c = operation_of-found c.args.word 0x707f 0x7057 0x8000707f c.in-Some.op c.fits_one_at_most.ensures c.in-Some.ensures

pub returns-in-Some-set_number : goal.returns-in-Some-set_number
returns-in-Some-set_number c = operation_of-found c.args.word 0x707f 0x7057 0xc000707f c.in-Some-set_number.op c.fits_one_at_most.ensures c.in-Some-set_number.ensures

pub returns : goal.returns
unfolding operations
returns c =
    c.set_register.ensures
    ∙ operation_of-last c.args.word 0x707f 0x7057 (0x8000707f ∷ 0xc000707f ∷ []) 0xfe00707f c.requires (c.in_default.ensures, (c.in_default-set_number.ensures, tt)) refl

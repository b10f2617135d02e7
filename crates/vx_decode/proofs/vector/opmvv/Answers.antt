use Rattle.std.proofs.Common.{[], ◌∷◌, refl, ◌∙◌}
use Rattle.vx_rows.specs.Table.{operations}
use Rattle.vx_decode.proofs.Rows.{operation_of-found, operation_of-last}
use Rattle.vx_decode.proofs.vector.opmvv.Goals as goal

pub returns-in-Some : goal.returns-in-Some
returns-in-Some c = operation_of-found c.args.word 0x707f 0x2057 0xfc00707f c.in-Some.op c.fits_one_at_most.ensures c.in-Some.ensures

pub returns-in-Some-opmvv_fixed : goal.returns-in-Some-opmvv_fixed
returns-in-Some-opmvv_fixed c = operation_of-found c.args.word 0x707f 0x2057 0xfe00707f c.in-Some-opmvv_fixed.op c.fits_one_at_most.ensures c.in-Some-opmvv_fixed.ensures

pub returns-in-Some-opmvv_unary : goal.returns-in-Some-opmvv_unary
returns-in-Some-opmvv_unary c = operation_of-found c.args.word 0x707f 0x2057 0xfc0ff07f c.in-Some-opmvv_unary.op c.fits_one_at_most.ensures c.in-Some-opmvv_unary.ensures

pub returns-in-Some-opmvv_unmasked : goal.returns-in-Some-opmvv_unmasked
returns-in-Some-opmvv_unmasked c = operation_of-found c.args.word 0x707f 0x2057 0xfe0ff07f c.in-Some-opmvv_unmasked.op c.fits_one_at_most.ensures c.in-Some-opmvv_unmasked.ensures

pub returns : goal.returns
unfolding operations
returns c =
    c.opmvv_nullary.ensures
    ∙ operation_of-last c.args.word 0x707f 0x2057 (0xfc00707f ∷ 0xfe00707f ∷ 0xfc0ff07f ∷ 0xfe0ff07f ∷ []) 0xfdfff07f c.requires (c.in_default.ensures, (c.in_default-opmvv_fixed.ensures, (c.in_default-opmvv_unary.ensures, (c.in_default-opmvv_unmasked.ensures, tt)))) refl

use Rattle.std.proofs.Common.{[], ◌∷◌, refl, ◌∙◌}
use Rattle.vx_rows.specs.Table.{operations}
use Rattle.vx_decode.proofs.Rows.{operation_of-found, operation_of-last}
use Rattle.vx_decode.proofs.vector.opivi.Goals as goal

pub returns-in-Some : goal.returns-in-Some
returns-in-Some c = operation_of-found c.args.word 0x707f 0x3057 0xfc00707f c.in-Some.op c.fits_one_at_most.ensures c.in-Some.ensures

pub returns-in-Some-opivi_fixed : goal.returns-in-Some-opivi_fixed
returns-in-Some-opivi_fixed c = operation_of-found c.args.word 0x707f 0x3057 0xfe00707f c.in-Some-opivi_fixed.op c.fits_one_at_most.ensures c.in-Some-opivi_fixed.ensures

pub returns-in-Some-opivi_move : goal.returns-in-Some-opivi_move
returns-in-Some-opivi_move c = operation_of-found c.args.word 0x707f 0x3057 0xfff0707f c.in-Some-opivi_move.op c.fits_one_at_most.ensures c.in-Some-opivi_move.ensures

pub returns : goal.returns
unfolding operations
returns c =
    c.opivi_copy.ensures
    ∙ operation_of-last c.args.word 0x707f 0x3057 (0xfc00707f ∷ 0xfe00707f ∷ 0xfff0707f ∷ []) 0xfe0ff07f c.requires (c.in_default.ensures, (c.in_default-opivi_fixed.ensures, (c.in_default-opivi_move.ensures, tt))) refl

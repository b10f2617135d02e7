use Rattle.std.proofs.Common.{[], ◌∷◌, refl, ◌∙◌}
use Rattle.vx_rows.specs.Table.{operations}
use Rattle.vx_decode.proofs.Rows.{operation_of-found, operation_of-last}
use Rattle.vx_decode.proofs.vector.opmvx.Goals as goal

pub returns-in-Some : goal.returns-in-Some
returns-in-Some c = operation_of-found c.args.word 0x707f 0x6057 0xfc00707f c.in-Some.op c.fits_one_at_most.ensures c.in-Some.ensures

pub returns : goal.returns
unfolding operations
returns c =
    c.opmvx_move.ensures
    ∙ operation_of-last c.args.word 0x707f 0x6057 (0xfc00707f ∷ []) 0xfff0707f c.requires (c.in_default.ensures, tt) refl

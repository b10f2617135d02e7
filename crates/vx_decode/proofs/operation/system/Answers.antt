use Rattle.std.proofs.Common.{[], ◌∷◌, refl, ◌∙◌}
use Rattle.vx_rows.specs.Table.{operations}
use Rattle.vx_decode.proofs.Rows.{operation_of-found, operation_of-last}
use Rattle.vx_decode.proofs.operation.system.Goals as goal

pub returns-in-Some : goal.returns-in-Some
returns-in-Some c = operation_of-found c.args.word 0x7f 0x73 0x707f c.in-Some.op c.fits_one_at_most.ensures c.in-Some.ensures

pub returns : goal.returns
unfolding operations
returns c =
    c.environment.ensures
    ∙ operation_of-last c.args.word 0x7f 0x73 (0x707f ∷ []) 0xffffffff c.requires (c.in_default.ensures, tt) refl

use Rattle.std.proofs.Common.{[], ◌∷◌, refl, ◌∙◌}
use Rattle.vx_rows.specs.Table.{operations}
use Rattle.vx_decode.proofs.Rows.{operation_of-found, operation_of-last}
use Rattle.vx_decode.proofs.memory.vector_stores.Goals as goal

pub returns-in-Some : goal.returns-in-Some
returns-in-Some c = operation_of-found c.args.word 0x7f 0x27 0x1df0707f c.in-Some.op c.fits_one_at_most.ensures c.in-Some.ensures

pub returns-in-Some-register_stores : goal.returns-in-Some-register_stores
returns-in-Some-register_stores c = operation_of-found c.args.word 0x7f 0x27 0x1c00707f c.in-Some-register_stores.op c.fits_one_at_most.ensures c.in-Some-register_stores.ensures

pub returns : goal.returns
unfolding operations
returns c =
    c.whole_stores.ensures
    ∙ operation_of-last c.args.word 0x7f 0x27 (0x1df0707f ∷ 0x1c00707f ∷ []) 0xfff0707f c.requires (c.in_default.ensures, (c.in_default-register_stores.ensures, tt)) refl

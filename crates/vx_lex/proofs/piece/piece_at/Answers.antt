use Rattle.std.proofs.Common.{ℕ, List, ◌-◌, length, take, drop}
use Rattle.vx_lex.proofs.Pieces.{begins-at, length-at, text-some, rest-is}
use Rattle.vx_lex.proofs.piece.piece_at.Goals as goal

pub kind_of-kind-requires : goal.kind_of-kind-requires
kind_of-kind-requires c =
    let source : List ℕ = c.args.source.now in
    let rest : List ℕ = take (length source - c.args.from) (drop c.args.from source) in
    let length = c.piece_length-length in
    text-some rest length.result
    (length-at source rest c.args.from length.result c.beginning-begins.result (rest-is source c.args.from) c.if-from-source.false c.beginning-begins.ensures length.ensures.value)
    length.ensures.within

pub returns-clause-piece : goal.returns-clause-piece
returns-clause-piece c =
    let source : List ℕ = c.args.source.now in
    let rest : List ℕ = take (length source - c.args.from) (drop c.args.from source) in
    let length = c.piece_length-length in
    begins-at source rest c.args.from length.result c.beginning-begins.result c.kind_of-kind.result (rest-is source c.args.from) c.if-from-source.false c.beginning-begins.ensures length.ensures.value length.ensures.within c.kind_of-kind.ensures

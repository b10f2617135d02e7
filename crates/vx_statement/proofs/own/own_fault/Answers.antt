use Rattle.std.proofs.Common.{◌≡◌, [], ◌∷◌}
use Rattle.vx_statement.specs.Lexemes.{piece_of, pieces_of}
use Rattle.vx_statement.proofs.Owned.{own-joined, own-none, none-of}
use Rattle.vx_statement.proofs.own.own_fault.Goals as goal

pub returns-in_default : goal.returns-in_default
returns-in_default c names place known may =
    let e : c.args.statement.now ≡ [] = none-of c.args.statement.now c.in_default.ensures.cases in
    rw e (own-none names place c.args.end)

pub returns : goal.returns
returns c names place known may =
    let e : c.args.statement.now ≡ c.in-Some.name.now ∷ c.in-Some.operands.now = c.in-Some.ensures.cases.0 in
    let tokens = c.bad_fault-by_tokens.ensures in
    rw (c.first-2.ensures, c.first.ensures, e) (own-joined names place c.args.end (piece_of c.in-Some.name.now) (pieces_of c.in-Some.operands.now) _ _ _ (c.in_ok-by_itself.ensures names known) (rw e at tokens) (c.placement_fault-by_place.ensures place (pieces_of c.in-Some.operands.now) may))

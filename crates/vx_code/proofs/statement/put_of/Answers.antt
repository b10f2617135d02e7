use Rattle.std.proofs.Common.{◌≡◌, [], pos, length, rules, ◌∙◌, ap}
use Rattle.vx_language.specs.Lexemes.{Piece}
use Rattle.vx_language.specs.Places.{offset_of}
use Rattle.vx_language.specs.Statements.{Plain}
use Rattle.vx_statement.specs.Labels.{place_of}
use Rattle.vx_statement.specs.Lexemes.{pieces_of}
use Rattle.vx_code.specs.Aiming.{aim_of}
use Rattle.vx_code.proofs.Stated.{none-put, none-sized, sound-by, chunk-by, size-by}
use Rattle.vx_code.proofs.statement.put_of.Goals as goal

pub returns-in_default-clause-chunk : goal.returns-in_default-clause-chunk
returns-in_default-clause-chunk c = ap Plain (let e : c.new.result.items ≡ [] = search rules in e) ∙ none-put (aim_of c.args.aim.now) (offset_of (place_of c.args.place)) (pieces_of c.args.statement.now) c.in_default.ensures

pub returns-in_default-clause-size : goal.returns-in_default-clause-size
returns-in_default-clause-size c = ap length (let e : c.new.result.items ≡ [] = search rules in e) ∙ none-sized (λ (label : Piece). pos 0) (offset_of (place_of c.args.place)) (pieces_of c.args.statement.now) c.in_default.ensures

pub chunk_of-requires-clause-sound : goal.chunk_of-requires-clause-sound
chunk_of-requires-clause-sound c = sound-by (aim_of c.args.aim.now) c.args.statement.now c.in-Some.form c.in-Some.operands c.in-Some.ensures c.requires.faultless c.requires.reach

pub returns-clause-chunk : goal.returns-clause-chunk
returns-clause-chunk c =
    chunk-by (aim_of c.args.aim.now) (offset_of (place_of c.args.place)) c.args.statement.now c.in-Some.form c.in-Some.operands _ c.in-Some.ensures (rw c.offset.ensures at c.in_ok-chunk.ensures)

pub returns-clause-size : goal.returns-clause-size
returns-clause-size c =
    size-by (aim_of c.args.aim.now) (offset_of (place_of c.args.place)) c.args.statement.now c.in-Some.form c.in-Some.operands _ c.in-Some.ensures c.requires.faultless (rw c.offset.ensures at c.in_ok-chunk.ensures)

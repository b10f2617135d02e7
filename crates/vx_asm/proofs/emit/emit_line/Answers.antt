use Rattle.std.proofs.Common.{List, sym, ap, ◌∙◌, subst}
use Rattle.vx_language.specs.Lexemes.{Piece}
use Rattle.vx_language.specs.Places.{offset_of, statement_of, statement_offset_faults}
use Rattle.vx_language.specs.Statements.{statement_chunk}
use Rattle.vx_statement.specs.Labels.{place_of}
use Rattle.vx_statement.specs.Lexemes.{pieces_of}
use Rattle.vx_statement.specs.Ways.{section_of}
use Rattle.vx_asm.specs.Judging.{IsGood}
use Rattle.vx_asm.specs.Reading.{line_of}
use Rattle.vx_asm.specs.Written.{aim_from}
use Rattle.vx_asm.proofs.Judged.{none-first}
use Rattle.vx_asm.proofs.Emission.{faultless-by, puts-same}
use Rattle.vx_asm.proofs.Sliced.{cut_at, sliced}
use Rattle.vx_asm.proofs.emit.emit_line.Goals as goal

pub reach_fault-requires-clause-faultless : goal.reach_fault-requires-clause-faultless
reach_fault-requires-clause-faultless c =
    let tokens = c.as_slice-tokens.result.now in
    let is = sliced c.args.line.now tokens c.labels_length.result c.as_slice-tokens.ensures c.labels_length.ensures.statement in
    faultless-by (place_of c.args.place) (pieces_of (cut_at tokens c.labels_length.result)) (subst (λ (s : List Piece). IsGood (place_of c.args.place) s) is c.requires.good)

pub emit_statement-requires-clause-reach : goal.emit_statement-requires-clause-reach
emit_statement-requires-clause-reach c =
    let tokens = c.as_slice-tokens.result.now in
    none-first (statement_offset_faults (aim_from c.args.labels.now c.args.code (place_of c.args.place)) (pieces_of (cut_at tokens c.labels_length.result))) (sym c.reach_fault.ensures ∙ c.in-None.is)

pub returns-in-None-clause-parts : goal.returns-in-None-clause-parts
returns-in-None-clause-parts c none =
    let place = place_of c.args.place in
    let tokens = c.as_slice-tokens.result.now in
    let is = sliced c.args.line.now tokens c.labels_length.result c.as_slice-tokens.ensures c.labels_length.ensures.statement in
    let aim = aim_from c.args.labels.now c.args.code place in
    puts-same (section_of c.args.place.section) (statement_chunk aim (offset_of place) (pieces_of (cut_at tokens c.labels_length.result))) (statement_chunk aim (offset_of place) (statement_of (line_of c.args.line.now))) c.args.parts.now c.emit_statement.new.parts (ap (λ (s : List Piece). statement_chunk aim (offset_of place) s) (sym is)) c.in_ok-place-in-None.ensures.parts

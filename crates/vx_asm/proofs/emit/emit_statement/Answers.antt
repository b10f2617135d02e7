use Rattle.std.proofs.Common.{◌∙◌}
use Rattle.vx_language.specs.Places.{offset_of}
use Rattle.vx_language.specs.Statements.{chunk_size, statement_chunk}
use Rattle.vx_statement.specs.Labels.{place_of}
use Rattle.vx_statement.specs.Lexemes.{pieces_of}
use Rattle.vx_statement.specs.Ways.{section_of}
use Rattle.vx_code.specs.Aiming.{aim_of}
use Rattle.vx_code.specs.Filling.{chunk_seen}
use Rattle.vx_asm.proofs.Judged.{behind-of}
use Rattle.vx_asm.proofs.Room.{put-fits}
use Rattle.vx_asm.proofs.Emission.{faultless-by, puts-same}
use Rattle.vx_asm.proofs.emit.emit_statement.Goals as goal

pub put_of-requires-clause-faultless : goal.put_of-requires-clause-faultless
put_of-requires-clause-faultless c = faultless-by (place_of c.args.place) (pieces_of c.args.statement.now) c.requires.good

pub put-requires-clause-room : goal.put-requires-clause-room
put-requires-clause-room c =
    put-fits (place_of c.args.place) (pieces_of c.args.statement.now) (chunk_size (chunk_seen c.in_ok-put.put.chunk)) c.requires.good c.in_ok-put.ensures.size

pub returns-clause-place : goal.returns-clause-place
returns-clause-place c names line is none =
    behind-of names (place_of c.args.place) (place_of c.behind.result) line (pieces_of c.args.statement.now) c.size.result (section_of c.in_ok-put.put.section) is none (c.size.ensures ∙ c.in_ok-put.ensures.size) c.in_ok-put.ensures.section c.behind.ensures

pub returns-clause-parts : goal.returns-clause-parts
returns-clause-parts c =
    puts-same (section_of c.args.place.section) (chunk_seen c.in_ok-put.put.chunk) (statement_chunk (aim_of c.args.aim.now) (offset_of (place_of c.args.place)) (pieces_of c.args.statement.now)) c.args.parts.now c.put.new.self c.in_ok-put.ensures.chunk c.in_ok-put-2.ensures.parts

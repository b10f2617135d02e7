use Rattle.std.proofs.Common.{◌∙◌}
use Rattle.vx_statement.specs.Labels.{place_of}
use Rattle.vx_statement.specs.Lexemes.{pieces_of}
use Rattle.vx_statement.specs.Ways.{section_of}
use Rattle.vx_asm.specs.declared.judge.Judged.{Judged}
use Rattle.vx_asm.proofs.Judged.{by-itself, faultless-line}
use Rattle.vx_asm.proofs.judge.judge_sound.Goals as goal

pub put_of-requires-clause-faultless : goal.put_of-requires-clause-faultless
put_of-requires-clause-faultless c =
    let f = c.requires.faultless in
    (f.0, f.1.end, by-itself f.0 (place_of c.args.place) f.1 (pieces_of c.args.statement.now) f.2 f.3)

pub returns-clause-judged : goal.returns-clause-judged
returns-clause-judged c names line is none =
    let judged : Judged = record { fault = c.room_fault.result; place = c.behind.result } in
    faultless-line names (place_of c.args.place) line (pieces_of c.args.statement.now) c.size-size.result (section_of c.in_ok-put.put.section) judged is none (c.size-size.ensures ∙ c.in_ok-put.ensures.size) c.in_ok-put.ensures.section (rw c.total.ensures at c.room_fault.ensures) c.behind.ensures

use Rattle.std.proofs.Common.{Some, refl, sym, ◌∙◌}
use Rattle.vx_statement.specs.Labels.{place_of}
use Rattle.vx_statement.specs.Lexemes.{pieces_of}
use Rattle.vx_asm.specs.Reading.{line_of}
use Rattle.vx_asm.specs.declared.judge.Judged.{Judged}
use Rattle.vx_asm.proofs.Judged.{faulty-line, some-own, none-own, own_names, known-names, handed}
use Rattle.vx_asm.proofs.Sliced.{cut_at, sliced}
use Rattle.vx_asm.proofs.judge.judge_line.Goals as goal

pub returns-in-Some-clause-judged : goal.returns-in-Some-clause-judged
returns-in-Some-clause-judged c names known =
    let place = place_of c.args.place in
    let line = line_of c.args.line.now in
    let tokens = c.as_slice-tokens.result.now in
    let statement = pieces_of (cut_at tokens c.labels_length.result) in
    let is = sliced c.args.line.now tokens c.labels_length.result c.as_slice-tokens.ensures c.labels_length.ensures.statement in
    let judged : Judged = record { fault = Some c.in-Some.fault; place = c.args.place } in
    faulty-line names place line c.in-Some.fault judged (some-own names place line statement c.in-Some.fault is (sym c.in-Some.is ∙ c.in_ok-fault.ensures names place known c.may_have_code.ensures)) refl refl

pub judge_sound-requires-clause-faultless : goal.judge_sound-requires-clause-faultless
judge_sound-requires-clause-faultless c =
    let place = place_of c.args.place in
    let line = line_of c.args.line.now in
    let tokens = c.as_slice-tokens.result.now in
    let statement = pieces_of (cut_at tokens c.labels_length.result) in
    let is = sliced c.args.line.now tokens c.labels_length.result c.as_slice-tokens.ensures c.labels_length.ensures.statement in
    let names = own_names c.args.known.now in
    (names, line, is, none-own names place line statement is (sym c.in-None.is ∙ c.in_ok-fault.ensures names place (known-names c.args.known.now) c.may_have_code.ensures))

pub returns-clause-judged : goal.returns-clause-judged
returns-clause-judged c =
    let place = place_of c.args.place in
    let line = line_of c.args.line.now in
    let tokens = c.as_slice-tokens.result.now in
    let statement = pieces_of (cut_at tokens c.labels_length.result) in
    let is = sliced c.args.line.now tokens c.labels_length.result c.as_slice-tokens.ensures c.labels_length.ensures.statement in
    handed c.judge_sound.result c.args.known.now place line statement c.judge_sound.ensures.judged is (λ names known. none-own names place line statement is (sym c.in-None.is ∙ c.in_ok-fault.ensures names place known c.may_have_code.ensures))

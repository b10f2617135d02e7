use Rattle.std.proofs.Common.{◌∙◌, sym, refl, arith}
use Rattle.vx_statement.specs.Lexemes.{pieces_of}
use Rattle.vx_asm.proofs.Lining.{begun-with, line-on, line-over, line-last}
use Rattle.vx_asm.proofs.line.read_line.Goals as goal

pub returns-then-ends_line-clause-line : goal.returns-then-ends_line-clause-line
returns-then-ends_line-clause-line c =
    line-over c.args.source.now c.args.from c.loop-piece.at c.in-Some.piece (pieces_of c.loop-piece.tokens.items) c.in-Some.ensures.piece (sym c.ends_line.ensures ∙ c.if-ends_line.true) c.loop-piece.invariant.lines

pub loop-piece-preserved : goal.loop-piece-preserved
loop-piece-preserved c = record {
  lines = line-on c.args.source.now c.args.from c.loop-piece.at c.in-Some.piece (pieces_of c.loop-piece.tokens.items) (pieces_of c.push_token.new.tokens.items) c.in-Some.ensures.piece (sym c.ends_line.ensures ∙ c.if-ends_line.false) c.in_ok-push_token.ensures c.loop-piece.invariant.lines;
  ahead = omega (arith, c.in-Some.ensures.piece.some, c.loop-piece.invariant.ahead);
}

pub returns-clause-line : goal.returns-clause-line
returns-clause-line c =
    line-last c.args.source.now c.args.from c.loop-piece.at (pieces_of c.loop-piece.tokens.items) (c.in_default.ensures.end.0 refl) c.loop-piece.invariant.lines

pub loop-piece-init : goal.loop-piece-init
loop-piece-init c = record {
  lines = begun-with c.args.source.now c.args.from _ c.new-tokens.ensures.items;
  ahead = omega arith;
}

pub returns-then-ends_line-clause-ahead : goal.returns-then-ends_line-clause-ahead
returns-then-ends_line-clause-ahead c =
    (omega (arith, c.in-Some.ensures.piece.some, c.loop-piece.invariant.ahead), c.in-Some.ensures.piece.within)

use Rattle.std.proofs.Common.{sym, ◌∙◌, string_bytes}
use Rattle.vx_dis.proofs.Listed.{written, left_out}
use Rattle.vx_dis.proofs.line.push_written.Goals as goal

pub returns-then-not-is_written : goal.returns-then-not-is_written
returns-then-not-is_written c rest =
    left_out c.args.instr.now c.args.kind rest c.args.separator.now (string_bytes c.args.text.now) (sym c.is_written.ensures ∙ c.if-not-is_written.true)

pub returns : goal.returns
returns c rest =
    written c.args.instr.now c.args.kind rest c.args.separator.now _ _ _ (sym c.is_written.ensures ∙ c.if-not-is_written.false) c.in_ok-push_str.ensures.bytes c.in_ok-push_operand.ensures

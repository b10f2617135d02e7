use Rattle.std.proofs.Common.{◌≡◌, Some, ap, sym, ◌∙◌}
use Rattle.vx_decode.specs.Decoded.{decoded}
use Rattle.vx_decode.proofs.Encoding.{decoded-valid}
use Rattle.vx_decode.proofs.Rows.{decoded-operation}
use Rattle.vx_decode.proofs.decoder.decode.Goals as goal

value : (c : goal.After-operands) → Some c.operands.result ≡ decoded c.args.word
value c = ap Some c.operands.ensures ∙ decoded-operation c.args.word c.in_ok-op.op c.in_ok-op.ensures

pub returns-clause-value : goal.returns-clause-value
returns-clause-value c = value c

pub returns-clause-valid : goal.returns-clause-valid
returns-clause-valid c = decoded-valid c.args.word c.operands.result (sym (value c))

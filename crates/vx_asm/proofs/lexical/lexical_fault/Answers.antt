use Rattle.std.proofs.Common.{sym}
use Rattle.vx_language.specs.Lexemes.{pieces}
use Rattle.vx_language.specs.Tokens.{bad_bytes, bad_pieces}
use Rattle.vx_statement.proofs.Firsts.{first_of-append}
use Rattle.vx_asm.proofs.lexical.lexical_fault.Goals as goal

pub returns : goal.returns
returns c =
    rw (c.first.ensures, c.bad_byte_fault.ensures, c.bad_piece_fault.ensures) (sym (first_of-append (bad_bytes 0 c.args.source.now) (bad_pieces (pieces c.args.source.now))))

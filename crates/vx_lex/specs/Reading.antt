-- What the lexer answers. This project's own.
use Rattle.std.specs.Prelude.{◌≡◌, ℕ, List, [], Option, Some, None, Result, Ok, Err}
use Rattle.vx_language.specs.Faults.{first_of}
use Rattle.vx_language.specs.Lexemes.{pieces}
use Rattle.vx_language.specs.Tokens.{lexical_faults, bad_pieces, tokens}
use Rattle.vx_language.specs.declared.fault.Fault.{Fault}
use Rattle.vx_language.specs.declared.fault.FaultKind.TheVariants as kind
use Rattle.vx_language.specs.declared.token.Span.{Span}
use Rattle.vx_language.specs.declared.token.Token.{Token}
use Rattle.vx_lex.specs.Pieces.{bad_byte_at}
use Rattle.vx_lex.specs.declared.fault.LexFault.{LexFault}
use Rattle.vx_lex.specs.declared.fault.LexFault.TheVariants.{BadByte, BadToken, NoMemory}

abbrev pub bad_token_at : Span → Fault
bad_token_at span = record { kind = kind.BadToken; span = span }

-- what each answer says: the tokens of a source without a lexical fault, or the first of these
abbrev pub Reads : List ℕ → Result (List Token) LexFault → Type 0
Reads source (Ok list) = (lexical_faults source ≡ []) × (list ≡ tokens source)
Reads source (Err (BadByte span)) = first_of (lexical_faults source) ≡ Some (bad_byte_at span)
Reads source (Err (BadToken span)) = first_of (lexical_faults source) ≡ Some (bad_token_at span)
Reads source (Err NoMemory) = Unit {0}

-- the same of the pieces alone
abbrev pub ReadsPieces : List ℕ → Result (List Token) LexFault → Type 0
ReadsPieces source (Ok list) = (first_of (bad_pieces (pieces source)) ≡ None) × (list ≡ tokens source)
ReadsPieces source (Err (BadByte span)) = ⊥
ReadsPieces source (Err (BadToken span)) = first_of (bad_pieces (pieces source)) ≡ Some (bad_token_at span)
ReadsPieces source (Err NoMemory) = Unit {0}

-- the fault that an answer tells, where it tells one
abbrev pub fault_told : LexFault → Option Fault
fault_told (BadByte span) = Some (bad_byte_at span)
fault_told (BadToken span) = Some (bad_token_at span)
fault_told NoMemory = None

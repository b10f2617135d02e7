-- A pass over the lines of a source.
use Rattle.std.proofs.Common.{◌≡◌, ℕ, ◌+◌, ◌-◌, ◌<◌, ◌≤◌, arith, List, [], ◌∷◌, ◌++◌, Option, Some, None, refl, ap, ◌∙◌}
use Rattle.std.specs.Prelude.{IfSome}
use Rattle.vx_language.specs.Faults.{earliest}
use Rattle.vx_language.specs.Lexemes.{lexemes}
use Rattle.vx_language.specs.Lines.{Line, lines, labels_in, labels_before}
use Rattle.vx_language.specs.Lexemes.{Piece}
use Rattle.vx_language.specs.declared.fault.Fault.{Fault}
use Rattle.vx_statement.specs.Knowing.{Know}
use Rattle.vx_statement.specs.Labels.{Label}
use Rattle.vx_statement.specs.Lexemes.{pieces_of}
use Rattle.vx_statement.specs.declared.lexeme.Lexeme.{Lexeme}
use Rattle.vx_asm.specs.Defining.{DefineAll}
use Rattle.vx_asm.specs.Reading.{lines_at, lines_behind, line_of, IsLineAt}
use Rattle.vx_asm.specs.declared.line.Line as asm
use Rattle.vx_asm.proofs.Naming.{Amid, amid-begun, amid-lines, amid-over}

-- how much is left to read
abbrev pub left_of : ℕ → Option ℕ → ℕ
left_of size None = 0
left_of size (Some from) = size + 1 - from

pub left-falls : (size from : ℕ) (next : Option ℕ) → from ≤ size → IfSome next (λ n. (from < n) × (n ≤ size)) → left_of size next < left_of size (Some from)
left-falls size from None h k = omega arith
left-falls size from (Some n) h k = omega (arith, k)

pub within-next : (size from : ℕ) (next : Option ℕ) → IfSome next (λ n. (from < n) × (n ≤ size)) → IfSome next (λ n. n ≤ size)
within-next size from None k = tt
within-next size from (Some n) k = k.1

-- a source's lines begin at its beginning
know-none : (labels : List Label) → labels ≡ [] → Know labels []
know-none labels e = rw e (record { same = λ name. refl })

pub amid-start : (source : List ℕ) (labels : List Label) → labels ≡ [] → Amid (labels_in (lines source)) (labels_in (lines_at source 0)) [] labels None
unfolding lexemes
amid-start source labels e = amid-begun (labels_in (lines source)) [] labels (know-none labels e)

-- the labels of a line, and of those behind it
labels-first : (line : Line) (more : List Line) → labels_in (line ∷ more) ≡ labels_before line.tokens ++ labels_in more
unfolding labels_in
labels-first line more = refl

pub amid-step : (source : List ℕ) (from : ℕ) (line : asm.Line) (tokens : List Lexeme) (own : List Piece) (labels new : List Label) (found fault more : Option Fault) → IsLineAt source from line → tokens ≡ line.tokens.items → ((known : List (List ℕ)) → Know labels known → DefineAll (labels_before (pieces_of tokens)) known new fault) → more ≡ earliest found fault → Amid own (labels_in (lines_at source from)) [] labels found → Amid own (labels_in (lines_behind source line.next)) [] new more
amid-step source from line tokens own labels new found fault more e is defines joined amid =
    let cut = ap labels_in e ∙ labels-first (line_of line) (lines_behind source line.next) in
    amid-lines own (labels_before (pieces_of line.tokens.items)) (labels_in (lines_behind source line.next)) (labels_in (lines_at source from)) [] labels new found fault more cut (rw is at defines) joined amid

labels-of-none : labels_in [] ≡ []
unfolding labels_in
labels-of-none = refl

pub amid-end : (source : List ℕ) (next : Option ℕ) (own : List Piece) (labels : List Label) (found : Option Fault) → next ≡ None → Amid own (labels_in (lines_behind source next)) [] labels found → DefineAll own [] labels found
amid-end source next own labels found e amid =
    amid-over own (labels_in (lines_behind source next)) [] labels found (ap (λ (n : Option ℕ). labels_in (lines_behind source n)) e ∙ labels-of-none) amid

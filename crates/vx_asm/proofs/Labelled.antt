-- Labels before a statement.
use Rattle.std.proofs.Common.{◌≡◌, ℕ, ◌+◌, ◌-◌, ◌<◌, ◌≤◌, length, take, get_or, arith, Bool, true, false, List, [], ◌∷◌, drop, refl, sym, ap, ◌∙◌, length-drop, add-zero}
use Rattle.std.proofs.lemmas.List.{drop-drop, take_all, get_or-drop}
use Rattle.vx_language.specs.Lines.{is_label, labels_before, behind_labels}
use Rattle.vx_statement.specs.Lexemes.{piece_of, pieces_of}
use Rattle.vx_statement.specs.declared.lexeme.Lexeme.{Lexeme}
use Rattle.vx_asm.specs.Labelling.{BeginWithLabel}

pub few-tokens : (tokens : List Lexeme) → length tokens < 2 → BeginWithLabel tokens false
unfolding labels_before behind_labels
few-tokens [] h = (refl, refl)
few-tokens (one ∷ []) h = (refl, refl)
few-tokens (one ∷ two ∷ rest) h = absurd (omega arith)

by-label : (one two : Lexeme) (rest : List Lexeme) (b : Bool) → b ≡ is_label (piece_of one) (piece_of two) → BeginWithLabel (one ∷ two ∷ rest) b
unfolding labels_before behind_labels
by-label one two rest true e = (omega arith, rw (← e) refl, λ name. rw (← e) refl)
by-label one two rest false e = (rw (← e) refl, rw (← e) refl)

pub some-tokens : (tokens : List Lexeme) (one two : Lexeme) (b : Bool) → 2 ≤ length tokens → one ≡ get_or tokens 0 one → two ≡ get_or tokens 1 two → b ≡ is_label (piece_of one) (piece_of two) → BeginWithLabel tokens b
some-tokens [] one two b h e f g = absurd (omega arith)
some-tokens (x ∷ []) one two b h e f g = absurd (omega arith)
some-tokens (x ∷ y ∷ rest) one two b h e f g = by-label x y rest b (rw (← e) (rw (← f) g))

-- the tokens from a place on
all-left : (tokens : List Lexeme) (at : ℕ) → take (length tokens - at) (drop at tokens) ≡ drop at tokens
all-left tokens at = take_all (length tokens - at) (drop at tokens) (omega (arith, length-drop at tokens))

pub label-within : (tokens : List Lexeme) (at : ℕ) → BeginWithLabel (take (length tokens - at) (drop at tokens)) true → at ≤ length tokens → at + 2 ≤ length tokens
label-within tokens at begins within =
    let two = (rw (all-left tokens at) at begins).0 in
    omega (arith, two, length-drop at tokens)

pub label-passed : (tokens : List Lexeme) (at : ℕ) → BeginWithLabel (take (length tokens - at) (drop at tokens)) true → behind_labels (pieces_of (drop at tokens)) ≡ behind_labels (pieces_of tokens) → behind_labels (pieces_of (drop (at + 2) tokens)) ≡ behind_labels (pieces_of tokens)
label-passed tokens at begins before =
    ap (λ (l : List Lexeme). behind_labels (pieces_of l)) (sym (drop-drop 2 at tokens)) ∙ sym (rw (all-left tokens at) at begins).1 ∙ before

pub label-cut : (tokens : List Lexeme) (at : ℕ) (name : Lexeme) → BeginWithLabel (take (length tokens - at) (drop at tokens)) true → name ≡ get_or tokens at name → labels_before (pieces_of (drop at tokens)) ≡ piece_of name ∷ labels_before (pieces_of (drop (at + 2) tokens))
label-cut tokens at name begins is =
    let here = rw (all-left tokens at) at begins in
    here.2 name
    ∙ ap (λ (n : Lexeme). piece_of n ∷ labels_before (pieces_of (drop 2 (drop at tokens)))) (get_or-drop at tokens 0 name ∙ ap (λ (k : ℕ). get_or tokens k name) (add-zero at) ∙ sym is)
    ∙ ap (λ (l : List Lexeme). piece_of name ∷ labels_before (pieces_of l)) (drop-drop 2 at tokens)

pub label-none : (tokens : List Lexeme) (at : ℕ) → BeginWithLabel (take (length tokens - at) (drop at tokens)) false → labels_before (pieces_of (drop at tokens)) ≡ []
label-none tokens at begins = (rw (all-left tokens at) at begins).0

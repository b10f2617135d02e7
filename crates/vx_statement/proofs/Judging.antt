-- The faults of operands, token by token.
use Rattle.std.proofs.Common.{◌≡◌, ℕ, suc, ◌+◌, ◌<◌, ◌≤◌, length, get_or, arith, Bool, true, false, cond, ◌||◌, List, [], ◌∷◌, ◌++◌, map, filter, drop, Option, Some, None, refl, sym, ap, ◌∙◌}
use Rattle.std.specs.List.{list_any}
use Rattle.std.proofs.Math.Seq.{drop-cons}
use Rattle.std.proofs.lemmas.List.{drop_all}
use Rattle.vx_language.specs.Faults.{fault_at, first_of, earlier, earliest}
use Rattle.vx_language.specs.Lexemes.{Piece}
use Rattle.vx_language.specs.Slots.{token_faults}
use Rattle.vx_language.specs.Slots as slots
use Rattle.vx_language.specs.Statements.{go_on_with, first_slot_faults, operand_faults, is_done, ends_too_early}
use Rattle.vx_language.specs.declared.fault.Fault.{Fault}
use Rattle.vx_language.specs.declared.fault.FaultKind.TheVariants.{BadOperand}
use Rattle.vx_statement.specs.Advances.{Advances, heads, going_on}
use Rattle.vx_statement.specs.Lexemes.{piece_of, pieces_of}
use Rattle.vx_statement.specs.Slots.{slot_of}
use Rattle.vx_statement.specs.Ways.{commas_in, way_slots}
use Rattle.vx_statement.specs.declared.lexeme.Lexeme.{Lexeme}
use Rattle.vx_statement.specs.declared.slot.Slot.{Slot}
use Rattle.vx_statement.specs.declared.way.Way.{Way}
use Rattle.vx_statement.proofs.Firsts.{first_of-append, first-twice}

-- the faults from a token on, where these ways go on with it
judged : List (List ℕ) → ℕ → Piece → List Piece → List (List slots.Slot) → List Fault
judged names end piece rest going =
    elim going [
      | [] ↦ fault_at BadOperand piece ∷ []
      | way ∷ more ↦ first_slot_faults names piece way ++ operand_faults names end (map (drop 1) (way ∷ more)) rest
    ]

faults-judged : (names : List (List ℕ)) (end : ℕ) (piece : Piece) (rest : List Piece) (ways : List (List slots.Slot)) → operand_faults names end ways (piece ∷ rest) ≡ judged names end piece rest (filter (go_on_with piece) ways)
unfolding operand_faults judged
faults-judged names end piece rest ways = refl

-- each of those that go on with a token has a slot
all-have : Piece → List (List slots.Slot) → Type 0
all-have piece [] = Unit {0}
all-have piece ([] ∷ more) = ⊥
all-have piece ((slot ∷ later) ∷ more) = all-have piece more

all-have-more : (piece : Piece) (way : List slots.Slot) (b : Bool) (kept : List (List slots.Slot)) → go_on_with piece way ≡ b → all-have piece kept → all-have piece (cond b (way ∷ kept) kept)
unfolding all-have
all-have-more piece [] true kept e h = cc
all-have-more piece (slot ∷ later) true kept e h = h
all-have-more piece way false kept e h = h

all-have-kept : (piece : Piece) (ways : List (List slots.Slot)) → all-have piece (filter (go_on_with piece) ways)
unfolding all-have
all-have-kept piece [] = tt
all-have-kept piece (way ∷ ways) = all-have-more piece way (go_on_with piece way) (filter (go_on_with piece) ways) refl (all-have-kept piece ways)

none-judged : (names : List (List ℕ)) (end : ℕ) (piece : Piece) (rest : List Piece) (going : List (List slots.Slot)) → all-have piece going → None ≡ heads going → first_of (judged names end piece rest going) ≡ Some (fault_at BadOperand piece)
unfolding judged all-have first_of earlier
none-judged names end piece rest [] h e = refl
none-judged names end piece rest ([] ∷ more) h e = absurd h
none-judged names end piece rest ((slot ∷ later) ∷ more) h e = cc

some-judged : (names : List (List ℕ)) (end : ℕ) (piece : Piece) (rest : List Piece) (slot : slots.Slot) (going behind : List (List slots.Slot)) → all-have piece going → Some slot ≡ heads going → behind ≡ map (drop 1) going → first_of (judged names end piece rest going) ≡ earliest (first_of (token_faults names slot piece)) (first_of (operand_faults names end behind rest))
unfolding judged all-have
some-judged names end piece rest slot [] behind h e later = cc
some-judged names end piece rest slot ([] ∷ more) behind h e later = absurd h
some-judged names end piece rest slot ((own ∷ others) ∷ more) behind h e later =
    let same : slot ≡ own = cc in
    rw same (rw later (first_of-append (token_faults names own piece) (operand_faults names end (others ∷ map (drop 1) more) rest)))

pub bad-operand : (names : List (List ℕ)) (end : ℕ) (piece : Piece) (rest : List Piece) (ways later : List Way) → Advances piece rest ways None later → first_of (operand_faults names end (map (way_slots (commas_in (piece ∷ rest))) ways) (piece ∷ rest)) ≡ Some (fault_at BadOperand piece)
bad-operand names end piece rest ways later step =
    ap first_of (faults-judged names end piece rest (map (way_slots (commas_in (piece ∷ rest))) ways))
    ∙ none-judged names end piece rest (going_on piece rest ways) (all-have-kept piece (map (way_slots (commas_in (piece ∷ rest))) ways)) step.taken

pub next-operand : (names : List (List ℕ)) (end : ℕ) (piece : Piece) (rest : List Piece) (ways later : List Way) (slot : Slot) → Advances piece rest ways (Some slot) later → first_of (operand_faults names end (map (way_slots (commas_in (piece ∷ rest))) ways) (piece ∷ rest)) ≡ earliest (first_of (token_faults names (slot_of slot) piece)) (first_of (operand_faults names end (map (way_slots (commas_in rest)) later) rest))
next-operand names end piece rest ways later slot step =
    ap first_of (faults-judged names end piece rest (map (way_slots (commas_in (piece ∷ rest))) ways))
    ∙ some-judged names end piece rest (slot_of slot) (going_on piece rest ways) (map (way_slots (commas_in rest)) later) (all-have-kept piece (map (way_slots (commas_in (piece ∷ rest))) ways)) step.taken step.behind

pub any-mapped : {A B : Type 0} (f : A → B) (p : B → Bool) (xs : List A) → list_any p (map f xs) ≡ list_any (λ x. p (f x)) xs
any-mapped f p [] = refl
any-mapped f p (x ∷ xs) = ap (λ (b : Bool). p (f x) || b) (any-mapped f p xs)

by-end : (end : ℕ) (done : Bool) → cond done None (Some (ends_too_early end)) ≡ first_of (cond done [] (ends_too_early end ∷ []))
unfolding first_of earlier
by-end end true = refl
by-end end false = refl

-- the fault of the line's end
pub end-judged : (names : List (List ℕ)) (end : ℕ) (ways : List Way) (done : Bool) → list_any (λ (w : Way). is_done (way_slots 0 w)) ways ≡ done → cond done None (Some (ends_too_early end)) ≡ first_of (operand_faults names end (map (way_slots 0) ways) [])
unfolding operand_faults first_of earlier
end-judged names end ways done h =
    let e : list_any is_done (map (way_slots 0) ways) ≡ done = any-mapped (way_slots 0) is_done ways ∙ h in
    rw e (by-end end done)

pub cut-off : (tokens : List Lexeme) (i : ℕ) (token : Lexeme) → i < length tokens → token ≡ get_or tokens i token → pieces_of (drop i tokens) ≡ piece_of token ∷ pieces_of (drop (i + 1) tokens)
cut-off tokens i token within is =
    ap pieces_of (drop-cons tokens i token within)
    ∙ ap (λ (t : Lexeme). piece_of t ∷ pieces_of (drop (suc i) tokens)) (sym is)
    ∙ ap (λ (n : ℕ). piece_of token ∷ pieces_of (drop n tokens)) (let e : suc i ≡ i + 1 = omega arith in e)

-- a token that a slot takes
pub token-judged : (names : List (List ℕ)) (end : ℕ) (tokens : List Lexeme) (i : ℕ) (token : Lexeme) (ways all later : List Way) (slot : Slot) (found fault new : Option Fault) → i < length tokens → token ≡ get_or tokens i token → ((rest : List Piece) → Advances (piece_of token) rest ways (Some slot) later) → new ≡ earliest found fault → fault ≡ first_of (token_faults names (slot_of slot) (piece_of token)) → earliest found (first_of (operand_faults names end (map (way_slots (commas_in (pieces_of (drop i tokens)))) ways) (pieces_of (drop i tokens)))) ≡ first_of (operand_faults names end (map (way_slots (commas_in (pieces_of tokens))) all) (pieces_of tokens)) → earliest new (first_of (operand_faults names end (map (way_slots (commas_in (pieces_of (drop (i + 1) tokens)))) later) (pieces_of (drop (i + 1) tokens)))) ≡ first_of (operand_faults names end (map (way_slots (commas_in (pieces_of tokens))) all) (pieces_of tokens))
token-judged names end tokens i token ways all later slot found fault new within is step is_new is_fault before =
    let rest = pieces_of (drop (i + 1) tokens) in
    let behind = first_of (operand_faults names end (map (way_slots (commas_in rest)) later) rest) in
    let here = next-operand names end (piece_of token) rest ways later slot (step rest) in
    ap (λ (o : Option Fault). earliest o behind) (is_new ∙ ap (earliest found) is_fault)
    ∙ first-twice found (first_of (token_faults names (slot_of slot) (piece_of token))) behind
    ∙ ap (earliest found) (sym here)
    ∙ ap (λ (l : List Piece). earliest found (first_of (operand_faults names end (map (way_slots (commas_in l)) ways) l))) (sym (cut-off tokens i token within is))
    ∙ before

-- one that none takes
pub token-refused : (names : List (List ℕ)) (end : ℕ) (tokens : List Lexeme) (i : ℕ) (token : Lexeme) (ways all later : List Way) (found new : Option Fault) → i < length tokens → token ≡ get_or tokens i token → ((rest : List Piece) → Advances (piece_of token) rest ways None later) → new ≡ earliest found (Some (fault_at BadOperand (piece_of token))) → earliest found (first_of (operand_faults names end (map (way_slots (commas_in (pieces_of (drop i tokens)))) ways) (pieces_of (drop i tokens)))) ≡ first_of (operand_faults names end (map (way_slots (commas_in (pieces_of tokens))) all) (pieces_of tokens)) → new ≡ first_of (operand_faults names end (map (way_slots (commas_in (pieces_of tokens))) all) (pieces_of tokens))
token-refused names end tokens i token ways all later found new within is step is_new before =
    let rest = pieces_of (drop (i + 1) tokens) in
    is_new
    ∙ ap (earliest found) (sym (bad-operand names end (piece_of token) rest ways later (step rest)))
    ∙ ap (λ (l : List Piece). earliest found (first_of (operand_faults names end (map (way_slots (commas_in l)) ways) l))) (sym (cut-off tokens i token within is))
    ∙ before

-- the line's end
pub line-judged : (names : List (List ℕ)) (end : ℕ) (tokens : List Lexeme) (i : ℕ) (ways all : List Way) (found fault new : Option Fault) → length tokens ≤ i → new ≡ earliest found fault → fault ≡ first_of (operand_faults names end (map (way_slots 0) ways) []) → earliest found (first_of (operand_faults names end (map (way_slots (commas_in (pieces_of (drop i tokens)))) ways) (pieces_of (drop i tokens)))) ≡ first_of (operand_faults names end (map (way_slots (commas_in (pieces_of tokens))) all) (pieces_of tokens)) → new ≡ first_of (operand_faults names end (map (way_slots (commas_in (pieces_of tokens))) all) (pieces_of tokens))
line-judged names end tokens i ways all found fault new past is_new is_fault before =
    is_new
    ∙ ap (earliest found) is_fault
    ∙ ap (λ (l : List Piece). earliest found (first_of (operand_faults names end (map (way_slots (commas_in l)) ways) l))) (sym (ap pieces_of (drop_all i tokens past)))
    ∙ before

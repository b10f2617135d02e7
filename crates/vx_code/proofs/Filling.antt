-- Tokens in slots, one after the other.
use Rattle.std.proofs.Common.{◌≡◌, ℕ, ◌+◌, ◌<◌, ◌≤◌, length, get_or, drop, ℤ, List, [], ◌∷◌, ◌++◌, map, filter, flat_map, append_assoc, append-nil, Bool, true, false, cond, Option, Some, None, refl, sym, ap, ◌∙◌, subst}
use Rattle.std.proofs.lemmas.Grind.{flat_map-append}
use Rattle.std.specs.List.{list_all}
use Rattle.std.proofs.lemmas.Bool.{false≢true, and_parts}
use Rattle.std.proofs.lemmas.List.{drop_all}
use Rattle.vx_language.specs.Code.{Code, filled, filled_all}
use Rattle.vx_language.specs.Faults.{first_of, earliest}
use Rattle.vx_language.specs.Lexemes.{Piece, is_a}
use Rattle.vx_language.specs.Numerals.{number_value}
use Rattle.vx_language.specs.Places.{offset_fault, offset_faults}
use Rattle.vx_language.specs.Slots.{takes}
use Rattle.vx_language.specs.Slots as slots
use Rattle.vx_language.specs.Statements.{go_on_with, numbers_in, count_in}
use Rattle.vx_language.specs.declared.fault.Fault.{Fault}
use Rattle.vx_language.specs.declared.token.TokenKind.TheVariants as token
use Rattle.vx_statement.specs.Lexemes.{piece_of, pieces_of}
use Rattle.vx_statement.specs.Slots.{slot_of}
use Rattle.vx_statement.specs.Ways.{commas_in, way_slots, Steps}
use Rattle.vx_statement.specs.declared.lexeme.Lexeme.{Lexeme}
use Rattle.vx_statement.specs.declared.slot.Slot.{Slot}
use Rattle.vx_statement.specs.declared.way.Way.{Way}
use Rattle.vx_statement.proofs.Judging.{cut-off}
use Rattle.vx_statement.proofs.Firsts.{first_of-append, first-twice, first-none}
use Rattle.vx_code.specs.Filling.{Fill, AreFilled, seen}
use Rattle.vx_code.specs.Right.{is_count}
use Rattle.vx_code.specs.declared.fill.Filled.{Filled}

-- the tokens from one on fill what is left of the way
abbrev pub FillRest : List Lexeme → ℕ → Way → Type 0
FillRest tokens i way = AreFilled (way_slots (commas_in (pieces_of (drop i tokens))) way) (pieces_of (drop i tokens))

-- the first token fills the first slot
here : (tokens : List Lexeme) (i : ℕ) (token : Lexeme) (way : Way) → i < length tokens → token ≡ get_or tokens i token → FillRest tokens i way → AreFilled (way_slots (commas_in (piece_of token ∷ pieces_of (drop (i + 1) tokens))) way) (piece_of token ∷ pieces_of (drop (i + 1) tokens))
here tokens i token way within is fills =
    subst (λ (l : List Piece). AreFilled (way_slots (commas_in l) way) l) (cut-off tokens i token within is) fills

split : (slot : slots.Slot) (more : List slots.Slot) (piece : Piece) (rest : List Piece) → AreFilled (slot ∷ more) (piece ∷ rest) → AreFilled (slot ∷ []) (piece ∷ []) × AreFilled more rest
split slot more piece rest fills =
    let names = fills.0 in
    let fill : Fill names (slot ∷ more) (piece ∷ rest) = fills.1 in
    ((names, (fill.0, fill.1, tt)), (names, fill.2))

stepped : (tokens : List Lexeme) (i : ℕ) (token : Lexeme) (way later : Way) (slot : Slot) → i < length tokens → token ≡ get_or tokens i token → ((rest : List Piece) → Steps way (piece_of token) rest (Some (slot, later))) → FillRest tokens i way → AreFilled (slot_of slot ∷ []) (piece_of token ∷ []) × FillRest tokens (i + 1) later
stepped tokens i token way later slot within is steps fills =
    let rest = pieces_of (drop (i + 1) tokens) in
    split (slot_of slot) (way_slots (commas_in rest) later) (piece_of token) rest (subst (λ (l : List slots.Slot). AreFilled l (piece_of token ∷ rest)) (steps rest).0 (here tokens i token way within is fills))

pub slot-filled : (tokens : List Lexeme) (i : ℕ) (token : Lexeme) (way later : Way) (slot : Slot) → i < length tokens → token ≡ get_or tokens i token → ((rest : List Piece) → Steps way (piece_of token) rest (Some (slot, later))) → FillRest tokens i way → AreFilled (slot_of slot ∷ []) (piece_of token ∷ [])
slot-filled tokens i token way later slot within is steps fills = (stepped tokens i token way later slot within is steps fills).0

pub rest-filled : (tokens : List Lexeme) (i : ℕ) (token : Lexeme) (way later : Way) (slot : Slot) → i < length tokens → token ≡ get_or tokens i token → ((rest : List Piece) → Steps way (piece_of token) rest (Some (slot, later))) → FillRest tokens i way → FillRest tokens (i + 1) later
rest-filled tokens i token way later slot within is steps fills = (stepped tokens i token way later slot within is steps fills).1

-- a token that no slot takes isn't there
no-slot : (slots : List slots.Slot) (piece : Piece) (rest : List Piece) → go_on_with piece slots ≡ false → AreFilled slots (piece ∷ rest) → ⊥
no-slot [] piece rest e fills = fills.1
no-slot (slot ∷ slots) piece rest e fills =
    let fill : Fill fills.0 (slot ∷ slots) (piece ∷ rest) = fills.1 in
    false≢true (sym e ∙ fill.0)

pub not-refused : (tokens : List Lexeme) (i : ℕ) (token : Lexeme) (way : Way) → i < length tokens → token ≡ get_or tokens i token → ((rest : List Piece) → Steps way (piece_of token) rest None) → FillRest tokens i way → ⊥
not-refused tokens i token way within is refused fills =
    let rest = pieces_of (drop (i + 1) tokens) in
    no-slot _ (piece_of token) rest (refused rest) (here tokens i token way within is fills)

-- behind the last token no slot is left
none-left : (slots : List slots.Slot) → AreFilled slots [] → slots ≡ []
none-left [] fills = refl
none-left (slot ∷ slots) fills = absurd fills.1

pub all-filled : (tokens : List Lexeme) (i : ℕ) (way : Way) → length tokens ≤ i → FillRest tokens i way → way_slots (commas_in []) way ≡ []
all-filled tokens i way past fills =
    none-left _ (subst (λ (l : List Lexeme). AreFilled (way_slots (commas_in (pieces_of l)) way) (pieces_of l)) (drop_all i tokens past) fills)

-- what is filled in with the tokens up to one, and what the rest fills in
pub record Going (aim : Piece → ℤ) (tokens : List Lexeme) (i : ℕ) (way rest : Way) (now : Filled) (code : Code) : Type 0 where
  pub so_far : Code
  pub is : now ≡ seen aim so_far
  pub all : filled_all (way_slots (commas_in (pieces_of (drop i tokens))) rest) (pieces_of (drop i tokens)) so_far ≡ filled_all (way_slots (commas_in (pieces_of tokens)) way) (pieces_of tokens) code

pub going-begun : (aim : Piece → ℤ) (tokens : List Lexeme) (way : Way) (now : Filled) (code : Code) → now ≡ seen aim code → Going aim tokens 0 way way now code
going-begun aim tokens way now code e = record { so_far = code; is = e; all = refl }

filled-cut : (slot : slots.Slot) (more : List slots.Slot) (piece : Piece) (rest : List Piece) (code : Code) → filled_all (slot ∷ more) (piece ∷ rest) code ≡ filled_all more rest (filled slot piece code)
unfolding filled_all
filled-cut slot more piece rest code = refl

pub going-on : (aim : Piece → ℤ) (tokens : List Lexeme) (i : ℕ) (token : Lexeme) (way rest later : Way) (slot : Slot) (now new : Filled) (code : Code) → i < length tokens → token ≡ get_or tokens i token → ((pieces : List Piece) → Steps rest (piece_of token) pieces (Some (slot, later))) → ((c : Code) → now ≡ seen aim c → new ≡ seen aim (filled (slot_of slot) (piece_of token) c)) → Going aim tokens i way rest now code → Going aim tokens (i + 1) way later new code
going-on aim tokens i token way rest later slot now new code within is steps fills going =
    let pieces = pieces_of (drop (i + 1) tokens) in
    record {
      so_far = filled (slot_of slot) (piece_of token) going.so_far;
      is = fills going.so_far going.is;
      all =
          sym (filled-cut (slot_of slot) (way_slots (commas_in pieces) later) (piece_of token) pieces going.so_far)
          ∙ ap (λ (l : List slots.Slot). filled_all l (piece_of token ∷ pieces) going.so_far) (sym (steps pieces).0)
          ∙ ap (λ (l : List Piece). filled_all (way_slots (commas_in l) rest) l going.so_far) (sym (cut-off tokens i token within is))
          ∙ going.all;
    }

filled-none : (code : Code) → filled_all [] [] code ≡ code
unfolding filled_all
filled-none code = refl

pub going-over : (aim : Piece → ℤ) (tokens : List Lexeme) (i : ℕ) (way rest : Way) (now : Filled) (code : Code) → length tokens ≤ i → FillRest tokens i rest → Going aim tokens i way rest now code → now ≡ seen aim (filled_all (way_slots (commas_in (pieces_of tokens)) way) (pieces_of tokens) code)
going-over aim tokens i way rest now code past fills going =
    going.is ∙ ap (seen aim) (
    sym (filled-none going.so_far)
    ∙ ap (λ (l : List slots.Slot). filled_all l [] going.so_far) (sym (all-filled tokens i rest past fills))
    ∙ ap (λ (l : List Lexeme). filled_all (way_slots (commas_in (pieces_of l)) rest) (pieces_of l) going.so_far) (sym (drop_all i tokens past))
    ∙ going.all)

-- offsets
offsets-cut : (aim : Piece → ℤ) (slot : slots.Slot) (more : List slots.Slot) (piece : Piece) (rest : List Piece) → offset_faults aim (slot ∷ more) (piece ∷ rest) ≡ offset_fault aim slot piece ++ offset_faults aim more rest
unfolding offset_faults
offsets-cut aim slot more piece rest = refl

pub offsets-on : (aim : Piece → ℤ) (tokens : List Lexeme) (i : ℕ) (token : Lexeme) (rest later : Way) (slot : Slot) (found fault new whole : Option Fault) → i < length tokens → token ≡ get_or tokens i token → ((pieces : List Piece) → Steps rest (piece_of token) pieces (Some (slot, later))) → new ≡ earliest found fault → fault ≡ first_of (offset_fault aim (slot_of slot) (piece_of token)) → earliest found (first_of (offset_faults aim (way_slots (commas_in (pieces_of (drop i tokens))) rest) (pieces_of (drop i tokens)))) ≡ whole → earliest new (first_of (offset_faults aim (way_slots (commas_in (pieces_of (drop (i + 1) tokens))) later) (pieces_of (drop (i + 1) tokens)))) ≡ whole
offsets-on aim tokens i token rest later slot found fault new whole within is steps joined judged before =
    let pieces = pieces_of (drop (i + 1) tokens) in
    let own = offset_fault aim (slot_of slot) (piece_of token) in
    let behind = offset_faults aim (way_slots (commas_in pieces) later) pieces in
    ap (λ (o : Option Fault). earliest o (first_of behind)) (joined ∙ ap (earliest found) judged)
    ∙ first-twice found (first_of own) (first_of behind)
    ∙ ap (earliest found) (sym (first_of-append own behind))
    ∙ ap (λ (l : List Fault). earliest found (first_of l)) (sym (offsets-cut aim (slot_of slot) (way_slots (commas_in pieces) later) (piece_of token) pieces))
    ∙ ap (λ (l : List slots.Slot). earliest found (first_of (offset_faults aim l (piece_of token ∷ pieces)))) (sym (steps pieces).0)
    ∙ ap (λ (l : List Piece). earliest found (first_of (offset_faults aim (way_slots (commas_in l) rest) l))) (sym (cut-off tokens i token within is))
    ∙ before

no-offsets : (aim : Piece → ℤ) → first_of (offset_faults aim [] []) ≡ None
unfolding offset_faults first_of
no-offsets aim = refl

pub offsets-over : (aim : Piece → ℤ) (tokens : List Lexeme) (i : ℕ) (rest : Way) (found whole : Option Fault) → length tokens ≤ i → FillRest tokens i rest → earliest found (first_of (offset_faults aim (way_slots (commas_in (pieces_of (drop i tokens))) rest) (pieces_of (drop i tokens)))) ≡ whole → found ≡ whole
offsets-over aim tokens i rest found whole past fills before =
    sym (first-none found)
    ∙ ap (earliest found) (sym (no-offsets aim))
    ∙ ap (λ (l : List slots.Slot). earliest found (first_of (offset_faults aim l []))) (sym (all-filled tokens i rest past fills))
    ∙ ap (λ (l : List Lexeme). earliest found (first_of (offset_faults aim (way_slots (commas_in (pieces_of l)) rest) (pieces_of l)))) (sym (drop_all i tokens past))
    ∙ before

-- numbers
by-kind : (b : Bool) (piece : Piece) (rest : List Piece) → map (λ (p : Piece). number_value p.text) (cond b (piece ∷ rest) rest) ≡ map (λ (p : Piece). number_value p.text) (cond b (piece ∷ []) []) ++ map (λ (p : Piece). number_value p.text) rest
by-kind true piece rest = refl
by-kind false piece rest = refl

numbers-first : (piece : Piece) (rest : List Piece) → numbers_in (piece ∷ rest) ≡ numbers_in (piece ∷ []) ++ numbers_in rest
unfolding numbers_in
numbers-first piece rest = by-kind (is_a token.Number piece) piece (filter (is_a token.Number) rest)

pub numbers-on : (f : ℤ → List ℕ) (tokens : List Lexeme) (i : ℕ) (token : Lexeme) (old new whole : List ℕ) → i < length tokens → token ≡ get_or tokens i token → new ≡ old ++ flat_map f (numbers_in (piece_of token ∷ [])) → old ++ flat_map f (numbers_in (pieces_of (drop i tokens))) ≡ whole → new ++ flat_map f (numbers_in (pieces_of (drop (i + 1) tokens))) ≡ whole
numbers-on f tokens i token old new whole within is pushed before =
    let rest = pieces_of (drop (i + 1) tokens) in
    let own = numbers_in (piece_of token ∷ []) in
    ap (λ (l : List ℕ). l ++ flat_map f (numbers_in rest)) pushed
    ∙ append_assoc old (flat_map f own) (flat_map f (numbers_in rest))
    ∙ ap (λ (l : List ℕ). old ++ l) (sym (flat_map-append f own (numbers_in rest)))
    ∙ ap (λ (l : List ℤ). old ++ flat_map f l) (sym (numbers-first (piece_of token) rest))
    ∙ ap (λ (l : List Piece). old ++ flat_map f (numbers_in l)) (sym (cut-off tokens i token within is))
    ∙ before

no-numbers : (f : ℤ → List ℕ) → flat_map f (numbers_in []) ≡ []
unfolding numbers_in
no-numbers f = refl

pub numbers-over : (f : ℤ → List ℕ) (tokens : List Lexeme) (i : ℕ) (old whole : List ℕ) → length tokens ≤ i → old ++ flat_map f (numbers_in (pieces_of (drop i tokens))) ≡ whole → old ≡ whole
numbers-over f tokens i old whole past before =
    sym (append-nil old)
    ∙ ap (λ (l : List ℕ). old ++ l) (sym (no-numbers f))
    ∙ ap (λ (l : List Lexeme). old ++ flat_map f (numbers_in (pieces_of l))) (sym (drop_all i tokens past))
    ∙ before

-- texts
pub pieces-on : (f : Piece → List ℕ) (tokens : List Lexeme) (i : ℕ) (token : Lexeme) (old new whole : List ℕ) → i < length tokens → token ≡ get_or tokens i token → new ≡ old ++ f (piece_of token) → old ++ flat_map f (pieces_of (drop i tokens)) ≡ whole → new ++ flat_map f (pieces_of (drop (i + 1) tokens)) ≡ whole
pieces-on f tokens i token old new whole within is pushed before =
    let rest = pieces_of (drop (i + 1) tokens) in
    ap (λ (l : List ℕ). l ++ flat_map f rest) pushed
    ∙ append_assoc old (f (piece_of token)) (flat_map f rest)
    ∙ ap (λ (l : List Piece). old ++ flat_map f l) (sym (cut-off tokens i token within is))
    ∙ before

pub pieces-over : (f : Piece → List ℕ) (tokens : List Lexeme) (i : ℕ) (old whole : List ℕ) → length tokens ≤ i → old ++ flat_map f (pieces_of (drop i tokens)) ≡ whole → old ≡ whole
pieces-over f tokens i old whole past before =
    sym (append-nil old)
    ∙ ap (λ (l : List Lexeme). old ++ flat_map f (pieces_of l)) (sym (drop_all i tokens past))
    ∙ before

-- the first token
pub first-filled : (tokens : List Lexeme) (token : Lexeme) (rest : List Lexeme) (way later : Way) (slot : Slot) → tokens ≡ token ∷ rest → ((pieces : List Piece) → Steps way (piece_of token) pieces (Some (slot, later))) → AreFilled (way_slots (commas_in (pieces_of tokens)) way) (pieces_of tokens) → AreFilled (slot_of slot ∷ []) (piece_of token ∷ [])
first-filled tokens token rest way later slot e steps fills =
    let here : AreFilled (way_slots (commas_in (pieces_of (token ∷ rest))) way) (piece_of token ∷ pieces_of rest) = subst (λ (l : List Lexeme). AreFilled (way_slots (commas_in (pieces_of l)) way) (pieces_of l)) e fills in
    (split (slot_of slot) (way_slots (commas_in (pieces_of rest)) later) (piece_of token) (pieces_of rest) (subst (λ (l : List slots.Slot). AreFilled l (piece_of token ∷ pieces_of rest)) (steps (pieces_of rest)).0 here)).0

pub first-counts : (greatest : ℕ) (tokens : List Lexeme) (token : Lexeme) (rest : List Lexeme) (way later : Way) (slot : Slot) → tokens ≡ token ∷ rest → ((pieces : List Piece) → Steps way (piece_of token) pieces (Some (slot, later))) → list_all (is_count greatest) (way_slots (commas_in (pieces_of tokens)) way) ≡ true → is_count greatest (slot_of slot) ≡ true
first-counts greatest tokens token rest way later slot e steps counts =
    let here : list_all (is_count greatest) (way_slots (commas_in (pieces_of (token ∷ rest))) way) ≡ true = subst (λ (l : List Lexeme). list_all (is_count greatest) (way_slots (commas_in (pieces_of l)) way) ≡ true) e counts in
    let cut : list_all (is_count greatest) (slot_of slot ∷ way_slots (commas_in (pieces_of rest)) later) ≡ true = subst (λ (l : List slots.Slot). list_all (is_count greatest) l ≡ true) (steps (pieces_of rest)).0 here in
    (and_parts (is_count greatest (slot_of slot)) _ cut).0

pub first-taken : (tokens : List Lexeme) (token : Lexeme) (rest : List Lexeme) (way : Way) → tokens ≡ token ∷ rest → ((pieces : List Piece) → Steps way (piece_of token) pieces None) → AreFilled (way_slots (commas_in (pieces_of tokens)) way) (pieces_of tokens) → ⊥
first-taken tokens token rest way e refused fills =
    no-slot _ (piece_of token) (pieces_of rest) (refused (pieces_of rest)) (subst (λ (l : List Lexeme). AreFilled (way_slots (commas_in (pieces_of l)) way) (pieces_of l)) e fills)

pub count-cut : (tokens : List Lexeme) (token : Lexeme) (rest : List Lexeme) → tokens ≡ token ∷ rest → count_in (pieces_of tokens) ≡ count_in (piece_of token ∷ [])
unfolding count_in
count-cut tokens token rest e = ap (λ (l : List Lexeme). count_in (pieces_of l)) e

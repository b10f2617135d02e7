-- A statement without a fault has a form, whose slots take its tokens.
use Rattle.std.proofs.Common.{◌≡◌, ℕ, Bool, true, false, cond, List, [], ◌∷◌, ◌++◌, map, drop, Option, IfSome, inl, inr, ◌⊎◌, refl, subst}
use Rattle.std.specs.Prelude.{find}
use Rattle.vx_language.specs.Faults.{fault_at}
use Rattle.vx_language.specs.Forms.{Form}
use Rattle.vx_language.specs.Lexemes.{Piece, is_a}
use Rattle.vx_language.specs.Slots.{Slot, takes, token_faults}
use Rattle.vx_language.specs.Statements.{forms_for, operand_faults, named_faults, statement_faults, take_all, form_for, first_slot_faults}
use Rattle.vx_language.specs.declared.fault.Fault.{Fault}
use Rattle.vx_language.specs.declared.fault.FaultKind.TheVariants.{BadOperand, UnknownName}
use Rattle.vx_language.specs.declared.token.TokenKind.TheVariants as token
use Rattle.vx_code.specs.Filling.{Fill}
use Rattle.vx_code.specs.Right.{is_right}
use Rattle.vx_code.proofs.Nothing.{no-parts}
use Rattle.vx_code.proofs.Tabled.{Apart, Agree, are_apart, apart-taken, forms-apart}

-- the tokens are those of these slots
abbrev pub Matches : List (List ℕ) → List Slot → List Piece → Type 0
Matches names slots pieces = (take_all slots pieces ≡ true) × Fill names slots pieces

judged : List (List ℕ) → ℕ → Piece → List Piece → List (List Slot) → List Fault
judged names end piece rest going =
    elim going [
      | [] ↦ fault_at BadOperand piece ∷ []
      | way ∷ more ↦ first_slot_faults names piece way ++ operand_faults names end (map (drop 1) (way ∷ more)) rest
    ]

by-token : (names : List (List ℕ)) (end : ℕ) (slot : Slot) (slots : List Slot) (piece : Piece) (pieces : List Piece) (b : Bool) → takes slot piece ≡ b → (operand_faults names end (slots ∷ []) pieces ≡ [] → Matches names slots pieces) → judged names end piece pieces (cond b ((slot ∷ slots) ∷ []) []) ≡ [] → Matches names (slot ∷ slots) (piece ∷ pieces)
unfolding judged take_all
by-token names end slot slots piece pieces true h behind e =
    let parts = no-parts (token_faults names slot piece) (operand_faults names end (slots ∷ []) pieces) e in
    let rest = behind parts.1 in
    (rw h rest.0, (h, parts.0, rest.1))
by-token names end slot slots piece pieces false h behind e = cc

one-way : (names : List (List ℕ)) (end : ℕ) (slots : List Slot) (pieces : List Piece) → operand_faults names end (slots ∷ []) pieces ≡ [] → Matches names slots pieces
unfolding operand_faults take_all judged
one-way names end [] [] e = (refl, tt)
one-way names end (slot ∷ slots) [] e = cc
one-way names end [] (piece ∷ pieces) e = cc
one-way names end (slot ∷ slots) (piece ∷ pieces) e =
    by-token names end slot slots piece pieces (takes slot piece) refl (λ k. one-way names end slots pieces k) e

-- a form that a statement has
abbrev pub IsForm : List (List ℕ) → List Piece → Option Form → Type 0
IsForm names operands found = IfSome found (λ (f : Form). Fill names f.slots operands × (is_right f ≡ true))

found-one : (names : List (List ℕ)) (operands : List Piece) (f : Form) (more : List Form) → Matches names f.slots operands → is_right f ≡ true → IsForm names operands (find (λ (g : Form). take_all g.slots operands) (f ∷ more))
found-one names operands f more matches right = rw matches.0 (matches.1, right)

-- two ways that go together and then apart: what is taken by the first, or else by the second, is so without a fault
Taken : List (List ℕ) → List Slot → List Slot → List Piece → Type 0
Taken names first second pieces = Matches names first pieces ⊎ ((take_all first pieces ≡ false) × Matches names second pieces)

first-taken : (names : List (List ℕ)) (slot : Slot) (first second : List Slot) (piece : Piece) (rest : List Piece) → takes slot piece ≡ true → token_faults names slot piece ≡ [] → Taken names first second rest → Taken names (slot ∷ first) (slot ∷ second) (piece ∷ rest)
unfolding Taken take_all
first-taken names slot first second piece rest h none (inl m) = inl (rw h m.0, (h, none, m.1))
first-taken names slot first second piece rest h none (inr m) = inr (rw h m.0, (rw h m.1.0, (h, none, m.1.1)))

together : (names : List (List ℕ)) (end : ℕ) (slot other : Slot) (first second : List Slot) (piece : Piece) (rest : List Piece) (b c : Bool) → takes slot piece ≡ b → takes other piece ≡ c → (are_apart slot other ≡ true) ⊎ ((slot ≡ other) × Agree first second) → (Agree first second → operand_faults names end (first ∷ second ∷ []) rest ≡ [] → Taken names first second rest) → judged names end piece rest (cond b ((slot ∷ first) ∷ cond c ((other ∷ second) ∷ []) []) (cond c ((other ∷ second) ∷ []) [])) ≡ [] → Taken names (slot ∷ first) (other ∷ second) (piece ∷ rest)
unfolding judged Taken take_all
together names end slot other first second piece rest true true h k (inl apart) behind e = absurd (apart-taken slot other piece apart h k)
together names end slot other first second piece rest true true h k (inr same) behind e =
    let parts = no-parts (token_faults names slot piece) (operand_faults names end (first ∷ second ∷ []) rest) e in
    subst (λ (s : Slot). Taken names (slot ∷ first) (s ∷ second) (piece ∷ rest)) same.0 (first-taken names slot first second piece rest h parts.0 (behind same.1 parts.1))
together names end slot other first second piece rest true false h k agree behind e =
    let parts = no-parts (token_faults names slot piece) (operand_faults names end (first ∷ []) rest) e in
    let m = one-way names end first rest parts.1 in
    inl (rw h m.0, (h, parts.0, m.1))
together names end slot other first second piece rest false true h k agree behind e =
    let parts = no-parts (token_faults names other piece) (operand_faults names end (second ∷ []) rest) e in
    let m = one-way names end second rest parts.1 in
    inr (rw h refl, (rw k m.0, (k, parts.0, m.1)))
together names end slot other first second piece rest false false h k agree behind e = cc

two : (names : List (List ℕ)) (end : ℕ) (first second : List Slot) (pieces : List Piece) → Agree first second → operand_faults names end (first ∷ second ∷ []) pieces ≡ [] → Taken names first second pieces
unfolding operand_faults judged Taken take_all
two names end [] second [] agree e = inl (refl, tt)
two names end [] second (piece ∷ rest) agree e = inr (refl, one-way names end second (piece ∷ rest) e)
two names end (slot ∷ first) [] [] agree e = inr (refl, (refl, tt))
two names end (slot ∷ first) [] (piece ∷ rest) agree e = inl (one-way names end (slot ∷ first) (piece ∷ rest) e)
two names end (slot ∷ first) (other ∷ second) [] agree e = cc
two names end (slot ∷ first) (other ∷ second) (piece ∷ rest) agree e =
    together names end slot other first second piece rest (takes slot piece) (takes other piece) refl refl agree (λ a k. two names end first second rest a k) e

of-two : (names : List (List ℕ)) (operands : List Piece) (f g : Form) → is_right f ≡ true → is_right g ≡ true → Taken names f.slots g.slots operands → IsForm names operands (find (λ (h : Form). take_all h.slots operands) (f ∷ g ∷ []))
unfolding Taken
of-two names operands f g right other (inl m) = found-one names operands f (g ∷ []) m right
of-two names operands f g right other (inr m) = rw m.0 (found-one names operands g [] m.1 other)

faults-of : List (List ℕ) → ℕ → Piece → List Piece → List Form → List Fault
faults-of names end name operands forms =
    elim forms [
      | [] ↦ fault_at UnknownName name ∷ []
      | first ∷ more ↦ operand_faults names end (map (λ (f : Form). f.slots) (first ∷ more)) operands
    ]

by-forms : (names : List (List ℕ)) (end : ℕ) (name : Piece) (operands : List Piece) (forms : List Form) → Apart forms → faults-of names end name operands forms ≡ [] → IsForm names operands (find (λ (f : Form). take_all f.slots operands) forms)
unfolding faults-of
by-forms names end name operands [] apart e = tt
by-forms names end name operands (f ∷ []) apart e = found-one names operands f [] (one-way names end f.slots operands e) apart
by-forms names end name operands (f ∷ g ∷ []) apart e = of-two names operands f g apart.0 apart.1 (two names end f.slots g.slots operands apart.2 e)
by-forms names end name operands (f ∷ g ∷ h ∷ more) apart e = absurd apart

named : (names : List (List ℕ)) (end : ℕ) (name : Piece) (operands : List Piece) → named_faults names end name operands ≡ [] → IsForm names operands (form_for name operands)
unfolding named_faults form_for faults-of forms_for
named names end name operands e = by-forms names end name operands (forms_for name operands) (forms-apart _ name.text) e

by-name : (names : List (List ℕ)) (end : ℕ) (name : Piece) (operands : List Piece) (b : Bool) → cond b (named_faults names end name operands) (fault_at BadOperand name ∷ []) ≡ [] → IsForm names operands (form_for name operands)
by-name names end name operands true e = named names end name operands e
by-name names end name operands false e = cc

pub sound : (names : List (List ℕ)) (end : ℕ) (name : Piece) (operands : List Piece) → statement_faults names end (name ∷ operands) ≡ [] → IfSome (form_for name operands) (λ (f : Form). Fill names f.slots operands × (is_right f ≡ true))
unfolding statement_faults
sound names end name operands e = by-name names end name operands (is_a token.Name name) e

-- Which of its ways a statement is written in.
use Rattle.std.proofs.Common.{◌≡◌, ℕ, Bool, true, false, cond, ◌&&◌, ℤ, List, [], ◌∷◌, ◌++◌, map, filter, drop, Option, Some, None, option_map, refl, sym, ap, ◌∙◌, subst}
use Rattle.std.specs.Prelude.{find}
use Rattle.std.specs.List.{list_all}
use Rattle.std.proofs.lemmas.Bool.{false≢true}
use Rattle.std.proofs.lemmas.List.{append-nil, map-id}
use Rattle.vx_language.specs.Code.{Code, filled, filled_all}
use Rattle.vx_language.specs.Faults.{fault_at}
use Rattle.vx_language.specs.Lexemes.{Piece}
use Rattle.vx_language.specs.Places.{offset_fault, offset_faults}
use Rattle.vx_language.specs.Slots.{Slot, takes, token_faults}
use Rattle.vx_language.specs.Statements.{go_on_with, first_slot_faults, is_done, operand_faults, take_all}
use Rattle.vx_language.specs.declared.fault.Fault.{Fault}
use Rattle.vx_language.specs.declared.fault.FaultKind.TheVariants.{BadOperand}

-- each slot takes its token, which has no fault there where no label is defined
abbrev pub Fill : List Slot → List Piece → Type 0
Fill [] [] = Unit {0}
Fill (slot ∷ slots) (piece ∷ pieces) = (takes slot piece ≡ true) × (token_faults [] slot piece ≡ []) × Fill slots pieces
Fill slots pieces = ⊥

-- tokens are written in one of these ways, the first that takes them all, and have no fault
pub record Chooses (ways : List (List Slot)) (way : List Slot) (pieces : List Piece) : Type 0 where
  pub faults : (end : ℕ) → operand_faults [] end ways pieces ≡ []
  pub found : find (λ (slots : List Slot). take_all slots pieces) ways ≡ Some way

pub filled-join : (slots more : List Slot) (pieces rest : List Piece) (code : Code) → Fill slots pieces → filled_all (slots ++ more) (pieces ++ rest) code ≡ filled_all more rest (filled_all slots pieces code)
unfolding filled_all
filled-join [] more [] rest code fill = refl
filled-join [] more (piece ∷ pieces) rest code fill = absurd fill
filled-join (slot ∷ slots) more [] rest code fill = absurd fill
filled-join (slot ∷ slots) more (piece ∷ pieces) rest code fill = filled-join slots more pieces rest (filled slot piece code) fill.2

both-none : (xs ys : List Fault) → xs ++ ys ≡ [] → (xs ≡ []) × (ys ≡ [])
both-none [] ys e = (refl, e)
both-none (x ∷ xs) ys e = absurd cc

pub offsets-join : (aim : Piece → ℤ) (slots more : List Slot) (pieces rest : List Piece) → Fill slots pieces → offset_faults aim slots pieces ≡ [] → offset_faults aim more rest ≡ [] → offset_faults aim (slots ++ more) (pieces ++ rest) ≡ []
unfolding offset_faults
offsets-join aim [] more [] rest fill first second = second
offsets-join aim [] more (piece ∷ pieces) rest fill first second = absurd fill
offsets-join aim (slot ∷ slots) more [] rest fill first second = absurd fill
offsets-join aim (slot ∷ slots) more (piece ∷ pieces) rest fill first second =
    let parts = both-none (offset_fault aim slot piece) (offset_faults aim slots pieces) first in
    ap (λ (fs : List Fault). fs ++ offset_faults aim (slots ++ more) (pieces ++ rest)) parts.0 ∙ offsets-join aim slots more pieces rest fill.2 parts.1 second

-- ways with one more slot in front
on_with : ℕ → Piece → List Piece → List (List Slot) → List Fault
on_with end piece pieces [] = fault_at BadOperand piece ∷ []
on_with end piece pieces (way ∷ more) = first_slot_faults [] piece way ++ operand_faults [] end (map (drop 1) (way ∷ more)) pieces

one-on : (end : ℕ) (piece : Piece) (pieces : List Piece) (ways kept : List (List Slot)) → filter (go_on_with piece) ways ≡ kept → operand_faults [] end ways (piece ∷ pieces) ≡ on_with end piece pieces kept
unfolding operand_faults on_with
one-on end piece pieces ways [] e = ap (λ (ws : List (List Slot)). elim ws as (λ _. List Fault) [
  | [] ↦ fault_at BadOperand piece ∷ []
  | way ∷ more ↦ first_slot_faults [] piece way ++ operand_faults [] end (map (drop 1) (way ∷ more)) pieces
]) e
one-on end piece pieces ways (first ∷ others) e = ap (λ (ws : List (List Slot)). elim ws as (λ _. List Fault) [
  | [] ↦ fault_at BadOperand piece ∷ []
  | way ∷ more ↦ first_slot_faults [] piece way ++ operand_faults [] end (map (drop 1) (way ∷ more)) pieces
]) e

kept-all : (f : List Slot → List Slot) (slot : Slot) (piece : Piece) (ways : List (List Slot)) → takes slot piece ≡ true → filter (go_on_with piece) (map (λ (s : List Slot). slot ∷ f s) ways) ≡ map (λ (s : List Slot). slot ∷ f s) ways
kept-all f slot piece [] taken = refl
kept-all f slot piece (way ∷ ways) taken =
    rw taken (ap (λ (ws : List (List Slot)). (slot ∷ f way) ∷ ws) (kept-all f slot piece ways taken))

dropped : (f : List Slot → List Slot) (slot : Slot) (ways : List (List Slot)) → map (drop 1) (map (λ (s : List Slot). slot ∷ f s) ways) ≡ map f ways
dropped f slot [] = refl
dropped f slot (way ∷ ways) = ap (λ (ws : List (List Slot)). f way ∷ ws) (dropped f slot ways)

faults-front : (end : ℕ) (slots : List Slot) (pieces rest : List Piece) (way : List Slot) (ways : List (List Slot)) → Fill slots pieces → operand_faults [] end (map (λ (s : List Slot). slots ++ s) (way ∷ ways)) (pieces ++ rest) ≡ operand_faults [] end (way ∷ ways) rest
unfolding on_with
faults-front end [] [] rest way ways fill = ap (λ (ws : List (List Slot)). operand_faults [] end ws rest) (map-id (way ∷ ways))
faults-front end [] (piece ∷ pieces) rest way ways fill = absurd fill
faults-front end (slot ∷ slots) [] rest way ways fill = absurd fill
faults-front end (slot ∷ slots) (piece ∷ pieces) rest way ways fill =
    let f : List Slot → List Slot = λ s. slots ++ s in
    let all : List (List Slot) = map (λ (s : List Slot). slot ∷ f s) (way ∷ ways) in
    one-on end piece (pieces ++ rest) all all (kept-all f slot piece (way ∷ ways) fill.0)
    ∙ (ap (λ (fs : List Fault). fs ++ operand_faults [] end (map (drop 1) all) (pieces ++ rest)) fill.1
    ∙ (ap (λ (ws : List (List Slot)). operand_faults [] end ws (pieces ++ rest)) (dropped f slot (way ∷ ways))
    ∙ faults-front end slots pieces rest way ways fill.2))

take-front : (slots more : List Slot) (pieces rest : List Piece) → Fill slots pieces → take_all (slots ++ more) (pieces ++ rest) ≡ take_all more rest
unfolding take_all
take-front [] more [] rest fill = refl
take-front [] more (piece ∷ pieces) rest fill = absurd fill
take-front (slot ∷ slots) more [] rest fill = absurd fill
take-front (slot ∷ slots) more (piece ∷ pieces) rest fill = ap (λ b. b && take_all (slots ++ more) (pieces ++ rest)) fill.0 ∙ take-front slots more pieces rest fill.2

found-more : {X Y : Type 0} (f : X → Y) (b : Bool) (x : X) (o : Option X) → cond b (Some (f x)) (option_map f o) ≡ option_map f (cond b (Some x) o)
found-more f true x o = refl
found-more f false x o = refl

-- the first of a mapped list
pub found-mapped : {X Y : Type 0} (p : X → Bool) (q : Y → Bool) (f : X → Y) (xs : List X) → ((x : X) → q (f x) ≡ p x) → find q (map f xs) ≡ option_map f (find p xs)
found-mapped p q f [] same = refl
found-mapped p q f (x ∷ xs) same =
    ap (λ b. cond b (Some (f x)) (find q (map f xs))) (same x)
    ∙ (ap (λ o. cond (p x) (Some (f x)) o) (found-mapped p q f xs same)
    ∙ found-more f (p x) x (find p xs))

pub chooses-front : (ways : List (List Slot)) (way slots : List Slot) (pieces rest : List Piece) → Fill slots pieces → Chooses ways way rest → Chooses (map (λ (s : List Slot). slots ++ s) ways) (slots ++ way) (pieces ++ rest)
chooses-front [] way slots pieces rest fill chosen = absurd (let found = chosen.found in cc)
chooses-front (first ∷ ways) way slots pieces rest fill chosen = record {
  faults = λ end. faults-front end slots pieces rest first ways fill ∙ chosen.faults end;
  found =
      found-mapped (λ (s : List Slot). take_all s rest) (λ (s : List Slot). take_all s (pieces ++ rest)) (λ (s : List Slot). slots ++ s) (first ∷ ways) (λ s. take-front slots s pieces rest fill)
      ∙ ap (option_map (λ (s : List Slot). slots ++ s)) chosen.found;
}

pub chooses-none : Chooses ([] ∷ []) [] []
unfolding operand_faults take_all
chooses-none = record { faults = λ end. refl; found = refl }

pub chooses-one : (way : List Slot) (pieces : List Piece) → Fill way pieces → Chooses (way ∷ []) way pieces
chooses-one way pieces fill =
    let front : Chooses ((way ++ []) ∷ []) (way ++ []) (pieces ++ []) = chooses-front ([] ∷ []) [] way pieces [] fill chooses-none in
    let cut : Chooses (way ∷ []) way (pieces ++ []) = subst (λ (w : List Slot). Chooses (w ∷ []) w (pieces ++ [])) (append-nil way) front in
    subst (λ (ps : List Piece). Chooses (way ∷ []) way ps) (append-nil pieces) cut

-- a way that doesn't take the first token
not-taken : (way : List Slot) (piece : Piece) (pieces : List Piece) → go_on_with piece way ≡ false → take_all way (piece ∷ pieces) ≡ false
unfolding take_all
not-taken [] piece pieces refused = refl
not-taken (slot ∷ slots) piece pieces refused = ap (λ b. b && take_all slots pieces) refused

same-kept : (end : ℕ) (piece : Piece) (pieces : List Piece) (ways others : List (List Slot)) → filter (go_on_with piece) ways ≡ filter (go_on_with piece) others → operand_faults [] end ways (piece ∷ pieces) ≡ operand_faults [] end others (piece ∷ pieces)
same-kept end piece pieces ways others same =
    one-on end piece pieces ways (filter (go_on_with piece) others) same ∙ sym (one-on end piece pieces others (filter (go_on_with piece) others) refl)

pub skip-first : (other way : List Slot) (ways : List (List Slot)) (piece : Piece) (pieces : List Piece) → go_on_with piece other ≡ false → Chooses ways way (piece ∷ pieces) → Chooses (other ∷ ways) way (piece ∷ pieces)
skip-first other way ways piece pieces refused chosen = record {
  faults = λ end. same-kept end piece pieces (other ∷ ways) ways (ap (λ b. cond b (other ∷ filter (go_on_with piece) ways) (filter (go_on_with piece) ways)) refused) ∙ chosen.faults end;
  found = ap (λ b. cond b (Some other) (find (λ (s : List Slot). take_all s (piece ∷ pieces)) ways)) (not-taken other piece pieces refused) ∙ chosen.found;
}

one-alone : (b : Bool) (way : List Slot) (o : Option (List Slot)) → cond b (Some way) None ≡ Some way → o ≡ None → cond b (Some way) o ≡ Some way
one-alone true way o found none = refl
one-alone false way o found none = absurd cc

pub skip-second : (way other : List Slot) (piece : Piece) (pieces : List Piece) → go_on_with piece other ≡ false → Chooses (way ∷ []) way (piece ∷ pieces) → Chooses (way ∷ other ∷ []) way (piece ∷ pieces)
skip-second way other piece pieces refused chosen =
    let kept : filter (go_on_with piece) (other ∷ []) ≡ [] = ap (λ b. cond b (other ∷ []) []) refused in
    record {
      faults = λ end. same-kept end piece pieces (way ∷ other ∷ []) (way ∷ []) (ap (λ (ws : List (List Slot)). cond (go_on_with piece way) (way ∷ ws) ws) kept) ∙ chosen.faults end;
      found = one-alone (take_all way (piece ∷ pieces)) way _ chosen.found (ap (λ b. cond b (Some other) None) (not-taken other piece pieces refused));
    }

-- ways that are done before the first token
pub skip-done : (done ways : List (List Slot)) (way : List Slot) (piece : Piece) (pieces : List Piece) → list_all is_done done ≡ true → Chooses ways way (piece ∷ pieces) → Chooses (done ++ ways) way (piece ∷ pieces)
skip-done [] ways way piece pieces all chosen = chosen
skip-done ([] ∷ done) ways way piece pieces all chosen = skip-first [] way (done ++ ways) piece pieces refl (skip-done done ways way piece pieces all chosen)
skip-done ((slot ∷ slots) ∷ done) ways way piece pieces all chosen = absurd (false≢true all)

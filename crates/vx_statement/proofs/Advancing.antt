-- One more way that goes on with a token, or doesn't.
use Rattle.std.proofs.Common.{◌≡◌, ℕ, ◌+◌, ◌<◌, Bool, true, cond, List, [], ◌∷◌, ◌++◌, map, filter, drop, take, length, get_or, Option, Some, None, option_map, refl, sym, ap, ◌∙◌, append-nil}
use Rattle.std.specs.Option.{option_or}
use Rattle.std.proofs.lemmas.List.{map-append, take_more}
use Rattle.std.proofs.lemmas.List.Elements.{filter-append}
use Rattle.vx_language.specs.Lexemes.{Piece}
use Rattle.vx_language.specs.Slots as slots
use Rattle.vx_language.specs.Statements.{go_on_with}
use Rattle.vx_statement.specs.Advances.{Advances, heads, going_on}
use Rattle.vx_statement.specs.Slots.{slot_of}
use Rattle.vx_statement.specs.Ways.{commas_in, way_slots, Steps}
use Rattle.vx_statement.specs.declared.slot.Slot.{Slot}
use Rattle.vx_statement.specs.declared.way.Way.{Way}

going-behind : (piece : Piece) (rest : List Piece) (going : List Way) (way : Way) → going_on piece rest (going ++ way ∷ []) ≡ going_on piece rest going ++ filter (go_on_with piece) (way_slots (commas_in (piece ∷ rest)) way ∷ [])
going-behind piece rest going way =
    ap (filter (go_on_with piece)) (map-append (way_slots (commas_in (piece ∷ rest))) going (way ∷ []))
    ∙ filter-append (go_on_with piece) (map (way_slots (commas_in (piece ∷ rest))) going) (way_slots (commas_in (piece ∷ rest)) way ∷ [])

going-refused : (piece : Piece) (rest : List Piece) (going : List Way) (way : Way) → Steps way piece rest None → going_on piece rest (going ++ way ∷ []) ≡ going_on piece rest going
going-refused piece rest going way refused =
    let slots = way_slots (commas_in (piece ∷ rest)) way in
    going-behind piece rest going way ∙ ap (λ (b : Bool). going_on piece rest going ++ cond b (slots ∷ []) []) refused ∙ append-nil (going_on piece rest going)

one-kept : (piece : Piece) (whole : List slots.Slot) (slot : slots.Slot) (later : List slots.Slot) → whole ≡ slot ∷ later → slots.takes slot piece ≡ true → filter (go_on_with piece) (whole ∷ []) ≡ (slot ∷ later) ∷ []
one-kept piece whole slot later e taken = rw e (rw taken refl)

going-taken : (piece : Piece) (rest : List Piece) (going : List Way) (way : Way) (slot : Slot) (later : Way) → Steps way piece rest (Some (slot, later)) → going_on piece rest (going ++ way ∷ []) ≡ going_on piece rest going ++ (slot_of slot ∷ way_slots (commas_in rest) later) ∷ []
going-taken piece rest going way slot later step =
    going-behind piece rest going way
    ∙ ap (λ (more : List (List slots.Slot)). going_on piece rest going ++ more) (one-kept piece (way_slots (commas_in (piece ∷ rest)) way) (slot_of slot) (way_slots (commas_in rest) later) step.0 step.1)

heads-behind : (lists : List (List slots.Slot)) (slot : slots.Slot) (later : List slots.Slot) → heads (lists ++ (slot ∷ later) ∷ []) ≡ option_or (heads lists) (Some slot)
heads-behind [] slot later = refl
heads-behind ([] ∷ more) slot later = heads-behind more slot later
heads-behind ((first ∷ others) ∷ more) slot later = refl

or-mapped : (slot : Option Slot) (other : Slot) → option_map slot_of (option_or slot (Some other)) ≡ option_or (option_map slot_of slot) (Some (slot_of other))
or-mapped None other = refl
or-mapped (Some slot) other = refl

pub advance-refused : (piece : Piece) (rest : List Piece) (going : List Way) (slot : Option Slot) (ways : List Way) (way : Way) → Steps way piece rest None → Advances piece rest going slot ways → Advances piece rest (going ++ way ∷ []) slot ways
advance-refused piece rest going slot ways way refused before =
    let same = sym (going-refused piece rest going way refused) in
    record {
      taken = before.taken ∙ ap heads same;
      behind = before.behind ∙ ap (map (drop 1)) same;
    }

pub advance-taken : (piece : Piece) (rest : List Piece) (going : List Way) (slot : Option Slot) (ways new : List Way) (way : Way) (first : Slot) (later : Way) → Steps way piece rest (Some (first, later)) → new ≡ ways ++ later ∷ [] → Advances piece rest going slot ways → Advances piece rest (going ++ way ∷ []) (option_or slot (Some first)) new
advance-taken piece rest going slot ways new way first later step pushed before =
    let more = sym (going-taken piece rest going way first later step) in
    record {
      taken = or-mapped slot first ∙ ap (λ (o : Option slots.Slot). option_or o (Some (slot_of first))) before.taken ∙ sym (heads-behind (going_on piece rest going) (slot_of first) (way_slots (commas_in rest) later)) ∙ ap heads more;
      behind = ap (map (way_slots (commas_in rest))) pushed ∙ map-append (way_slots (commas_in rest)) ways (later ∷ []) ∙ ap (λ (l : List (List slots.Slot)). l ++ way_slots (commas_in rest) later ∷ []) before.behind ∙ sym (map-append (drop 1) (going_on piece rest going) ((slot_of first ∷ way_slots (commas_in rest) later) ∷ [])) ∙ ap (map (drop 1)) more;
    }

pub advanced-more : (piece : Piece) (rest : List Piece) (going : List Way) (i : ℕ) (d : Way) (slot : Option Slot) (ways : List Way) → i < length going → Advances piece rest (take i going ++ get_or going i d ∷ []) slot ways → Advances piece rest (take (i + 1) going) slot ways
advanced-more piece rest going i d slot ways within step = rw (take_more going i d within) step

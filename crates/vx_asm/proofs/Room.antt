-- A program without a fault fits its room.
use Rattle.std.proofs.Common.{◌≡◌, ℕ, ◌+◌, ◌≤◌, arith, Bool, true, false, not, cond, ◌&&◌, pos, List, [], ◌∷◌, ◌++◌, Option, Some, option_map, refl, ap, ◌∙◌}
use Rattle.std.specs.Prelude.{nat_lt, find}
use Rattle.std.proofs.lemmas.Bool.{le-ltb, ltb-false}
use Rattle.vx_language.specs.Assembly.{placed_faults}
use Rattle.vx_language.specs.Lexemes.{Piece}
use Rattle.vx_language.specs.Lines.{Line}
use Rattle.vx_language.specs.Places.{Place, Placed, placed_from, end_from, place_behind, own_faults, too_large, size_of, size_faults, next_section, statement_of, total, program_room, is_faultless, offset_of}
use Rattle.vx_language.specs.Statements.{statement_chunk, statement_form, chunk_size}
use Rattle.vx_language.specs.declared.fault.Fault.{Fault}
use Rattle.vx_asm.specs.Judging.{IsGood}
use Rattle.vx_asm.proofs.Judged.{moved-total, size-is-of}
use Rattle.vx_asm.proofs.Laying.{placed_at}

no-parts : {X : Type 0} (xs ys : List X) → xs ++ ys ≡ [] → (xs ≡ []) × (ys ≡ [])
no-parts [] ys e = (refl, e)
no-parts (x ∷ xs) ys e = cc

-- no fault of lines is none of each
pub first-line : (names : List (List ℕ)) (p : Placed) (more : List Placed) → placed_faults names (p ∷ more) ≡ [] → (own_faults names p.place p.line ≡ []) × (too_large names p.place p.line ≡ []) × (placed_faults names more ≡ [])
unfolding placed_faults
first-line names p more e =
    let parts = no-parts (own_faults names p.place p.line ++ too_large names p.place p.line) (placed_faults names more) e in
    let own = no-parts (own_faults names p.place p.line) (too_large names p.place p.line) parts.0 in
    (own.0, own.1, parts.1)

pub parted : (names : List (List ℕ)) (done rest : List Placed) → placed_faults names (done ++ rest) ≡ [] → placed_faults names rest ≡ []
parted names [] rest e = e
parted names (p ∷ done) rest e = parted names done rest (first-line names p (done ++ rest) e).2

not-fault : (b : Bool) (f : Fault) → cond b (f ∷ []) [] ≡ [] → b ≡ false
not-fault true f e = cc
not-fault false f e = refl

fits : (before size : ℕ) → before ≤ program_room → (not (nat_lt program_room before) && nat_lt program_room (before + size)) ≡ false → before + size ≤ program_room
fits before size room e =
    let inside : nat_lt program_room before ≡ false = le-ltb program_room before room in
    ltb-false program_room (before + size) (rw inside at e)

none-of : (place : Place) → chunk_size (statement_chunk (λ (label : Piece). pos 0) (offset_of place) []) ≡ 0
unfolding statement_chunk statement_form
none-of place = refl

by-cond : (b : Bool) (n : ℕ) → n ≡ 0 → cond b n 0 ≡ 0
by-cond true n e = e
by-cond false n e = refl

sized-none : (names : List (List ℕ)) (place : Place) (line : Line) → statement_of line ≡ [] → size_of names place line ≡ 0
unfolding size_of
sized-none names place line e =
    by-cond (is_faultless (own_faults names place line)) _ (ap (λ (s : List Piece). chunk_size (statement_chunk (λ (label : Piece). pos 0) (offset_of place) s)) e ∙ none-of place)

by-statement : (statement : List Piece) (before size : ℕ) → before ≤ program_room → (statement ≡ [] → size ≡ 0) → size_faults statement before size ≡ [] → before + size ≤ program_room
by-statement [] before size room none e = let zero-size = none refl in omega (arith, zero-size, room)
by-statement (first ∷ more) before size room none e = fits before size room (not-fault _ _ e)

pub size-fits : (names : List (List ℕ)) (place : Place) (line : Line) → total place ≤ program_room → too_large names place line ≡ [] → total place + size_of names place line ≤ program_room
unfolding too_large
size-fits names place line room e = by-statement (statement_of line) (total place) (size_of names place line) room (sized-none names place line) e

behind-total : (names : List (List ℕ)) (place : Place) (line : Line) → total (place_behind names place line) ≡ total place + size_of names place line
unfolding place_behind
behind-total names place line = moved-total place (size_of names place line) (next_section names place line)

pub behind-fits : (names : List (List ℕ)) (place : Place) (line : Line) → total place ≤ program_room → too_large names place line ≡ [] → total (place_behind names place line) ≤ program_room
behind-fits names place line room e = rw (behind-total names place line) (size-fits names place line room e)

pub end-fits : (names : List (List ℕ)) (place : Place) (lines : List Line) → total place ≤ program_room → placed_faults names (placed_from names place lines) ≡ [] → total (end_from names place lines) ≤ program_room
unfolding placed_from end_from
end-fits names place [] room e = room
end-fits names place (line ∷ lines) room e =
    let parts = first-line names (placed_at place line) (placed_from names (place_behind names place line) lines) e in
    end-fits names (place_behind names place line) lines (behind-fits names place line room parts.1) parts.2

-- each line's place fits
found-fits : (b : Bool) (p : Placed) (rest : Option Placed) (place : Place) → total p.place ≤ program_room → (option_map (λ (q : Placed). q.place) rest ≡ Some place → total place ≤ program_room) → option_map (λ (q : Placed). q.place) (cond b (Some p) rest) ≡ Some place → total place ≤ program_room
found-fits true p rest place room k e = let same : p.place ≡ place = cc in rw (← same) room
found-fits false p rest place room k e = k e

pub places-fit : (names : List (List ℕ)) (place : Place) (lines : List Line) (test : Placed → Bool) (at : Place) → total place ≤ program_room → placed_faults names (placed_from names place lines) ≡ [] → option_map (λ (q : Placed). q.place) (find test (placed_from names place lines)) ≡ Some at → total at ≤ program_room
unfolding placed_from
places-fit names place [] test at room e found = cc
places-fit names place (line ∷ lines) test at room e found =
    let parts = first-line names (placed_at place line) (placed_from names (place_behind names place line) lines) e in
    found-fits (test (placed_at place line)) (placed_at place line) _ at room (λ k. places-fit names (place_behind names place line) lines test at (behind-fits names place line room parts.1) parts.2 k) found

-- what a statement without a fault puts fits
pub put-fits : (place : Place) (pieces : List Piece) (size : ℕ) → IsGood place pieces → size ≡ chunk_size (statement_chunk (λ (label : Piece). pos 0) (offset_of place) pieces) → total place + size ≤ program_room
put-fits place pieces size good sized =
    let size-is : size ≡ size_of good.names place good.line = size-is-of good.names place good.line pieces size good.statement good.own sized in
    rw size-is (size-fits good.names place good.line good.room good.large)

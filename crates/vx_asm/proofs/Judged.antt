-- A line at its place.
use Rattle.std.proofs.Common.{◌≡◌, ℕ, ◌+◌, arith, add-zero, Bool, true, false, not, ◌&&◌, ◌||◌, pos, map, bytes_eq, Result, Ok, Err, IfOk, List, [], ◌∷◌, ◌++◌, append-nil, Some, None, refl, sym, ap, ◌∙◌}
use Rattle.std.specs.List.{list_any}
use Rattle.std.specs.Prelude.{nat_lt}
use Rattle.std.specs.declared.alloc.AllocError.{AllocError}
use Rattle.vx_language.specs.Faults.{first_of}
use Rattle.vx_language.specs.Forms.{Section, OfCode, OfVariables}
use Rattle.vx_language.specs.Lexemes.{Piece}
use Rattle.vx_language.specs.Lines.{Line}
use Rattle.vx_language.specs.Places.{Place, statement_of, own_faults, size_of, next_section, place_behind, too_large, size_faults, is_faultless, total, program_room, offset_of, section_behind}
use Rattle.vx_language.specs.Statements.{statement_faults, statement_chunk, statement_form, chunk_size}
use Rattle.vx_language.specs.declared.fault.Fault.{Fault}
use Rattle.vx_statement.specs.Knowing.{Know}
use Rattle.vx_statement.specs.Labels.{Label, has_name, place_of, moved}
use Rattle.vx_statement.specs.Owning.{own_of}
use Rattle.vx_asm.specs.Judging.{Judges}
use Rattle.vx_asm.specs.declared.judge.Judged.{Judged}

-- faults are none where the first is
pub none-first : (faults : List Fault) → first_of faults ≡ None → faults ≡ []
unfolding first_of
none-first [] e = refl
none-first (fault ∷ faults) e = cc

pub some-first : (faults : List Fault) (fault : Fault) → first_of faults ≡ Some fault → is_faultless faults ≡ false
unfolding first_of
some-first [] fault e = cc
some-first (x ∷ faults) fault e = refl

no-parts : {X : Type 0} (xs ys : List X) → xs ++ ys ≡ [] → (xs ≡ []) × (ys ≡ [])
no-parts [] ys e = (refl, e)
no-parts (x ∷ xs) ys e = cc

three-parts : {X : Type 0} (xs ys zs : List X) → xs ++ ys ++ zs ≡ [] → xs ≡ []
three-parts [] ys zs e = refl
three-parts (x ∷ xs) ys zs e = cc

pub own-by-itself : (names : List (List ℕ)) (place : Place) (line : Line) → own_faults names place line ≡ [] → statement_faults names line.end (statement_of line) ≡ []
unfolding own_faults
own-by-itself names place line e = three-parts (statement_faults names line.end (statement_of line)) _ _ e

-- nothing put
by-section : (section : Section) (code variables : ℕ) → moved (record { section = section; code = code; variables = variables }) 0 section ≡ record { section = section; code = code; variables = variables }
by-section OfCode code variables = ap (λ (n : ℕ). let p : Place = record { section = OfCode; code = n; variables = variables } in p) (add-zero code)
by-section OfVariables code variables = ap (λ (n : ℕ). let p : Place = record { section = OfVariables; code = code; variables = n } in p) (add-zero variables)

stays : (place : Place) → moved place 0 place.section ≡ place
stays place = by-section place.section place.code place.variables

not-both : (b : Bool) → (not b && b) ≡ false
not-both true = refl
not-both false = refl

none-large : (statement : List Piece) (before : ℕ) → size_faults statement before 0 ≡ []
none-large [] before = refl
none-large (first ∷ more) before =
    let same : (not (nat_lt program_room before) && nat_lt program_room (before + 0)) ≡ false = ap (λ (n : ℕ). not (nat_lt program_room before) && nat_lt program_room n) (add-zero before) ∙ not-both (nat_lt program_room before) in
    rw same refl

-- a line with a fault of its own
pub faulty-line : (names : List (List ℕ)) (place : Place) (line : Line) (fault : Fault) (judged : Judged) → Some fault ≡ first_of (own_faults names place line) → judged.fault ≡ Some fault → place_of judged.place ≡ place → Judges names place line judged
unfolding too_large size_of place_behind next_section first_of
faulty-line names place line fault judged e is at =
    let faulty : is_faultless (own_faults names place line) ≡ false = some-first (own_faults names place line) fault (sym e) in
    record {
      fault =
          is ∙ e
          ∙ ap first_of (sym (append-nil (own_faults names place line)))
          ∙ ap (λ (l : List Fault). first_of (own_faults names place line ++ l)) (sym (none-large (statement_of line) (total place)))
          ∙ (rw faulty refl);
      behind = at ∙ sym (stays place) ∙ (rw faulty refl);
    }

-- one without
sizes : (names : List (List ℕ)) (place : Place) (line : Line) → own_faults names place line ≡ [] → size_of names place line ≡ chunk_size (statement_chunk (λ (label : Piece). pos 0) (offset_of place) (statement_of line))
unfolding size_of
sizes names place line none = rw none refl

sections : (names : List (List ℕ)) (place : Place) (line : Line) → own_faults names place line ≡ [] → next_section names place line ≡ section_behind place.section (statement_form (statement_of line))
unfolding next_section
sections names place line none = rw none refl

pub size-is-of : (names : List (List ℕ)) (place : Place) (line : Line) (statement : List Piece) (size : ℕ) → statement_of line ≡ statement → own_faults names place line ≡ [] → size ≡ chunk_size (statement_chunk (λ (label : Piece). pos 0) (offset_of place) statement) → size ≡ size_of names place line
size-is-of names place line statement size is none sized =
    sized ∙ ap (λ (s : List Piece). chunk_size (statement_chunk (λ (label : Piece). pos 0) (offset_of place) s)) (sym is) ∙ sym (sizes names place line none)

pub behind-of : (names : List (List ℕ)) (place new : Place) (line : Line) (statement : List Piece) (size : ℕ) (section : Section) → statement_of line ≡ statement → own_faults names place line ≡ [] → size ≡ chunk_size (statement_chunk (λ (label : Piece). pos 0) (offset_of place) statement) → section ≡ section_behind place.section (statement_form statement) → new ≡ moved place size section → new ≡ place_behind names place line
unfolding place_behind
behind-of names place new line statement size section is none sized sectioned e =
    let size-is = size-is-of names place line statement size is none sized in
    let section-is : section ≡ next_section names place line = sectioned ∙ ap (λ (s : List Piece). section_behind place.section (statement_form s)) (sym is) ∙ sym (sections names place line none) in
    e ∙ (λ j. moved place (size-is j) (section-is j))

pub large-of : (names : List (List ℕ)) (place : Place) (line : Line) (statement : List Piece) (size : ℕ) → statement_of line ≡ statement → own_faults names place line ≡ [] → size ≡ chunk_size (statement_chunk (λ (label : Piece). pos 0) (offset_of place) statement) → size_faults statement (total place) size ≡ too_large names place line
unfolding too_large
large-of names place line statement size is none sized =
    let size-is = size-is-of names place line statement size is none sized in
    λ j. size_faults (sym is j) (total place) (size-is j)

pub faultless-line : (names : List (List ℕ)) (place : Place) (line : Line) (statement : List Piece) (size : ℕ) (section : Section) (judged : Judged) → statement_of line ≡ statement → own_faults names place line ≡ [] → size ≡ chunk_size (statement_chunk (λ (label : Piece). pos 0) (offset_of place) statement) → section ≡ section_behind place.section (statement_form statement) → judged.fault ≡ first_of (size_faults statement (total place) size) → place_of judged.place ≡ moved place size section → Judges names place line judged
faultless-line names place line statement size section judged is none sized sectioned fault at = record {
  fault =
      fault ∙ ap first_of (large-of names place line statement size is none sized)
      ∙ ap (λ (l : List Fault). first_of (l ++ too_large names place line)) (sym none);
  behind = behind-of names place (place_of judged.place) line statement size section is none sized sectioned at;
}

-- how far a place moves
total-of : (own : Section) (code variables size : ℕ) (section : Section) → total (moved (record { section = own; code = code; variables = variables }) size section) ≡ code + variables + size
total-of OfCode code variables size section = omega arith
total-of OfVariables code variables size section = omega arith

pub moved-total : (place : Place) (size : ℕ) (section : Section) → total (moved place size section) ≡ total place + size
moved-total place size section = total-of place.section place.code place.variables size section

-- a statement on a line that has no fault of its own has none by itself
pub by-itself : (names : List (List ℕ)) (place : Place) (line : Line) (statement : List Piece) → statement_of line ≡ statement → own_faults names place line ≡ [] → statement_faults names line.end statement ≡ []
by-itself names place line statement is none = ap (statement_faults names line.end) (sym is) ∙ own-by-itself names place line none

-- the faults of a line's own
pub own-is : (names : List (List ℕ)) (place : Place) (line : Line) (statement : List Piece) → statement_of line ≡ statement → own_of names place line.end statement ≡ own_faults names place line
unfolding own_faults
own-is names place line statement is = ap (own_of names place line.end) (sym is)

-- labels are known by some names
any-mapped : (name : List ℕ) (labels : List Label) → has_name name labels ≡ list_any (bytes_eq name) (map (λ (l : Label). l.name) labels)
any-mapped name [] = refl
any-mapped name (l ∷ labels) = ap (λ (b : Bool). bytes_eq name l.name || b) (any-mapped name labels)

abbrev pub own_names : List Label → List (List ℕ)
own_names labels = map (λ (l : Label). l.name) labels

pub known-names : (labels : List Label) → Know labels (own_names labels)
known-names labels = record { same = λ name. any-mapped name labels }

-- a line whose own faults are none
pub none-own : (names : List (List ℕ)) (place : Place) (line : Line) (statement : List Piece) → statement_of line ≡ statement → None ≡ first_of (own_of names place line.end statement) → own_faults names place line ≡ []
none-own names place line statement is e = sym (own-is names place line statement is) ∙ none-first (own_of names place line.end statement) (sym e)

pub some-own : (names : List (List ℕ)) (place : Place) (line : Line) (statement : List Piece) (fault : Fault) → statement_of line ≡ statement → Some fault ≡ first_of (own_of names place line.end statement) → Some fault ≡ first_of (own_faults names place line)
some-own names place line statement fault is e = e ∙ ap first_of (own-is names place line statement is)

pub handed : (r : Result Judged AllocError) (labels : List Label) (place : Place) (line : Line) (statement : List Piece) → IfOk r (λ (judged : Judged). (names : List (List ℕ)) (l : Line) → statement_of l ≡ statement → own_faults names place l ≡ [] → Judges names place l judged) → statement_of line ≡ statement → ((names : List (List ℕ)) → Know labels names → own_faults names place line ≡ []) → IfOk r (λ (judged : Judged). (names : List (List ℕ)) → Know labels names → Judges names place line judged)
handed (Ok judged) labels place line statement h is none = λ names known. h names line is (none names known)
handed (Err error) labels place line statement h is none = tt

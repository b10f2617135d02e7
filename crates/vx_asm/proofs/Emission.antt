-- Lines, put one behind another.
use Rattle.std.proofs.Common.{◌≡◌, ℕ, ◌≤◌, arith, Bool, true, false, cond, ℤ, pos, ◌-ℤ◌, List, [], ◌∷◌, ◌++◌, map, filter, flat_map, append-nil, Option, Some, None, option_map, unwrap_or, refl, sym, ap, ◌∙◌, subst}
use Rattle.std.specs.Prelude.{find}
use Rattle.std.proofs.lemmas.Grind.{flat_map-append}
use Rattle.std.proofs.lemmas.List.{map-append}
use Rattle.vx_language.specs.Assembly.{Layout, layout, plain_faults, placed_faults, twice_faults, reach_faults, aim_of, is_in, chunk_at, chunks}
use Rattle.vx_language.specs.Faults.{first_of, earliest}
use Rattle.vx_language.specs.Forms.{Section, OfCode, OfVariables}
use Rattle.vx_language.specs.Lexemes.{Piece}
use Rattle.vx_language.specs.Lines.{Line, lines, labels_in, label_names}
use Rattle.vx_language.specs.Places.{Place, Placed, first_place, placed_from, place_behind, own_faults, too_large, statement_of, statement_offset_faults, address_of, advanced, label_address, distance, has_label, offset_of, total, program_room}
use Rattle.vx_language.specs.Statements.{Chunk, statement_chunk}
use Rattle.vx_language.specs.Tokens.{lexical_faults}
use Rattle.vx_language.specs.declared.fault.Fault.{Fault}
use Rattle.vx_statement.specs.Labels.{Label, place_in, place_of, moved}
use Rattle.vx_statement.proofs.Firsts.{first_of-append}
use Rattle.vx_asm.specs.Emitting.{AreSized, AreParts, Puts, chunk_in}
use Rattle.vx_asm.specs.Judging.{IsGood}
use Rattle.vx_asm.specs.Laying.{Stand}
use Rattle.vx_asm.specs.Parts.{IsPart}
use Rattle.vx_asm.specs.Reading.{lines_at, lines_behind, line_of, IsLineAt}
use Rattle.vx_asm.specs.Written.{aim_from, IsEmitted}
use Rattle.vx_asm.specs.declared.emit.Emitted.{Emitted}
use Rattle.vx_asm.specs.declared.judge.Judged.{Judged}
use Rattle.vx_asm.specs.declared.line.Line as line
use Rattle.vx_asm.specs.declared.parts.Parts.{Parts}
use Rattle.vx_code.specs.Putting.{IsFaultless}
use Rattle.vx_asm.proofs.Judged.{by-itself}
use Rattle.vx_asm.proofs.Laying.{Placing, placing-begun, placing-on, placing-over, placed_at}
use Rattle.vx_asm.proofs.Room.{first-line, parted, behind-fits}

-- a statement without a fault
pub faultless-by : (place : Place) (pieces : List Piece) → IsGood place pieces → IsFaultless pieces
faultless-by place pieces good = (good.names, good.line.end, by-itself good.names place good.line pieces good.statement good.own)

-- the sections are as long in another section
pub sized-on : (place : Place) (size : ℕ) (section : Section) (new : Place) (parts : Parts) → new ≡ moved place size section → AreSized (advanced place size) parts → AreSized new parts
sized-on place size section new parts e sized = record {
  code = sized.code ∙ ap (λ (p : Place). p.code) (sym e);
  variables = sized.variables ∙ ap (λ (p : Place). p.variables) (sym e);
}

pub puts-same : (section : Section) (chunk other : Chunk) (old new : Parts) → chunk ≡ other → Puts section chunk old new → Puts section other old new
puts-same section chunk other old new e puts = subst (λ (c : Chunk). Puts section c old new) e puts

-- the names of a source's labels
abbrev names_of : List ℕ → List (List ℕ)
names_of source = label_names (lines source)

-- how far labels are
mapped-twice : (f : Place → ℕ) (o : Option Placed) → option_map f (option_map (λ (p : Placed). p.place) o) ≡ option_map (λ (p : Placed). f p.place) o
mapped-twice f None = refl
mapped-twice f (Some p) = refl

aims-same : (laid : Layout) (labels : List Label) (code : ℕ) (p : Placed) → Stand labels laid.lines → laid.code ≡ code → (label : Piece) → aim_from labels code p.place label ≡ aim_of laid p label
unfolding distance label_address
aims-same laid labels code p stand same label =
    let address : option_map (address_of code) (place_in label.text labels) ≡ option_map (λ (q : Placed). address_of laid.code q.place) (find (has_label label.text) laid.lines) =
    ap (option_map (address_of code)) (stand label.text)
    ∙ mapped-twice (address_of code) (find (has_label label.text) laid.lines)
    ∙ ap (λ (n : ℕ). option_map (λ (q : Placed). address_of n q.place) (find (has_label label.text) laid.lines)) (sym same) in
    λ j. pos (unwrap_or (address j) 0) -ℤ pos (address_of (sym same j) p.place)

pub aim-is : (laid : Layout) (labels : List Label) (code : ℕ) (p : Placed) → Stand labels laid.lines → laid.code ≡ code → aim_from labels code p.place ≡ aim_of laid p
aim-is laid labels code p stand same = λ j. λ (label : Piece). aims-same laid labels code p stand same label j

-- what lines put into a section, and which labels of theirs are out of reach
abbrev pub chunks_of : Layout → Section → List Placed → List Chunk
chunks_of laid section placed = map (chunk_at laid) (filter (is_in section) placed)

abbrev pub reach_of : Layout → List Placed → List Fault
reach_of laid placed = flat_map (λ (p : Placed). statement_offset_faults (aim_of laid p) (statement_of p.line)) placed

one-in : (laid : Layout) (section : Section) (line : Line) (own : Section) (code variables : ℕ) → chunks_of laid section (placed_at (record { section = own; code = code; variables = variables }) line ∷ []) ≡ chunk_in section own (chunk_at laid (placed_at (record { section = own; code = code; variables = variables }) line))
one-in laid OfCode line OfCode code variables = refl
one-in laid OfCode line OfVariables code variables = refl
one-in laid OfVariables line OfCode code variables = refl
one-in laid OfVariables line OfVariables code variables = refl

by-test : (b : Bool) (x : Placed) (kept more all : List Placed) → all ≡ kept ++ more → cond b (x ∷ all) all ≡ cond b (x ∷ kept) kept ++ more
by-test true x kept more all e = ap (λ (l : List Placed). x ∷ l) e
by-test false x kept more all e = e

filter-append : (test : Placed → Bool) (xs ys : List Placed) → filter test (xs ++ ys) ≡ filter test xs ++ filter test ys
filter-append test [] ys = refl
filter-append test (x ∷ xs) ys = by-test (test x) x (filter test xs) (filter test ys) (filter test (xs ++ ys)) (filter-append test xs ys)

chunks-more : (laid : Layout) (section : Section) (done : List Placed) (p : Placed) → chunks_of laid section (done ++ p ∷ []) ≡ chunks_of laid section done ++ chunk_in section p.place.section (chunk_at laid p)
chunks-more laid section done p =
    ap (map (chunk_at laid)) (filter-append (is_in section) done (p ∷ []))
    ∙ map-append (chunk_at laid) (filter (is_in section) done) (filter (is_in section) (p ∷ []))
    ∙ ap (λ (l : List Chunk). chunks_of laid section done ++ l) (one-in laid section p.line p.place.section p.place.code p.place.variables)

reach-more : (laid : Layout) (done : List Placed) (p : Placed) → reach_of laid (done ++ p ∷ []) ≡ reach_of laid done ++ statement_offset_faults (aim_of laid p) (statement_of p.line)
reach-more laid done p =
    flat_map-append (λ (x : Placed). statement_offset_faults (aim_of laid x) (statement_of x.line)) done (p ∷ [])
    ∙ ap (λ (l : List Fault). reach_of laid done ++ l) (append-nil (statement_offset_faults (aim_of laid p) (statement_of p.line)))

-- lines up to one are put
pub record Emission (source : List ℕ) (rest : List Line) (place : Place) (found : Option Fault) (parts : Parts) : Type 0 where
  pub done : List Placed
  pub placing : Placing (names_of source) (lines source) rest place done
  pub judged : found ≡ first_of (reach_of (layout source) done)
  pub put : found ≡ None → AreParts (chunks_of (layout source) OfCode done) (chunks_of (layout source) OfVariables done) parts
  pub room : total place ≤ program_room

pub emission-begun : (source : List ℕ) (place : Place) (parts : Parts) → place ≡ first_place → AreParts [] [] parts → Emission source (lines_at source 0) place None parts
unfolding first_of
emission-begun source place parts e are = record {
  done = [];
  placing = placing-begun (names_of source) source place e;
  judged = refl;
  put = λ h. are;
  room = rw e (omega arith);
}

-- the lines of a layout
lines-of : (source : List ℕ) → (layout source).lines ≡ placed_from (names_of source) first_place (lines source)
unfolding layout
lines-of source = refl

last-part : {X : Type 0} (xs ys zs : List X) → xs ++ ys ++ zs ≡ [] → zs ≡ []
last-part [] [] zs e = e
last-part [] (y ∷ ys) zs e = cc
last-part (x ∷ xs) ys zs e = cc

plain-lines : (source : List ℕ) → plain_faults source ≡ [] → placed_faults (names_of source) (layout source).lines ≡ []
unfolding plain_faults
plain-lines source e = last-part (lexical_faults source) (twice_faults [] (labels_in (lines source))) (placed_faults (names_of source) (layout source).lines) e

-- a line without a fault
good-line : (source : List ℕ) (rest : List Line) (line : Line) (more : List Line) (place : Place) (done : List Placed) → plain_faults source ≡ [] → rest ≡ line ∷ more → Placing (names_of source) (lines source) rest place done → (own_faults (names_of source) place line ≡ []) × (too_large (names_of source) place line ≡ [])
unfolding placed_from
good-line source rest line more place done plain cut placing =
    let all : placed_faults (names_of source) (done ++ placed_from (names_of source) place (line ∷ more)) ≡ [] =
    ap (placed_faults (names_of source)) (sym (lines-of source ∙ placing.cut ∙ ap (λ (l : List Line). done ++ placed_from (names_of source) place l) cut)) ∙ plain-lines source plain in
    let parts = first-line (names_of source) (placed_at place line) (placed_from (names_of source) (place_behind (names_of source) place line) more) (parted (names_of source) done (placed_from (names_of source) place (line ∷ more)) all) in
    (parts.0, parts.1)

pub is-good : (source : List ℕ) (from : ℕ) (line : line.Line) (place : Place) (found : Option Fault) (parts : Parts) → plain_faults source ≡ [] → IsLineAt source from line → Emission source (lines_at source from) place found parts → IsGood place (statement_of (line_of line))
is-good source from line place found parts plain e emission =
    let good = good-line source (lines_at source from) (line_of line) (lines_behind source line.next) place emission.done plain e emission.placing in
    record { names = names_of source; line = line_of line; statement = refl; own = good.0; large = good.1; room = emission.room }

none-both : (a b : Option Fault) → earliest a b ≡ None → (a ≡ None) × (b ≡ None)
none-both None b e = (refl, e)
none-both (Some a) b e = cc

subst2 : (parts : Parts) (a b c d : List Chunk) → a ≡ b → c ≡ d → AreParts a c parts → AreParts b d parts
subst2 parts a b c d e f are = record { code = subst (λ (l : List Chunk). IsPart l parts.code) e are.code; variables = subst (λ (l : List Chunk). IsPart l parts.variables) f are.variables }

pub emission-on : (source : List ℕ) (from : ℕ) (line : line.Line) (labels : List Label) (code : ℕ) (place : Place) (judged : Judged) (found more : Option Fault) (old new : Parts) → plain_faults source ≡ [] → Stand labels (layout source).lines → (layout source).code ≡ code → IsLineAt source from line → judged.fault ≡ first_of (statement_offset_faults (aim_from labels code place) (statement_of (line_of line))) → ((names : List (List ℕ)) → own_faults names place (line_of line) ≡ [] → place_of judged.place ≡ place_behind names place (line_of line)) → (judged.fault ≡ None → Puts place.section (statement_chunk (aim_from labels code place) (offset_of place) (statement_of (line_of line))) old new) → more ≡ earliest found judged.fault → Emission source (lines_at source from) place found old → Emission source (lines_behind source line.next) (place_of judged.place) more new
emission-on source from line labels code place judged found more old new plain stand same e fault behind puts joined emission =
    let laid = layout source in
    let p = placed_at place (line_of line) in
    let good = good-line source (lines_at source from) (line_of line) (lines_behind source line.next) place emission.done plain e emission.placing in
    let aim = aim-is laid labels code p stand same in
    let at = behind (names_of source) good.0 in
    record {
      done = emission.done ++ p ∷ [];
      placing = placing-on (names_of source) (lines source) (lines_at source from) (line_of line) (lines_behind source line.next) place (place_of judged.place) emission.done e at emission.placing;
      judged =
          joined
          ∙ (λ j. earliest (emission.judged j) ((fault ∙ ap (λ (a : Piece → ℤ). first_of (statement_offset_faults a (statement_of (line_of line)))) aim) j))
          ∙ sym (first_of-append (reach_of laid emission.done) (statement_offset_faults (aim_of laid p) (statement_of (line_of line))))
          ∙ ap first_of (sym (reach-more laid emission.done p));
      put = λ none.
          let both = none-both found judged.fault (sym joined ∙ none) in
          let parts = puts both.1 (chunks_of laid OfCode emission.done) (chunks_of laid OfVariables emission.done) (emission.put both.0) in
          let chunk = ap (λ (a : Piece → ℤ). statement_chunk a (offset_of place) (statement_of (line_of line))) aim in
          subst2 new _ _ _ _ ((λ j. chunks_of laid OfCode emission.done ++ chunk_in OfCode place.section (chunk j)) ∙ sym (chunks-more laid OfCode emission.done p)) ((λ j. chunks_of laid OfVariables emission.done ++ chunk_in OfVariables place.section (chunk j)) ∙ sym (chunks-more laid OfVariables emission.done p)) parts;
      room = subst (λ (p : Place). total p ≤ program_room) (sym at) (behind-fits (names_of source) place (line_of line) emission.room good.1);
    }

chunks-are : (source : List ℕ) (section : Section) → chunks (layout source) section ≡ chunks_of (layout source) section (layout source).lines
unfolding chunks
chunks-are source section = refl

reach-is : (source : List ℕ) → reach_faults (layout source) ≡ reach_of (layout source) (layout source).lines
unfolding reach_faults
reach-is source = refl

pub emission-over : (source : List ℕ) (next : Option ℕ) (place : Place) (emitted : Emitted) → next ≡ None → AreSized place emitted.parts → Emission source (lines_behind source next) place emitted.fault emitted.parts → IsEmitted source emitted
emission-over source next place emitted none sized emission =
    let over = placing-over (names_of source) (lines source) (lines_behind source next) place emission.done (ap (lines_behind source) none) emission.placing in
    let all : emission.done ≡ (layout source).lines = sym (lines-of source ∙ over.0) in
    let room = emission.room in
    let code = sized.code in
    let variables = sized.variables in
    record {
      fault = emission.judged ∙ ap (λ (l : List Placed). first_of (reach_of (layout source) l)) all ∙ ap first_of (sym (reach-is source));
      parts = λ h.
          subst2 emitted.parts _ _ _ _ (ap (chunks_of (layout source) OfCode) all ∙ sym (chunks-are source OfCode)) (ap (chunks_of (layout source) OfVariables) all ∙ sym (chunks-are source OfVariables)) (emission.put h);
      room = rw (code, variables) room;
    }

-- Lines, judged and placed one behind another.
use Rattle.std.proofs.Common.{◌≡◌, ℕ, ◌+◌, ◌*◌, ◌-◌, ◌^◌, ◌<◌, ◌≤◌, arith, Bool, true, false, cond, List, [], ◌∷◌, ◌++◌, append_assoc, append-nil, Option, Some, None, option_map, refl, sym, ap, ◌∙◌, subst}
use Rattle.std.specs.Prelude.{IfSome, find}
use Rattle.std.specs.Option.{option_or}
use Rattle.std.proofs.lemmas.Grind.{flat_map-append}
use Rattle.vx_language.specs.Assembly.{placed_faults}
use Rattle.vx_language.specs.Faults.{first_of, earliest}
use Rattle.vx_language.specs.Lexemes.{lexemes}
use Rattle.vx_language.specs.Lines.{Line, lines, labels_before}
use Rattle.vx_language.specs.Places.{Place, Placed, first_place, placed_from, end_from, place_behind, own_faults, too_large, has_label, total}
use Rattle.vx_language.specs.declared.fault.Fault.{Fault}
use Rattle.vx_statement.specs.Labels.{Label, place_in, place_of}
use Rattle.vx_statement.specs.Lexemes.{pieces_of}
use Rattle.vx_statement.specs.declared.lexeme.Lexeme.{Lexeme}
use Rattle.vx_statement.proofs.Firsts.{first_of-append}
use Rattle.vx_asm.specs.Defining.{PutsAt, names_one}
use Rattle.vx_asm.specs.Judging.{Judges}
use Rattle.vx_asm.specs.Laying.{Stand}
use Rattle.vx_asm.specs.Reading.{lines_at, lines_behind, line_of, IsLineAt}
use Rattle.vx_asm.specs.declared.judge.Judged.{Judged}
use Rattle.vx_asm.specs.declared.line.Line as line

-- how far reading is
abbrev pub RoomAt : Option ℕ → Place → Type 0
RoomAt None place = Unit {0}
RoomAt (Some from) place = total place ≤ from * (2 ^ 64 - 1)

pub room-on : (size from : ℕ) (next : Option ℕ) (old new : Place) → IfSome next (λ (n : ℕ). (from < n) × (n ≤ size)) → total old ≤ from * (2 ^ 64 - 1) → total new ≤ total old + (2 ^ 64 - 1) → RoomAt next new
room-on size from None old new ahead was is = tt
room-on size from (Some n) old new ahead was is = let later = ahead.0 in omega (arith, later, was, is)

pub room-first : (place : Place) → place ≡ first_place → RoomAt (Some 0) place
room-first place e = rw e (omega arith)

-- lines up to one are placed
pub record Placing (names : List (List ℕ)) (all rest : List Line) (place : Place) (placed : List Placed) : Type 0 where
  pub cut : placed_from names first_place all ≡ placed ++ placed_from names place rest
  pub end : end_from names first_place all ≡ end_from names place rest

-- those are judged, and their labels known
pub record Laying (names : List (List ℕ)) (all rest : List Line) (place : Place) (labels : List Label) (found : Option Fault) : Type 0 where
  pub done : List Placed
  pub placing : Placing names all rest place done
  pub judged : found ≡ first_of (placed_faults names done)
  pub stand : Stand labels done

pub placing-begun : (names : List (List ℕ)) (source : List ℕ) (place : Place) → place ≡ first_place → Placing names (lines source) (lines_at source 0) place []
unfolding lexemes
placing-begun names source place e = record { cut = rw e refl; end = rw e refl }

placed-cut : (names : List (List ℕ)) (place : Place) (line : Line) (more : List Line) → placed_from names place (line ∷ more) ≡ record { line = line; place = place } ∷ placed_from names (place_behind names place line) more
unfolding placed_from
placed-cut names place line more = refl

end-cut : (names : List (List ℕ)) (place : Place) (line : Line) (more : List Line) → end_from names place (line ∷ more) ≡ end_from names (place_behind names place line) more
unfolding end_from
end-cut names place line more = refl

abbrev pub placed_at : Place → Line → Placed
placed_at place line = record { line = line; place = place }

pub placing-on : (names : List (List ℕ)) (all rest : List Line) (line : Line) (more : List Line) (place new : Place) (done : List Placed) → rest ≡ line ∷ more → new ≡ place_behind names place line → Placing names all rest place done → Placing names all more new (done ++ placed_at place line ∷ [])
placing-on names all rest line more place new done cut behind placing = record {
  cut =
      placing.cut
      ∙ ap (λ (l : List Line). done ++ placed_from names place l) cut
      ∙ ap (λ (l : List Placed). done ++ l) (placed-cut names place line more)
      ∙ sym (append_assoc done (placed_at place line ∷ []) (placed_from names (place_behind names place line) more))
      ∙ ap (λ (p : Place). (done ++ placed_at place line ∷ []) ++ placed_from names p more) (sym behind);
  end =
      placing.end
      ∙ ap (end_from names place) cut
      ∙ end-cut names place line more
      ∙ ap (λ (p : Place). end_from names p more) (sym behind);
}

no-lines : (names : List (List ℕ)) (place : Place) → placed_from names place [] ≡ []
unfolding placed_from
no-lines names place = refl

no-end : (names : List (List ℕ)) (place : Place) → end_from names place [] ≡ place
unfolding end_from
no-end names place = refl

pub placing-over : (names : List (List ℕ)) (all rest : List Line) (place : Place) (done : List Placed) → rest ≡ [] → Placing names all rest place done → (placed_from names first_place all ≡ done) × (end_from names first_place all ≡ place)
placing-over names all rest place done none placing = (
  placing.cut ∙ ap (λ (l : List Line). done ++ placed_from names place l) none ∙ ap (λ (l : List Placed). done ++ l) (no-lines names place) ∙ append-nil done,
  placing.end ∙ ap (end_from names place) none ∙ no-end names place,
)

-- one line more
judged-more : (names : List (List ℕ)) (done : List Placed) (p : Placed) → placed_faults names (done ++ p ∷ []) ≡ placed_faults names done ++ (own_faults names p.place p.line ++ too_large names p.place p.line)
unfolding placed_faults
judged-more names done p =
    flat_map-append (λ (x : Placed). own_faults names x.place x.line ++ too_large names x.place x.line) done (p ∷ [])
    ∙ ap (λ (l : List Fault). placed_faults names done ++ l) (append-nil (own_faults names p.place p.line ++ too_large names p.place p.line))

find-more : (b c : Bool) (x p : Placed) (o rest : Option Placed) → option_map (λ (q : Placed). q.place) rest ≡ option_or (option_map (λ (q : Placed). q.place) o) (cond c (Some p.place) None) → option_map (λ (q : Placed). q.place) (cond b (Some x) rest) ≡ option_or (option_map (λ (q : Placed). q.place) (cond b (Some x) o)) (cond c (Some p.place) None)
find-more true c x p o rest e = refl
find-more false c x p o rest e = e

find-one : (c : Bool) (p : Placed) → option_map (λ (q : Placed). q.place) (cond c (Some p) None) ≡ cond c (Some p.place) None
find-one true p = refl
find-one false p = refl

find-behind : (test : Placed → Bool) (done : List Placed) (p : Placed) → option_map (λ (q : Placed). q.place) (find test (done ++ p ∷ [])) ≡ option_or (option_map (λ (q : Placed). q.place) (find test done)) (cond (test p) (Some p.place) None)
find-behind test [] p = find-one (test p) p
find-behind test (x ∷ done) p = find-more (test x) (test p) x p _ _ (find-behind test done p)

pub stand-more : (labels new : List Label) (done : List Placed) (line : Line) (place : Place) → PutsAt labels new (names_one (labels_before line.tokens)) place → Stand labels done → Stand new (done ++ placed_at place line ∷ [])
stand-more labels new done line place puts stand =
    λ name. puts name
    ∙ ap (λ (o : Option Place). option_or o (cond (names_one (labels_before line.tokens) name) (Some place) None)) (stand name)
    ∙ sym (find-behind (has_label name) done (placed_at place line))

pub laying-begun : (names : List (List ℕ)) (source : List ℕ) (place : Place) (labels : List Label) → place ≡ first_place → labels ≡ [] → Laying names (lines source) (lines_at source 0) place labels None
unfolding placed_faults first_of
laying-begun names source place labels e none = record {
  done = [];
  placing = placing-begun names source place e;
  judged = refl;
  stand = λ name. ap (place_in name) none;
}

pub laying-on : (names : List (List ℕ)) (source : List ℕ) (from : ℕ) (line : line.Line) (tokens : List Lexeme) (place : Place) (judged : Judged) (labels new : List Label) (found more : Option Fault) → IsLineAt source from line → tokens ≡ line.tokens.items → PutsAt labels new (names_one (labels_before (pieces_of tokens))) place → Judges names place (line_of line) judged → more ≡ earliest found judged.fault → Laying names (lines source) (lines_at source from) place labels found → Laying names (lines source) (lines_behind source line.next) (place_of judged.place) new more
laying-on names source from line tokens place judged labels new found more e is puts judges joined laying = record {
  done = laying.done ++ placed_at place (line_of line) ∷ [];
  placing = placing-on names (lines source) (lines_at source from) (line_of line) (lines_behind source line.next) place (place_of judged.place) laying.done e judges.behind laying.placing;
  judged =
      joined
      ∙ (λ j. earliest (laying.judged j) (judges.fault j))
      ∙ sym (first_of-append (placed_faults names laying.done) (own_faults names place (line_of line) ++ too_large names place (line_of line)))
      ∙ ap first_of (sym (judged-more names laying.done (placed_at place (line_of line))));
  stand = stand-more labels new laying.done (line_of line) place (rw is at puts) laying.stand;
}

pub laying-over : (names : List (List ℕ)) (source : List ℕ) (next : Option ℕ) (place : Place) (labels : List Label) (found : Option Fault) → next ≡ None → Laying names (lines source) (lines_behind source next) place labels found → (found ≡ first_of (placed_faults names (placed_from names first_place (lines source)))) × (place ≡ end_from names first_place (lines source)) × Stand labels (placed_from names first_place (lines source))
laying-over names source next place labels found none laying =
    let over = placing-over names (lines source) (lines_behind source next) place laying.done (ap (lines_behind source) none) laying.placing in
    (laying.judged ∙ ap (λ (l : List Placed). first_of (placed_faults names l)) (sym over.0), sym over.1, subst (Stand labels) (sym over.0) laying.stand)

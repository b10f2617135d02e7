-- A label more.
use Rattle.std.proofs.Common.{◌≡◌, ℕ, Bool, true, false, not, cond, ◌||◌, List, [], ◌∷◌, ◌++◌, map, append_assoc, Option, Some, None, refl, sym, ap, ◌∙◌, bytes_eq, subst}
use Rattle.std.specs.List.{list_any}
use Rattle.std.specs.Option.{option_or}
use Rattle.std.specs.Prelude.{option_map}
use Rattle.std.proofs.lemmas.Bool.{false≢true}
use Rattle.std.proofs.lemmas.Slice.Eq.{bytes_eq-Decides}
use Rattle.vx_language.specs.Assembly.{twice_faults}
use Rattle.vx_language.specs.Faults.{fault_at, first_of, earlier, earliest}
use Rattle.vx_language.specs.Lexemes.{Piece}
use Rattle.vx_language.specs.declared.fault.Fault.{Fault}
use Rattle.vx_language.specs.declared.fault.FaultKind.TheVariants.{Twice}
use Rattle.vx_statement.specs.Knowing.{Know}
use Rattle.vx_language.specs.Places.{Place}
use Rattle.vx_statement.specs.Labels.{Label, has_name, place_in}
use Rattle.vx_asm.specs.Defining.{again, Defines, DefineAll, named_with, PutsAt, names_one}
use Rattle.vx_statement.proofs.Firsts.{first-twice, first_of-append, first-none}

or-swapped : (a b : Bool) → (a || (b || false)) ≡ (b || a)
or-swapped true true = refl
or-swapped true false = refl
or-swapped false true = refl
or-swapped false false = refl

or-assoc : (a b c : Bool) → ((a || b) || c) ≡ (a || (b || c))
or-assoc true b c = refl
or-assoc false b c = refl

has-behind : (name : List ℕ) (labels more : List Label) → has_name name (labels ++ more) ≡ (has_name name labels || has_name name more)
has-behind name [] more = refl
has-behind name (l ∷ labels) more = ap (λ (b : Bool). bytes_eq name l.name || b) (has-behind name labels more) ∙ sym (or-assoc (bytes_eq name l.name) (has_name name labels) (has_name name more))

-- a label that is new
know-new : (labels : List Label) (names : List (List ℕ)) (l : Label) → Know labels names → Know (labels ++ l ∷ []) (l.name ∷ names)
know-new labels names l known = record {
  same = λ name. has-behind name labels (l ∷ []) ∙ or-swapped (has_name name labels) (bytes_eq name l.name) ∙ ap (λ (b : Bool). bytes_eq name l.name || b) (known.same name);
}

-- one that is there
there : (name own : List ℕ) (names : List (List ℕ)) (b : Bool) → bytes_eq name own ≡ b → list_any (bytes_eq own) names ≡ true → list_any (bytes_eq name) names ≡ (b || list_any (bytes_eq name) names)
there name own names false e h = refl
there name own names true e h =
    let same : name ≡ own = (bytes_eq-Decides name own).0 e in
    ap (λ (n : List ℕ). list_any (bytes_eq n) names) same ∙ h

know-old : (labels : List Label) (names : List (List ℕ)) (own : List ℕ) → list_any (bytes_eq own) names ≡ true → Know labels names → Know labels (own ∷ names)
know-old labels names own h known = record { same = λ name. known.same name ∙ there name own names (bytes_eq name own) refl h }

is-new : (b : Bool) → true ≡ not b → b ≡ false
is-new true e = absurd (false≢true (sym e))
is-new false e = refl

is-old : (b : Bool) → false ≡ not b → b ≡ true
is-old true e = refl
is-old false e = absurd (false≢true e)

pub defined-new : (label : Piece) (names : List (List ℕ)) (old new : List Label) (place : Place) → true ≡ not (has_name label.text old) → new ≡ old ++ record { name = label.text; place = place } ∷ [] → Know old names → Defines label names new None
unfolding first_of
defined-new label names old new place added labels known =
    let absent = sym (known.same label.text) ∙ is-new (has_name label.text old) added in
    record {
      judged = rw absent refl;
      known = rw labels (know-new old names (record { name = label.text; place = place }) known);
    }

pub defined-again : (label : Piece) (names : List (List ℕ)) (old new : List Label) (fault : Fault) → false ≡ not (has_name label.text old) → new ≡ old → fault ≡ fault_at Twice label → Know old names → Defines label names new (Some fault)
unfolding first_of earlier
defined-again label names old new fault added labels is known =
    let present = sym (known.same label.text) ∙ is-old (has_name label.text old) added in
    record {
      judged = rw (present, is) refl;
      known = rw labels (know-old old names label.text present known);
    }

-- amid the labels of a line: those so far have these names, and what is found so far, and what the rest has, is what all have
pub record Amid (own rest : List Piece) (names : List (List ℕ)) (labels : List Label) (found : Option Fault) : Type 0 where
  pub known_names : List (List ℕ)
  pub known : Know labels known_names
  pub judged : earliest found (first_of (twice_faults known_names rest)) ≡ first_of (twice_faults names own)
  pub named : named_with known_names rest ≡ named_with names own

pub amid-begun : (own : List Piece) (names : List (List ℕ)) (labels : List Label) → Know labels names → Amid own own names labels None
amid-begun own names labels known = record { known_names = names; known = known; judged = refl; named = refl }

pub amid-more : (own : List Piece) (label : Piece) (rest before : List Piece) (names : List (List ℕ)) (labels new : List Label) (found fault more : Option Fault) → before ≡ label ∷ rest → ((known : List (List ℕ)) → Know labels known → Defines label known new fault) → more ≡ earliest found fault → Amid own before names labels found → Amid own rest names new more
unfolding twice_faults
amid-more own label rest before names labels new found fault more cut defines joined amid =
    let step = defines amid.known_names amid.known in
    let later = twice_faults (label.text ∷ amid.known_names) rest in
    record {
      known_names = label.text ∷ amid.known_names;
      known = step.known;
      judged =
          ap (λ (o : Option Fault). earliest o (first_of later)) (joined ∙ ap (earliest found) step.judged)
          ∙ first-twice found (first_of (again label amid.known_names)) (first_of later)
          ∙ ap (earliest found) (sym (first_of-append (again label amid.known_names) later))
          ∙ ap (λ (l : List Piece). earliest found (first_of (twice_faults amid.known_names l))) (sym cut)
          ∙ amid.judged;
      named = ap (named_with amid.known_names) (sym cut) ∙ amid.named;
    }

pub amid-over : (own before : List Piece) (names : List (List ℕ)) (labels : List Label) (found : Option Fault) → before ≡ [] → Amid own before names labels found → DefineAll own names labels found
unfolding twice_faults first_of
amid-over own before names labels found none amid = record {
  judged = sym (first-none found) ∙ ap (λ (l : List Piece). earliest found (first_of (twice_faults amid.known_names l))) (sym none) ∙ amid.judged;
  known = subst (Know labels) (sym (ap (named_with amid.known_names) none) ∙ amid.named) amid.known;
}

-- the labels of more lines
twice-behind : (names : List (List ℕ)) (own more : List Piece) → twice_faults names (own ++ more) ≡ twice_faults names own ++ twice_faults (named_with names own) more
unfolding twice_faults
twice-behind names [] more = refl
twice-behind names (label ∷ own) more =
    ap (λ (l : List Fault). again label names ++ l) (twice-behind (label.text ∷ names) own more)
    ∙ sym (append_assoc (again label names) (twice_faults (label.text ∷ names) own) (twice_faults (named_with (label.text ∷ names) own) more))

named-behind : (names : List (List ℕ)) (own more : List Piece) → named_with names (own ++ more) ≡ named_with (named_with names own) more
named-behind names [] more = refl
named-behind names (label ∷ own) more = named-behind (label.text ∷ names) own more

pub amid-lines : (own part rest before : List Piece) (names : List (List ℕ)) (labels new : List Label) (found fault more : Option Fault) → before ≡ part ++ rest → ((known : List (List ℕ)) → Know labels known → DefineAll part known new fault) → more ≡ earliest found fault → Amid own before names labels found → Amid own rest names new more
amid-lines own part rest before names labels new found fault more cut defines joined amid =
    let step = defines amid.known_names amid.known in
    let names_then = named_with amid.known_names part in
    record {
      known_names = names_then;
      known = step.known;
      judged =
          ap (λ (o : Option Fault). earliest o (first_of (twice_faults names_then rest))) (joined ∙ ap (earliest found) step.judged)
          ∙ first-twice found (first_of (twice_faults amid.known_names part)) (first_of (twice_faults names_then rest))
          ∙ ap (earliest found) (sym (first_of-append (twice_faults amid.known_names part) (twice_faults names_then rest)))
          ∙ ap (λ (l : List Fault). earliest found (first_of l)) (sym (twice-behind amid.known_names part rest))
          ∙ ap (λ (l : List Piece). earliest found (first_of (twice_faults amid.known_names l))) (sym cut)
          ∙ amid.judged;
      named = sym (named-behind amid.known_names part rest) ∙ ap (named_with amid.known_names) (sym cut) ∙ amid.named;
    }

-- names in their order or in the other
or-three : (a b c : Bool) → (a || (b || c)) ≡ ((b || a) || c)
or-three true true c = refl
or-three true false c = refl
or-three false true c = refl
or-three false false c = refl

or-none : (a : Bool) → (a || false) ≡ a
or-none true = refl
or-none false = refl

named-any : (name : List ℕ) (names : List (List ℕ)) (own : List Piece) → list_any (bytes_eq name) (named_with names own) ≡ (list_any (bytes_eq name) (map (λ (label : Piece). label.text) own) || list_any (bytes_eq name) names)
named-any name names [] = refl
named-any name names (label ∷ own) =
    named-any name (label.text ∷ names) own
    ∙ or-three (list_any (bytes_eq name) (map (λ (l : Piece). l.text) own)) (bytes_eq name label.text) (list_any (bytes_eq name) names)

pub know-all : (labels : List Label) (own : List Piece) → Know labels (named_with [] own) → Know labels (map (λ (label : Piece). label.text) own)
know-all labels own known = record {
  same = λ name. known.same name ∙ named-any name [] own ∙ or-none (list_any (bytes_eq name) (map (λ (label : Piece). label.text) own));
}

-- places

-- where the label of a name stands, once these labels are put at a place
abbrev pub placed_with : List ℕ → List Label → List Piece → Place → Option Place
placed_with name labels own place = option_or (place_in name labels) (cond (names_one own name) (Some place) None)

or-nothing : {X : Type 0} (o : Option X) → option_or o None ≡ o
or-nothing None = refl
or-nothing (Some x) = refl

or-either : {X : Type 0} (o : Option X) (a b : Bool) (x : X) → option_or (option_or o (cond a (Some x) None)) (cond b (Some x) None) ≡ option_or o (cond (a || b) (Some x) None)
or-either None true b x = refl
or-either None false b x = refl
or-either (Some y) a b x = refl

one-place : (b : Bool) (l : Label) → option_map (λ (x : Label). x.place) (cond b (Some l) None) ≡ cond b (Some l.place) None
one-place true l = refl
one-place false l = refl

place-more : (b c : Bool) (l x : Label) (o : Option Label) (rest : Option Label) → option_map (λ (y : Label). y.place) rest ≡ option_or (option_map (λ (y : Label). y.place) o) (cond c (Some l.place) None) → option_map (λ (y : Label). y.place) (cond b (Some x) rest) ≡ option_or (option_map (λ (y : Label). y.place) (cond b (Some x) o)) (cond c (Some l.place) None)
place-more true c l x o rest e = refl
place-more false c l x o rest e = e

place-behind : (name : List ℕ) (old : List Label) (l : Label) → place_in name (old ++ l ∷ []) ≡ option_or (place_in name old) (cond (bytes_eq name l.name) (Some l.place) None)
place-behind name [] l = one-place (bytes_eq name l.name) l
place-behind name (x ∷ old) l = place-more (bytes_eq name x.name) (bytes_eq name l.name) l x _ _ (place-behind name old l)

pub put-new : (old new : List Label) (l : Label) → new ≡ old ++ l ∷ [] → PutsAt old new (λ (n : List ℕ). bytes_eq n l.name) l.place
put-new old new l e = λ name. ap (place_in name) e ∙ place-behind name old l

there-more : (b h : Bool) (x : Label) (o : Option Label) (p : Option Place) → (b || h) ≡ true → (h ≡ true → option_or (option_map (λ (y : Label). y.place) o) p ≡ option_map (λ (y : Label). y.place) o) → option_or (option_map (λ (y : Label). y.place) (cond b (Some x) o)) p ≡ option_map (λ (y : Label). y.place) (cond b (Some x) o)
there-more true h x o p e k = refl
there-more false h x o p e k = k e

there-is : (name : List ℕ) (labels : List Label) (p : Option Place) → has_name name labels ≡ true → option_or (place_in name labels) p ≡ place_in name labels
there-is name [] p e = absurd (false≢true e)
there-is name (x ∷ labels) p e = there-more (bytes_eq name x.name) (has_name name labels) x _ p e (λ h. there-is name labels p h)

again-is : (name own : List ℕ) (labels : List Label) (place : Place) (b : Bool) → bytes_eq name own ≡ b → has_name own labels ≡ true → place_in name labels ≡ option_or (place_in name labels) (cond b (Some place) None)
again-is name own labels place false e h = sym (or-nothing (place_in name labels))
again-is name own labels place true e h =
    let same : name ≡ own = (bytes_eq-Decides name own).0 e in
    sym (there-is name labels (Some place) (ap (λ (n : List ℕ). has_name n labels) same ∙ h))

pub put-again : (old new : List Label) (own : List ℕ) (place : Place) → false ≡ not (has_name own old) → new ≡ old → PutsAt old new (λ (n : List ℕ). bytes_eq n own) place
put-again old new own place added e = λ name. ap (place_in name) e ∙ again-is name own old place (bytes_eq name own) refl (is-old (has_name own old) added)

pub put-more : (name : List ℕ) (rest before : List Piece) (labels new : List Label) (place : Place) (whole : Option Place) (label : Piece) → before ≡ label ∷ rest → place_in name new ≡ option_or (place_in name labels) (cond (bytes_eq name label.text) (Some place) None) → placed_with name labels before place ≡ whole → placed_with name new rest place ≡ whole
put-more name rest before labels new place whole label cut put was =
    ap (λ (o : Option Place). option_or o (cond (names_one rest name) (Some place) None)) put
    ∙ or-either (place_in name labels) (bytes_eq name label.text) (names_one rest name) place
    ∙ ap (λ (l : List Piece). placed_with name labels l place) (sym cut)
    ∙ was

pub put-over : (name : List ℕ) (before : List Piece) (labels : List Label) (place : Place) (whole : Option Place) → before ≡ [] → placed_with name labels before place ≡ whole → place_in name labels ≡ whole
put-over name before labels place whole none was =
    sym (or-nothing (place_in name labels)) ∙ ap (λ (l : List Piece). placed_with name labels l place) (sym none) ∙ was

-- Labels as the entries of a map.
use Rattle.std.proofs.Common.{◌≡◌, ℕ, Bool, true, false, cond, ◌||◌, List, [], ◌∷◌, ◌++◌, map, Option, Some, is_some, option_map, refl, sym, ap, bytes_eq}
use Rattle.vx_language.specs.Places as language
use Rattle.std.specs.Map.{lookup}
use Rattle.std.proofs.lemmas.Bool.{false≢true}
use Rattle.indexmap.specs.IndexMap.{insert_entry}
use Rattle.vx_statement.specs.Labels.{Label, label_of, place_of, has_name, place_in}
use Rattle.vx_statement.specs.declared.place.Place.{Place}
use denote.Ref.{Bor}

-- one entry more
has-more : (b : Bool) (n : Place) (o : Option Place) (r : Bool) → is_some o ≡ r → is_some (cond b (Some n) o) ≡ (b || r)
has-more true n o r e = refl
has-more false n o r e = e

place-more : (b : Bool) (p : Place) (l : Label) (o : Option Place) (r : Option Label) → place_of p ≡ l.place → option_map place_of o ≡ option_map (λ (x : Label). x.place) r → option_map place_of (cond b (Some p) o) ≡ option_map (λ (x : Label). x.place) (cond b (Some l) r)
place-more true p l o r is e = ap (λ (q : language.Place). Some q) is
place-more false p l o r is e = e

pub has-entries : (name : List ℕ) (es : List (Bor (List ℕ) × Place)) → is_some (lookup (λ k. bytes_eq name k.now) es) ≡ has_name name (map label_of es)
has-entries name [] = refl
has-entries name (e ∷ es) = has-more (bytes_eq name e.0.now) e.1 _ _ (has-entries name es)

pub place-entries : (name : List ℕ) (es : List (Bor (List ℕ) × Place)) → option_map place_of (lookup (λ k. bytes_eq name k.now) es) ≡ place_in name (map label_of es)
place-entries name [] = refl
place-entries name (e ∷ es) = place-more (bytes_eq name e.0.now) e.1 (label_of e) _ _ refl (place-entries name es)

-- a label that isn't there goes last
put : (b : Bool) (n : Bor (List ℕ)) (a : Place) (e : Bor (List ℕ) × Place) (es new : List (Bor (List ℕ) × Place)) (r : Bool) (labels : List Label) → (r ≡ false → map label_of new ≡ labels) → (b || r) ≡ false → map label_of (cond b ((e.0, a) ∷ es) (e ∷ new)) ≡ label_of e ∷ labels
put true n a e es new r labels h none = absurd (false≢true (sym none))
put false n a e es new r labels h none = ap (λ (l : List Label). label_of e ∷ l) (h none)

pub insert-entries : (name : Bor (List ℕ)) (place : Place) (es : List (Bor (List ℕ) × Place)) → has_name name.now (map label_of es) ≡ false → map label_of (insert_entry (λ (x y : Bor (List ℕ)). bytes_eq x.now y.now) es name place) ≡ map label_of es ++ label_of (name, place) ∷ []
insert-entries name place [] none = refl
insert-entries name place (e ∷ es) none =
    put (bytes_eq name.now e.0.now) name place e es _ (has_name name.now (map label_of es)) _ (λ h. insert-entries name place es h) none

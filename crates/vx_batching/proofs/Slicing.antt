-- Commits of batches that don't end the episode.
use Rattle.std.proofs.Common.{◌≡◌, ℕ, ◌<◌, Bool, true, false, List, [], ◌∷◌, ◌++◌, refl, sym, ap, ◌∙◌, arith}
use Rattle.std.specs.Prelude.{◌||◌, nat_le, map, find, Some, if◌then◌else◌}
use Rattle.std.specs.List.{list_all, list_any}
use Rattle.std.proofs.lemmas.Bool.{and_parts, false≢true, leb-true, lt-leb}
use Rattle.std.proofs.lemmas.List.Folds.{list_any-append}
use Rattle.vx_episode.specs.Commits.{Happening, happening, batch_commit, ends}
use Rattle.vx_episode.specs.Commits.What.{Reaches}
use Rattle.vx_episode.specs.Cycles.{Cycle, is_by, cycles_of}
use Rattle.vx_episode.specs.Cycles.Cycle.{At, Never}
use Rattle.vx_episode.specs.Episode.{up_to_end}
use Rattle.vx_episode.specs.History.{Entry, BatchTimes}
use Rattle.vx_batching.specs.Batching.{reached}
use Rattle.vx_batching.proofs.Happening.{reached-one, reached-more}

or-false : (a b : Bool) → a ≡ false → b ≡ false → (a || b) ≡ false
or-false a b h k = (λ i. h i || k i)

or-none : (a : Bool) → (a || false) ≡ a
or-none true = refl
or-none false = refl

none-one : (e : Entry) (until k after : ℕ) (c : Cycle) → k < until → is_by k c ≡ true → list_any (ends until) (map (happening e (Reaches after)) (cycles_of c)) ≡ false
none-one e until k after (At c) few h = let some = leb-true c k h in or-false (nat_le until c) false (lt-leb until c (omega arith)) refl
none-one e until k after Never few h = refl

pub none-ends : (e : Entry) (until k : ℕ) → k < until → (own : List BatchTimes) → list_all (λ (b : BatchTimes). is_by k b.committed) own ≡ true → list_any (ends until) (reached e own) ≡ false
none-ends e until k few [] h = refl
none-ends e until k few (b ∷ own) h =
    let parts = and_parts (is_by k b.committed) (list_all (λ (b : BatchTimes). is_by k b.committed) own) h in
    ap (list_any (ends until)) (reached-one e b own)
    ∙ list_any-append (ends until) (reached e own) (batch_commit e b)
    ∙ or-false (list_any (ends until) (reached e own)) (list_any (ends until) (batch_commit e b)) (none-ends e until k few own parts.1) (none-one e until k b.after b.committed few parts.0)

pub more-ends : (e : Entry) (until committed : ℕ) (l : BatchTimes) (own : List BatchTimes) → l.committed ≡ At committed → list_any (ends until) (reached e (l ∷ own)) ≡ (list_any (ends until) (reached e own) || nat_le until committed)
more-ends e until committed l own is =
    ap (list_any (ends until)) (reached-more e l own committed is)
    ∙ list_any-append (ends until) (reached e own) (happening e (Reaches l.after) committed ∷ [])
    ∙ ap (λ (b : Bool). list_any (ends until) (reached e own) || b) (or-none (nat_le until committed))

-- ---- behind happenings that don't end it

or-parts : (a b : Bool) → (a || b) ≡ false → (a ≡ false) × (b ≡ false)
or-parts true b h = absurd (false≢true (sym h))
or-parts false b h = (refl, h)

pub finds-behind : (until : ℕ) (xs ys : List Happening) → list_any (ends until) xs ≡ false → find (ends until) (xs ++ ys) ≡ find (ends until) ys
finds-behind until [] ys h = refl
finds-behind until (x ∷ xs) ys h =
    let parts = or-parts (ends until x) (list_any (ends until) xs) h in
    ap (λ (b : Bool). if b then Some x else find (ends until) (xs ++ ys)) parts.0 ∙ finds-behind until xs ys parts.1

pub goes-behind : (until : ℕ) (xs ys : List Happening) → list_any (ends until) xs ≡ false → up_to_end until (xs ++ ys) ≡ xs ++ up_to_end until ys
goes-behind until [] ys h = refl
goes-behind until (x ∷ xs) ys h =
    let parts = or-parts (ends until x) (list_any (ends until) xs) h in
    ap (λ (b : Bool). if b then x ∷ [] else x ∷ up_to_end until (xs ++ ys)) parts.0 ∙ ap (λ (rest : List Happening). x ∷ rest) (goes-behind until xs ys parts.1)

pub any-behind : (until : ℕ) (xs ys : List Happening) → list_any (ends until) xs ≡ false → list_any (ends until) (xs ++ ys) ≡ list_any (ends until) ys
any-behind until xs ys h = list_any-append (ends until) xs ys ∙ ap (λ (b : Bool). b || list_any (ends until) ys) h

-- one that ends it
pub finds-end : (until : ℕ) (xs ys : List Happening) (e : Happening) → list_any (ends until) xs ≡ false → ends until e ≡ true → find (ends until) (xs ++ e ∷ ys) ≡ Some e
finds-end until xs ys e h is = finds-behind until xs (e ∷ ys) h ∙ ap (λ (b : Bool). if b then Some e else find (ends until) ys) is

pub ends-there : (until : ℕ) (xs ys : List Happening) (e : Happening) → list_any (ends until) xs ≡ false → ends until e ≡ true → up_to_end until (xs ++ e ∷ ys) ≡ xs ++ e ∷ []
ends-there until xs ys e h is = goes-behind until xs (e ∷ ys) h ∙ ap (λ (b : Bool). xs ++ (if b then e ∷ [] else e ∷ up_to_end until ys)) is

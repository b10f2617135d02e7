-- What is counted of an instruction: whether it changes the vector state, and what its last happening comes to.
use Rattle.std.proofs.Common.{◌≡◌, ℕ, ◌+◌, Bool, true, false, List, [], ◌∷◌, ◌++◌, refl, sym, ap, ◌∙◌, arith}
use Rattle.std.specs.Prelude.{◌&&◌, ◌||◌, length, if◌then◌else◌}
use Rattle.std.specs.List.{list_any}
use Rattle.vx_episode.specs.Commits.{What, Happening, happening, happenings_of}
use Rattle.vx_episode.specs.Cycles.{Cycle}
use Rattle.vx_episode.specs.Episode.{commits_by}
use Rattle.vx_episode.specs.History.{Entry}
use Rattle.vx_ending.specs.Counts.{commits_in, changes_in}
use Rattle.vx_course.proofs.Cited.{CountLaws}

-- ---- tests

pub or-false : (b : Bool) → (b || false) ≡ b
or-false true = refl
or-false false = refl

or-assoc : (a b c : Bool) → (a || (b || c)) ≡ (a || b || c)
or-assoc true b c = refl
or-assoc false b c = refl

or-covered : (a b : Bool) → ((a && b) || b) ≡ b
or-covered true true = refl
or-covered true false = refl
or-covered false b = refl

one-or-none : (b : Bool) (h : Happening) → length (if b then h ∷ [] else []) ≡ (if b then 1 else 0)
one-or-none true h = refl
one-or-none false h = refl

-- ---- counts up to the last happening

module _ (counts : CountLaws) (e : Entry) (before : List Happening) (what : What) (cycle : ℕ) where
  pub commits-last : (n : ℕ) → n + commits_in (before ++ happening e what cycle ∷ []) ≡ n + commits_in before + (if commits_by what then 1 else 0)
  commits-last n =
      let all : commits_in (before ++ happening e what cycle ∷ []) ≡ commits_in before + (if commits_by what then 1 else 0) =
      counts.commits before (happening e what cycle ∷ []) ∙ ap (λ (m : ℕ). commits_in before + m) (one-or-none (commits_by what) (happening e what cycle)) in
      let sum : n + (commits_in before + (if commits_by what then 1 else 0)) ≡ n + commits_in before + (if commits_by what then 1 else 0) = omega arith in
      ap (λ (m : ℕ). n + m) all ∙ sum

  pub changes-last : (changed : Bool) → (changed || changes_in (before ++ happening e what cycle ∷ [])) ≡ (changed || changes_in before || (commits_by what && e.footprint.changes_vectors))
  changes-last changed =
      ap (λ (b : Bool). changed || b)
      (counts.changes before (happening e what cycle ∷ []) ∙ ap (λ (b : Bool). changes_in before || b) (or-false (commits_by what && e.footprint.changes_vectors)))
      ∙ or-assoc changed (changes_in before) (commits_by what && e.footprint.changes_vectors)

  -- what changed before doesn't matter where the last is committed
  pub changes-with : (changed : Bool) (retired : Cycle) (after : List Happening) → happenings_of retired e ≡ before ++ happening e what cycle ∷ after
      → (changed || changes_in before || e.footprint.changes_vectors) ≡ (changed || e.footprint.changes_vectors)
  changes-with changed retired after parts =
      sym (or-assoc changed (changes_in before) e.footprint.changes_vectors)
      ∙ ap (λ (b : Bool). changed || b)
      (ap (λ (b : Bool). b || e.footprint.changes_vectors) (counts.of_one e retired before (happening e what cycle ∷ after) parts)
      ∙ or-covered (list_any (λ (h : Happening). commits_by h.what) before) e.footprint.changes_vectors)

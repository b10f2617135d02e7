-- The instructions of an episode, in turn up to that at which it ends; and its end.
use Rattle.std.proofs.Common.{◌≡◌, ℕ, zero, suc, ◌+◌, ◌-◌, ◌≤◌, Bool, true, false, List, [], ◌∷◌, ◌++◌, refl, sym, ap, ◌∙◌, ◌||◌, arith, append_assoc}
use Rattle.std.specs.Prelude.{Option, Some, None, find, if◌then◌else◌}
use Rattle.std.specs.List.{list_any}
use Rattle.std.proofs.lemmas.Bool.{or_parts, or_right}
use Rattle.std.proofs.lemmas.List.Folds.{list_any-append}
use Rattle.vx_flat.specs.Continued.{continued, continued_by}
use Rattle.vx_flat.specs.Process.{Process}
use Rattle.vx_flat.specs.State.{Flat}
use Rattle.vx_episode.specs.Commits.{Happening, entry_of, happenings_of, happenings, ends}
use Rattle.vx_episode.specs.Episode.{EpisodeEnd, has_end, run_on, instructions, up_to_end, end_by, episode_of, episode, fetched_by}
use Rattle.vx_episode.specs.History.{Entry, History, last_retire}
use Rattle.vx_episode.specs.Organisation.{Start}
use Rattle.vx_ending.specs.UnderWay.{first_instructions}
use Rattle.vx_ending.proofs.Counting.{none-parts, none-both}
use Rattle.vx_ending.proofs.Fetches.{first-more, first-none}

-- ---- the run

run-step : (start : Start) (until bound : ℕ) (history : History) (s : Flat) → has_end start.cycle until history ≡ false → run_on start until (suc bound) history s ≡ run_on start until bound (entry_of start history s ∷ history) (continued s)
unfolding run_on
run-step start until bound history s h =
    ap (λ (b : Bool). elim b as (λ _. History) [ true ↦ history | false ↦ run_on start until bound (entry_of start history s ∷ history) (continued s) ]) h

run-stop : (start : Start) (until bound : ℕ) (history : History) (s : Flat) → has_end start.cycle until history ≡ true → run_on start until bound history s ≡ history
unfolding run_on
run-stop start until zero history s h = refl
run-stop start until (suc bound) history s h =
    ap (λ (b : Bool). elim b as (λ _. History) [ true ↦ history | false ↦ run_on start until bound (entry_of start history s ∷ history) (continued s) ]) h

-- where nothing of a history ends the episode, its newest instruction doesn't, nor does anything of the others
not-end : (start until : ℕ) (history : History) → list_any (ends until) (happenings start history) ≡ false → has_end start until history ≡ false
not-end start until [] none = refl
not-end start until (e ∷ history) none = (none-parts until (happenings start history) (happenings_of (last_retire start history) e) none).1

none-before : (start : Start) (until n : ℕ) (s : Flat) → list_any (ends until) (happenings start.cycle (first_instructions start (suc n) s)) ≡ false → list_any (ends until) (happenings start.cycle (first_instructions start n s)) ≡ false
unfolding first_instructions
none-before start until n s none =
    let history = first_instructions start n s in
    (none-parts until (happenings start.cycle history) (happenings_of (last_retire start.cycle history) (entry_of start history (continued_by n s))) none).0

run-more : (start : Start) (until : ℕ) (s : Flat) (n bound : ℕ) → list_any (ends until) (happenings start.cycle (first_instructions start n s)) ≡ false → run_on start until (suc bound) (first_instructions start n s) (continued_by n s) ≡ run_on start until bound (first_instructions start (suc n) s) (continued_by (suc n) s)
run-more start until s n bound none =
    run-step start until bound (first_instructions start n s) (continued_by n s) (not-end start.cycle until (first_instructions start n s) none)
    ∙ ap (λ (history : History). run_on start until bound history (continued_by (suc n) s)) (first-more start n s)

run-first : (start : Start) (until : ℕ) (s : Flat) (n bound : ℕ) → list_any (ends until) (happenings start.cycle (first_instructions start n s)) ≡ false → run_on start until (n + suc bound) [] s ≡ run_on start until bound (first_instructions start (suc n) s) (continued_by (suc n) s)
run-first start until s zero bound none =
    let count : zero + suc bound ≡ suc bound = omega arith in
    ap (λ (b : ℕ). run_on start until b [] s) count
    ∙ ap (λ (history : History). run_on start until (suc bound) history s) (sym (first-none start s))
    ∙ run-more start until s zero bound none
run-first start until s (suc n) bound none =
    let count : suc n + suc bound ≡ n + suc (suc bound) = omega arith in
    ap (λ (b : ℕ). run_on start until b [] s) count
    ∙ run-first start until s n (suc bound) (none-before start until n s none)
    ∙ run-more start until s (suc n) bound none

-- the instructions of the episode are those up to the one that ends it
instructions-are : (start : Start) (until : ℕ) (s : Flat) (n : ℕ) → n ≤ until - start.cycle + 1 → list_any (ends until) (happenings start.cycle (first_instructions start n s)) ≡ false → has_end start.cycle until (first_instructions start (suc n) s) ≡ true → instructions start until s ≡ first_instructions start (suc n) s
instructions-are start until s n le none is =
    let count : until - start.cycle + 2 ≡ n + suc (until - start.cycle + 1 - n) = omega arith in
    ap (λ (b : ℕ). run_on start until b [] s) count
    ∙ run-first start until s n (until - start.cycle + 1 - n) none
    ∙ run-stop start until (until - start.cycle + 1 - n) (first_instructions start (suc n) s) (continued_by (suc n) s) is

-- ---- the first that ends it

module _ (until : ℕ) (last : Happening) (after : List Happening) where
  found-last : (none : List Happening) → list_any (ends until) none ≡ false → ends until last ≡ true → find (ends until) (none ++ last ∷ after) ≡ Some last
  found-last [] clear is = ap (λ (b : Bool). if b then Some last else find (ends until) after) is
  found-last (h ∷ none) clear is =
      let parts = or_parts (ends until h) (list_any (ends until) none) clear in
      ap (λ (b : Bool). if b then Some h else find (ends until) (none ++ last ∷ after)) parts.0 ∙ found-last none parts.1 is

  up-to-last : (none : List Happening) → list_any (ends until) none ≡ false → ends until last ≡ true → up_to_end until (none ++ last ∷ after) ≡ none ++ last ∷ []
  up-to-last [] clear is = ap (λ (b : Bool). if b then last ∷ [] else last ∷ up_to_end until after) is
  up-to-last (h ∷ none) clear is =
      let parts = or_parts (ends until h) (list_any (ends until) none) clear in
      ap (λ (b : Bool). if b then h ∷ [] else h ∷ up_to_end until (none ++ last ∷ after)) parts.0 ∙ ap (λ (hs : List Happening). h ∷ hs) (up-to-last none parts.1 is)

  ends-so : (before : List Happening) → ends until last ≡ true → list_any (ends until) (before ++ last ∷ after) ≡ true
  ends-so before is =
      list_any-append (ends until) before (last ∷ after)
      ∙ or_right (list_any (ends until) before) (list_any (ends until) (last ∷ after)) (ap (λ (b : Bool). b || list_any (ends until) after) is)

  episode-of : (start : Start) (p : Process) (none : List Happening) → list_any (ends until) none ≡ false → ends until last ≡ true → episode_of start until p (none ++ last ∷ after) ≡ Some (end_by start p (none ++ last ∷ []) last (fetched_by start last.cycle p.state))
  episode-of start p none clear is =
      ap (λ (o : Option Happening). elim o as (λ _. Option EpisodeEnd) [
        | Some h ↦ Some (end_by start p (up_to_end until (none ++ last ∷ after)) h (fetched_by start h.cycle p.state))
        | None ↦ None
      ]) (found-last none clear is)
      ∙ ap (λ (hs : List Happening). Some (end_by start p hs last (fetched_by start last.cycle p.state))) (up-to-last none clear is)

-- ---- the end

episode-is : (start : Start) (until : ℕ) (p : Process) (history : History) → instructions start until p.state ≡ history → episode start until p ≡ episode_of start until p (happenings start.cycle history)
unfolding episode
episode-is start until p history is = ap (λ (h : History). episode_of start until p (happenings start.cycle h)) is

pub episode-ends : (start : Start) (until : ℕ) (from : Process) (n : ℕ) (history : History) (e : Entry) (before after : List Happening) (last : Happening) → n ≤ until - start.cycle + 1 → history ≡ first_instructions start n from.state → e ∷ history ≡ first_instructions start (suc n) from.state → list_any (ends until) (happenings start.cycle history) ≡ false → happenings_of (last_retire start.cycle history) e ≡ before ++ last ∷ after → list_any (ends until) before ≡ false → ends until last ≡ true → episode start until from ≡ Some (end_by start from (happenings start.cycle history ++ before ++ last ∷ []) last (fetched_by start last.cycle from.state))
episode-ends start until from n history e before after last le are more none parts clear is =
    let ended : has_end start.cycle until (e ∷ history) ≡ true = ap (list_any (ends until)) parts ∙ ends-so until last after before is in
    let found =
    instructions-are start until from.state n le
    (ap (λ (h : History). list_any (ends until) (happenings start.cycle h)) (sym are) ∙ none)
    (ap (λ (h : History). has_end start.cycle until h) (sym more) ∙ ended)
    ∙ sym more in
    let all : happenings start.cycle (e ∷ history) ≡ (happenings start.cycle history ++ before) ++ last ∷ after =
    ap (λ (hs : List Happening). happenings start.cycle history ++ hs) parts ∙ sym (append_assoc (happenings start.cycle history) before (last ∷ after)) in
    episode-is start until from (e ∷ history) found
    ∙ ap (episode_of start until from) all
    ∙ episode-of until last after start from (happenings start.cycle history ++ before) (none-both until (happenings start.cycle history) before none clear) is

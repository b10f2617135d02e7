-- Registers, words and units once an instruction has completed; and its fetch.
use Rattle.std.proofs.Common.{◌≡◌, ℕ, ◌≤◌, Bool, true, false, List, [], ◌∷◌, ◌++◌, refl, ap, ◌∙◌, arith}
use Rattle.std.specs.Prelude.{◌==◌, nat_le, map, flat_map, filter, find, Option, Some, option_map, option_to_list, if◌then◌else◌}
use Rattle.std.specs.List.{list_all}
use Rattle.std.proofs.lemmas.Bool.{and_parts, and_from, le-leb}
use Rattle.vx_image.specs.Pages.{is_canonical, page_of}
use Rattle.vx_base.specs.declared.machine.Want.TheVariants.{Fetch}
use Rattle.vx_rows.specs.declared.family.Unit.{Unit}
use Rattle.vx_rows.specs.declared.family.Unit.TheVariants.{Arithmetic, Multiply, Divide, Permute}
use Rattle.vx_tables.specs.Caches.{look_up}
use Rattle.vx_tables.specs.declared.look.Look.{Look}
use Rattle.vx_tables.specs.declared.look.Look.TheVariants.{Hit, Denied, Miss}
use Rattle.vx_episode.specs.Cycles.{Cycle, later, is_by}
use Rattle.vx_episode.specs.Cycles.Cycle.{At, Never}
use Rattle.vx_episode.specs.Footprint.{Access}
use Rattle.vx_episode.specs.History.{History, Walk, FetchTimes, BeatTimes, AccessTimes, Ready, word_ready, ready_or, unit_number, step_of, latency_of, free_unit, fills_of, fetch_walks}
use Rattle.vx_episode.specs.Instructions.{fetch_at, fetch_by, fetch_times, beat_ready, words_made, is_into, loaded_cycle, places_loaded, words_loaded}
use Rattle.vx_episode.specs.Organisation.{Start, fetch_entries}
use Rattle.vx_quiet.proofs.Accesses.{done-from}
use Rattle.vx_quiet.proofs.Times.{all-both, all-filter, by-latest, by-shorter}

-- ---- choices

pub by-if : (k : ℕ) (b : Bool) (x y : Cycle) → is_by k x ≡ true → is_by k y ≡ true → is_by k (if b then x else y) ≡ true
by-if k true x y h g = h
by-if k false x y h g = g

pub register-by : (k start : ℕ) (zeroth written : Bool) (completed rest : Cycle) → start ≤ k → is_by k completed ≡ true → is_by k rest ≡ true → is_by k (if zeroth then At start else if written then completed else rest) ≡ true
register-by k start zeroth written completed rest from done before =
    by-if k zeroth (At start) (if written then completed else rest) (le-leb start k from) (by-if k written completed rest done before)

-- ---- units

step-few : (u : Unit) → step_of u ≤ latency_of u
step-few Arithmetic = omega arith
step-few Multiply = omega arith
step-few Divide = omega arith
step-few Permute = omega arith

free-one : (k : ℕ) (same : Bool) (b : BeatTimes) (rest : Option BeatTimes) → is_by k (later (latency_of b.unit) b.cycle) ≡ true
    → list_all (is_by k) (option_to_list (option_map (λ (b : BeatTimes). later (step_of b.unit) b.cycle) rest)) ≡ true
    → list_all (is_by k) (option_to_list (option_map (λ (b : BeatTimes). later (step_of b.unit) b.cycle) (if same then Some b else rest))) ≡ true
free-one k true b rest h g = and_from (is_by k (later (step_of b.unit) b.cycle)) true (by-shorter (step_of b.unit) (latency_of b.unit) k (step-few b.unit) b.cycle h) refl
free-one k false b rest h g = g

-- a unit is free once what its beats make can be read
pub free-units : (start : Start) (k : ℕ) (u : Unit) (newer older : List BeatTimes) → list_all (is_by k) (map (beat_ready start) newer) ≡ true → list_all (is_by k) (free_unit u older) ≡ true → list_all (is_by k) (free_unit u (newer ++ older)) ≡ true
free-units start k u [] older h g = g
free-units start k u (b ∷ newer) older h g =
    let parts = and_parts (is_by k (beat_ready start b)) (list_all (is_by k) (map (beat_ready start) newer)) h in
    free-one k (unit_number b.unit == unit_number u) b (find (λ (b : BeatTimes). unit_number b.unit == unit_number u) (newer ++ older)) parts.0 (free-units start k u newer older parts.1 g)

-- ---- words

made-one : (k : ℕ) (cycle : Cycle) → is_by k cycle ≡ true → (places : List ℕ) → list_all (λ (r : Ready). is_by k r.cycle) (map (λ (place : ℕ). record { place = place; cycle = cycle }) places) ≡ true
made-one k cycle h [] = refl
made-one k cycle h (place ∷ places) = and_from (is_by k cycle) _ h (made-one k cycle h places)

pub made-all : (start : Start) (k : ℕ) (beats : List BeatTimes) → list_all (is_by k) (map (beat_ready start) beats) ≡ true → list_all (λ (r : Ready). is_by k r.cycle) (flat_map (words_made start) beats) ≡ true
made-all start k [] h = refl
made-all start k (b ∷ beats) h =
    let parts = and_parts (is_by k (beat_ready start b)) (list_all (is_by k) (map (beat_ready start) beats)) h in
    all-both (λ (r : Ready). is_by k r.cycle) (words_made start b) (flat_map (words_made start) beats) (made-one k (beat_ready start b) parts.0 b.made) (made-all start k beats parts.1)

module _ (start : Start) (history : History) (k : ℕ) (accesses : List AccessTimes) (missing : List Access) (before : (place : ℕ) → is_by k (word_ready start.cycle history place) ≡ true)
    (done : list_all (λ (a : AccessTimes). nat_le a.done k) accesses ≡ true) (none : missing ≡ []) where
  loaded-one : (place : ℕ) → is_by k (loaded_cycle start history accesses missing place) ≡ true
  loaded-one place =
      let into : List AccessTimes = filter (λ (a : AccessTimes). is_into start place a.access) accesses in
      let lacks : List Access = filter (is_into start place) missing in
      let none-lacks : lacks ≡ [] = ap (λ (missing : List Access). filter (is_into start place) missing) none in
      let into-done : list_all (λ (a : AccessTimes). nat_le a.done k) into ≡ true = all-filter (λ (a : AccessTimes). nat_le a.done k) (λ (a : AccessTimes). is_into start place a.access) accesses done in
      by-latest k (word_ready start.cycle history place ∷ _) ∙ and_from (is_by k (word_ready start.cycle history place)) _ (before place) (done-from k into lacks into-done none-lacks)

  loaded-places : (places : List ℕ) → list_all (λ (r : Ready). is_by k r.cycle) (map (λ (place : ℕ). record { place = place; cycle = loaded_cycle start history accesses missing place }) places) ≡ true
  loaded-places [] = refl
  loaded-places (place ∷ places) = and_from (is_by k (loaded_cycle start history accesses missing place)) _ (loaded-one place) (loaded-places places)

  pub loaded-all : list_all (λ (r : Ready). is_by k r.cycle) (words_loaded start history accesses missing) ≡ true
  loaded-all = loaded-places (places_loaded start accesses missing)

ready-one : (k : ℕ) (same : Bool) (r : Ready) (other : Cycle) (rest : Option Ready) → is_by k r.cycle ≡ true → is_by k (ready_or other rest) ≡ true → is_by k (ready_or other (if same then Some r else rest)) ≡ true
ready-one k true r other rest h g = h
ready-one k false r other rest h g = g

-- a word can be read, behind more that were written
pub ready-more : (k : ℕ) (place : ℕ) (other : Cycle) (ready : List Ready) → list_all (λ (r : Ready). is_by k r.cycle) ready ≡ true → is_by k other ≡ true → is_by k (ready_or other (find (λ (r : Ready). r.place == place) ready)) ≡ true
ready-more k place other [] h g = g
ready-more k place other (r ∷ ready) h g =
    let parts = and_parts (is_by k r.cycle) (list_all (λ (r : Ready). is_by k r.cycle) ready) h in
    ready-one k (r.place == place) r other (find (λ (r : Ready). r.place == place) ready) parts.0 (ready-more k place other ready parts.1 g)

-- ---- fetch

-- the walk of a fetch has ended with the fetch
abbrev WalkEnds : (k : ℕ) → FetchTimes → Type 0
WalkEnds k fetch = is_by k fetch.ended ≡ true → list_all (λ (w : Walk). nat_le w.ended k) (option_to_list fetch.walk) ≡ true

fetch-look : (start : Start) (history : History) (pc k begun : ℕ) (look : Look) → WalkEnds k (fetch_by start history pc begun look)
fetch-look start history pc k begun (Hit frame) h = refl
fetch-look start history pc k begun Denied h = refl
fetch-look start history pc k begun Miss h = and_from _ true h refl

fetch-if : (k : ℕ) (b : Bool) (x y : FetchTimes) → WalkEnds k x → WalkEnds k y → WalkEnds k (if b then x else y)
fetch-if k true x y p q = p
fetch-if k false x y p q = q

pub fetch-walk : (start : Start) (history : History) (pc k : ℕ) (begun : Cycle) → WalkEnds k (fetch_times start history pc begun)
fetch-walk start history pc k (At begun) =
    let look : Look = look_up fetch_entries (fills_of (fetch_walks history)) (page_of pc) Fetch in
    fetch-if k (is_canonical pc) (fetch_by start history pc begun look) (fetch_at start begun) (fetch-look start history pc k begun look) (λ h. refl)
fetch-walk start history pc k Never = λ h. refl

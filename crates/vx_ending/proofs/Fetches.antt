-- Each fetch begins later than the one before, so the instructions in flight at a cycle are found in turn.
use Rattle.std.proofs.Common.{◌≡◌, ℕ, zero, suc, ◌+◌, ◌-◌, ◌≤◌, max, Bool, true, false, [], ◌∷◌, ◌++◌, map, if◌then◌else◌, refl, sym, ap, ap₂, ◌∙◌, arith}
use Rattle.std.proofs.lemmas.Bool.{le-leb, leb-true, false≢true}
use Rattle.vx_flat.specs.Continued.{continued, continued_by}
use Rattle.vx_flat.specs.State.{Flat}
use Rattle.vx_tables.specs.declared.look.Look.{Look}
use Rattle.vx_tables.specs.declared.look.Look.TheVariants.{Hit, Denied, Miss}
use Rattle.vx_image.specs.Pages.{is_canonical, page_of}
use Rattle.vx_base.specs.declared.machine.Want.TheVariants.{Fetch}
use Rattle.vx_tables.specs.Caches.{look_up}
use Rattle.vx_episode.specs.Commits.{entry_of}
use Rattle.vx_episode.specs.Cycles.{Cycle, later, behind, later_of, latest, is_by}
use Rattle.vx_episode.specs.Cycles.Cycle.{At, Never}
use Rattle.vx_episode.specs.Episode.{fetched_on, fetched_by}
use Rattle.vx_episode.specs.Footprint.{Footprint, footprint}
use Rattle.vx_episode.specs.History.{History, Entry, last_issue, last_retire, retire_before, trimming_before, register_ready, fills_of, fetch_walks}
use Rattle.vx_episode.specs.Instructions.{fetch_begin, fetch_times, fetch_by, fetch_at, issue_cycle, walk_time}
use Rattle.vx_episode.specs.Organisation.{Start, fetch_entries}
use Rattle.vx_ending.specs.UnderWay.{first_instructions}

-- ---- cycles

-- what waits for two comes no earlier than the first of them
pub by-first : (last : ℕ) (a b : Cycle) → is_by last (later_of a b) ≡ true → is_by last a ≡ true
by-first last (At a) (At b) h = let le : max a b ≤ last = leb-true (max a b) last h in le-leb a last (omega arith)
by-first last (At a) Never h = absurd (false≢true h)
by-first last Never b h = absurd (false≢true h)

-- what comes some cycles later
pub by-later : (last k : ℕ) (c : Cycle) → is_by last (later k c) ≡ true → (k ≤ last) × (is_by (last - k) c ≡ true)
by-later last k (At a) h = let le : a + k ≤ last = leb-true (a + k) last h in (omega arith, le-leb a (last - k) (omega arith))
by-later last k Never h = absurd (false≢true h)

by-more : (last more : ℕ) (c : Cycle) → last ≤ more → is_by last c ≡ true → is_by more c ≡ true
by-more last more (At a) le h = let low : a ≤ last = leb-true a last h in le-leb a more (omega arith)
by-more last more Never le h = absurd (false≢true h)

-- ---- a fetch and the issue behind it

module _ (start : Start) (history : History) (last : ℕ) where
  by-look : (pc begun : ℕ) (look : Look) → is_by last (fetch_by start history pc begun look).ended ≡ true → is_by last (At begun) ≡ true
  by-look pc begun (Hit frame) h = h
  by-look pc begun Denied h = h
  by-look pc begun Miss h = let le : begun + walk_time start.machine ≤ last = leb-true (begun + walk_time start.machine) last h in le-leb begun last (omega arith)

  by-canonical : (canonical : Bool) (pc begun : ℕ) (look : Look) → is_by last (if canonical then fetch_by start history pc begun look else fetch_at start begun).ended ≡ true → is_by last (At begun) ≡ true
  by-canonical true pc begun look h = by-look pc begun look h
  by-canonical false pc begun look h = h

  -- a fetch ends no earlier than it begins
  by-fetch : (pc : ℕ) (begun : Cycle) → is_by last (fetch_times start history pc begun).ended ≡ true → is_by last begun ≡ true
  by-fetch pc (At begun) h = by-canonical (is_canonical pc) pc begun (look_up fetch_entries (fills_of (fetch_walks history)) (page_of pc) Fetch) h
  by-fetch pc Never h = absurd (false≢true h)

  by-issue : (fetched : Cycle) (f : Footprint) → is_by last (issue_cycle start history fetched f) ≡ true → is_by last fetched ≡ true
  by-issue fetched f h =
      by-first last fetched (latest (
      behind (last_issue start.cycle history)
      ∷ map (register_ready start.cycle history) f.reads
      ++ map behind (retire_before start.machine.window history)
      ++ map behind (trimming_before history)
      ++ (if f.is_serial then behind (last_retire start.cycle history) ∷ [] else []))) h

  by-entry : (s : Flat) → is_by last (entry_of start history s).issued ≡ true → is_by last (fetch_begin start history) ≡ true
  by-entry s h =
      by-fetch s.pc (fetch_begin start history)
      (by-issue (fetch_times start history s.pc (fetch_begin start history)).ended (footprint start.machine start.has_vectors start.residency s) h)

-- a fetch begins a cycle or two behind the issue before it
by-jump : (last : ℕ) (jumps : Bool) (issued : Cycle) → is_by last (later (if jumps then 2 else 1) issued) ≡ true → (1 ≤ last) × (is_by (last - 1) issued ≡ true)
by-jump last true issued h = let parts = by-later last 2 issued h in (omega (arith, parts.0), by-more (last - 2) (last - 1) issued (omega arith) parts.1)
by-jump last false issued h = by-later last 1 issued h

-- so each begins later than the one before
by-next : (start : Start) (last : ℕ) (history : History) (s : Flat) → is_by last (fetch_begin start (entry_of start history s ∷ history)) ≡ true → (1 ≤ last) × (is_by (last - 1) (fetch_begin start history) ≡ true)
by-next start last history s h =
    let parts = by-jump last (footprint start.machine start.has_vectors start.residency s).jumps (entry_of start history s).issued h in
    (parts.0, by-entry start history (last - 1) s parts.1)

-- ---- the instructions in turn

module _ (start : Start) (s : Flat) where
  late : (m last : ℕ) → is_by last (fetch_begin start (first_instructions start m s)) ≡ true → start.cycle + 1 + m ≤ last
  unfolding first_instructions
  late zero last h = let le : start.cycle + 1 ≤ last = leb-true (start.cycle + 1) last h in omega arith
  late (suc m) last h =
      let parts = by-next start last (first_instructions start m s) (continued_by m s) h in
      omega (arith, parts.0, late m (last - 1) parts.1)

  before : (m last : ℕ) → is_by last (fetch_begin start (first_instructions start (suc m) s)) ≡ true → is_by last (fetch_begin start (first_instructions start m s)) ≡ true
  unfolding first_instructions
  before m last h =
      let parts = by-next start last (first_instructions start m s) (continued_by m s) h in
      by-more (last - 1) last (fetch_begin start (first_instructions start m s)) (omega arith) parts.1

fetched-step : (start : Start) (last bound : ℕ) (history : History) (s : Flat) → is_by last (fetch_begin start history) ≡ true → fetched_on start last (suc bound) history s ≡ fetched_on start last bound (entry_of start history s ∷ history) (continued s)
unfolding fetched_on
fetched-step start last bound history s h =
    ap (λ (b : Bool). elim b as (λ _. History) [ false ↦ history | true ↦ fetched_on start last bound (entry_of start history s ∷ history) (continued s) ]) h

fetched-stop : (start : Start) (last bound : ℕ) (history : History) (s : Flat) → is_by last (fetch_begin start history) ≡ false → fetched_on start last bound history s ≡ history
unfolding fetched_on
fetched-stop start last zero history s h = refl
fetched-stop start last (suc bound) history s h =
    ap (λ (b : Bool). elim b as (λ _. History) [ false ↦ history | true ↦ fetched_on start last bound (entry_of start history s ∷ history) (continued s) ]) h

pub first-more : (start : Start) (m : ℕ) (s : Flat) → entry_of start (first_instructions start m s) (continued_by m s) ∷ first_instructions start m s ≡ first_instructions start (suc m) s
unfolding first_instructions
first-more start m s = refl

pub first-none : (start : Start) (s : Flat) → first_instructions start zero s ≡ []
unfolding first_instructions
first-none start s = refl

-- one more is fetched behind those whose fetch began
fetched-more : (start : Start) (s : Flat) (last m bound : ℕ) → is_by last (fetch_begin start (first_instructions start m s)) ≡ true → fetched_on start last (suc bound) (first_instructions start m s) (continued_by m s) ≡ fetched_on start last bound (first_instructions start (suc m) s) (continued_by (suc m) s)
fetched-more start s last m bound h =
    fetched-step start last bound (first_instructions start m s) (continued_by m s) h
    ∙ ap (λ (history : History). fetched_on start last bound history (continued_by (suc m) s)) (first-more start m s)

fetched-first : (start : Start) (s : Flat) (last m bound : ℕ) → is_by last (fetch_begin start (first_instructions start m s)) ≡ true → fetched_on start last (m + suc bound) [] s ≡ fetched_on start last bound (first_instructions start (suc m) s) (continued_by (suc m) s)
fetched-first start s last zero bound h =
    let count : zero + suc bound ≡ suc bound = omega arith in
    ap (λ (b : ℕ). fetched_on start last b [] s) count
    ∙ ap (λ (history : History). fetched_on start last (suc bound) history s) (sym (first-none start s))
    ∙ fetched-more start s last zero bound h
fetched-first start s last (suc m) bound h =
    let count : suc m + suc bound ≡ m + suc (suc bound) = omega arith in
    ap (λ (b : ℕ). fetched_on start last b [] s) count
    ∙ fetched-first start s last m (suc bound) (before start s m last h)
    ∙ fetched-more start s last (suc m) bound h

-- the instructions in flight: the last is that behind which no fetch began by then
pub fetched-are : (start : Start) (s : Flat) (last m : ℕ) → is_by last (fetch_begin start (first_instructions start m s)) ≡ true → is_by last (fetch_begin start (first_instructions start (suc m) s)) ≡ false → fetched_by start last s ≡ first_instructions start (suc m) s
fetched-are start s last m h stops =
    let low = late start s m last h in
    let bound : ℕ = last - start.cycle - m - 1 in
    let count : last - start.cycle ≡ m + suc (last - start.cycle - m - 1) = omega arith in
    ap (λ (b : ℕ). fetched_on start last b [] s) count
    ∙ fetched-first start s last m (last - start.cycle - m - 1) h
    ∙ fetched-stop start last (last - start.cycle - m - 1) (first_instructions start (suc m) s) (continued_by (suc m) s) stops

pub fetched-at : (start : Start) (s : Flat) (last m k : ℕ) → k ≡ suc m → is_by last (fetch_begin start (first_instructions start m s)) ≡ true → is_by last (fetch_begin start (first_instructions start k s)) ≡ false → fetched_by start last s ≡ first_instructions start k s
fetched-at start s last m k is h stops =
    fetched-are start s last m h (ap (λ (j : ℕ). is_by last (fetch_begin start (first_instructions start j s))) (sym is) ∙ stops)
    ∙ ap (λ (j : ℕ). first_instructions start j s) (sym is)

-- ---- behind an episode under way

-- one instruction more
pub more-of : (start : Start) (n : ℕ) (s now : Flat) (history : History) (e : Entry) → history ≡ first_instructions start n s → now ≡ continued_by n s → e ≡ entry_of start history now → e ∷ history ≡ first_instructions start (suc n) s
more-of start n s now history e are state is =
    ap₂ (λ (x : Entry) (h : History). x ∷ h) (is ∙ ap₂ (λ (h : History) (t : Flat). entry_of start h t) are state) are
    ∙ first-more start n s

pub fetched-one : (start : Start) (n last : ℕ) (s now : Flat) (history : History) (e : Entry) → history ≡ first_instructions start n s → now ≡ continued_by n s → e ≡ entry_of start history now → is_by last (fetch_begin start history) ≡ true → is_by last (fetch_begin start (e ∷ history)) ≡ false → fetched_by start last s ≡ e ∷ history
fetched-one start n last s now history e are state is by stops =
    let more = more-of start n s now history e are state is in
    fetched-are start s last n
    (ap (λ (h : History). is_by last (fetch_begin start h)) (sym are) ∙ by)
    (ap (λ (h : History). is_by last (fetch_begin start h)) (sym more) ∙ stops)
    ∙ sym more

pub fetched-two : (start : Start) (n last : ℕ) (s now : Flat) (history : History) (e behind : Entry) → history ≡ first_instructions start n s → now ≡ continued_by n s → e ≡ entry_of start history now → behind ≡ entry_of start (e ∷ history) (continued now) → is_by last (fetch_begin start (e ∷ history)) ≡ true → is_by last (fetch_begin start (behind ∷ e ∷ history)) ≡ false → fetched_by start last s ≡ behind ∷ e ∷ history
fetched-two start n last s now history e behind are state is next by stops =
    fetched-one start (suc n) last s (continued now) (e ∷ history) behind (more-of start n s now history e are state is) (ap continued state) next by stops

-- The rounds of a run, one after another.
use Rattle.std.proofs.Common.{◌≡◌, ℕ, suc, true, false, ◌≤◌, ◌<◌, sym, ap, ◌∙◌, subst}
use Rattle.std.specs.Prelude.{Option, Some, None, is_some, unwrap_or}
use Rattle.vx_cells.specs.Cells.{CellsState}
use Rattle.vx_episode.specs.Episode.{episode}
use Rattle.vx_episode.specs.declared.ended.Ended.{Ended}
use Rattle.vx_episode.specs.declared.ended.Ended.TheVariants.{Service}
use Rattle.vx_machine.specs.Machine.{Machine, Settings, after_ended, after_episode, played, round, rounds, start_of, stop_at, stop_of, taken}
use Rattle.vx_machine.specs.declared.stop.Stop.{Stop}
use Rattle.vx_machine.specs.declared.stop.Stop.TheVariants.{Done, Spent}
use Rattle.vx_system.proofs.Stops.{stop_at-done, stop_at-spent, stop_at-none}
use Rattle.vx_system.proofs.Taking.{Moves-join, Moves-none}
use Rattle.vx_system.specs.Runs.{SystemState, HasPlayed, IsAsking, IsSystem, Moves, Runs, StandsFor}

-- the system has done some rounds
pub record IsOnItsWay (s t : SystemState) (d : CellsState) (m : Machine) : Type 0 where
  pub count : ℕ
  pub moves : Moves s t d m (rounds s.settings count m)

pub start : (s : SystemState) (c : CellsState) (m : Machine) → StandsFor s c m → IsOnItsWay s s c m
unfolding rounds
start s c m h = record { count = 0; moves = Moves-none s c m h }

rounds-more : (settings : Settings) (n : ℕ) (m : Machine) → stop_of settings (rounds settings n m) ≡ None → rounds settings (suc n) m ≡ round settings (rounds settings n m)
unfolding rounds
rounds-more settings n m e = ap (λ (o : Option Stop). elim o [ None ↦ round settings (rounds settings n m) | Some stop ↦ rounds settings n m ]) e

-- how the machine stops that a system stands for
stops-as : (s t : SystemState) (d : CellsState) (m n : Machine) (o : Option Stop) → Moves s t d m n → stop_at t.settings.budget t.clock t.over ≡ o → stop_of s.settings n ≡ o
stops-as s t d m n o h is = sym (λ j. stop_at (h.settings j).budget (h.stands.clock j) (h.stands.over j)) ∙ is

-- a round more
pub more : (s t u : SystemState) (c d : CellsState) (m : Machine) → IsOnItsWay s t c m → is_some t.over ≡ false → t.clock < t.settings.budget → ((n : Machine) → StandsFor t c n → Moves t u d n (round t.settings n)) → IsOnItsWay s u d m
more s t u c d m h goes early round-of =
    let n = rounds s.settings h.count m in
    let going : stop_of s.settings n ≡ None = stops-as s t c m n None h.moves (stop_at-none t.settings.budget t.clock t.over goes early) in
    let To : Machine → Type 0 = λ k. Moves s u d m k in
    let one : Moves t u d n (round t.settings n) = round-of n h.moves.stands in
    let both : Moves s u d m (round t.settings n) = Moves-join s t u c d m n (round t.settings n) h.moves one in
    record {
      count = suc h.count;
      moves = subst To (ap (λ (x : Settings). round x n) h.moves.settings ∙ sym (rounds-more s.settings h.count m going)) both;
    }

-- the run stops
stopped : (s t : SystemState) (d : CellsState) (m : Machine) (stop : Stop) → IsOnItsWay s t d m → stop_at t.settings.budget t.clock t.over ≡ Some stop → Runs s t d m stop
stopped s t d m stop h is = record { count = h.count; moves = h.moves; stops = stops-as s t d m (rounds s.settings h.count m) (Some stop) h.moves is }

pub done : (s t : SystemState) (d : CellsState) (m : Machine) → IsOnItsWay s t d m → is_some t.over ≡ true → Runs s t d m Done
done s t d m h ended = stopped s t d m Done h (stop_at-done t.settings.budget t.clock t.over ended)

pub spent : (s t : SystemState) (d : CellsState) (m : Machine) → IsOnItsWay s t d m → is_some t.over ≡ false → t.settings.budget ≤ t.clock → Runs s t d m Spent
spent s t d m h goes late = stopped s t d m Spent h (stop_at-spent t.settings.budget t.clock t.over goes late)

-- the system goes on standing for a machine
pub still : (s t : SystemState) (c d : CellsState) → IsSystem s c → ((m : Machine) → StandsFor s c m → IsOnItsWay s t d m) → IsSystem t d
still s t c d h on = let way = on h.machine h.stands in record { machine = rounds s.settings way.count h.machine; stands = way.moves.stands }

-- a round: the process is taken, plays an episode, and what ended that follows
pub Moves-round : (s t u v : SystemState) (b c d : CellsState) (until : ℕ) (ended : Ended) (m : Machine) → Moves s t b m (taken s.settings m) → until ≡ unwrap_or t.slice_end 0
    → HasPlayed t u c until ended (taken s.settings m) → ((n : Machine) → StandsFor u c n → (ended ≡ Service → IsAsking n.process) → Moves u v d n (after_ended n ended))
    → Moves s v d m (round s.settings m)
Moves-round s t u v b c d until ended m one at two three =
    let k = taken s.settings m in
    let e = two.result in
    let last : Moves u v d (played k e) (after_ended (played k e) ended) = three (played k e) two.moves.stands two.asks in
    let both : Moves s u c m (played k e) = Moves-join s t u b c m k (played k e) one two.moves in
    let all : Moves s v d m (after_ended (played k e) ended) = Moves-join s u v c d m (played k e) (after_ended (played k e) ended) both last in
    let until-is : until ≡ unwrap_or k.slice_end 0 = at ∙ ap (λ (o : Option ℕ). unwrap_or o 0) one.stands.slice_end in
    let is : episode (start_of s.settings k) (unwrap_or k.slice_end 0) k.process ≡ Some e =
    sym (λ j. episode (start_of (one.settings j) k) (until-is j) k.process) ∙ two.is in
    let To : Machine → Type 0 = λ n. Moves s v d m n in
    let ends : after_ended (played k e) ended ≡ after_episode k (Some e) = ap (after_ended (played k e)) two.answer in
    subst To (ends ∙ ap (after_episode k) (sym is)) all

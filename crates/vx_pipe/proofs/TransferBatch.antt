-- What a batch comes to that was looked up and served.
use Rattle.std.proofs.Common.{◌≡◌, ℕ, ◌*◌, ◌≤◌, Bool, List, [], ◌∷◌, length, map, take, refl, sym, ap, subst, ◌∙◌, arith, append_assoc}
use Rattle.std.specs.Prelude.{Option}
use Rattle.std.proofs.Math.Nat.{mul-le-mul_right}
use Rattle.std.proofs.lemmas.List.{length-take}
use Rattle.std.proofs.lemmas.List.Elements.{All-head, All-tail, All-cons}
use Rattle.vx_base.specs.declared.machine.Want.{Want}
use Rattle.vx_cells.specs.Cells.{CellsState}
use Rattle.vx_episode.specs.Batches.{Fate, judged, fate_of, walks_of, never_queued, trims, lowest_failure, batch_started}
use Rattle.vx_episode.specs.Cycles.Cycle.{At}
use Rattle.vx_episode.specs.Footprint.{Access, Batch, Footprint}
use Rattle.vx_episode.specs.History.{History, Entry, Walk, BatchTimes, accesses_of, fetch_walks, walks_of_batches, after_walks}
use Rattle.vx_episode.specs.Organisation.{Start}
use Rattle.vx_look.specs.LookUps.{AreLookedUp, AreLookedUpBy}
use Rattle.vx_serve.specs.Fates.{IsKnownBy, AreKnownBy}
use Rattle.vx_serve.specs.InTurn.{AreGood, failure_at}
use Rattle.vx_serve.specs.Serving.{Serves, failing_from}
use Rattle.vx_serve.specs.Stamps.{BankStamps}
use Rattle.vx_serve.specs.declared.fate.Fate.{Fate as Known}
use Rattle.vx_serve.specs.declared.fate.Fate.TheVariants as known
use Rattle.vx_serve.specs.declared.served.Served.{Served}
use Rattle.vx_tables.specs.Tables.{AreHeld}
use Rattle.vx_tlb.specs.declared.tlb.Kept.{Kept}
use Rattle.vx_pipe.specs.Transfers.{HasGone, IsFetchWalk}
use Rattle.vx_pipe.proofs.TransferFates.{all-good}
use Rattle.vx_pipe.proofs.TransferFetched.{ComesFirst, SetsNothing, walks-same}

pub few-times : (n k : ℕ) → n ≤ 8 → n * k ≤ 8 * k
few-times n k few = mul-le-mul_right k few

-- of a room's first places there are no more than that
pub few-first : (k n : ℕ) (room : List Known) → k ≡ length (take n room) → n ≤ 8 → k ≤ 8
few-first k n room is few = omega (arith, is, length-take n room, few)

later-known : (k l : ℕ) (f : Known) → k ≤ l → IsKnownBy k f → IsKnownBy l f
later-known k l (known.Good cycle word) few h = omega arith
later-known k l (known.Fails cycle is_away) few h = omega arith
later-known k l known.Unknown few h = tt

pub known-later : (k l : ℕ) (fates : List Known) → k ≤ l → AreKnownBy k fates → AreKnownBy l fates
known-later k l [] few all = λ i d lt. absurd (omega arith)
known-later k l (f ∷ fates) few all = All-cons (IsKnownBy l) f fates (later-known k l f few (All-head (IsKnownBy k) f fates all)) (known-later k l fates few (All-tail (IsKnownBy k) f fates all))

-- ---- a batch

abbrev pub AreQueued : Type 0
AreQueued = (fate : Access → Fate) (accesses : List Access) (is_trimmed : Bool) → AreGood fate accesses → never_queued is_trimmed (judged fate [] accesses) ≡ []

abbrev pub FirstFails : Type 0
FirstFails = (fate : Access → Fate) (accesses : List Access) → lowest_failure (judged fate [] accesses) ≡ failure_at accesses (failing_from 0 (map fate accesses))

module _ (start : Start) (history : History) (e : Entry) (earlier : List BatchTimes) (f : Footprint) (b : Batch) (started root : ℕ) (places : List (Option Kept)) (before after : CellsState) (fates : List Known) (last : ℕ) where
  abbrev pub own-walks : List Walk
  own-walks = walks_of start history earlier f.want started [] b.accesses

  abbrev pub own-fate : Access → Fate
  own-fate = fate_of start history earlier f.want started own-walks

  pub looked-own : ComesFirst → SetsNothing → (want : Want) → f.want ≡ want → IsFetchWalk e.fetch.walk → AreLookedUp start (e ∷ history) earlier want started b.accesses root places before after fates last
      → AreLookedUpBy start (e ∷ history) earlier f.want started b.accesses own-walks root places before after fates last
  looked-own first nothing want wanted fetched looked =
      subst (λ (ws : List Walk). AreLookedUpBy start (e ∷ history) earlier f.want started b.accesses ws root places before after fates last)
      (walks-same first nothing start history e earlier f.want started fetched [] b.accesses)
      (subst (λ (w : Want). AreLookedUp start (e ∷ history) earlier w started b.accesses root places before after fates last) (sym wanted) looked)

  pub has-gone : AreQueued → FirstFails → (stamps : BankStamps) (served : Served) → AreLookedUpBy start (e ∷ history) earlier f.want started b.accesses own-walks root places before after fates last
      → Serves stamps start.machine (accesses_of earlier) own-fate b.accesses served
      → HasGone start history e earlier f started b (batch_started start history earlier f b (At started)) root places stamps before after (record { looked = last; done = served.done; failing = served.failing })
  has-gone queued fails stamps served looked serves = record {
    looked_up = ap At (sym looked.ended);
    failure = fails own-fate b.accesses ∙ ap (failure_at b.accesses) (sym serves.failing);
    missing = λ none. queued own-fate b.accesses (trims f.is_fault_only_first (lowest_failure (judged own-fate [] b.accesses)))
        (all-good start history earlier f.want started [] b.accesses 0 (sym serves.failing ∙ none));
    done = sym serves.done;
    fates = serves.failing;
    after_is = refl;
    is_trimmed = refl;
    walks_are = refl;
    accesses_are = refl;
    ready = record {
      kept = looked.kept;
      held = subst (λ (ws : List Walk). AreHeld after root (after_walks start.residency ws)) (append_assoc (fetch_walks (e ∷ history)) own-walks (walks_of_batches earlier)) looked.held;
    };
    stands = serves.stands;
    frames = looked.frames;
    cycle = looked.cycle;
    others = looked.others;
  }

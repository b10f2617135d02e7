-- The process behind an episode is one of the run.
use Rattle.std.proofs.Common.{◌≡◌, ℕ, ◌+◌, ◌-◌, ◌^◌, ◌<◌, ◌≤◌, refl, sym, ap, ◌∙◌, arith, subst}
use Rattle.std.specs.Prelude.{List, Option, Some, None, find}
use Rattle.std.proofs.lemmas.Option.{none-some}
use Rattle.vx_image.specs.Pages.{Image}
use Rattle.vx_episode.specs.Commits.{What, Happening, ends, happenings}
use Rattle.vx_episode.specs.Commits.What.{Completes, Reaches, Stops}
use Rattle.vx_episode.specs.Episode.{EpisodeEnd, end_by, episode, episode_of, fetched_by, instructions, process_at, stopped_at, up_to_end}
use Rattle.vx_episode.specs.Organisation.{Start}
use Rattle.vx_episode.specs.declared.ended.Ended.{Ended}
use Rattle.vx_episode.specs.declared.ended.Ended.TheVariants.{Slice, Away, Vector, Service, Faulted}
use Rattle.vx_flat.specs.Process.{Process, stepped_on}
use Rattle.vx_flat.specs.Splits.{IsRunnable}
use Rattle.vx_flat.specs.declared.hart.Hart.{Hart}
use Rattle.vx_machine.specs.Accounts.{IsOfRun}
use Rattle.vx_machine.proofs.Stands.{Laws, of-step, of-steps, of-within, steps-count}

-- what ended the episode, and the process behind the completed instructions
record IsBehind (p : Process) (e : EpisodeEnd) : Type 0 where
  what : What
  process_is : e.process ≡ process_at what (stepped_on e.completed p)

-- an episode, by the happening that ends it
abbrev found_end : Start → (until : ℕ) → Process → List Happening → Option Happening → Option EpisodeEnd
found_end start until p hs o = elim o as (λ _. Option EpisodeEnd) [
  | Some last ↦ Some (end_by start p (up_to_end until hs) last (fetched_by start last.cycle p.state))
  | None ↦ None
]

same-end : (one e : EpisodeEnd) → Some one ≡ Some e → one ≡ e
same-end one e is = cc

behind-end : (start : Start) (until : ℕ) (p : Process) (hs : List Happening) (o : Option Happening) (e : EpisodeEnd) → found_end start until p hs o ≡ Some e → IsBehind p e
behind-end start until p hs None e is = absurd (none-some e is)
behind-end start until p hs (Some last) e is =
    let one = end_by start p (up_to_end until hs) last (fetched_by start last.cycle p.state) in
    let Behind : EpisodeEnd → Type 0 = λ x. IsBehind p x in
    let here : IsBehind p one = record { what = last.what; process_is = refl } in
    subst Behind (same-end one e is) here

behind-episode : (start : Start) (until : ℕ) (p : Process) (e : EpisodeEnd) → episode start until p ≡ Some e → IsBehind p e
unfolding episode
behind-episode start until p e is =
    let hs = happenings start.cycle (instructions start until p.state) in
    behind-end start until p hs (find (ends until) hs) e is

of-stopped : Laws → (hart : Hart) (image : Image) (why : Ended) (k : ℕ) (p : Process) → IsRunnable hart image → p.count < 2 ^ 64 - 1 → IsOfRun hart image p → IsOfRun hart image (stopped_at why k p)
of-stopped L hart image (Faulted fault) k p r small h = of-step L hart image p r small h
of-stopped L hart image Slice k p r small h = of-within L hart image k p r h
of-stopped L hart image (Away address want) k p r small h = of-within L hart image k p r h
of-stopped L hart image Vector k p r small h = of-within L hart image k p r h
of-stopped L hart image Service k p r small h = of-within L hart image k p r h

of-end : Laws → (hart : Hart) (image : Image) (what : What) (p : Process) → IsRunnable hart image → p.count < 2 ^ 64 - 1 → IsOfRun hart image p → IsOfRun hart image (process_at what p)
of-end L hart image Completes p r small h = h
of-end L hart image (Reaches k) p r small h = of-within L hart image k p r h
of-end L hart image (Stops why from k) p r small h = of-stopped L hart image why k p r small h

pub of-episode : Laws → (hart : Hart) (image : Image) (start : Start) (until : ℕ) (p : Process) (e : EpisodeEnd) → IsRunnable hart image → p.count + e.completed < 2 ^ 64 - 1 → episode start until p ≡ Some e → IsOfRun hart image p → IsOfRun hart image e.process
of-episode L hart image start until p e r small is h =
    let b = behind-episode start until p e is in
    let q = stepped_on e.completed p in
    let few : q.count ≤ p.count + e.completed = steps-count e.completed p in
    let below : q.count < 2 ^ 64 - 1 = omega arith in
    let Of : Process → Type 0 = λ x. IsOfRun hart image x in
    subst Of (sym b.process_is) (of-end L hart image b.what q r below (of-steps L hart image e.completed p r (omega arith) h))

-- Instructions without accesses, as an engine times them. This project's own.
use Rattle.std.specs.Prelude.{◌≡◌, ℕ, ◌+◌, Bool, [], None, Some}
use Rattle.vx_episode.specs.Footprint.{Footprint}
use Rattle.vx_episode.specs.declared.ended.Ended.{Ended}
use Rattle.vx_quiet.specs.Quiet.{completed_at}

-- an instruction completes so many cycles behind its issue, without an access
pub record IsWithoutAccesses (f : Footprint) (span : ℕ) (jumps changes : Bool) : Type 0 where
  pub stop : f.stop ≡ None
  pub batches : f.batches ≡ []
  pub completes : (issued : ℕ) → completed_at issued f ≡ issued + span
  pub jumps_is : f.jumps ≡ jumps
  pub changes_is : f.changes_vectors ≡ changes

-- an instruction stops its episode at its issue
pub record IsStopping (f : Footprint) (why : Ended) : Type 0 where
  pub stop : f.stop ≡ Some why
  pub batches : f.batches ≡ []

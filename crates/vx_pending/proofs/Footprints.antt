-- What timing sees of an instruction is the same from a memory that differs in pending bytes alone.
use Rattle.std.proofs.Common.{◌≡◌, Bool, true, false, not, ◌&&◌, if◌then◌else◌, refl, ap, ◌∙◌}
use Rattle.std.specs.Prelude.{Option, Some, None}
use Rattle.std.proofs.lemmas.Bool.{false≢true}
use Rattle.vx_base.specs.declared.machine.Want.TheVariants.{Fetch}
use Rattle.vx_decode.specs.Decoded.{decoded}
use Rattle.vx_decode.specs.declared.instr.Instr.{Instr}
use Rattle.vx_image.specs.Pages.{Memory, permits}
use Rattle.vx_rows.specs.Table.{class_of}
use Rattle.vx_rows.specs.declared.row.Class.{Class}
use Rattle.vx_rows.specs.declared.row.Class.TheVariants as class
use Rattle.vx_tables.specs.Residency.{Residency, page_map}
use Rattle.vx_tables.specs.declared.walked.Walked.{Walked}
use Rattle.vx_tables.specs.declared.walked.Walked.TheVariants as walked
use Rattle.vx_vector.specs.Reading.{Reading}
use Rattle.vx_flat.specs.Outcome.{Outcome}
use Rattle.vx_flat.specs.Outcome.Outcome.{Next, Exited, Faulted}
use Rattle.vx_flat.specs.Scalar.{effect}
use Rattle.vx_flat.specs.Splits.{IsWellFormed}
use Rattle.vx_flat.specs.State.{Flat}
use Rattle.vx_flat.specs.Step.{upcoming, meaning, word_at_pc, step}
use Rattle.vx_flat.specs.Vectors.{reading_at}
use Rattle.vx_flat.specs.declared.effect.Effect.{Effect}
use Rattle.vx_flat.specs.declared.effect.Effect.TheVariants as effects
use Rattle.vx_flat.specs.declared.upcoming.Upcoming.{Upcoming}
use Rattle.vx_flat.specs.declared.upcoming.Upcoming.TheVariants.{Denied, Illegal, Instruction}
use Rattle.vx_episode.specs.Footprint.{stopping, ended_by, halting, jumping, calculating_by, footprint_as, footprint_of, needs_vectors, footprint_with, footprint_found, footprint}
use Rattle.vx_episode.specs.Organisation.{Organisation}
use Rattle.vx_episode.specs.declared.ended.Ended.TheVariants as ended
use Rattle.vx_pending.specs.Alike.{AreAlike, OutcomesAlike, with_memory}
use Rattle.vx_pending.proofs.Next.{Laws, upcoming-alike, word-alike}
use Rattle.vx_pending.proofs.Steps.{step-alike}

ended-alike : (o p : Outcome) → OutcomesAlike o p → ended_by o ≡ ended_by p
ended-alike (Next u) (Next t) h = refl
ended-alike (Exited a) (Exited b) h = refl
ended-alike (Faulted f u) (Faulted g t) h = ap ended.Faulted h.0
ended-alike o p h = absurd h

abbrev is_fetched : Upcoming → Bool
is_fetched Denied = false
is_fetched (Illegal word) = true
is_fetched (Instruction i) = true

when-fetched : (b : Bool) (u : Upcoming) → is_fetched (if b then u else Denied) ≡ true → b ≡ true
when-fetched true u h = refl
when-fetched false u h = absurd (false≢true h)

fetched : (s : Flat) (u : Upcoming) → upcoming s ≡ u → is_fetched u ≡ true → permits s.memory s.pc Fetch ≡ true
unfolding upcoming
fetched s u h e = when-fetched (permits s.memory s.pc Fetch) (meaning s (word_at_pc s) (decoded (word_at_pc s))) (ap is_fetched h ∙ e)

module _ (L : Laws) (s : Flat) (m : Memory) (w : IsWellFormed s) (alike : AreAlike s m) (machine : Organisation) where
  halting-alike : halting (with_memory m s) ≡ halting s
  halting-alike = ap stopping (ended-alike (step (with_memory m s)) (step s) (step-alike L s m w alike))

  jumping-alike : (i : Instr) (e : Effect) → jumping (with_memory m s) i e ≡ jumping s i e
  jumping-alike i (effects.Value value pc) = refl
  jumping-alike i (effects.Next pc) = refl
  jumping-alike i (effects.Misaligned target) = halting-alike

  calculating-alike : (i : Instr) (o : Option Reading) → calculating_by machine (with_memory m s) i o ≡ calculating_by machine s i o
  calculating-alike i (Some r) = refl
  calculating-alike i None = halting-alike

  as-class : (c : Class) (i : Instr) → footprint_as machine c (with_memory m s) i ≡ footprint_as machine c s i
  as-class class.Jump i = jumping-alike i (effect i s.x s.pc)
  as-class class.Branch i = jumping-alike i (effect i s.x s.pc)
  as-class class.Ecall i = halting-alike
  as-class class.Ebreak i = halting-alike
  as-class (class.VectorArithmetic family) i = calculating-alike i (reading_at s i)
  as-class c i = refl

  of-next : (u : Upcoming) → footprint_of machine (with_memory m s) u ≡ footprint_of machine s u
  of-next Denied = halting-alike
  of-next (Illegal word) = halting-alike
  of-next (Instruction i) = as-class (class_of i.op) i

  module _ (has_vectors : Bool) where
    where-fetched : (u : Upcoming) → permits s.memory s.pc Fetch ≡ true → (if not has_vectors && needs_vectors (decoded (word_at_pc (with_memory m s))) then stopping ended.Vector else footprint_of machine (with_memory m s) u) ≡ (if not has_vectors && needs_vectors (decoded (word_at_pc s)) then stopping ended.Vector else footprint_of machine s u)
    where-fetched u h =
        let word = word-alike L s m w alike h in
        λ j. if not has_vectors && needs_vectors (decoded (word j)) then stopping ended.Vector else of-next u j

    with-next : (u : Upcoming) → upcoming s ≡ u → footprint_with machine has_vectors (with_memory m s) u ≡ footprint_with machine has_vectors s u
    with-next Denied h = of-next Denied
    with-next (Illegal word) h = where-fetched (Illegal word) (fetched s (Illegal word) h refl)
    with-next (Instruction i) h = where-fetched (Instruction i) (fetched s (Instruction i) h refl)

    whole : footprint_with machine has_vectors (with_memory m s) (upcoming (with_memory m s)) ≡ footprint_with machine has_vectors s (upcoming s)
    whole = ap (footprint_with machine has_vectors (with_memory m s)) (upcoming-alike L s m w alike) ∙ with-next (upcoming s) refl

    found : (f : Walked) → footprint_found machine has_vectors (with_memory m s) f ≡ footprint_found machine has_vectors s f
    found walked.Away = refl
    found f = whole

    pub footprint-alike : (residency : Residency) → footprint machine has_vectors residency (with_memory m s) ≡ footprint machine has_vectors residency s
    unfolding footprint
    footprint-alike residency = found (page_map residency s.pc Fetch)

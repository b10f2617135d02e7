-- A whole instruction, of the words that are made.
use Rattle.std.proofs.Common.{◌≡◌, ℕ, ◌+◌, ◌-◌, ◌<◌, ◌≤◌, Bool, true, false, List, length, slice_index, None, sym, ap, ◌∙◌, subst, ⊎_elim, mul-le-mul_right, arith}
use Rattle.std.proofs.lemmas.Bool.{cases_lt}
use Rattle.std.specs.List.{Contains, list_any}
use Rattle.vx_decode.specs.declared.instr.Instr.{Instr}
use Rattle.vx_exec.specs.Executed.{reads}
use Rattle.vx_exec.proofs.Puts.{AreKnown, words-are, place-within, all-few, count-few}
use Rattle.vx_exec.proofs.Runs.{IsRun, run-is, empty-by, untold, silent}
use Rattle.vx_exec.specs.Runs.{run_by}
use Rattle.vx_exec.specs.declared.run.Run.{Run}
use Rattle.vx_mask.specs.Kinds.{is_telling}
use Rattle.vx_operands.specs.Forms.{family_in}
use Rattle.vx_packed.specs.Joined.{some_below}
use Rattle.vx_rows.specs.Families.{operands_of}
use Rattle.vx_rows.specs.Table.{class_of}
use Rattle.vx_rows.specs.declared.family.Family.{Family}
use Rattle.vx_rows.specs.declared.row.Class.TheVariants.{VectorArithmetic}
use Rattle.vx_vector.proofs.Members.{any_from, any_one, some_from, some_one, same_test}
use Rattle.vx_vector.specs.Arithmetic.{saturates, told, words_after}
use Rattle.vx_vector.specs.Laws.{IsSound, made_words, word_saturates}
use Rattle.vx_vector.specs.Reading.{Reading}
use Rattle.vx_vector.specs.Words.{destination_words}
use Rattle.vx_vstate.specs.Registers.{place_of, word_at, with_words, words_of_all, words_of_register}
use Rattle.vx_vstate.specs.State.{VectorState, SettingView, finished, with_register_words}

-- what is known of a reading whose words are made
pub record Facts (r : Reading) (run : Run) : Type 0 where
  pub sound : IsSound r
  pub is : IsRun r run
  pub known : AreKnown r
  pub within : (w : ℕ) → Contains (made_words r) w → w < length (destination_words r)
  pub sat : saturates r ≡ list_any (word_saturates r) (made_words r)
  pub empty : run.count ≡ 0 → run.first ≡ 0

module _ (r : Reading) (run : Run) (f : Facts r run) where
  -- a word of the run is made
  run-member : (k : ℕ) → k < run.count → Contains (made_words r) (run.first + k)
  run-member k l = f.is.made (run.first + k) (omega arith, omega (arith, l))

  pub run-within : (k : ℕ) → k < run.count → run.first + k < length (destination_words r)
  run-within k l = f.within (run.first + k) (run-member k l)

  pub run-place : (k : ℕ) → k < run.count → place_of r.at.vlen r.places.vd (run.first + k) < words_of_all r.at.vlen
  run-place k l = place-within r (operands_of r.family).destination (run.first + k) f.sound.destination (run-within k l)

  pub run-small : (k : ℕ) → k < run.count → run.first + k < 1024
  run-small k l =
      let place = all-few r.at.vlen (place_of r.at.vlen r.places.vd (run.first + k)) f.sound.setting.vlen_in_range (run-place k l) in
      omega (arith, place)

  pub run-few : run.count ≤ 1024
  run-few = count-few run 1024 run-small

  pub run-room : place_of r.at.vlen r.places.vd run.first + run.count ≤ words_of_all r.at.vlen
  run-room = ⊎_elim some none (cases_lt 0 run.count)
    where
      some : 0 < run.count → place_of r.at.vlen r.places.vd run.first + run.count ≤ words_of_all r.at.vlen
      some l = let last = run-place (run.count - 1) (omega (arith, l)) in omega (arith, last, l)

      none : run.count ≤ 0 → place_of r.at.vlen r.places.vd run.first + run.count ≤ words_of_all r.at.vlen
      none l =
          let first = f.empty (omega (arith, l)) in
          let registers = mul-le-mul_right (words_of_register r.at.vlen) f.sound.destination.room in
          omega (arith, first, l, registers)

  -- it saturates where a word of the run does
  run-sat : saturates r ≡ some_below run.count (λ k. word_saturates r (run.first + k))
  run-sat = f.sat ∙ same_test (list_any (word_saturates r) (made_words r)) (some_below run.count (λ k. word_saturates r (run.first + k))) to from
    where
      to : list_any (word_saturates r) (made_words r) ≡ true → some_below run.count (λ k. word_saturates r (run.first + k)) ≡ true
      to t =
          let one = any_one (word_saturates r) (made_words r) t in
          let in-run = f.is.holds one.0 one.1 in
          let k = one.0 - run.first in
          let back : one.0 ≡ run.first + k = omega (arith, in-run.0) in
          let less : k < run.count = omega (arith, in-run.0, in-run.1) in
          some_from run.count (λ k. word_saturates r (run.first + k)) k less (ap (word_saturates r) (sym back) ∙ one.2)

      from : some_below run.count (λ k. word_saturates r (run.first + k)) ≡ true → list_any (word_saturates r) (made_words r) ≡ true
      from t =
          let one = some_one run.count (λ k. word_saturates r (run.first + k)) t in
          any_from (word_saturates r) (made_words r) (run.first + one.0) (run-member one.0 one.1) one.2

  -- made, put and finished
  pub all-done : (old new : VectorState) (values : List ℕ) (sat : Bool) → r.at.vlen ≡ old.vlen → r.words ≡ old.words → length values ≡ run.count → ((k : ℕ) → k < run.count → slice_index values k ≡ word_at r.at.vlen (words_after r) r.places.vd (run.first + k)) → sat ≡ some_below run.count (λ k. word_saturates r (run.first + k)) → new ≡ finished (with_register_words old r.places.vd run.first values) 0 sat → new ≡ finished (record old { words = words_after r }) 0 (saturates r)
  all-done old new values sat vlen words long made is done =
      let room : place_of r.at.vlen r.places.vd run.first + length values ≤ length r.words = omega (arith, run-room, long, f.sound.count) in
      let put : with_words old.vlen old.words r.places.vd run.first values ≡ words_after r =
      (λ i. with_words (sym vlen i) (sym words i) r.places.vd run.first values) ∙ words-are r run values f.known f.is long room made in
      let same : sat ≡ saturates r = is ∙ sym run-sat in
      done ∙ (λ i. finished (record old { words = put i }) 0 (same i))

-- a row that tells a number leaves the words, and saturates nothing
pub told-done : (r : Reading) (old new : VectorState) → is_telling r.family ≡ true → words_after r ≡ r.words → r.words ≡ old.words → new ≡ finished old 0 false → new ≡ finished (record old { words = words_after r }) 0 (saturates r)
told-done r old new tells stays words done =
    let all : old.words ≡ words_after r = sym (stays ∙ words) in
    let none : false ≡ saturates r = sym (silent r tells) in
    done ∙ (λ i. finished (record old { words = all i }) 0 (none i))

-- the facts, of the laws
pub facts-for : (i : Instr) (at : SettingView) (words : List ℕ) (family : Family) (run : Run) → class_of i.op ≡ VectorArithmetic family → is_telling family ≡ false → run ≡ run_by (operands_of family).destination at → IsSound (reads i at words) → ((r : Reading) (w : ℕ) → IsSound r → told r ≡ None → Contains (made_words r) w → w < length (destination_words r)) → ((r : Reading) → IsSound r → saturates r ≡ list_any (word_saturates r) (made_words r)) → ((r : Reading) → length (words_after r) ≡ length r.words) → ((r : Reading) (place : ℕ) → IsSound r → ¬ Contains (destination_words r) place → slice_index (words_after r) place ≡ slice_index r.words place) → ((r : Reading) (w : ℕ) → IsSound r → ¬ Contains (made_words r) w → word_at r.at.vlen (words_after r) r.places.vd w ≡ word_at r.at.vlen r.words r.places.vd w) → Facts (reads i at words) run
facts-for i at words family run class tells is sound inside sat count outside unmade =
    let r = reads i at words in
    let none : is_telling r.family ≡ false = ap (λ k. is_telling (family_in k)) class ∙ tells in
    let same : run_by (operands_of r.family).destination at ≡ run = ap (λ k. run_by (operands_of (family_in k)).destination at) class ∙ sym is in
    subst (Facts r) same (record {
      sound = sound;
      is = run-is r none;
      known = record { count = count r; outside = λ p h. outside r p sound h; unmade = λ w h. unmade r w sound h };
      within = λ w c. inside r w sound (untold r none) c;
      sat = sat r sound;
      empty = empty-by (operands_of r.family).destination at;
    })

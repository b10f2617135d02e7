-- Words that are made one by one and then put are those after the instruction.
use Rattle.std.proofs.Common.{◌≡◌, ℕ, zero, suc, ◌+◌, ◌-◌, ◌*◌, ◌<◌, ◌≤◌, Bool, false, [], ◌||◌, IsTrue, List, ◌++◌, length, length-append, length-drop, length-set, slice_index, slice_set, take, drop, refl, sym, ap, ◌∙◌, subst, ⊎_elim, eq-or-lt_of_le, arith, mul-le-mul_right}
use Rattle.std.specs.List.{Contains, splice}
use Rattle.std.proofs.lemmas.Bool.{cases_lt}
use Rattle.std.proofs.lemmas.Grind.{get_or-set_at}
use Rattle.std.proofs.lemmas.List.{ext_get_or, get_or_append_left, get_or-append_right, get_or-drop, get_or-set_other, get_or-take, length-take-le}
use Rattle.std.proofs.lemmas.List.FromFn.{length-range_with_len}
use Rattle.vx_base.specs.Options.{is_register_length}
use Rattle.vx_operands.proofs.Merging.{none_below}
use Rattle.vx_operands.proofs.Places.{registers_small}
use Rattle.vx_packed.specs.Joined.{some_below}
use Rattle.vx_rows.specs.Families.{operands_of}
use Rattle.vx_rows.specs.declared.family.Operand.{Operand}
use Rattle.vx_rows.specs.declared.family.Operand.TheVariants.{Absent}
use Rattle.vx_vector.proofs.Members.{range_parts}
use Rattle.vx_vector.specs.Arithmetic.{words_after}
use Rattle.vx_vector.specs.Laws.{IsPlaced, made_words}
use Rattle.vx_vector.specs.Reading.{Reading}
use Rattle.vx_vector.specs.Words.{destination_words, places_of_operand, registers_of_operand}
use Rattle.vx_vstate.specs.Registers.{place_of, word_at, with_words, words_of_all, words_of_register}
use Rattle.vx_exec.specs.Runs.{IsInRun}
use Rattle.vx_exec.specs.declared.run.Run.{Run}
use Rattle.vx_exec.proofs.Runs.{IsRun}

-- ---- making

-- the first n words are made, and whether one of them saturated is known
pub record IsMadeBelow (f : ℕ → ℕ) (g : ℕ → Bool) (size n : ℕ) (words : List ℕ) (some : Bool) : Type 0 where
  pub room : length words ≡ size
  pub made : (k : ℕ) → k < n → slice_index words k ≡ f k
  pub sat : some ≡ some_below n g

-- the first words, made before, where none of them saturates
pub made-before : (f : ℕ → ℕ) (g : ℕ → Bool) (n : ℕ) (made : List ℕ) → ((k : ℕ) → k < n → slice_index made k ≡ f k) → ((k : ℕ) → k < n → g k ≡ false) → IsMadeBelow f g (length made) n made false
made-before f g n made is never = record { room = refl; made = is; sat = sym (none_below n g never) }

pub made-more : (f : ℕ → ℕ) (g : ℕ → Bool) (size n value : ℕ) (one : Bool) (made : List ℕ) (sat : Bool) → IsMadeBelow f g size n made sat → n < size → value ≡ f n → one ≡ g n → IsMadeBelow f g size (n + 1) (slice_set made n value) (sat || one)
unfolding some_below
made-more f g size n value one made sat h l is also = let next : suc n ≡ n + 1 = omega arith in subst (λ m. IsMadeBelow f g size m (slice_set made n value) (sat || one)) next (record {
  room = length-set made n value ∙ h.room;
  made = λ k b.
      let at_most : k ≤ n = omega arith in
      let within : n < length made = omega (arith, h.room) in
      ⊎_elim
      (λ e. get_or-set_at made n k value 0 e within ∙ is ∙ ap f (sym e))
      (λ less. get_or-set_other made n k value 0 (λ e. omega (arith, e, less)) ∙ h.made k less)
      (eq-or-lt_of_le at_most);
  sat = λ i. h.sat i || also i;
})

-- ---- putting

-- a word outside of those that are put, and one of them
module _ (words values : List ℕ) (start : ℕ) (room : start + length values ≤ length words) where
  abbrev put : List ℕ
  put = splice words start (start + length values) values

  front : length (take start words) ≡ start
  front = length-take-le start words (omega (arith, room))

  length-put : length put ≡ length words
  length-put =
      omega (arith, length-append (take start words) (values ++ drop (start + length values) words), length-append values (drop (start + length values) words), front, length-drop (start + length values) words, room)

  outside : (place : ℕ) → (start ≤ place → place < start + length values → ⊥) → slice_index put place ≡ slice_index words place
  outside place apart = ⊎_elim before (λ l. ⊎_elim (λ m. absurd (apart l m)) behind (cases_lt place (start + length values))) (cases_lt place start)
    where
      before : place < start → slice_index put place ≡ slice_index words place
      before l =
          get_or_append_left (take start words) (values ++ drop (start + length values) words) 0 place (omega (arith, front, l))
          ∙ get_or-take start words place 0 l

      behind : start + length values ≤ place → slice_index put place ≡ slice_index words place
      behind l =
          let there : start + length values + (place - start - length values) ≡ place = omega (arith, l) in
          get_or-append_right (take start words) (values ++ drop (start + length values) words) start place 0 front (omega (arith, l))
          ∙ get_or-append_right values (drop (start + length values) words) (length values) (place - start) 0 refl (omega (arith, l))
          ∙ get_or-drop (start + length values) words (place - start - length values) 0
          ∙ ap (slice_index words) there

  inside : (k : ℕ) → k < length values → slice_index put (start + k) ≡ slice_index values k
  inside k l =
      let back : start + k - start ≡ k = omega arith in
      get_or-append_right (take start words) (values ++ drop (start + length values) words) start (start + k) 0 front (omega arith)
      ∙ ap (slice_index (values ++ drop (start + length values) words)) back
      ∙ get_or_append_left values (drop (start + length values) words) 0 k l

-- what is known of the words after an instruction
pub record AreKnown (r : Reading) : Type 0 where
  pub count : length (words_after r) ≡ length r.words
  pub outside : (place : ℕ) → ¬ Contains (destination_words r) place → slice_index (words_after r) place ≡ slice_index r.words place
  pub unmade : (w : ℕ) → ¬ Contains (made_words r) w → word_at r.at.vlen (words_after r) r.places.vd w ≡ word_at r.at.vlen r.words r.places.vd w

no-member : (x : ℕ) → Contains {X = ℕ} [] x → ⊥
no-member x c = omega (arith, c.1)

-- the destination begins at its register
not-before : (r : Reading) (o : Operand) (register place : ℕ) → place < place_of r.at.vlen register 0 → Contains (places_of_operand r o register) place → ⊥
not-before r Absent register place l c = no-member place c
not-before r other register place l c =
    let parts = range_parts (place_of r.at.vlen register 0) (registers_of_operand r other * words_of_register r.at.vlen) place c in
    omega (arith, parts.0, l)

pub words-are : (r : Reading) (run : Run) (values : List ℕ) → AreKnown r → IsRun r run → length values ≡ run.count → place_of r.at.vlen r.places.vd run.first + length values ≤ length r.words → ((k : ℕ) → k < run.count → slice_index values k ≡ word_at r.at.vlen (words_after r) r.places.vd (run.first + k)) → with_words r.at.vlen r.words r.places.vd run.first values ≡ words_after r
words-are r run values known is long room made =
    ext_get_or 0 new (words_after r) (length-put r.words values start room ∙ sym known.count) (λ place l. ⊎_elim (before place) (behind place) (cases_lt place base))
  where
    vd : ℕ
    vd = r.places.vd

    base : ℕ
    base = place_of r.at.vlen vd 0

    start : ℕ
    start = place_of r.at.vlen vd run.first

    new : List ℕ
    new = with_words r.at.vlen r.words vd run.first values

    before : (place : ℕ) → place < base → slice_index new place ≡ slice_index (words_after r) place
    before place l =
        outside r.words values start room place (λ h m. omega (arith, h, l))
        ∙ sym (known.outside place (not-before r (operands_of r.family).destination vd place l))

    unmade : (w : ℕ) → (IsInRun run w → ⊥) → slice_index new (place_of r.at.vlen vd w) ≡ slice_index (words_after r) (place_of r.at.vlen vd w)
    unmade w none =
        outside r.words values start room (place_of r.at.vlen vd w) (λ h m. none (omega (arith, h), omega (arith, m, long)))
        ∙ sym (known.unmade w (λ c. none (is.holds w c)))

    at-word : (w : ℕ) → slice_index new (place_of r.at.vlen vd w) ≡ slice_index (words_after r) (place_of r.at.vlen vd w)
    at-word w =
        ⊎_elim
        (λ l. unmade w (λ h. omega (arith, h.0, l)))
        (λ low.
        ⊎_elim
        (λ high.
        let k = w - run.first in
        let back : run.first + k ≡ w = omega arith in
        let there : start + k ≡ place_of r.at.vlen vd w = omega (arith, back) in
        let less : k < run.count = omega arith in
        ap (slice_index new) (sym there)
        ∙ inside r.words values start room k (omega (arith, less, long))
        ∙ made k less
        ∙ ap (word_at r.at.vlen (words_after r) vd) back)
        (λ past. unmade w (λ h. omega (arith, h.1, past)))
        (cases_lt w (run.first + run.count)))
        (cases_lt w run.first)

    behind : (place : ℕ) → base ≤ place → slice_index new place ≡ slice_index (words_after r) place
    behind place l =
        let back : place_of r.at.vlen vd (place - base) ≡ place = omega arith in
        subst (λ p. slice_index new p ≡ slice_index (words_after r) p) back (at-word (place - base))

-- ---- room

pub place-within : (r : Reading) (o : Operand) (w : ℕ) → IsPlaced r o r.places.vd → w < length (places_of_operand r o r.places.vd) → place_of r.at.vlen r.places.vd w < words_of_all r.at.vlen
place-within r Absent w p l = absurd (omega (arith, l))
place-within r other w p l =
    let long = length-range_with_len (place_of r.at.vlen r.places.vd 0) (registers_of_operand r other * words_of_register r.at.vlen) in
    let room = mul-le-mul_right (words_of_register r.at.vlen) p.room in
    omega (arith, l, long, room)

pub all-few : (vlen place : ℕ) → IsTrue (is_register_length vlen) → place < words_of_all vlen → place < 1024
all-few vlen place h l = let few = registers_small vlen h in omega (arith, few, l)

pub count-few : (run : Run) (n : ℕ) → ((k : ℕ) → k < run.count → run.first + k < n) → run.count ≤ n
count-few run n h = of run.count (λ k l. h k l)
  where
    of : (c : ℕ) → ((k : ℕ) → k < c → run.first + k < n) → c ≤ n
    of zero g = omega arith
    of (suc m) g = let last = g m (omega arith) in omega (arith, last)

-- Memory that is taken, in rising order, and the segments that a header's memory meets.
use Rattle.std.proofs.Common.{◌≡◌, ℕ, suc, ◌+◌, ◌<◌, ◌≤◌, ◌⊎◌, inl, inr, Bool, false, List, [], ◌∷◌, ◌++◌, length, take, drop, get_or, map, Option, None, find, refl, sym, ap, subst, length-append, ◌∙◌, arith}
use Rattle.std.proofs.Math.ListN.{get_or-map, length-map}
use Rattle.std.proofs.lemmas.Bool.{cases_lt}
use Rattle.std.proofs.lemmas.List.{get_or_default, get_or-take, take-append-le, take-append-drop, length-take}
use Rattle.std.proofs.lemmas.List.Elements.{Contains-get_or}
use Rattle.std.proofs.lemmas.List.Folds.{find-append}
use Rattle.std.proofs.lemmas.List.Sorted.{Contains-permutation}
use Rattle.std.specs.List.{All, Contains}
use Rattle.std.specs.List.Sorted.{IsPermutation}
use Rattle.std.specs.Option.{option_or}
use Rattle.vx_elf.specs.Reading.{meets}
use Rattle.vx_elf.specs.Taken.{span_of, meets_span, AreApart, IsHeld}
use Rattle.vx_elf.specs.declared.header.ProgramHeader.{ProgramHeader}
use Rattle.vx_elf.specs.declared.segment.Segment.{Segment}
use Rattle.vx_elf.specs.declared.taken.Span.{Span}

-- a place up to another is below it or is it
up_to : (k n : ℕ) → k < n + 1 → (k < n) ⊎ (k ≡ n)
up_to k n lt = elim (cases_lt k n) [ inl below ↦ inl below | inr not_below ↦ inr (omega arith) ]

module _ (spans : List Span) (apart : AreApart spans) where
  end_at : (k : ℕ) (d e : Span) → k < length spans → (get_or spans k d).end ≡ (get_or spans k e).end
  end_at k d e within = ap (λ (s : Span). s.end) (get_or_default spans k d e within)

  start_at : (k : ℕ) (d e : Span) → k < length spans → (get_or spans k d).start ≡ (get_or spans k e).start
  start_at k d e within = ap (λ (s : Span). s.start) (get_or_default spans k d e within)

  -- where a span ends at a number or below it, so do those before it
  pub those_below : (middle n : ℕ) (e : Span) → middle < length spans → (get_or spans middle e).end ≤ n → (k : ℕ) (d : Span) → k < middle + 1 → (get_or spans k d).end ≤ n
  those_below middle n e within ends k d lt =
      let same = end_at middle d e within in
      elim (up_to k middle lt) [
        | inl before ↦
            let between = apart.apart k middle d before within in
            let whole = apart.whole middle d within in
            omega arith
        | inr is ↦ let P : ℕ → Type 0 = λ i. (get_or spans i d).end ≤ n in subst P (sym is) (omega arith)
      ]

  -- where a span begins at a number or above it, so do those behind it
  pub those_above : (middle n : ℕ) (e : Span) → middle < length spans → n ≤ (get_or spans middle e).start → (k : ℕ) (d : Span) → middle ≤ k → k < length spans → n ≤ (get_or spans k d).start
  those_above middle n e there begins k d le within =
      let same = start_at middle d e there in
      elim (up_to middle k (omega arith)) [
        | inl before ↦
            let between = apart.apart middle k d before within in
            let whole = apart.whole middle d there in
            omega arith
        | inr is ↦ let P : ℕ → Type 0 = λ i. n ≤ (get_or spans i d).start in subst P is (omega arith)
      ]

-- the memory of each of the segments is among the spans that are made of them, in any order
pub all_held : (segments : List Segment) (made sorted : List Span) → made ≡ map span_of segments → IsPermutation made sorted → AreApart sorted → IsHeld sorted (length segments) segments
all_held segments made sorted is order apart = record {
  apart = apart;
  within = omega arith;
  held = λ k d within.
      let below : k < length segments = omega (arith, length-take (length segments) segments) in
      let there : get_or made k (span_of d) ≡ span_of (get_or segments k d) =
      ap (λ (l : List Span). get_or l k (span_of d)) is ∙ get_or-map span_of segments k d in
      let long : k < length made = omega (arith, below, ap length is, length-map segments span_of) in
      let among : Contains made (get_or made k (span_of d)) = Contains-get_or made k (span_of d) long in
      let here : get_or (take (length segments) segments) k d ≡ get_or segments k d = get_or-take (length segments) segments k d below in
      rw here (Contains-permutation made sorted (span_of (get_or segments k d)) order (rw there at among));
}

-- nothing is held of any segments
pub none_held : (spans : List Span) (segments : List Segment) → spans ≡ [] → IsHeld spans 0 segments
none_held spans segments none = rw none (record {
  apart = record { whole = λ k d within. absurd (omega arith); apart = λ i j d before within. absurd (omega arith) };
  within = omega arith;
  held = λ k d within. absurd (omega arith);
})

-- what is held stays held with more segments
pub more_held : (spans : List Span) (count : ℕ) (segments more : List Segment) → IsHeld spans count segments → IsHeld spans count (segments ++ more)
more_held spans count segments more held = record {
  apart = held.apart;
  within = omega (arith, held.within, length-append segments more);
  held = rw (take-append-le count segments more held.within) held.held;
}

-- a search finds nothing where no element passes
find_none : (p : Segment → Bool) (xs : List Segment) → All (λ x. p x ≡ false) xs → find p xs ≡ None
find_none p [] fails = refl
find_none p (x ∷ xs) fails =
    let first : p x ≡ false = fails 0 x (omega arith) in
    rw first (find_none p xs (λ k d within. fails (suc k) d (omega arith)))

-- a header that meets none of the spans meets none of the segments whose memory is held
free_of : (spans : List Span) (count : ℕ) (segments : List Segment) (header : ProgramHeader) → IsHeld spans count segments → All (λ span. meets_span header span ≡ false) spans → find (meets header) (take count segments) ≡ None
free_of spans count segments header held free =
    find_none (meets header) (take count segments) (λ k d within.
    let (place, below, is) = held.held k d within in
    let P : Span → Type 0 = λ span. meets_span header span ≡ false in
    subst P is (free place (span_of (get_or (take count segments) k d)) below))

-- so the first segment that it meets stands behind them
pub first_behind : (spans : List Span) (count : ℕ) (segments : List Segment) (header : ProgramHeader) → IsHeld spans count segments → All (λ span. meets_span header span ≡ false) spans → find (meets header) (drop count segments) ≡ find (meets header) segments
first_behind spans count segments header held free =
    sym (ap (λ (o : Option Segment). option_or o (find (meets header) (drop count segments))) (free_of spans count segments header held free))
    ∙ sym (find-append (meets header) (take count segments) (drop count segments))
    ∙ ap (find (meets header)) (take-append-drop count segments)

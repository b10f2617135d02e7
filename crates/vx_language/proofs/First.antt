-- The order of faults, and the first of them.
use Rattle.std.proofs.Common.{◌≡◌, ℕ, true, false, ltb, eqb, ◌&&◌, ◌||◌, ◌+◌, ◌*◌, ◌<◌, ◌≤◌, List, [], ◌∷◌, ◌++◌, refl, sym, ◌∙◌, ap, arith, inl, inr}
use Rattle.std.proofs.lemmas.Bool.{cases_lt, cases_order, eq-eqb, lt-ltb, le-ltb, ltb-true, ltb-false, ne_eqb}
use Rattle.std.specs.Prelude.{Bool, Option, Some, None}
use Rattle.vx_language.specs.Faults.{rank, comes_before, earlier, earliest, first_of}
use Rattle.vx_language.specs.declared.fault.Fault.{Fault}
use Rattle.vx_language.specs.declared.fault.FaultKind.{FaultKind}
use Rattle.vx_language.specs.declared.fault.FaultKind.TheVariants.{BadByte, BadToken, UnknownName, BadOperand, OutOfRange, Twice, Undefined, TooLarge}

-- one number that orders faults
key : Fault → ℕ
key fault = fault.span.start * 8 + rank fault.kind

rank-below : (kind : FaultKind) → rank kind < 8
rank-below BadByte = omega arith
rank-below BadToken = omega arith
rank-below UnknownName = omega arith
rank-below BadOperand = omega arith
rank-below OutOfRange = omega arith
rank-below Twice = omega arith
rank-below Undefined = omega arith
rank-below TooLarge = omega arith

same-start : (start first second : ℕ) → ltb first second ≡ ltb (start * 8 + first) (start * 8 + second)
same-start start first second = elim (cases_lt first second) [
  | inl below ↦ lt-ltb first second below ∙ sym (lt-ltb (start * 8 + first) (start * 8 + second) (omega (arith, below)))
  | inr above ↦ le-ltb first second above ∙ sym (le-ltb (start * 8 + first) (start * 8 + second) (omega (arith, above)))
]

in-order : (s t r q : ℕ) → r < 8 → q < 8 → (ltb s t || (eqb s t && ltb r q)) ≡ ltb (s * 8 + r) (t * 8 + q)
in-order s t r q first second = elim (cases_order s t) [
  | inl same ↦ rw (le-ltb s t (omega (arith, same))) (rw (eq-eqb s t same) (same-start s r q ∙ ap (λ n. ltb (s * 8 + r) (n * 8 + q)) same))
  | inr (inl below) ↦ rw (lt-ltb s t below) (sym (lt-ltb (s * 8 + r) (t * 8 + q) (omega (arith, below, first, second))))
  | inr (inr above) ↦ rw (le-ltb s t (omega (arith, above))) (rw (ne_eqb s t (λ e. let e : s ≡ t = e in omega (arith, e, above))) (sym (le-ltb (s * 8 + r) (t * 8 + q) (omega (arith, above, first, second)))))
]

-- one comes before another where its number is less
comes_before-key : (one other : Fault) → comes_before one other ≡ ltb (key one) (key other)
unfolding comes_before key
comes_before-key one other = in-order one.span.start other.span.start (rank one.kind) (rank other.kind) (rank-below one.kind) (rank-below other.kind)

-- what comes before something that comes before a third comes before the third
before-before : (one other third : Fault) → comes_before one other ≡ true → comes_before other third ≡ true → comes_before one third ≡ true
before-before one other third first second =
    let a : key one < key other = ltb-true (key one) (key other) (sym (comes_before-key one other) ∙ first) in
    let b : key other < key third = ltb-true (key other) (key third) (sym (comes_before-key other third) ∙ second) in
    comes_before-key one third ∙ lt-ltb (key one) (key third) (omega (arith, a, b))

not-before : (one other third : Fault) → comes_before one other ≡ false → comes_before other third ≡ false → comes_before one third ≡ false
not-before one other third first second =
    let a : key other ≤ key one = ltb-false (key one) (key other) (sym (comes_before-key one other) ∙ first) in
    let b : key third ≤ key other = ltb-false (key other) (key third) (sym (comes_before-key other third) ∙ second) in
    comes_before-key one third ∙ le-ltb (key one) (key third) (omega (arith, a, b))

-- three faults have one first
three : (one other third : Fault) (second first : Bool) → comes_before third other ≡ second → comes_before other one ≡ first → earlier one (Some (earlier other (Some third))) ≡ earlier (earlier one (Some other)) (Some third)
unfolding earlier
three one other third true true a b = rw a (rw b (rw a (rw (before-before third other one a b) refl)))
three one other third true false a b = rw a (rw b refl)
three one other third false true a b = rw a (rw b (rw a refl))
three one other third false false a b = rw a (rw b (rw (not-before third other one a b) refl))

earliest-earlier : (one : Fault) (first second : Option Fault) → earliest (Some one) (earliest first second) ≡ earliest (earliest (Some one) first) second
unfolding earlier
earliest-earlier one None second = refl
earliest-earlier one (Some other) None = refl
earliest-earlier one (Some other) (Some third) = ap (λ (f : Fault). Some f) (three one other third (comes_before third other) (comes_before other one) refl refl)

pub first_of-append : (faults more : List Fault) → first_of (faults ++ more) ≡ earliest (first_of faults) (first_of more)
unfolding first_of
first_of-append [] more = refl
first_of-append (fault ∷ faults) more = ap (earliest (Some fault)) (first_of-append faults more) ∙ earliest-earlier fault (first_of faults) (first_of more)

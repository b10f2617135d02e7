-- The first of faults that come in rising order.
use Rattle.std.proofs.Common.{◌≡◌, ℕ, true, false, ltb, eqb, ◌+◌, ◌<◌, ◌≤◌, List, [], ◌∷◌, length, drop, get_or, refl, sym, ◌∙◌, ap, subst, arith}
use Rattle.std.proofs.Math.ListN.{drop_of_length-le}
use Rattle.std.proofs.lemmas.Bool.{le-ltb, ne_eqb}
use Rattle.std.proofs.lemmas.List.{drop_more}
use Rattle.std.specs.Prelude.{Bool, Option, Some, None}
use Rattle.vx_language.specs.Faults.{comes_before, earlier, first_of}
use Rattle.vx_language.specs.Bytes.{is_source_byte}
use Rattle.vx_language.specs.Tokens.{bad_bytes}
use Rattle.vx_language.specs.declared.fault.Fault.{Fault}
use Rattle.vx_language.specs.declared.fault.FaultKind.TheVariants.{BadByte}
use Rattle.vx_lex.specs.Pieces.{bad_byte_at}

-- a fault starts at an offset or behind it, where there is one
abbrev pub IsFrom : ℕ → Option Fault → Type 0
IsFrom n None = Unit {0}
IsFrom n (Some fault) = n ≤ fault.span.start

pub earlier-first : (fault : Fault) (other : Option Fault) (n : ℕ) → fault.span.start < n → IsFrom n other → earlier fault other ≡ fault
unfolding earlier comes_before
earlier-first fault None n before from = refl
earlier-first fault (Some other) n before from =
    let less : ltb other.span.start fault.span.start ≡ false = le-ltb other.span.start fault.span.start (omega (arith, before, from)) in
    let same : eqb other.span.start fault.span.start ≡ false = ne_eqb other.span.start fault.span.start (λ e. let e : other.span.start ≡ fault.span.start = e in omega (arith, before, from, e)) in
    rw less (rw same refl)

pub IsFrom-weaken : (n m : ℕ) (faults : Option Fault) → n ≤ m → IsFrom m faults → IsFrom n faults
IsFrom-weaken n m None below from = tt
IsFrom-weaken n m (Some fault) below from = omega (arith, below, from)

-- the first of a fault and some that start behind it is the fault
pub first_of-first : (fault : Fault) (faults : List Fault) (n : ℕ) → fault.span.start < n → IsFrom n (first_of faults) → first_of (fault ∷ faults) ≡ Some fault
unfolding first_of
first_of-first fault faults n before from = ap (λ (f : Fault). Some f) (earlier-first fault (first_of faults) n before from)

-- what the first byte adds to the bad ones
pub bad_bytes-good : (start byte : ℕ) (rest : List ℕ) → is_source_byte byte ≡ true → bad_bytes start (byte ∷ rest) ≡ bad_bytes (start + 1) rest
unfolding bad_bytes
bad_bytes-good start byte rest is = rw is refl

pub bad_bytes-bad : (start byte : ℕ) (rest : List ℕ) → is_source_byte byte ≡ false → bad_bytes start (byte ∷ rest) ≡ record { kind = BadByte; span = record { start = start; end = start + 1 } } ∷ bad_bytes (start + 1) rest
unfolding bad_bytes
bad_bytes-bad start byte rest is = rw is refl

pub bad_bytes-none : (start : ℕ) (bytes : List ℕ) (i : ℕ) → length bytes ≤ i → bad_bytes start (drop i bytes) ≡ []
unfolding bad_bytes
bad_bytes-none start bytes i past = ap (bad_bytes start) (drop_of_length-le bytes past)

-- the first bad byte is the first of them
pub first_bad-is : (start byte : ℕ) (rest : List ℕ) → IsFrom (start + 1) (first_of (bad_bytes (start + 1) rest)) → is_source_byte byte ≡ false → first_of (bad_bytes start (byte ∷ rest)) ≡ Some (bad_byte_at (record { start = start; end = start + 1 }))
first_bad-is start byte rest from is =
    let fault : Fault = bad_byte_at (record { start = start; end = start + 1 }) in
    ap first_of (bad_bytes-bad start byte rest is) ∙ first_of-first fault (bad_bytes (start + 1) rest) (start + 1) (omega arith) from

bad_bytes-from-cases : (start byte : ℕ) (rest : List ℕ) (good : Bool) → is_source_byte byte ≡ good → IsFrom (start + 1) (first_of (bad_bytes (start + 1) rest)) → IsFrom start (first_of (bad_bytes start (byte ∷ rest)))
bad_bytes-from-cases start byte rest true is from =
    let P : List Fault → Type 0 = λ faults. IsFrom start (first_of faults) in
    subst P (sym (bad_bytes-good start byte rest is)) (IsFrom-weaken start (start + 1) (first_of (bad_bytes (start + 1) rest)) (omega arith) from)
bad_bytes-from-cases start byte rest false is from =
    let here : start ≤ start = omega arith in
    subst (IsFrom start) (sym (first_bad-is start byte rest from is)) here

-- bad bytes start at the offset of the first byte or behind it
pub bad_bytes-from : (start : ℕ) (bytes : List ℕ) → IsFrom start (first_of (bad_bytes start bytes))
unfolding bad_bytes first_of
bad_bytes-from start [] = tt
bad_bytes-from start (byte ∷ rest) = bad_bytes-from-cases start byte rest (is_source_byte byte) refl (bad_bytes-from (start + 1) rest)

-- the first of them, where the byte at this offset is bad, and none before
pub first_bad-at : (bytes : List ℕ) (i : ℕ) → i < length bytes → is_source_byte (get_or bytes i 0) ≡ false → first_of (bad_bytes i (drop i bytes)) ≡ Some (bad_byte_at (record { start = i; end = i + 1 }))
first_bad-at bytes i within is =
    ap (λ rest. first_of (bad_bytes i rest)) (drop_more bytes i 0 within)
    ∙ first_bad-is i (get_or bytes i 0) (drop (i + 1) bytes) (bad_bytes-from (i + 1) (drop (i + 1) bytes)) is

-- a good byte adds none
pub bad_bytes-more : (bytes : List ℕ) (i : ℕ) → i < length bytes → is_source_byte (get_or bytes i 0) ≡ true → bad_bytes i (drop i bytes) ≡ bad_bytes (i + 1) (drop (i + 1) bytes)
bad_bytes-more bytes i within is = ap (bad_bytes i) (drop_more bytes i 0 within) ∙ bad_bytes-good i (get_or bytes i 0) (drop (i + 1) bytes) is

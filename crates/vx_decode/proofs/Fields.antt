-- The bits of a number, by its parts.
use Rattle.std.proofs.Common.{◌≡◌, ℕ, ◌+◌, ◌*◌, ◌/◌, ◌%◌, ◌^◌, ◌<◌, ap, ◌∙◌}
use Rattle.std.proofs.lemmas.Nat.{shr_high, mod_low, mod_below, pow_pos}
use Rattle.vx_base.specs.Numbers.{field}

-- the middle one of three parts
pub field-at : (w hi mid lo low count : ℕ) → w ≡ (hi * 2 ^ count + mid) * 2 ^ low + lo → lo < 2 ^ low → mid < 2 ^ count → field w low count ≡ mid
field-at w hi mid lo low count e fits below =
    rw e (ap (λ x. x % 2 ^ count) (shr_high (hi * 2 ^ count + mid) low lo fits) ∙ mod_low hi count mid below)

-- the low one of two
pub low-at : (w hi lo low : ℕ) → w ≡ hi * 2 ^ low + lo → lo < 2 ^ low → w % 2 ^ low ≡ lo
low-at w hi lo low e fits = rw e (mod_low hi low lo fits)

pub field-below : (w low count : ℕ) → field w low count < 2 ^ count
field-below w low count = mod_below (w / 2 ^ low) (2 ^ count) (pow_pos count)

pub low-below : (w low : ℕ) → w % 2 ^ low < 2 ^ low
low-below w low = mod_below w (2 ^ low) (pow_pos low)

-- A word whose elements are made of the elements at the same places of other words.
use Rattle.std.specs.Prelude.{◌≡◌, ℕ, ◌*◌, ◌/◌, ◌%◌, ◌^◌, ◌<◌, ◌≤◌, Bool, ◌==◌, if◌then◌else◌}
use Rattle.vx_base.specs.Numbers.{truth}
use Rattle.vx_bits.specs.declared.saturation.Sat.{Sat}
use Rattle.vx_packed.specs.Joined.{lane, joined}
use Rattle.vx_packed.specs.declared.elements.Lane.{Lane}
use Rattle.vx_packed.specs.declared.elements.Made.{Made}
use Rattle.vx_packed.specs.declared.elements.Packing.{Packing}
use Rattle.vx_packed.specs.declared.elements.Sources.{Sources}

-- so many elements of each width fit into a word
pub record IsPacking (at : Packing) : Type 0 where
  pub width : 0 < at.width
  pub a : 0 < at.a
  pub b : 0 < at.b
  pub width_fits : at.count * at.width ≤ 64
  pub a_fits : at.count * at.a ≤ 64
  pub b_fits : at.count * at.b ≤ 64

-- as many elements of one width as fill a word
abbrev pub even_packing : (width : ℕ) → Packing
even_packing width = record { count = 64 / width; width = width; a = width; b = width }

-- the numbers of a lane are of its widths
pub record IsWithin (at : Packing) (l : Lane) : Type 0 where
  pub a : l.a < 2 ^ at.a
  pub b : l.b < 2 ^ at.b
  pub d : l.d < 2 ^ at.width

-- the numbers at place k of the sources
abbrev pub lane_of : Packing → Sources → (k : ℕ) → Lane
lane_of at from k = record { a = lane at.a from.a k; b = lane at.b from.b k; d = lane at.width from.d k; m = lane 1 from.m k == 1 }

-- the word whose elements f gives, and the lanes at which it saturates
abbrev pub made : Packing → Sources → (f : Lane → Sat) → Made
made at from f = record {
  value = joined at.width at.count (λ k. (f (lane_of at from k)).value);
  sats = joined 1 at.count (λ k. truth (f (lane_of at from k)).sat);
}

-- what may be answered at a lane is, in the bits of the width, what f gives
abbrev pub Answers : (post : Lane → Sat → Type 0) → Packing → (f : Lane → Sat) → Type 0
Answers post at f = (l : Lane) (s : Sat) → IsWithin at l → post l s → (s.value % 2 ^ at.width ≡ (f l).value % 2 ^ at.width) × (s.sat ≡ (f l).sat)

-- the elements of one word where the bits of the lanes are 1, and of another elsewhere
abbrev pub merged : (width count lanes new old : ℕ) → ℕ
merged width count lanes new old = joined width count (λ k. if lane 1 lanes k == 1 then lane width new k else lane width old k)

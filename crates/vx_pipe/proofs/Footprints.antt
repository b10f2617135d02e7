-- What timing sees of an instruction where all pages are present.
use Rattle.std.proofs.lemmas.List.Elements.{All-head, All-tail}
use Rattle.std.proofs.Common.{◌≡◌, ℕ, nat_eq, Bool, true, false, [], ◌∷◌, refl, ◌∙◌}
use Rattle.std.specs.Prelude.{Option, Some, if◌then◌else◌}
use Rattle.std.specs.Option.{option_map_or}
use Rattle.vx_base.specs.declared.machine.Want.{Want}
use Rattle.vx_base.specs.declared.machine.Want.TheVariants.{Fetch}
use Rattle.vx_base.specs.Permissions.{grants}
use Rattle.vx_flat.specs.State.{Flat}
use Rattle.vx_flat.specs.Step.{upcoming}
use Rattle.vx_flat.specs.declared.upcoming.Upcoming.{Upcoming}
use Rattle.vx_flat.specs.declared.upcoming.Upcoming.TheVariants.{Denied, Illegal, Instruction}
use Rattle.vx_image.specs.Pages.{page_of}
use Rattle.vx_tables.specs.Residency.{Place, PlacedPage, Residency, placed, found_at, page_map}
use Rattle.vx_tables.specs.Residency.Place.{Away, Present}
use Rattle.vx_tables.specs.declared.walked.Walked.{Walked}
use Rattle.vx_tables.specs.declared.walked.Walked.TheVariants as walked
use Rattle.vx_episode.specs.Footprint.{footprint, footprint_found, footprint_of, footprint_with}
use Rattle.vx_episode.specs.Organisation.{Organisation}
use Rattle.vx_pipe.specs.Present.{IsPresent, ArePresent}

abbrev IsThere : Walked → Type 0
IsThere (walked.Leaf frame perm dirty) = Unit {0}
IsThere walked.Away = ⊥
IsThere walked.Denied = Unit {0}

there-granted : (b : Bool) (frame : ℕ) (bits : ℕ) (dirty : Bool) → IsThere (if b then walked.Leaf frame (record { bits = bits }) dirty else walked.Denied)
there-granted true frame bits dirty = tt
there-granted false frame bits dirty = tt

there-at : (bits : ℕ) (want : Want) (place : Place) → IsPresent place → IsThere (found_at bits want place)
there-at bits want Away h = absurd h
there-at bits want (Present frame accessed dirty) h = there-granted (grants bits want) frame bits _

there-if : (b : Bool) (want : Want) (p : PlacedPage) (later : Option PlacedPage) → IsPresent p.place
    → IsThere (option_map_or (λ (p : PlacedPage). found_at p.entry.perm.bits want p.place) later walked.Denied)
    → IsThere (option_map_or (λ (p : PlacedPage). found_at p.entry.perm.bits want p.place) (if b then Some p else later) walked.Denied)
there-if true want p later h rest = there-at p.entry.perm.bits want p.place h
there-if false want p later h rest = rest

there-in : (number : ℕ) (want : Want) (residency : Residency) → ArePresent residency → IsThere (option_map_or (λ (p : PlacedPage). found_at p.entry.perm.bits want p.place) (placed number residency) walked.Denied)
there-in number want [] h = tt
there-in number want (p ∷ residency) h = there-if (nat_eq p.entry.page number) want p (placed number residency) (All-head (λ (p : PlacedPage). IsPresent p.place) p residency h) (there-in number want residency (All-tail (λ (p : PlacedPage). IsPresent p.place) p residency h))

-- a page that an access finds isn't away
pub is-there : (residency : Residency) (address : ℕ) (want : Want) → ArePresent residency → IsThere (page_map residency address want)
unfolding page_map
is-there residency address want h = there-in (page_of address) want residency h

found : (machine : Organisation) (s : Flat) (w : Walked) → IsThere w → footprint_found machine true s w ≡ footprint_with machine true s (upcoming s)
found machine s (walked.Leaf frame perm dirty) h = refl
found machine s walked.Away h = absurd h
found machine s walked.Denied h = refl

with-vectors : (machine : Organisation) (s : Flat) (next : Upcoming) → footprint_with machine true s next ≡ footprint_of machine s next
with-vectors machine s Denied = refl
with-vectors machine s (Illegal word) = refl
with-vectors machine s (Instruction i) = refl

-- the footprint goes by what comes next
pub footprint-is : (machine : Organisation) (residency : Residency) (s : Flat) → ArePresent residency → footprint machine true residency s ≡ footprint_of machine s (upcoming s)
unfolding footprint
footprint-is machine residency s h = found machine s (page_map residency s.pc Fetch) (is-there residency s.pc Fetch h) ∙ with-vectors machine s (upcoming s)

-- Caches of translations that were filled by walks. This project's own.
use Rattle.std.specs.Prelude.{◌≡◌, ℕ, ◌<◌, ◌^◌, true, false, List, [], ◌∷◌, length, Option}
use Rattle.vx_base.specs.declared.machine.Want.{Want}
use Rattle.vx_base.specs.declared.machine.Want.TheVariants.{Fetch}
use Rattle.vx_episode.specs.Organisation.{data_entries}
use Rattle.vx_image.specs.Pages.{is_canonical, page_of}
use Rattle.vx_look.specs.Fates.{is_miss}
use Rattle.vx_tables.specs.Caches.{Fill, look_up}
use Rattle.vx_tables.specs.declared.look.Look.TheVariants.{Hit}
use Rattle.vx_tables.specs.declared.walked.Walked.{Walked}
use Rattle.vx_tables.specs.declared.walked.Walked.TheVariants as walked
use Rattle.vx_tlb.specs.Kept.{StandsFor}
use Rattle.vx_tlb.specs.declared.tlb.Kept.{Kept}

-- pages were filled in these frames
abbrev pub AreFilledBelow : (frames : ℕ) → List Fill → Type 0
AreFilledBelow frames [] = Unit {0}
AreFilledBelow frames (f ∷ fills) = (f.frame < frames) × AreFilledBelow frames fills

-- a cache of so many entries, all of whose pages were found in the frames that a memory may have
pub record IsFilled (entries : ℕ) (places : List (Option Kept)) : Type 0 where
  pub size : length places ≡ entries
  pub fills : List Fill
  pub stands : StandsFor places fills
  pub below : AreFilledBelow 16384 fills

-- a walk found its page in one of these frames, or not at all
abbrev pub IsFoundBelow : (frames : ℕ) → Walked → Type 0
IsFoundBelow frames (walked.Leaf frame perm dirty) = frame < frames
IsFoundBelow frames walked.Away = Unit {0}
IsFoundBelow frames walked.Denied = Unit {0}

-- a fetch from the page of that number isn't walked
abbrev pub IsLetThrough : (places : List (Option Kept)) → (number : ℕ) → Type 0
IsLetThrough places number = (address : ℕ) (fills : List Fill) → address < 2 ^ 64 → page_of address ≡ number → StandsFor places fills
    → is_miss (look_up (length places) fills number Fetch) ≡ false

-- a look of the data's cache for an address's page finds it in that frame
pub record IsHitAt (places : List (Option Kept)) (want : Want) (address frame : ℕ) : Type 0 where
  pub below : frame < 16384
  pub canonical : is_canonical address ≡ true
  pub hit : (fills : List Fill) → StandsFor places fills → look_up data_entries fills (page_of address) want ≡ Hit frame

-- so does one for each address of the page of that number
abbrev pub IsLastHit : (places : List (Option Kept)) → Want → (number frame : ℕ) → Type 0
IsLastHit places want number frame = (address : ℕ) → address < 2 ^ 64 → page_of address ≡ number → IsHitAt places want address frame

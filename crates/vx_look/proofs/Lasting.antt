-- The page that was found last.
use Rattle.std.proofs.Common.{◌≡◌, ℕ, ◌/◌, ◌%◌, ◌^◌, true, false, eqb, List, [], refl, sym, subst, ap, ◌∙◌, eq-eqb}
use Rattle.std.proofs.lemmas.Nat.{shr-shr}
use Rattle.std.specs.Prelude.{Option, Bool, not, ◌||◌, if◌then◌else◌}
use Rattle.vx_base.specs.declared.machine.Want.{Want}
use Rattle.vx_episode.specs.Batches.{word_in, fate_looked, fate_of}
use Rattle.vx_episode.specs.Batches.Fate.{Good, Fails}
use Rattle.vx_episode.specs.Footprint.{Access}
use Rattle.vx_episode.specs.History.{History, BatchTimes, walks_of_batches, fills_of}
use Rattle.vx_episode.specs.Organisation.{Start, data_entries}
use Rattle.vx_image.specs.Pages.{is_canonical, page_of}
use Rattle.vx_look.specs.Fates.{IsHitBelow}
use Rattle.vx_look.specs.Filled.{IsHitAt, IsLastHit}
use Rattle.vx_tables.specs.Caches.{Fill, look_up}
use Rattle.vx_tables.specs.declared.look.Look.{Look}
use Rattle.vx_tables.specs.declared.look.Look.TheVariants.{Hit}
use Rattle.vx_tlb.specs.Kept.{StandsFor}
use Rattle.vx_tlb.specs.declared.tlb.Kept.{Kept}

-- whether an address is canonical, its page tells
canonical-same : (address other : ℕ) → page_of address ≡ page_of other → is_canonical address ≡ is_canonical other
canonical-same address other same =
    let upper : address / 2 ^ 38 ≡ other / 2 ^ 38 = sym (shr-shr address 12 26) ∙ ap (λ (q : ℕ). q / 2 ^ 26) same ∙ shr-shr other 12 26 in
    rw upper refl

pub last-hit : (places : List (Option Kept)) (want : Want) (address frame : ℕ) (seen : Look) → is_canonical address ≡ true → seen ≡ Hit frame → IsHitBelow 16384 seen
    → ((fills : List Fill) → StandsFor places fills → seen ≡ look_up data_entries fills (page_of address) want) → IsLastHit places want (page_of address) frame
last-hit places want address frame seen canonical is below looked other lt same = record {
  below = subst (IsHitBelow 16384) is below;
  canonical = canonical-same other address same ∙ canonical;
  hit = λ fills stands. ap (λ (n : ℕ). look_up data_entries fills n want) same ∙ sym (looked fills stands) ∙ is;
}

module _ (start : Start) (history : History) (earlier : List BatchTimes) (want : Want) (started : ℕ) where
  fate-by : (a : Access) (is_aligned canonical : Bool) (l : Look) (frame : ℕ) → is_aligned ≡ true → canonical ≡ true → l ≡ Hit frame
      → (if not is_aligned || not canonical then Fails started false else fate_looked started [] a l) ≡ Good started (word_in frame a.address)
  fate-by a is_aligned canonical l frame aligned is hit = rw (aligned, is, hit) refl

  -- what is known of an access to a page that is found
  pub fate-hit : (a : Access) (places : List (Option Kept)) (address width frame : ℕ) → a.address ≡ address → a.width ≡ width → address % width ≡ 0
      → IsHitAt places want address frame → StandsFor places (fills_of (walks_of_batches earlier)) → Good started (word_in frame address) ≡ fate_of start history earlier want started [] a
  fate-hit a places address width frame at wide aligned hit stands =
      let rest : a.address % a.width ≡ 0 = ap (λ (n : ℕ). n % a.width) at ∙ ap (λ (n : ℕ). address % n) wide ∙ aligned in
      let canonical : is_canonical a.address ≡ true = ap is_canonical at ∙ hit.canonical in
      let found : look_up data_entries (fills_of (walks_of_batches earlier)) (page_of a.address) want ≡ Hit frame =
      ap (λ (n : ℕ). look_up data_entries (fills_of (walks_of_batches earlier)) (page_of n) want) at ∙ hit.hit (fills_of (walks_of_batches earlier)) stands in
      ap (λ (n : ℕ). Good started (word_in frame n)) (sym at)
      ∙ sym (fate-by a (eqb (a.address % a.width) 0) (is_canonical a.address) (look_up data_entries (fills_of (walks_of_batches earlier)) (page_of a.address) want) frame (eq-eqb (a.address % a.width) 0 rest) canonical found)

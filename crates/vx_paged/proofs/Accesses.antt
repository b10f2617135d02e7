-- What an access finds and puts, where the page of its address is in a frame.
use Rattle.std.proofs.Common.{◌≡◌, ℕ, ◌+◌, ◌*◌, ◌/◌, ◌%◌, ◌^◌, ◌<◌, ◌≤◌, Bool, true, false, ◌&&◌, List, length, get_or, set, take, drop, Some, None, refl, sym, ap, subst, ◌∙◌, IsTrue, arith}
use Rattle.std.specs.Prelude.{Option, MatchOption, is_some}
use Rattle.std.proofs.Math.Bool.{and-false}
use Rattle.std.proofs.lemmas.Nat.{shr-shr}
use Rattle.vx_base.specs.Numbers.{field, little_endian, from_little_endian}
use Rattle.vx_base.specs.Page.{byte_of_words}
use Rattle.vx_base.specs.Permissions.{grants}
use Rattle.vx_base.specs.declared.machine.Want.{Want}
use Rattle.vx_cells.specs.Merging.{merged}
use Rattle.vx_flat.specs.Memory.{byte_at, bytes_at, put_bytes}
use Rattle.vx_image.specs.Pages.{page_of, is_canonical, permits}
use Rattle.vx_paged.specs.Framed.{IsPlacement, IsWithin, framed, shown}
use Rattle.vx_paged.specs.Granted.{IsGrantedIn, Serves}
use Rattle.vx_paged.specs.Left.{is_framed, blanked}
use Rattle.vx_paged.specs.declared.placement.FramedPage.{FramedPage}
use Rattle.vx_paged.proofs.Left.{blanked-set, is_framed-at}
use Rattle.vx_paged.proofs.Shown.{IsOnly, place_in, permits_there, denied_there, byte_there, only, put_all, shown_same, changes}
use Rattle.vx_paged.proofs.Stored.{AreMerged, Names, written}
use Rattle.vx_paged.proofs.Words.{number_is, bytes_are, length-little_endian}
use Rattle.vx_scalar.specs.Operands.{is_access_width}

-- an address that isn't canonical is let through nowhere
pub denied_outside : (placement : List FramedPage) (address : ℕ) (want : Want) → is_canonical address ≡ false → (contents : List ℕ) → permits (shown placement contents) address want ≡ false
denied_outside placement address want outside contents = rw outside refl

-- nor is one whose page isn't there
pub denied_missing : (placement : List FramedPage) (address : ℕ) (want : Want) → framed (page_of address) placement ≡ None → (contents : List ℕ) → permits (shown placement contents) address want ≡ false
unfolding shown
denied_missing placement address want missing contents = denied_there (byte_of_words contents) placement address want missing

-- nor one whose page refuses it
pub denied_refused : (placement : List FramedPage) (address : ℕ) (want : Want) (p : FramedPage) → framed (page_of address) placement ≡ Some p → grants p.entry.perm.bits want ≡ false → (contents : List ℕ) → permits (shown placement contents) address want ≡ false
unfolding shown
denied_refused placement address want p found refused contents =
    permits_there (byte_of_words contents) placement address p want found ∙ ap (λ (b : Bool). is_canonical address && b) refused ∙ and-false (is_canonical address)

pub granted_there : (placement : List FramedPage) (address : ℕ) (want : Want) (p : FramedPage) → framed (page_of address) placement ≡ Some p → is_canonical address ≡ true → grants p.entry.perm.bits want ≡ true → IsGrantedIn placement address want p.frame
granted_there placement address want p found inside granted = record { page = p; found = found; in_frame = refl; permitted = rw (inside, granted) refl }

-- where an address is let through, so is its page
pub serves-page : (placement : List FramedPage) (want : Want) (address frame : ℕ) → IsGrantedIn placement address want frame → Serves placement want (page_of address) frame
serves-page placement want address frame granted other below same =
    let upper : other / 2 ^ 38 ≡ address / 2 ^ 38 = sym (shr-shr other 12 26) ∙ ap (λ (q : ℕ). q / 2 ^ 26) same ∙ shr-shr address 12 26 in
    record {
      page = granted.page;
      found = ap (λ (n : ℕ). framed n placement) same ∙ granted.found;
      in_frame = granted.in_frame;
      permitted = rw upper granted.permitted;
    }

-- an access whose address is a multiple of its width lies within a word, below the last address
pub within_word : (width address : ℕ) → IsTrue (is_access_width width) → address % width ≡ 0 → address < 2 ^ 64 → (address % 8 + width ≤ 8) × (address + width ≤ 2 ^ 64)
within_word width address is aligned below = grind (arith, is, aligned, below)

module _ (placement : List FramedPage) (address frame : ℕ) (want : Want) (granted : IsGrantedIn placement address want frame) where
  pub permitted_there : (contents : List ℕ) → permits (shown placement contents) address want ≡ true
  unfolding shown
  permitted_there contents = permits_there (byte_of_words contents) placement address granted.page want granted.found ∙ granted.permitted

  pub below_frames : (frames : ℕ) → IsWithin frames placement → frame < frames
  below_frames frames within =
      let spot = place_in (page_of address) placement granted.page granted.found in
      let inside = within spot.place granted.page spot.within in
      let same = ap (λ (p : FramedPage). p.frame) (spot.item granted.page) in
      omega (arith, inside, same, granted.in_frame)

  -- the word of the address is one of a page's frame
  pub word_is_framed : is_framed placement ((0 + (512 * frame + address % 4096 / 8)) / 512) ≡ true
  word_is_framed =
      let spot = place_in (page_of address) placement granted.page granted.found in
      let there : (0 + (512 * frame + address % 4096 / 8)) / 512 ≡ frame = omega arith in
      ap (is_framed placement) there
      ∙ is_framed-at placement spot.place granted.page frame spot.within (ap (λ (p : FramedPage). p.frame) (spot.item granted.page) ∙ granted.in_frame)

  -- the bytes of the address's word
  byte_on : (contents : List ℕ) (j : ℕ) → address % 8 + j < 8 → byte_at (shown placement contents) (address + j) ≡ field (get_or contents (512 * frame + address % 4096 / 8) 0) (8 * (address % 8 + j)) 8
  unfolding shown
  byte_on contents j below =
      let page : page_of (address + j) ≡ page_of address = omega arith in
      let offset : (address + j) % 4096 ≡ address % 4096 + j = omega arith in
      let i : ℕ = 4096 * frame + (address % 4096 + j) in
      let quotient : i / 8 ≡ 512 * frame + address % 4096 / 8 = omega arith in
      let rest : i % 8 ≡ address % 8 + j = omega arith in
      byte_there (byte_of_words contents) placement (address + j) granted.page (ap (λ (n : ℕ). framed n placement) page ∙ granted.found)
      ∙ ap (λ (f : ℕ). byte_of_words contents (4096 * f + (address + j) % 4096)) granted.in_frame
      ∙ ap (λ (n : ℕ). byte_of_words contents (4096 * frame + n)) offset
      ∙ ap (λ (q : ℕ). field (get_or contents q 0) (8 * (i % 8)) 8) quotient
      ∙ ap (λ (n : ℕ). field (get_or contents (512 * frame + address % 4096 / 8) 0) (8 * n) 8) rest

  pub number_there : (contents : List ℕ) (width : ℕ) → address % 8 + width ≤ 8 → address + width ≤ 2 ^ 64 → from_little_endian (bytes_at (shown placement contents) address width) ≡ field (get_or contents (512 * frame + address % 4096 / 8) 0) (8 * (address % 8)) (8 * width)
  number_there contents width fits room =
      number_is (shown placement contents) (get_or contents (512 * frame + address % 4096 / 8) 0) width (address % 8) address room (λ j below. byte_on contents j (omega arith))

  pub bytes_there : (contents : List ℕ) (count : ℕ) → address % 8 + count ≤ 8 → address + count ≤ 2 ^ 64 → bytes_at (shown placement contents) address count ≡ take count (drop (address % 8) (little_endian 8 (get_or contents (512 * frame + address % 4096 / 8) 0)))
  bytes_there contents count fits room =
      bytes_are (shown placement contents) (get_or contents (512 * frame + address % 4096 / 8) 0) count (address % 8) address fits room (λ j below. byte_on contents j (omega arith))

  pub put_there : AreMerged → IsPlacement placement → (contents : List ℕ) (width mask value : ℕ) → 512 * frame + address % 4096 / 8 < length contents → address % 8 + width ≤ 8 → address + width ≤ 2 ^ 64 → Names mask (address % 8) width
      → shown placement (set contents (512 * frame + address % 4096 / 8) (merged mask (get_or contents (512 * frame + address % 4096 / 8) 0) (merged mask 0 (value * 2 ^ (8 * (address % 8)) % 2 ^ 64)))) ≡ put_bytes (shown placement contents) address (little_endian width value)
  unfolding shown
  put_there laws kept contents width mask value inside fits room names =
      let values = little_endian width value in
      let long : length values ≡ width = length-little_endian width value in
      let word : ℕ = 512 * frame + address % 4096 / 8 in
      let start : 8 * word + address % 8 ≡ 4096 * frame + address % 4096 = omega arith in
      let one = subst (λ (f : ℕ). IsOnly placement (page_of address) f) granted.in_frame (only placement kept (page_of address) granted.page granted.found) in
      shown_same _ (changes (byte_of_words contents) (4096 * frame + address % 4096) values) placement (λ k d below i from to.
      written laws contents word (address % 8) width mask value inside fits names i ∙ ap (λ (n : ℕ). changes (byte_of_words contents) n values i) start)
      ∙ sym (put_all placement (page_of address) frame one values (byte_of_words contents) (address % 4096) address (omega arith) (omega arith) (omega arith))

  -- what is written leaves the words outside of the pages' frames
  pub left_there : (contents : List ℕ) (value : ℕ) → blanked placement 0 (set contents (512 * frame + address % 4096 / 8) value) ≡ blanked placement 0 contents
  left_there contents value = blanked-set placement contents 0 (512 * frame + address % 4096 / 8) value word_is_framed

-- an access is let through where its page's frame is found
pub permitted_is : (placement : List FramedPage) (address : ℕ) (want : Want) (found : Option ℕ) → MatchOption found ((contents : List ℕ) → permits (shown placement contents) address want ≡ false) (IsGrantedIn placement address want) → (contents : List ℕ) → is_some found ≡ permits (shown placement contents) address want
permitted_is placement address want None denied contents = sym (denied contents)
permitted_is placement address want (Some frame) granted contents = sym (permitted_there placement address frame want granted contents)

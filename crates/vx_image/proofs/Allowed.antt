-- The permissions of the pages that are built, and their order.
use Rattle.std.proofs.Common.{◌≡◌, ℕ, zero, suc, ◌%◌, ◌<◌, ◌⊎◌, Bool, true, false, ◌||◌, ◌&&◌, if◌then◌else◌, eqb, bit_or, inl, inr, List, [], ◌∷◌, ◌++◌, length, get_or, find, filter, fold, Option, Some, None, option_map, refl, sym, subst, ◌∙◌, append-nil, arith}
use Rattle.std.specs.List.{list_any, All, AllPairs}
use Rattle.std.specs.Option.{option_or}
use Rattle.std.proofs.lemmas.Bool.{cases_lt, cases_Bool, eqb-true}
use Rattle.std.proofs.lemmas.List.Elements.{All-push}
use Rattle.std.proofs.lemmas.List.Quantifiers.{all_pairs_push}
use Rattle.vx_base.specs.Pages.{IsPageList, is_page_permission}
use Rattle.vx_base.specs.declared.perm.PageEntry.{PageEntry}
use Rattle.vx_elf.specs.declared.segment.Segment.{Segment}
use Rattle.vx_elf.specs.Segments.{IsSegmentList, is_segment_permission}
use Rattle.vx_image.specs.Mapping.{meets_page, page_permissions, stack_page}
use Rattle.vx_image.specs.Building.{entry_of_stack, entry_of_segments, entries_below}
use Rattle.vx_image.specs.Images.{is_write_exec, is_code, write_exec_fault, count_fault, entry_fault, pages_fault}
use Rattle.vx_image.specs.Kept.{pages_of, IsRising}
use Rattle.vx_image.specs.declared.fault.ImageFault.{ImageFault}
use Rattle.vx_image.specs.declared.fault.ImageFault.TheVariants.{WriteExec, EntryNotCode}
use Rattle.vx_image.proofs.Entries.{at_stack, at_segments, at_nothing}
use Rattle.vx_image.proofs.PageFaults.{both_at, both_of}

one_of_two : (a b : Bool) → (a || b) ≡ true → (a ≡ true) ⊎ (b ≡ true)
one_of_two true b passes = inl refl
one_of_two false b passes = inr passes

-- what holds of each permission of a segment
each_permission : (P : ℕ → Type 0) → P 1 → P 4 → P 5 → P 6 → P 7 → (bits : ℕ) → is_segment_permission bits ≡ true → P bits
each_permission P p1 p4 p5 p6 p7 bits is =
    let at = λ (n : ℕ) (p : P n) (same : eqb bits n ≡ true). subst P (sym (eqb-true bits n same)) p in
    elim (one_of_two (eqb bits 1 || eqb bits 4 || eqb bits 5 || eqb bits 6) (eqb bits 7) is) [
      | inr e7 ↦ at 7 p7 e7
      | inl r6 ↦ elim (one_of_two (eqb bits 1 || eqb bits 4 || eqb bits 5) (eqb bits 6) r6) [
        | inr e6 ↦ at 6 p6 e6
        | inl r5 ↦ elim (one_of_two (eqb bits 1 || eqb bits 4) (eqb bits 5) r5) [
          | inr e5 ↦ at 5 p5 e5
          | inl r4 ↦ elim (one_of_two (eqb bits 1) (eqb bits 4) r4) [
            | inr e4 ↦ at 4 p4 e4
            | inl e1 ↦ at 1 p1 e1
          ]
        ]
      ]
    ]

-- two of them together are one
join : (a b : ℕ) → is_segment_permission a ≡ true → is_segment_permission b ≡ true → is_segment_permission (bit_or a b) ≡ true
join a b one two =
    let P : ℕ → Type 0 = λ n. (m : ℕ) → is_segment_permission m ≡ true → is_segment_permission (bit_or n m) ≡ true in
    each_permission P
    (each_permission (λ m. is_segment_permission (bit_or 1 m) ≡ true) refl refl refl refl refl)
    (each_permission (λ m. is_segment_permission (bit_or 4 m) ≡ true) refl refl refl refl refl)
    (each_permission (λ m. is_segment_permission (bit_or 5 m) ≡ true) refl refl refl refl refl)
    (each_permission (λ m. is_segment_permission (bit_or 6 m) ≡ true) refl refl refl refl refl)
    (each_permission (λ m. is_segment_permission (bit_or 7 m) ≡ true) refl refl refl refl refl)
    a one b two

alone : (b : ℕ) → is_segment_permission b ≡ true → is_segment_permission (bit_or 0 b) ≡ true
alone = each_permission (λ m. is_segment_permission (bit_or 0 m) ≡ true) refl refl refl refl refl

-- one that isn't both W and X is that of a page
page_allowed : (b : ℕ) → is_segment_permission b ≡ true → is_write_exec b ≡ false → is_page_permission b ≡ true
page_allowed =
    each_permission (λ m. is_write_exec m ≡ false → is_page_permission m ≡ true) (λ e. refl) (λ e. refl) (λ e. refl) (λ e. refl) (λ e. cc)

-- segments whose permissions are such
abbrev AreAllowed : List Segment → Type 0
AreAllowed segments = (k : ℕ) (d : Segment) → k < length segments → is_segment_permission (get_or segments k d).perm.bits ≡ true

gather : ℕ → Segment → ℕ
gather bits segment = bit_or bits segment.perm.bits

gathered : (p : Segment → Bool) (segments : List Segment) → AreAllowed segments → (bits : ℕ) → is_segment_permission bits ≡ true → is_segment_permission (fold gather bits (filter p segments)) ≡ true
unfolding gather
gathered p [] allowed bits one = one
gathered p (segment ∷ segments) allowed bits one =
    let rest : AreAllowed segments = λ k d within. allowed (suc k) d (omega arith) in
    elim (cases_Bool (p segment)) [
      | inl passes ↦ rw passes (gathered p segments rest (bit_or bits segment.perm.bits) (join bits segment.perm.bits one (allowed 0 segment (omega arith))))
      | inr fails ↦ rw fails (gathered p segments rest bits one)
    ]

some_gathered : (p : Segment → Bool) (segments : List Segment) → AreAllowed segments → list_any p segments ≡ true → is_segment_permission (fold gather 0 (filter p segments)) ≡ true
unfolding gather
some_gathered p [] allowed any = cc
some_gathered p (segment ∷ segments) allowed any =
    let rest : AreAllowed segments = λ k d within. allowed (suc k) d (omega arith) in
    elim (cases_Bool (p segment)) [
      | inl passes ↦ rw passes (gathered p segments rest (bit_or 0 segment.perm.bits) (alone segment.perm.bits (allowed 0 segment (omega arith))))
      | inr fails ↦ rw fails (some_gathered p segments rest (rw fails at any))
    ]

-- the permissions of a page that a segment meets
permissions_allowed : (segments : List Segment) (number : ℕ) → IsSegmentList segments → list_any (meets_page number) segments ≡ true → is_segment_permission (page_permissions segments number) ≡ true
unfolding page_permissions gather
permissions_allowed segments number list met =
    some_gathered (meets_page number) segments (λ k d within. (list.each k d within).permission) met

-- what there is of entries below a number
pub record AreEntries (entries : List PageEntry) (number : ℕ) : Type 0 where
  pub rising : AllPairs (λ one later. one.page < later.page) entries
  pub below : All (λ entry. entry.page < number) entries
  pub allowed : All (λ entry. is_segment_permission entry.perm.bits ≡ true) entries

none_yet : (number : ℕ) → AreEntries [] number
none_yet number = record {
  rising = λ i j d before within. absurd (omega arith);
  below = λ k d within. absurd (omega arith);
  allowed = λ k d within. absurd (omega arith);
}

one_entry : (entries : List PageEntry) (entry : PageEntry) (number : ℕ) → AreEntries entries number → entry.page ≡ number → is_segment_permission entry.perm.bits ≡ true → AreEntries (entries ++ entry ∷ []) (suc number)
one_entry entries entry number are same allowed = record {
  rising = all_pairs_push (λ one later. one.page < later.page) entries entry are.rising (λ k d within. let before = are.below k d within in omega arith);
  below = All-push (λ e. e.page < suc number) entries entry (λ k d within. let before = are.below k d within in omega arith) (omega arith);
  allowed = All-push (λ e. is_segment_permission e.perm.bits ≡ true) entries entry are.allowed allowed;
}

no_entry : (entries : List PageEntry) (number : ℕ) → AreEntries entries number → AreEntries (entries ++ []) (suc number)
no_entry entries number are =
    rw (append-nil entries) (record { rising = are.rising; below = λ k d within. let before = are.below k d within in omega arith; allowed = are.allowed })

pub are_entries : (segments : List Segment) (number : ℕ) → IsSegmentList segments → AreEntries (entries_below segments number) number
unfolding entries_below
are_entries segments zero list = none_yet 0
are_entries segments (suc number) list =
    let before = are_entries segments number list in
    elim (cases_lt number stack_page) [
      | inl low ↦ elim (cases_Bool (list_any (meets_page number) segments)) [
        | inl met ↦ rw (at_segments segments number low met) (one_entry (entries_below segments number) (entry_of_segments segments number) number before refl (permissions_allowed segments number list met))
        | inr unmet ↦ rw (at_nothing segments number low unmet) (no_entry (entries_below segments number) number before)
      ]
      | inr high ↦ rw (at_stack segments number high) (one_entry (entries_below segments number) (entry_of_stack number) number before refl refl)
    ]

-- the entries rise
pub entries_rise : (entries : List PageEntry) (number : ℕ) → AreEntries entries number → IsRising entries
entries_rise entries number are i j before within = are.rising i j (record { page = 0; perm = record { bits = 0 } }) before within

at_first : (b : Bool) (entry : PageEntry) (o : Option PageEntry) → (if b then Some entry else o) ≡ None → (b ≡ false) × (o ≡ None)
at_first true entry o none = cc
at_first false entry o none = (refl, none)

-- no entry passes where none is found
none_among : (p : PageEntry → Bool) (entries : List PageEntry) → find p entries ≡ None → (k : ℕ) (d : PageEntry) → k < length entries → p (get_or entries k d) ≡ false
none_among p [] none k d within = absurd (omega arith)
none_among p (entry ∷ entries) none zero d within = (at_first (p entry) entry (find p entries) none).0
none_among p (entry ∷ entries) none (suc k) d within = none_among p entries (at_first (p entry) entry (find p entries) none).1 k d (omega arith)

nothing_shown : (o : Option PageEntry) → option_map (λ (entry : PageEntry). entry.page) o ≡ None → o ≡ None
nothing_shown None none = refl
nothing_shown (Some entry) none = cc

-- entries of which none is both W and X are those of a list of pages
pub are_listed : (entries : List PageEntry) → AreEntries entries 0x4000000 → both_at entries ≡ None → IsPageList entries
are_listed entries are none = record {
  rising = are.rising;
  mapped = λ k d within.
      let below = are.below k d within in
      record {
        page = omega arith;
        permission = page_allowed (get_or entries k d).perm.bits (are.allowed k d within) (none_among (λ entry. is_write_exec entry.perm.bits) entries (nothing_shown _ none) k d within);
      };
}

nothing_both : (o : Option ℕ) → option_map WriteExec o ≡ None → o ≡ None
nothing_both None none = refl
nothing_both (Some n) none = cc

first_of_three : (a b c : Option ImageFault) → option_or a (option_or b c) ≡ None → (a ≡ None) × (c ≡ None)
first_of_three None None c none = (refl, none)
first_of_three None (Some x) c none = cc
first_of_three (Some x) b c none = cc

aligned : (a b : Bool) (fault : ImageFault) → (if a && b then None else Some fault) ≡ None → a ≡ true
aligned true b fault none = refl
aligned false b fault none = cc

-- pages without a fault
pub faultless : (entry : ℕ) (entries : List PageEntry) (bytes : List ℕ) → pages_fault entry (pages_of entries bytes) ≡ None → (both_at entries ≡ None) × (entry % 4 ≡ 0)
unfolding pages_fault
faultless entry entries bytes none =
    let parts = first_of_three (write_exec_fault (pages_of entries bytes)) (count_fault (pages_of entries bytes)) (entry_fault entry (pages_of entries bytes)) none in
    (nothing_both (both_at entries) (sym (both_of entries bytes) ∙ parts.0), eqb-true (entry % 4) 0 (aligned (eqb (entry % 4) 0) (is_code entry (pages_of entries bytes)) (EntryNotCode entry) parts.1))

-- The entries of the mapped pages below a number.
use Rattle.std.proofs.Common.{◌≡◌, ℕ, zero, suc, ◌+◌, ◌<◌, ◌≤◌, true, false, leb, inl, inr, List, map, [], ◌∷◌, ◌++◌, Option, Some, None, refl, sym, ap, ◌∙◌, append-nil, append_assoc, add-zero, arith}
use Rattle.std.proofs.Math.Nat.{add-suc}
use Rattle.std.specs.List.{list_any}
use Rattle.std.specs.Option.{option_to_list}
use Rattle.std.proofs.lemmas.Bool.{cases_Bool}
use Rattle.std.proofs.lemmas.List.{map-append}
use Rattle.std.proofs.lemmas.Bool.Decides.{nat_tests}
use Rattle.vx_base.specs.declared.perm.PageEntry.{PageEntry}
use Rattle.vx_elf.specs.declared.segment.Segment.{Segment}
use Rattle.vx_image.specs.Mapping.{meets_page, stack_page}
use Rattle.vx_image.specs.Building.{entry_of_stack, entry_of_segments, mapped_entry, is_met, numbers_below, entries_below, stack_entries}

-- the page of a number, by what it is
pub at_stack : (segments : List Segment) (number : ℕ) → stack_page ≤ number → mapped_entry segments number ≡ Some (entry_of_stack number)
unfolding mapped_entry
at_stack segments number high =
    let yes : leb stack_page number ≡ true = grind (arith, nat_tests) in
    rw yes refl

pub at_segments : (segments : List Segment) (number : ℕ) → number < stack_page → list_any (meets_page number) segments ≡ true → mapped_entry segments number ≡ Some (entry_of_segments segments number)
unfolding mapped_entry
at_segments segments number low met =
    let no : leb stack_page number ≡ false = grind (arith, nat_tests) in
    rw (no, met) refl

pub at_nothing : (segments : List Segment) (number : ℕ) → number < stack_page → list_any (meets_page number) segments ≡ false → mapped_entry segments number ≡ None
unfolding mapped_entry
at_nothing segments number low unmet =
    let no : leb stack_page number ≡ false = grind (arith, nat_tests) in
    rw (no, unmet) refl

-- one page more
more : (segments : List Segment) (number : ℕ) → entries_below segments (suc number) ≡ entries_below segments number ++ option_to_list (mapped_entry segments number)
unfolding entries_below
more segments number = refl

-- the entries below the stack's are those of the pages that the segments meet
pub met_entries : (segments : List Segment) (number : ℕ) → number ≤ stack_page → entries_below segments number ≡ map (entry_of_segments segments) (numbers_below (is_met segments) number)
unfolding entries_below numbers_below
met_entries segments zero low = refl
met_entries segments (suc number) low =
    let before = met_entries segments number (omega arith) in
    elim (cases_Bool (is_met segments number)) [
      | inl met ↦
          rw (at_segments segments number (omega arith) met, met)
          (ap (λ (es : List PageEntry). es ++ entry_of_segments segments number ∷ []) before
          ∙ sym (map-append (entry_of_segments segments) (numbers_below (is_met segments) number) (number ∷ [])))
      | inr unmet ↦
          rw (at_nothing segments number (omega arith) unmet, unmet)
          (ap (λ (es : List PageEntry). es ++ []) before
          ∙ append-nil (map (entry_of_segments segments) (numbers_below (is_met segments) number))
          ∙ sym (ap (map (entry_of_segments segments)) (append-nil (numbers_below (is_met segments) number))))
    ]

-- the pages of the stack behind those below it
stacked : (segments : List Segment) (base count : ℕ) → base ≡ stack_page → entries_below segments (base + count) ≡ entries_below segments base ++ stack_entries count
unfolding stack_entries
stacked segments base zero same = ap (entries_below segments) (add-zero base) ∙ sym (append-nil (entries_below segments base))
stacked segments base (suc count) same =
    ap (entries_below segments) (add-suc base count)
    ∙ more segments (base + count)
    ∙ ap (λ (o : Option PageEntry). entries_below segments (base + count) ++ option_to_list o) (at_stack segments (base + count) (omega arith))
    ∙ ap (λ (es : List PageEntry). es ++ entry_of_stack (base + count) ∷ []) (stacked segments base count same)
    ∙ append_assoc (entries_below segments base) (stack_entries count) (entry_of_stack (base + count) ∷ [])
    ∙ ap (λ (n : ℕ). entries_below segments base ++ (stack_entries count ++ entry_of_stack (n + count) ∷ [])) same

-- all entries
pub all_entries : (segments : List Segment) (base : ℕ) (before now : List PageEntry) → base ≡ stack_page → before ≡ entries_below segments base → now ≡ before ++ stack_entries 16 → now ≡ entries_below segments (base + 16)
all_entries segments base before now at same pushed =
    pushed ∙ ap (λ (es : List PageEntry). es ++ stack_entries 16) same ∙ sym (stacked segments base 16 at)

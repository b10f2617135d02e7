-- The faults of pages, by their entries.
use Rattle.std.proofs.Common.{◌≡◌, ℕ, suc, ◌%◌, ◌<◌, ◌≤◌, Bool, true, false, ◌&&◌, eqb, ltb, if◌then◌else◌, List, [], ◌∷◌, length, drop, take, find, Option, Some, None, option_map, refl, sym, ap, ◌∙◌, arith}
use Rattle.std.proofs.lemmas.Bool.Decides.{nat_tests}
use Rattle.vx_base.specs.declared.perm.PageEntry.{PageEntry}
use Rattle.vx_image.specs.Pages.{MappedPage}
use Rattle.vx_image.specs.Images.{is_write_exec, is_code, write_exec_fault, pages_fault}
use Rattle.vx_image.specs.Kept.{pages_by, pages_of}
use Rattle.vx_image.specs.declared.fault.ImageFault.TheVariants.{WriteExec, TooManyPages, EntryNotCode}

-- the lowest entry that may be both
abbrev pub both_at : List PageEntry → Option ℕ
both_at entries = option_map (λ (entry : PageEntry). entry.page) (find (λ (entry : PageEntry). is_write_exec entry.perm.bits) entries)

-- the entry of a page, seen as its fault
shown : (b : Bool) (entry : PageEntry) (bytes : List ℕ) (rest : Option MappedPage) (others : Option PageEntry) → option_map (λ (page : MappedPage). WriteExec page.number) rest ≡ option_map WriteExec (option_map (λ (e : PageEntry). e.page) others) → option_map (λ (page : MappedPage). WriteExec page.number) (if b then Some (record { number = entry.page; permissions = entry.perm.bits; bytes = bytes }) else rest) ≡ option_map WriteExec (option_map (λ (e : PageEntry). e.page) (if b then Some entry else others))
shown true entry bytes rest others same = refl
shown false entry bytes rest others same = same

both_by : (size : ℕ) (entries : List PageEntry) (bytes : List ℕ) → write_exec_fault (pages_by size entries bytes) ≡ option_map WriteExec (both_at entries)
unfolding pages_by
both_by size [] bytes = refl
both_by size (entry ∷ entries) bytes =
    shown (is_write_exec entry.perm.bits) entry (take size bytes) _ _ (both_by size entries (drop size bytes))

pub both_of : (entries : List PageEntry) (bytes : List ℕ) → write_exec_fault (pages_of entries bytes) ≡ option_map WriteExec (both_at entries)
unfolding pages_of
both_of entries bytes = both_by 4096 entries bytes

length_by : (size : ℕ) (entries : List PageEntry) (bytes : List ℕ) → length (pages_by size entries bytes) ≡ length entries
unfolding pages_by
length_by size [] bytes = refl
length_by size (entry ∷ entries) bytes = ap suc (length_by size entries (drop size bytes))

pub length_of : (entries : List PageEntry) (bytes : List ℕ) → length (pages_of entries bytes) ≡ length entries
unfolding pages_of
length_of entries bytes = length_by 4096 entries bytes

module _ (entry : ℕ) (entries : List PageEntry) (bytes : List ℕ) where
  pub fault_both : (page : ℕ) → Some page ≡ both_at entries → Some (WriteExec page) ≡ pages_fault entry (pages_of entries bytes)
  unfolding pages_fault
  fault_both page found =
      let first : write_exec_fault (pages_of entries bytes) ≡ Some (WriteExec page) = both_of entries bytes ∙ ap (option_map WriteExec) (sym found) in
      rw first refl

  no_both : None ≡ both_at entries → write_exec_fault (pages_of entries bytes) ≡ None
  no_both none = both_of entries bytes ∙ ap (option_map WriteExec) (sym none)

  pub fault_count : None ≡ both_at entries → 4096 < length entries → Some (TooManyPages (length entries)) ≡ pages_fault entry (pages_of entries bytes)
  unfolding pages_fault
  fault_count none many =
      let yes : ltb 4096 (length entries) ≡ true = grind (arith, nat_tests) in
      rw (no_both none, length_of entries bytes, yes) refl

  pub fault_entry : None ≡ both_at entries → length entries ≤ 4096 → (eqb (entry % 4) 0 && is_code entry (pages_of entries bytes)) ≡ false → Some (EntryNotCode entry) ≡ pages_fault entry (pages_of entries bytes)
  unfolding pages_fault
  fault_entry none few wrong =
      let no : ltb 4096 (length entries) ≡ false = grind (arith, nat_tests) in
      rw (no_both none, length_of entries bytes, no, wrong) refl

  pub fault_none : None ≡ both_at entries → length entries ≤ 4096 → (eqb (entry % 4) 0 && is_code entry (pages_of entries bytes)) ≡ true → None ≡ pages_fault entry (pages_of entries bytes)
  unfolding pages_fault
  fault_none none few right =
      let no : ltb 4096 (length entries) ≡ false = grind (arith, nat_tests) in
      rw (no_both none, length_of entries bytes, no, right) refl

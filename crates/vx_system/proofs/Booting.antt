-- The system at boot.
use Rattle.std.proofs.Common.{◌≡◌, ℕ, ◌+◌, ◌%◌, ◌<◌, ◌≤◌, List, [], ◌∷◌, length, map, refl, sym, ap, subst, ◌∙◌, arith}
use Rattle.std.proofs.lemmas.List.{get_or-map, length-map}
use Rattle.std.specs.Prelude.{All, IsTrue, false, min, ◌++◌, Some, None}
use Rattle.vx_base.specs.Options.{is_register_length}
use Rattle.vx_base.specs.declared.options.Options.{Options}
use Rattle.vx_base.specs.Pages.{IsPageList, is_page_permission}
use Rattle.vx_base.specs.declared.perm.PageEntry.{PageEntry}
use Rattle.vx_cells.specs.Cells.{CellsState, Makes}
use Rattle.vx_episode.specs.Show.{Registers, Shows}
use Rattle.vx_flat.specs.Boot.{booted, first_registers}
use Rattle.vx_flat.specs.Splits.{HasPermission, IsRunnable, IsWellFormed}
use Rattle.vx_flat.specs.declared.hart.Hart.{Hart}
use Rattle.vx_image.specs.Images.{entry_of_page}
use Rattle.vx_image.specs.Pages.{Image, Memory}
use Rattle.vx_image.specs.Tables.{table_frames}
use Rattle.vx_machine.specs.Machine.{booted_residency, needed_frames}
use Rattle.vx_paged.specs.Booting.{page_frame, page_writes, residency_at}
use Rattle.vx_paged.specs.Booting as paged
use Rattle.vx_paged.specs.Framed.{entries_of, in_turn, shown}
use Rattle.vx_paged.specs.Placed.{IsPlacedAs, IsWhole}
use Rattle.vx_paged.specs.declared.placement.FramedPage.{FramedPage}
use Rattle.vx_system.specs.Runs.{SystemState, Boots, settings_of}
use Rattle.vx_tables.specs.Building.{table_writes}
use Rattle.vx_tables.specs.Residency.{Residency, at_boot}
use Rattle.vx_vstate.specs.State.{first_state}

pub entries-in-turn : (first : ℕ) (entries : List PageEntry) → entries_of (in_turn first entries) ≡ entries
entries-in-turn first [] = refl
entries-in-turn first (e ∷ entries) = ap (λ (l : List PageEntry). e ∷ l) (entries-in-turn (first + 1) entries)

pub permitted : (pages : Memory) → IsPageList (map entry_of_page pages) → All HasPermission pages
permitted pages h k d small =
    let as-many : length (map entry_of_page pages) ≡ length pages = length-map pages entry_of_page in
    let below : k < length (map entry_of_page pages) = omega (arith, small, as-many) in
    subst (λ (e : PageEntry). IsTrue (is_page_permission e.perm.bits)) (get_or-map entry_of_page pages k d (entry_of_page d) small)
    (h.mapped k (entry_of_page d) below).permission

-- the system at boot
abbrev pub first_system : Options → Image → List FramedPage → SystemState
first_system options image placement = record {
  settings = settings_of options;
  registers = record { pc = image.entry; x = first_registers; v = first_state options.vlen };
  placement = placement;
  output = [];
  count = 0;
  over = None;
  cycles = 0;
  clock = 0;
  slice_end = None;
  has_run = false;
}

abbrev pub WellLaw : Type 0
WellLaw = (hart : Hart) (image : Image) → IsRunnable hart image → IsWellFormed (booted hart image)

abbrev pub WholeLaw : Type 0
WholeLaw = (placement : List FramedPage) (contents : List ℕ) → IsWhole (shown placement contents)

pub Boots-from : WellLaw → WholeLaw → (options : Options) (image : Image) (c d : CellsState) (placement : List FramedPage) (s : SystemState) → paged.Boots c d 0 image.pages placement
    → c.cycle ≡ 0 → IsTrue (is_register_length options.vlen) → image.entry % 4 ≡ 0 → needed_frames image ≤ min options.frames c.frames
    → s ≡ first_system options image placement → Boots options image c d s
unfolding booted
Boots-from well whole options image c d placement s b cycle long entry room is =
    let hart : Hart = (settings_of options).hart in
    let start = booted hart image in
    let tables : 0 + table_frames image.pages ≡ table_frames image.pages = omega arith in
    let residency : residency_at 0 image.pages ≡ booted_residency image = ap (λ (n : ℕ). at_boot (Some n) (map entry_of_page image.pages)) tables in
    let listed : IsPageList (map entry_of_page image.pages) =
    subst (λ (l : List PageEntry). IsPageList l) (ap entries_of b.placed ∙ entries-in-turn (page_frame 0 image.pages) (map entry_of_page image.pages)) b.kept.listed in
    let runnable : IsRunnable hart image = record { length = long; entry = entry; pages = permitted image.pages listed } in
    let registers : Registers = (first_system options image placement).registers in
    let Is : SystemState → Type 0 = λ x. Boots options image c d x in
    subst Is (sym is) (record {
      settings = refl;
      runnable = runnable;
      room = room;
      makes = subst (λ (r : Residency). Makes c d (table_writes c.cycle r 0 (table_frames image.pages) ++ page_writes c.cycle placement image.pages (length image.pages))) residency b.makes;
      stands = record {
        shows = subst (λ (r : Residency). Shows registers d 0 r start) residency (b.shows start refl);
        placed = subst (λ (r : Residency). IsPlacedAs placement r) residency b.same;
        kept = b.kept;
        fits = b.fits;
        formed = λ running. well hart image runnable;
        whole = subst (λ (m : Memory). IsWhole m) b.is_shown (whole placement d.contents);
        output = refl;
        count = refl;
        over = refl;
        cycles = refl;
        clock = refl;
        cycle = b.makes.cycle ∙ cycle;
        slice_end = refl;
        has_run = refl;
      };
    })

-- One word more.
use Rattle.std.proofs.Common.{◌≡◌, ℕ, suc, ◌+◌, ◌*◌, List, [], ◌∷◌, ◌++◌, refl, sym, subst, arith}
use Rattle.vx_cells.specs.Cells.{CellsState, Makes}
use Rattle.vx_cells.specs.declared.access.Access.{Access}
use Rattle.vx_image.specs.Pages.{Memory}
use Rattle.vx_paged.specs.Booting.{framed_at, page_at, page_writes, word_in}
use Rattle.vx_paged.specs.declared.placement.FramedPage.{FramedPage}
use Rattle.vx_tables.specs.Building.{kernel_write, kernel_writes}

abbrev pub Joins : Type 0
Joins = (before between after : CellsState) (first second : List Access) → Makes before between first → Makes between after second → Makes before after (first ++ second)

pub no-words : ((state : CellsState) → Makes state state []) → (state : CellsState) (start : ℕ) (v : ℕ → ℕ) → Makes state state (kernel_writes state.cycle start v 0)
unfolding kernel_writes
no-words none state start v = none state

kernel_writes-next : (cycle start : ℕ) (v : ℕ → ℕ) (i : ℕ) → kernel_writes cycle start v (i + 1) ≡ kernel_writes cycle start v i ++ kernel_write cycle (start + i) (v i) ∷ []
unfolding kernel_writes
kernel_writes-next cycle start v i = let e : i + 1 ≡ suc i = omega arith in rw e refl

pub one-more : Joins → (before now after : CellsState) (start : ℕ) (v : ℕ → ℕ) (i word value : ℕ) → word ≡ start + i → value ≡ v i → Makes before now (kernel_writes before.cycle start v i) → Makes now after (kernel_write now.cycle word value ∷ []) → Makes before after (kernel_writes before.cycle start v (i + 1))
one-more joins before now after start v i word value at is begun made =
    let one : Makes now after (kernel_write before.cycle (start + i) (v i) ∷ []) =
    subst (λ (n : ℕ). Makes now after (kernel_write before.cycle (start + i) n ∷ [])) is
    (subst (λ (n : ℕ). Makes now after (kernel_write before.cycle n value ∷ [])) at
    (subst (λ (cycle : ℕ). Makes now after (kernel_write cycle word value ∷ [])) begun.cycle made)) in
    subst (λ (accesses : List Access). Makes before after accesses) (sym (kernel_writes-next before.cycle start v i)) (joins before now after _ _ begun one)

-- one page more
page_writes-next : (cycle : ℕ) (placement : List FramedPage) (pages : Memory) (k : ℕ) → page_writes cycle placement pages (k + 1) ≡ page_writes cycle placement pages k ++ kernel_writes cycle (512 * (framed_at placement k).frame) (word_in (page_at pages k).bytes) 512
unfolding page_writes
page_writes-next cycle placement pages k = let e : k + 1 ≡ suc k = omega arith in rw e refl

pub no-pages : ((state : CellsState) → Makes state state []) → (state : CellsState) (placement : List FramedPage) (pages : Memory) → Makes state state (page_writes state.cycle placement pages 0)
unfolding page_writes
no-pages none state placement pages = none state

pub page-more : Joins → (before now after : CellsState) (placement : List FramedPage) (pages : Memory) (k frame : ℕ) (bytes : List ℕ) → frame ≡ (framed_at placement k).frame → bytes ≡ (page_at pages k).bytes → Makes before now (page_writes before.cycle placement pages k) → Makes now after (kernel_writes now.cycle (512 * frame) (word_in bytes) 512) → Makes before after (page_writes before.cycle placement pages (k + 1))
page-more joins before now after placement pages k frame bytes in_frame are begun made =
    let one : Makes now after (kernel_writes before.cycle (512 * (framed_at placement k).frame) (word_in (page_at pages k).bytes) 512) =
    subst (λ (bs : List ℕ). Makes now after (kernel_writes before.cycle (512 * (framed_at placement k).frame) (word_in bs) 512)) are
    (subst (λ (f : ℕ). Makes now after (kernel_writes before.cycle (512 * f) (word_in bytes) 512)) in_frame
    (subst (λ (cycle : ℕ). Makes now after (kernel_writes cycle (512 * frame) (word_in bytes) 512)) begun.cycle made)) in
    subst (λ (accesses : List Access). Makes before after accesses) (sym (page_writes-next before.cycle placement pages k)) (joins before now after _ _ begun one)

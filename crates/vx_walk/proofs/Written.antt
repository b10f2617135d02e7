-- One word more.
use Rattle.std.proofs.Common.{◌≡◌, ℕ, suc, ◌+◌, List, [], ◌∷◌, ◌++◌, refl, sym, subst, arith}
use Rattle.vx_cells.specs.Cells.{CellsState, Makes}
use Rattle.vx_cells.specs.declared.access.Access.{Access}
use Rattle.vx_tables.specs.Building.{kernel_write, kernel_writes}

abbrev pub Joins : Type 0
Joins = (before between after : CellsState) (first second : List Access) → Makes before between first → Makes between after second → Makes before after (first ++ second)

pub no-words : ((state : CellsState) → Makes state state []) → (state : CellsState) (start : ℕ) (v : ℕ → ℕ) → Makes state state (kernel_writes state.cycle start v 0)
unfolding kernel_writes
no-words none state start v = none state

kernel_writes-next : (cycle start : ℕ) (v : ℕ → ℕ) (i : ℕ) → kernel_writes cycle start v (i + 1) ≡ kernel_writes cycle start v i ++ kernel_write cycle (start + i) (v i) ∷ []
unfolding kernel_writes
kernel_writes-next cycle start v i = let e : i + 1 ≡ suc i = omega arith in rw e refl

pub one-more : Joins → (before now after : CellsState) (start : ℕ) (v : ℕ → ℕ) (i word value : ℕ) → word ≡ start + i → value ≡ v i → Makes before now (kernel_writes before.cycle start v i) → Makes now after (kernel_write now.cycle word value ∷ []) → Makes before after (kernel_writes before.cycle start v (i + 1))
one-more joins before now after start v i word value at is begun made =
    let one : Makes now after (kernel_write before.cycle (start + i) (v i) ∷ []) =
    subst (λ (n : ℕ). Makes now after (kernel_write before.cycle (start + i) n ∷ [])) is
    (subst (λ (n : ℕ). Makes now after (kernel_write before.cycle n value ∷ [])) at
    (subst (λ (cycle : ℕ). Makes now after (kernel_write cycle word value ∷ [])) begun.cycle made)) in
    subst (λ (accesses : List Access). Makes before after accesses) (sym (kernel_writes-next before.cycle start v i)) (joins before now after _ _ begun one)

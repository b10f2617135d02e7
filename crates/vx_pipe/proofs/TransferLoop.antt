-- All elements of a vector load or store, one behind another.
use Rattle.std.proofs.Common.{◌≡◌, ℕ, suc, ◌+◌, ◌-◌, ◌<◌, ◌≤◌, true, false, inl, inr, List, [], ◌∷◌, ◌++◌, length, refl, sym, ap, subst, ◌∙◌, arith}
use Rattle.std.specs.Prelude.{Option, None, ◌&&◌, nat_le, nat_lt}
use Rattle.std.proofs.lemmas.Bool.{and_parts, cases_Bool, false≢true, leb-false, leb-true, ltb-false, ltb-true}
use Rattle.vx_cells.specs.Cells.{CellsState}
use Rattle.vx_flat.specs.Transfers.{Transfer, first_failure}
use Rattle.vx_image.specs.Pages.{Memory}
use Rattle.vx_tables.specs.Residency.{IsOf}
use Rattle.vx_tlb.specs.declared.tlb.Kept.{Kept}
use Rattle.vx_vector.specs.Accesses.{accesses_between, movement_count}
use Rattle.vx_episode.specs.Commits.{Happening, happening}
use Rattle.vx_episode.specs.Commits.What.{Reaches}
use Rattle.vx_episode.specs.Footprint.{Batch, Footprint}
use Rattle.vx_episode.specs.History.{History, Entry, BatchTimes}
use Rattle.vx_episode.specs.Organisation.{Start}
use Rattle.vx_batching.specs.Batching.{IsReached, reached}
use Rattle.vx_ending.specs.Counts.{commits_in}
use Rattle.vx_serve.specs.Stamps.{BankStamps}
use Rattle.vx_pipe.specs.Passing.{AreCounted, IsPassing, IsSoon, IsThrough}
use Rattle.vx_pipe.specs.Transfers.{IsTransferring, element_batch, element_batches}
use Rattle.vx_pipe.specs.declared.passing.Passing.{Passing}
use Rattle.vx_pipe.proofs.TransferValues.{all-free}

-- of some elements there is a first one
pub next-batches : (t : Transfer) (count i : ℕ) → i < count → element_batches t (count - i) i ≡ element_batch t i ∷ element_batches t (count - (i + 1)) (i + 1)
next-batches t count i below = let more : count - i ≡ suc (count - (i + 1)) = omega (arith, below) in ap (λ (n : ℕ). element_batches t n i) more

pub no-batches-left : (t : Transfer) (count i : ℕ) → count ≤ i → element_batches t (count - i) i ≡ []
no-batches-left t count i over = let none : count - i ≡ 0 = omega (arith, over) in ap (λ (n : ℕ). element_batches t n i) none

abbrev pub CommitMore : Type 0
CommitMore = (start : Start) (history : History) (retired issued : ℕ) (f : Footprint) (last : BatchTimes) (own : List BatchTimes) (rest : List Batch) (looked committed before done : ℕ) (e : Entry)
    → IsReached start history retired issued f (last ∷ own) rest looked committed before done
    → reached e (last ∷ own) ≡ reached e own ++ happening e (Reaches last.after) committed ∷ []

abbrev pub AddCommits : Type 0
AddCommits = (some others : List Happening) → commits_in (some ++ others) ≡ commits_in some + commits_in others

-- the commits but the last
pub one-less : CommitMore → AddCommits → (start : Start) (history : History) (retired issued : ℕ) (f : Footprint) (last : BatchTimes) (own : List BatchTimes) (rest : List Batch) (looked committed before done : ℕ) (e : Entry)
    → IsReached start history retired issued f (last ∷ own) rest looked committed before done → commits_in (reached e (last ∷ own)) ≡ length (last ∷ own) → commits_in (reached e own) ≡ length own
one-less more add start history retired issued f last own rest looked committed before done e so all =
    let sum : commits_in (reached e (last ∷ own)) ≡ commits_in (reached e own) + 1 =
    ap commits_in (more start history retired issued f last own rest looked committed before done e so) ∙ add (reached e own) (happening e (Reaches last.after) committed ∷ []) in
    let long : length (last ∷ own) ≡ suc (length own) = refl in
    omega (arith, sum, all, long)

-- behind the last element the instruction completes
module _ (more : CommitMore) (add : AddCommits) (start : Start) (history : History) (e : Entry) (retired issued : ℕ) (f : Footprint) (t : Transfer) (i : ℕ) (n : Passing) (root : ℕ) (places : List (Option Kept)) (stamps : BankStamps) (first cells : CellsState) where
  through-by : (own : List BatchTimes) → IsTransferring start history e retired issued f own [] n.looked n.committed n.before n.done root places stamps first cells → t.movement.at.vstart + length own ≡ i + 1 → t.movement.at.vstart < i + 1 → AreCounted own
      → ((memory : Memory) → IsOf start.residency memory → first_failure t.direction memory (accesses_between t.movement 0 (movement_count t.movement)) ≡ None)
      → IsThrough start history e retired issued f t i n root places stamps first cells
  through-by [] so count some counted free = absurd (omega (arith, count, some))
  through-by (last ∷ own) so count some counted free = record {
    own = own;
    last = last;
    transferring = so;
    count = omega (arith, count);
    commits = λ other. one-less more add start history retired issued f last own [] n.looked n.committed n.before n.done other so.reached (counted.commits other);
    completes = λ s of. all-free t s (free s.memory of);
  }

  pub through-all : (count : ℕ) → count ≡ i + 1 → count ≡ movement_count t.movement → t.movement.at.vstart < i + 1 → IsPassing start history e retired issued f t count (element_batches t (count - count) count) n root places stamps first cells
      → IsThrough start history e retired issued f t i n root places stamps first cells
  through-all count last is some p =
      through-by p.own
      (subst (λ (bs : List Batch). IsTransferring start history e retired issued f p.own bs n.looked n.committed n.before n.done root places stamps first cells) (no-batches-left t count count (omega arith)) p.transferring)
      (p.count ∙ last) some p.counted
      (λ memory of. ap (λ (k : ℕ). first_failure t.direction memory (accesses_between t.movement 0 k)) (sym is) ∙ p.free memory of)

pub sooner : (a b : ℕ) (n : Passing) → a ≤ b → IsSoon a n → IsSoon b n
sooner a b n le h = record { looked = omega (arith, le, h.looked); committed = omega (arith, le, h.committed); done = omega (arith, le, h.done) }

pub early-by : (i count until committed : ℕ) → (nat_lt i count && nat_le until committed) ≡ false → i < count → committed < until
early-by i count until committed is below =
    elim (cases_Bool (nat_le until committed)) [
      | inl late ↦ elim (cases_Bool (nat_lt i count)) [
        | inl less ↦ absurd (false≢true (sym is ∙ (λ j. less j && late j)))
        | inr over ↦ absurd (omega (arith, below, ltb-false i count over))
      ]
      | inr early ↦ omega (arith, leb-false until committed early)
    ]

pub late-by : (i count until committed : ℕ) → (nat_lt i count && nat_le until committed) ≡ true → (i < count) × (until ≤ committed)
late-by i count until committed is =
    let parts = and_parts (nat_lt i count) (nat_le until committed) is in
    (ltb-true i count parts.0, leb-true until committed parts.1)

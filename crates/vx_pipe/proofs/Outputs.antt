-- What was written so far doesn't tell what comes next.
use Rattle.std.proofs.Common.{◌≡◌, ℕ, Bool, List, Some, None, refl, sym, ap, ◌∙◌}
use Rattle.std.specs.Prelude.{Option, if◌then◌else◌}
use Rattle.vx_base.specs.declared.machine.Want.TheVariants.{Fetch}
use Rattle.vx_cells.specs.Cells.{CellsState}
use Rattle.vx_decode.specs.Decoded.{decoded}
use Rattle.vx_decode.specs.declared.instr.Instr.{Instr}
use Rattle.vx_episode.specs.Organisation.{Organisation}
use Rattle.vx_episode.specs.Show.{Registers}
use Rattle.vx_flat.specs.State.{Flat}
use Rattle.vx_flat.specs.Step.{is_legal_as, meaning, upcoming, word_at_pc}
use Rattle.vx_flat.specs.declared.upcoming.Upcoming.{Upcoming}
use Rattle.vx_flat.specs.declared.upcoming.Upcoming.TheVariants.{Denied, Illegal, Instruction}
use Rattle.vx_image.specs.Pages.{permits}
use Rattle.vx_course.specs.Course.{Course}
use Rattle.vx_paged.specs.declared.placement.FramedPage.{FramedPage}
use Rattle.vx_rows.specs.Table.{class_of}
use Rattle.vx_rows.specs.declared.row.Class.{Class}
use Rattle.vx_rows.specs.declared.row.Class.TheVariants as class
use Rattle.vx_pipe.specs.Going.{Caches}
use Rattle.vx_pipe.specs.Playing.{shown_state}
use Rattle.vx_pipe.specs.Turning.{IsIssued}

legal-same : (c : Class) (s : Flat) (output : List ℕ) (i : Instr) → is_legal_as c (record s { output = output }) i ≡ is_legal_as c s i
legal-same class.Csr s output i = refl
legal-same other s output i = refl

meaning-same : (s : Flat) (output : List ℕ) (word : ℕ) (o : Option Instr) → meaning (record s { output = output }) word o ≡ meaning s word o
meaning-same s output word None = refl
meaning-same s output word (Some i) = ap (λ (b : Bool). if b then Instruction i else Illegal word) (legal-same (class_of i.op) s output i)

next-same : (s : Flat) (output : List ℕ) → upcoming (record s { output = output }) ≡ upcoming s
unfolding upcoming
next-same s output = ap (λ (next : Upcoming). if permits s.memory s.pc Fetch then next else Denied) (meaning-same s output (word_at_pc s) (decoded (word_at_pc s)))

pub next-any : (s : Flat) (output : List ℕ) (word : ℕ) (i : Instr) → upcoming s ≡ meaning s word (Some i) → upcoming (record s { output = output }) ≡ meaning (record s { output = output }) word (Some i)
next-any s output word i is = next-same s output ∙ is ∙ sym (meaning-same s output word (Some i))

-- the instruction that was issued, whatever was written
pub issued-next : (machine : Organisation) (root until : ℕ) (placement : List FramedPage) (course : Course) (fetched : ℕ) (caches : Caches) (cells : CellsState) (registers : Registers) (word : ℕ) (i : Instr) → IsIssued machine root until placement course fetched caches cells registers word i
    → (output : List ℕ) → upcoming (shown_state registers placement cells output) ≡ meaning (shown_state registers placement cells output) word (Some i)
issued-next machine root until placement course fetched caches cells registers word i t output = next-any (shown_state registers placement cells t.output) output word i t.next

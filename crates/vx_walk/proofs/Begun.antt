-- A whole walk, step by step.
use Rattle.std.proofs.Common.{◌≡◌, ℕ, zero, suc, ◌+◌, ◌^◌, ◌<◌, inl, inr, List, [], ◌∷◌, ◌++◌, map, None, refl, sym, ap, subst, lit<, ◌∙◌, arith}
use Rattle.std.specs.Prelude.{nat_lt, slice_index}
use Rattle.std.specs.Option.{option_to_list}
use Rattle.std.proofs.lemmas.Bool.{cases_Bool}
use Rattle.std.proofs.lemmas.List.{map-append}
use Rattle.vx_base.specs.declared.machine.Want.{Want}
use Rattle.vx_cells.specs.Cells.{CellsState, Makes, with_accesses}
use Rattle.vx_cells.specs.declared.access.Access.{Access}
use Rattle.vx_cells.specs.declared.access.Port.{Port}
use Rattle.vx_tables.specs.Entries.{frame_in, is_pointer}
use Rattle.vx_tables.specs.Residency.{Residency, after_walk, page_map, pages_of}
use Rattle.vx_tables.specs.Tables.{AreHeld, SameBut, table_count}
use Rattle.vx_tables.specs.Walking.{Walking, stage_behind, stage_after, steps_left, IsWalk, Ticks, WalkGoesOn, WalkEnds, Walks}
use Rattle.vx_tables.specs.Walks.{Walk, entry_word, table_walk, walk_port, read_entry, written_entry}
use Rattle.vx_tables.specs.declared.stage.Stage.{Stage}
use Rattle.vx_tables.specs.declared.stage.Stage.TheVariants as stage
use Rattle.vx_tables.specs.declared.stage.TableEntry.{TableEntry}
use Rattle.vx_tables.specs.declared.walked.Walked.{Walked}

-- a walk that reads these entries was begun in some cells, and is so far
pub record IsBegun (before now : CellsState) (residency : Residency) (root address : ℕ) (want : Want) (walking : Walking) : Type 0 where
  pub done : List TableEntry
  pub walk : IsWalk residency root walking done
  pub held : AreHeld now root residency
  pub makes : Makes before now (map (read_entry before.cycle (walk_port want)) done)
  pub same_address : walking.address ≡ address
  pub same_want : walking.want ≡ want
  pub same_port : walking.port ≡ walk_port want

abbrev pub Joins : Type 0
Joins = (before between after : CellsState) (first second : List Access) → Makes before between first → Makes between after second → Makes before after (first ++ second)

-- what a step leaves of the walk's address, want and port
next_is : (before after : CellsState) (walking next : Walking) (s : Stage) → Ticks before after walking next s None → (next.address ≡ walking.address) × (next.want ≡ walking.want) × (next.port ≡ walking.port)
next_is before after walking next (stage.Reads level frame) step =
    (ap (λ (w : Walking). w.address) step.becomes, ap (λ (w : Walking). w.want) step.becomes, ap (λ (w : Walking). w.port) step.becomes)
next_is before after walking next (stage.Ends last write) step = absurd (cc step.ends)
next_is before after walking next stage.Over step = absurd step

-- a step that reads leaves fewer
fewer-behind : (want : Want) (address level frame value : ℕ) → steps_left (stage_behind want address level frame value) < level + 2
fewer-behind want address zero frame value = lit< tt
fewer-behind want address (suc level) frame value =
    elim (cases_Bool (is_pointer value)) [
      | inl is ↦ rw is (omega arith)
      | inr fails ↦ rw fails (omega arith)
    ]

fewer-after : (want : Want) (address level frame value : ℕ) → steps_left (stage_after want address level frame value) < level + 2
fewer-after want address level frame value =
    elim (cases_Bool (nat_lt (frame_in value) (2 ^ 32))) [
      | inl is ↦ let behind = fewer-behind want address level frame value in rw is behind
      | inr fails ↦ rw fails (omega arith)
    ]

pub fewer : (before after : CellsState) (walking next : Walking) (s : Stage) → walking.stage ≡ s → Ticks before after walking next s None → steps_left next.stage < steps_left walking.stage
fewer before after walking next (stage.Reads level frame) at step =
    let left : steps_left walking.stage ≡ level + 2 = ap steps_left at in
    let value : ℕ = slice_index before.contents (entry_word frame walking.address level) in
    let later : steps_left next.stage ≡ steps_left (stage_after walking.want walking.address level frame value) = ap (λ (w : Walking). steps_left w.stage) step.becomes in
    omega (arith, left, later, fewer-after walking.want walking.address level frame value)
fewer before after walking next (stage.Ends last write) at step = absurd (cc step.ends)
fewer before after walking next stage.Over at step = absurd step

-- one read more
pub IsBegun-more : Joins → (before now after : CellsState) (residency : Residency) (root address : ℕ) (want : Want) (walking next : Walking) → (begun : IsBegun before now residency root address want walking) → Ticks now after walking next walking.stage None → WalkGoesOn now after residency root walking next begun.done → IsBegun before after residency root address want next
IsBegun-more joins before now after residency root address want walking next begun step reads =
    let same = next_is now after walking next walking.stage step in
    let one : Makes now after (map (read_entry before.cycle (walk_port want)) (reads.entry ∷ [])) =
    subst (λ (port : Port). Makes now after (read_entry before.cycle port reads.entry ∷ [])) begun.same_port
    (subst (λ (cycle : ℕ). Makes now after (read_entry cycle walking.port reads.entry ∷ [])) begun.makes.cycle reads.makes) in
    record {
      done = begun.done ++ reads.entry ∷ [];
      walk = reads.walk;
      held = reads.held;
      makes = subst (λ (accesses : List Access). Makes before after accesses) (sym (map-append (read_entry before.cycle (walk_port want)) begun.done (reads.entry ∷ []))) (joins before now after _ _ begun.makes one);
      same_address = same.0 ∙ begun.same_address;
      same_want = same.1 ∙ begun.same_want;
      same_port = same.2 ∙ begun.same_port;
    }

-- reads leave the contents
reads-stay : (cycle : ℕ) (port : Port) (entries : List TableEntry) (contents : List ℕ) → with_accesses contents (map (read_entry cycle port) entries) ≡ contents
reads-stay cycle port [] contents = refl
reads-stay cycle port (e ∷ entries) contents = reads-stay cycle port entries contents

-- the end
pub Walks-end : Joins → (before now after : CellsState) (residency : Residency) (root address : ℕ) (want : Want) (walking : Walking) (answer : Walked) → (begun : IsBegun before now residency root address want walking) → WalkEnds now after residency residency root walking begun.done answer → Walks before after residency root address want answer
Walks-end joins before now after residency root address want walking answer begun ends =
    let same : table_walk residency root walking.address walking.want ≡ table_walk residency root address want =
    ap (λ (a : ℕ). table_walk residency root a walking.want) begun.same_address ∙ ap (table_walk residency root address) begun.same_want in
    let whole : Walk = table_walk residency root address want in
    let reads : begun.done ≡ whole.reads = sym ends.reads ∙ ap (λ (w : Walk). w.reads) same in
    let last : Makes now after (map (written_entry before.cycle (walk_port want)) (option_to_list whole.write)) =
    subst (λ (w : Walk). Makes now after (map (written_entry before.cycle (walk_port want)) (option_to_list w.write))) same
    (subst (λ (port : Port). Makes now after (map (written_entry before.cycle port) (option_to_list (table_walk residency root walking.address walking.want).write))) begun.same_port
    (subst (λ (cycle : ℕ). Makes now after (map (written_entry cycle walking.port) (option_to_list (table_walk residency root walking.address walking.want).write))) begun.makes.cycle ends.makes)) in
    let kept : now.contents ≡ before.contents = begun.makes.contents ∙ reads-stay before.cycle (walk_port want) begun.done before.contents in
    record {
      makes = subst (λ (entries : List TableEntry). Makes before after (map (read_entry before.cycle (walk_port want)) entries ++ map (written_entry before.cycle (walk_port want)) (option_to_list whole.write))) reads (joins before now after _ _ begun.makes last);
      answer = ends.answer ∙ ap (λ (a : ℕ). page_map residency a walking.want) begun.same_address ∙ ap (page_map residency address) begun.same_want;
      held = subst (λ (w : Want). AreHeld after root (after_walk residency address w)) begun.same_want (subst (λ (a : ℕ). AreHeld after root (after_walk residency a walking.want)) begun.same_address ends.held);
      others = subst (λ (ws : List ℕ). SameBut root (table_count (pages_of residency)) ws after.contents) kept ends.others;
    }

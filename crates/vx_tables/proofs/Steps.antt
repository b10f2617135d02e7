-- The steps of a walk through tables.
use Rattle.std.proofs.Common.{◌≡◌, ℕ, zero, suc, ◌+◌, ◌*◌, ◌^◌, ◌<◌, ◌≤◌, Bool, true, false, inl, inr, List, [], ◌∷◌, ◌++◌, length, get_or, set, Some, None, map, refl, sym, ap, subst, lit<, ◌∙◌, arith, append_assoc, append-nil, get_or-set_other}
use Rattle.std.specs.Prelude.{Option, option_map, IfSome, slice_index, ◌&&◌, nat_le, nat_lt, if◌then◌else◌}
use Rattle.std.specs.Option.{option_map_or, option_to_list}
use Rattle.std.proofs.lemmas.Bool.{cases_Bool, lt-ltb, le-leb, false≢true}
use Rattle.std.proofs.lemmas.List.{append_cancel_right}
use Rattle.vx_base.specs.Numbers.{field}
use Rattle.vx_base.specs.Pages.{IsPageList}
use Rattle.vx_base.specs.declared.machine.Want.{Want}
use Rattle.vx_base.specs.declared.perm.PageEntry.{PageEntry}
use Rattle.vx_cells.specs.Cells.{CellsState, Makes, with_accesses, read_at}
use Rattle.vx_cells.specs.Merging.{merged}
use Rattle.vx_cells.specs.declared.access.Port.{Port}
use Rattle.vx_tables.specs.Entries.{pointer, page_entry, frame_in, is_pointer, leaf_written}
use Rattle.vx_tables.specs.Residency.{PlacedPage, Residency, pages_of, placed, after_walk, AreBelow}
use Rattle.vx_tables.specs.Tables.{gib, mib2, has_region, second_frame, leaf_frame, root_entry, second_entry, leaf_entry, table_word, table_count, Stand, AreHeld, SameBut}
use Rattle.vx_tables.specs.Walking.{Walking, first_stage, stage_behind, stage_after, reading_first, rest_of, IsTable, IsStage, IsWalk, Agree, CanTick, WalkGoesOn, WalkEnds}
use Rattle.vx_image.specs.Pages.{is_canonical}
use Rattle.vx_tables.specs.Walks.{Walk, entry_word, reading, walk_from, walk, table_walk, with_entry, written_entry}
use Rattle.vx_tables.specs.declared.stage.Stage.{Stage}
use Rattle.vx_tables.specs.declared.stage.Stage.TheVariants as stage
use Rattle.vx_tables.specs.declared.stage.TableEntry.{TableEntry}
use Rattle.vx_tables.specs.declared.walked.Walked.{Walked}
use Rattle.vx_tables.specs.declared.walked.Walked.TheVariants as walked
use Rattle.vx_tables.proofs.Agreeing.{page_map-agree}
use Rattle.vx_tables.proofs.Built.{inner}
use Rattle.vx_tables.proofs.Decoded.{permission_small, is_pointer-pointer, frame_in-pointer, page_entry-frame}
use Rattle.vx_tables.proofs.Descents.{region2, region1, page0, walk0, walk1, walk2, table_walk-expected, table_walk-answer, Stand-after_walk, small-write, placed-mapped, expected0, expected1, expected2}
use Rattle.vx_tables.proofs.Held.{placed-below, AreBelow-after_walk, pages_of-after_walk, AreHeld-after}
use Rattle.vx_tables.proofs.Places.{table_word-root, table_word-second, table_word-leaf, second_frame-within, leaf_frame-within}

-- the end of a walk without a leaf
abbrev lost : Stage
lost = stage.Ends walked.Denied None

-- the rest of a walk is its next read and the rest from there
rest-behind : (memory : ℕ → ℕ) (want : Want) (address level frame : ℕ) → rest_of memory want address (stage.Reads level frame) ≡ reading (entry_word frame address level) (memory (entry_word frame address level)) (rest_of memory want address (stage_behind want address level frame (memory (entry_word frame address level))))
rest-behind memory want address zero frame = refl
rest-behind memory want address (suc level) frame =
    elim (cases_Bool (is_pointer (memory (entry_word frame address (suc level))))) [
      | inl is ↦ rw is refl
      | inr fails ↦ rw fails refl
    ]

-- an entry whose frame fits
stage-fits : (want : Want) (address level frame value : ℕ) → frame_in value < 2 ^ 32 → stage_after want address level frame value ≡ stage_behind want address level frame value
stage-fits want address level frame value small = rw (lt-ltb (frame_in value) (2 ^ 32) small) refl

-- the walk that begins
pub begins : (residency : Residency) (root address : ℕ) (want : Want) (port : Port) → IsPageList (pages_of residency) → IsWalk residency root (record { address = address; want = want; port = port; stage = first_stage root address }) []
unfolding walk table_walk
begins residency root address want port listed =
    elim (cases_Bool (is_canonical address)) [
      | inl is ↦ record { stage = rw is (is, refl); whole = rw is refl }
      | inr fails ↦ record { stage = rw fails tt; whole = rw fails refl }
    ]

-- a table in which a walk reads is one of the tables
module _ (residency : Residency) (root address : ℕ) where
  abbrev pages : List PageEntry
  pages = pages_of residency

  table-within : (level frame : ℕ) → IsTable pages root address level frame → (root ≤ frame) × (frame < root + table_count pages)
  table-within zero frame is = (omega (arith, is.1), omega (arith, is.1, leaf_frame-within root (region1 address) pages is.0))
  table-within (suc zero) frame is = (omega (arith, is.1), omega (arith, is.1, second_frame-within root (region2 address) pages is.0))
  table-within (suc (suc zero)) frame is = (omega (arith, is), omega (arith, is))
  table-within (suc (suc (suc level))) frame is = absurd is

  level-within : (level frame : ℕ) → IsTable pages root address level frame → level < 3
  level-within zero frame is = lit< tt
  level-within (suc zero) frame is = lit< tt
  level-within (suc (suc zero)) frame is = lit< tt
  level-within (suc (suc (suc level))) frame is = absurd is

  -- its entry for the address
  pub entry_of : (level : ℕ) → ℕ
  entry_of zero = leaf_entry residency (page0 address)
  entry_of (suc zero) = second_entry root pages (region1 address)
  entry_of (suc (suc level)) = root_entry root pages (region2 address)

  pub entry-is : (level frame : ℕ) → IsTable pages root address level frame → table_word residency root (entry_word frame address level) ≡ entry_of level
  unfolding entry_of
  entry-is zero frame is =
      let lt : field address 12 9 < 512 = omega arith in
      ap (λ (f : ℕ). table_word residency root (entry_word f address 0)) is.1 ∙ table_word-leaf residency root (region1 address) (field address 12 9) is.0 lt
  entry-is (suc zero) frame is =
      let lt : field address 21 9 < 512 = omega arith in
      ap (λ (f : ℕ). table_word residency root (entry_word f address 1)) is.1 ∙ table_word-second residency root (region2 address) (field address 21 9) is.0 lt
  entry-is (suc (suc zero)) frame is =
      let lt : region2 address < 512 = omega arith in
      ap (λ (f : ℕ). table_word residency root (entry_word f address 2)) is ∙ table_word-root residency root (region2 address) lt
  entry-is (suc (suc (suc level))) frame is = absurd is

  -- the frame in it is small
  pointer_small : (has : Bool) (frame frames : ℕ) → (has ≡ true → frame < frames) → frames ≤ 16384 → (if has then pointer frame else 0) < 16778240
  pointer_small true frame frames below few = omega (arith, below refl)
  pointer_small false frame frames below few = lit< tt

  pub entry-small : (level frames : ℕ) → IsPageList pages → root + table_count pages ≤ frames → frames ≤ 16384 → AreBelow frames residency → entry_of level < 16778240
  unfolding entry_of
  entry-small zero frames listed tables few below = go (placed (page0 address) residency) refl
    where
      go : (o : Option PlacedPage) → placed (page0 address) residency ≡ o → option_map_or (λ (p : PlacedPage). page_entry p.entry.perm.bits p.place) o 0 < 16778240
      go None none = lit< tt
      go (Some p) is = page_entry-frame p.entry.perm.bits frames p.place (permission_small p.entry.perm.bits (placed-mapped (page0 address) residency p listed.mapped is).permission) few (placed-below frames (page0 address) residency p below is)
  entry-small (suc zero) frames listed tables few below =
      pointer_small (has_region mib2 (region1 address) pages) (leaf_frame root pages (region1 address)) frames (λ is. omega (arith, leaf_frame-within root (region1 address) pages is)) few
  entry-small (suc (suc level)) frames listed tables few below =
      pointer_small (has_region gib (region2 address) pages) (second_frame root pages (region2 address)) frames (λ is. omega (arith, second_frame-within root (region2 address) pages is)) few

  -- the stage that its entry leads to
  next_stage : (want : Want) (level frame : ℕ) → is_canonical address ≡ true → IsTable pages root address level frame → IsStage pages root address (stage_behind want address level frame (entry_of level))
  unfolding entry_of
  next_stage want zero frame canonical is = go (leaf_written want (leaf_entry residency (page0 address)))
    where
      bound : (root ≤ frame) × (frame < root + table_count pages)
      bound = table-within zero frame is

      go : (written : Option ℕ) → IfSome (option_map (λ (v : ℕ). record { word = entry_word frame address 0; value = v }) written) (λ (e : TableEntry). (512 * root ≤ e.word) × (e.word < 512 * (root + table_count pages)))
      go None = tt
      go (Some v) = (omega (arith, bound.0), omega (arith, bound.1))
  next_stage want (suc zero) frame canonical is =
      elim (cases_Bool (has_region mib2 (region1 address) pages)) [
        | inl has ↦ rw (has, is_pointer-pointer (leaf_frame root pages (region1 address)), frame_in-pointer (leaf_frame root pages (region1 address))) (canonical, (has, refl))
        | inr fails ↦ rw fails tt
      ]
  next_stage want (suc (suc zero)) frame canonical is =
      elim (cases_Bool (has_region gib (region2 address) pages)) [
        | inl has ↦ rw (has, is_pointer-pointer (second_frame root pages (region2 address)), frame_in-pointer (second_frame root pages (region2 address))) (canonical, (has, refl))
        | inr fails ↦ rw fails tt
      ]
  next_stage want (suc (suc (suc level))) frame canonical is = absurd is

  pub stage-next : (want : Want) (level frame : ℕ) → is_canonical address ≡ true → IsTable pages root address level frame → IsStage pages root address (stage_behind want address level frame (table_word residency root (entry_word frame address level)))
  stage-next want level frame canonical is =
      subst (λ (v : ℕ). IsStage pages root address (stage_behind want address level frame v)) (sym (entry-is level frame is)) (next_stage want level frame canonical is)

-- the entries above a table, by the pages alone
module _ (pages : List PageEntry) (root address : ℕ) where
  abbrev root_read : TableEntry
  root_read = record { word = entry_word root address 2; value = root_entry root pages (region2 address) }

  abbrev second_read : TableEntry
  second_read = record { word = entry_word (second_frame root pages (region2 address)) address 1; value = second_entry root pages (region1 address) }

  pub above : (level : ℕ) → List TableEntry
  above zero = root_read ∷ second_read ∷ []
  above (suc zero) = root_read ∷ []
  above (suc (suc level)) = []

-- a walk that reads in a table has read these, and what is left is the rest
module _ (residency : Residency) (root address : ℕ) (want : Want) (canonical : is_canonical address ≡ true) where
  abbrev memory : ℕ → ℕ
  memory = table_word residency root

  abbrev whole_walk : Walk
  whole_walk = table_walk residency root address want

  from_root : whole_walk ≡ expected2 residency root address want
  from_root = table_walk-expected residency root address want ∙ rw canonical refl

  from_second : has_region gib (region2 address) (pages_of residency) ≡ true → whole_walk ≡ reading_first (root_read (pages_of residency) root address ∷ []) (expected1 residency root address want)
  from_second has = from_root ∙ rw has refl

  from_leaf : has_region gib (region2 address) (pages_of residency) ≡ true → has_region mib2 (region1 address) (pages_of residency) ≡ true → whole_walk ≡ reading_first (root_read (pages_of residency) root address ∷ second_read (pages_of residency) root address ∷ []) (expected0 residency root address want)
  from_leaf has more = from_second has ∙ rw more refl

  pub whole-above : (level frame : ℕ) → IsTable (pages_of residency) root address level frame → whole_walk ≡ reading_first (above (pages_of residency) root address level) (rest_of memory want address (stage.Reads level frame))
  unfolding above
  whole-above zero frame is =
      let lt : field address 21 9 < 512 = omega arith in
      let has : has_region gib (region2 address) (pages_of residency) ≡ true = inner (region2 address) (field address 21 9) (pages_of residency) lt is.0 in
      from_leaf has is.0
      ∙ ap (reading_first (above (pages_of residency) root address 0)) (sym (walk0 residency root address want memory (λ word low high. refl) is.0))
      ∙ ap (λ (f : ℕ). reading_first (above (pages_of residency) root address 0) (walk_from memory want address 0 f)) (sym is.1)
  whole-above (suc zero) frame is =
      from_second is.0
      ∙ ap (reading_first (above (pages_of residency) root address 1)) (sym (walk1 residency root address want memory (λ word low high. refl) is.0))
      ∙ ap (λ (f : ℕ). reading_first (above (pages_of residency) root address 1) (walk_from memory want address 1 f)) (sym is.1)
  whole-above (suc (suc zero)) frame is =
      from_root
      ∙ sym (walk2 residency root address want memory (λ word low high. refl))
      ∙ ap (λ (f : ℕ). walk_from memory want address 2 f) (sym is)
  whole-above (suc (suc (suc level))) frame is = absurd is

-- what the cells hold where a walk reads
module _ (cells : CellsState) (residency : Residency) (root address : ℕ) (held : AreHeld cells root residency) where
  pub value-held : (level frame : ℕ) → IsTable (pages_of residency) root address level frame → get_or cells.contents (entry_word frame address level) 0 ≡ table_word residency root (entry_word frame address level)
  value-held level frame is =
      let bound = table-within residency root address level frame is in
      held.stand.each (entry_word frame address level) (omega (arith, bound.0)) (omega (arith, bound.1))

  frame-fits : (level frame : ℕ) → IsTable (pages_of residency) root address level frame → frame_in (table_word residency root (entry_word frame address level)) < 2 ^ 32
  frame-fits level frame is =
      let small = entry-small residency root address level cells.frames held.stand.listed held.tables held.memory.limit held.pages in
      omega (arith, entry-is residency root address level frame is, small)

-- a walk on its way, over tables that it has seen as they are or as they were
module _ (cells : CellsState) (seen residency : Residency) (root : ℕ) (walking : Walking) (done : List TableEntry)
    (held : AreHeld cells root residency) (agree : Agree walking.address walking.want seen residency) (going : IsWalk seen root walking done) where
  stage-now : (s : Stage) → walking.stage ≡ s → IsStage (pages_of residency) root walking.address s
  stage-now s at =
      subst (λ (ps : List PageEntry). IsStage ps root walking.address s) (sym agree.pages)
      (subst (λ (t : Stage). IsStage (pages_of seen) root walking.address t) at going.stage)

  tick-there : (s : Stage) → walking.stage ≡ s → CanTick cells s
  tick-there (stage.Reads level frame) at =
      let bound = table-within residency root walking.address level frame (stage-now (stage.Reads level frame) at).1 in
      omega (arith, bound.1, held.tables)
  tick-there (stage.Ends answer None) at = tt
  tick-there (stage.Ends answer (Some e)) at = let there = stage-now (stage.Ends answer (Some e)) at in omega (arith, there.1, held.tables)
  tick-there stage.Over at = stage-now stage.Over at

  pub can_tick : CanTick cells walking.stage
  can_tick = tick-there walking.stage refl

  -- what it has read stands there by the pages alone
  whole-now : (level frame : ℕ) → walking.stage ≡ stage.Reads level frame → table_walk residency root walking.address walking.want ≡ reading_first done (rest_of (table_word residency root) walking.want walking.address (stage.Reads level frame))
  whole-now level frame at =
      let there : IsStage (pages_of residency) root walking.address (stage.Reads level frame) = stage-now (stage.Reads level frame) at in
      let was : IsStage (pages_of seen) root walking.address (stage.Reads level frame) = subst (λ (t : Stage). IsStage (pages_of seen) root walking.address t) at going.stage in
      let rest : Walk = rest_of (table_word seen root) walking.want walking.address (stage.Reads level frame) in
      let begun : table_walk seen root walking.address walking.want ≡ reading_first done rest =
      going.whole ∙ ap (λ (s : Stage). reading_first done (rest_of (table_word seen root) walking.want walking.address s)) at in
      let fronts : done ++ rest.reads ≡ above (pages_of seen) root walking.address level ++ rest.reads =
      ap (λ (w : Walk). w.reads) (sym begun ∙ whole-above seen root walking.address walking.want was.0 level frame was.1) in
      let same : done ≡ above (pages_of residency) root walking.address level =
      append_cancel_right done (above (pages_of seen) root walking.address level) rest.reads fronts
      ∙ ap (λ (ps : List PageEntry). above ps root walking.address level) (sym agree.pages) in
      whole-above residency root walking.address walking.want there.0 level frame there.1
      ∙ ap (λ (es : List TableEntry). reading_first es (rest_of (table_word residency root) walking.want walking.address (stage.Reads level frame))) (sym same)

-- one read more
pub reads : (before after : CellsState) (seen residency : Residency) (root level frame : ℕ) (walking : Walking) (done : List TableEntry) → AreHeld before root residency → Agree walking.address walking.want seen residency → IsWalk seen root walking done → walking.stage ≡ stage.Reads level frame → Makes before after (read_at before walking.port (entry_word frame walking.address level) ∷ []) → WalkGoesOn before after residency root walking (record walking { stage = stage_after walking.want walking.address level frame (slice_index before.contents (entry_word frame walking.address level)) }) done
reads before after seen residency root level frame walking done held agree going at makes =
    let there : IsStage (pages_of residency) root walking.address (stage.Reads level frame) = stage-now before seen residency root walking done held agree going (stage.Reads level frame) at in
    let word : ℕ = entry_word frame walking.address level in
    let value : get_or before.contents word 0 ≡ table_word residency root word = value-held before residency root walking.address held level frame there.1 in
    let next : stage_after walking.want walking.address level frame (get_or before.contents word 0) ≡ stage_behind walking.want walking.address level frame (table_word residency root word) =
    ap (stage_after walking.want walking.address level frame) value
    ∙ stage-fits walking.want walking.address level frame (table_word residency root word) (frame-fits before residency root walking.address held level frame there.1) in
    let same : after.contents ≡ before.contents = makes.contents in
    let rest : Walk = rest_of (table_word residency root) walking.want walking.address (stage_behind walking.want walking.address level frame (table_word residency root word)) in
    let entry : TableEntry = record { word = word; value = get_or before.contents word 0 } in
    let front : done ++ (record { word = word; value = table_word residency root word } ∷ rest.reads) ≡ (done ++ entry ∷ []) ++ rest.reads =
    ap (λ (v : ℕ). done ++ (record { word = word; value = v } ∷ rest.reads)) (sym value) ∙ sym (append_assoc done (entry ∷ []) rest.reads) in
    record {
      entry = entry;
      makes = makes;
      held = AreHeld-after before after (read_at before walking.port word ∷ []) root residency residency makes held (subst (λ (ws : List ℕ). Stand ws root residency) (sym same) held.stand) refl held.pages;
      walk = record {
        stage = subst (λ (s : Stage). IsStage (pages_of residency) root walking.address s) (sym next) (stage-next residency root walking.address walking.want level frame there.0 there.1);
        whole =
            whole-now before seen residency root walking done held agree going level frame at
            ∙ ap (reading_first done) (rest-behind (table_word residency root) walking.want walking.address level frame)
            ∙ ap (λ (es : List TableEntry). record rest { reads = es }) front
            ∙ ap (λ (s : Stage). reading_first (done ++ entry ∷ []) (rest_of (table_word residency root) walking.want walking.address s)) (sym next);
      };
    }

-- an entry that is written whole
module _ (whole : (old value : ℕ) → value < 2 ^ 64 → merged 255 old value ≡ value) where
  written-contents : (contents : List ℕ) (cycle : ℕ) (port : Port) (write : Option TableEntry) → IfSome write (λ (e : TableEntry). e.value < 2 ^ 64) → with_accesses contents (map (written_entry cycle port) (option_to_list write)) ≡ with_entry write contents
  written-contents contents cycle port None small = refl
  written-contents contents cycle port (Some e) small = ap (set contents e.word) (whole (get_or contents e.word 0) e.value small)

  within-others : (contents : List ℕ) (root count : ℕ) (write : Option TableEntry) → IfSome write (λ (e : TableEntry). (512 * root ≤ e.word) × (e.word < 512 * (root + count))) → SameBut root count contents (with_entry write contents)
  within-others contents root count None is word out = refl
  within-others contents root count (Some e) is word out =
      get_or-set_other contents e.word word e.value 0 (λ same.
      let low : 512 * root ≤ word = omega (arith, is.0, same) in
      let high : word < 512 * (root + count) = omega (arith, is.1, same) in
      let inside : (nat_le (512 * root) word && nat_lt word (512 * (root + count))) ≡ true = rw (le-leb (512 * root) word low, lt-ltb word (512 * (root + count)) high) refl in
      false≢true (sym out ∙ inside))

  -- the end of a walk
  pub ends : (before after : CellsState) (seen residency : Residency) (root : ℕ) (answer : Walked) (write : Option TableEntry) (walking : Walking) (done : List TableEntry) → AreHeld before root residency → Agree walking.address walking.want seen residency → IsWalk seen root walking done → walking.stage ≡ stage.Ends answer write → Makes before after (map (written_entry before.cycle walking.port) (option_to_list write)) → WalkEnds before after seen residency root walking done answer
  ends before after seen residency root answer write walking done held agree going at makes =
      let there : IsStage (pages_of residency) root walking.address (stage.Ends answer write) = stage-now before seen residency root walking done held agree going (stage.Ends answer write) at in
      let done_with : table_walk seen root walking.address walking.want ≡ reading_first done (record { reads = []; answer = answer; write = write }) =
      going.whole ∙ ap (λ (s : Stage). reading_first done (rest_of (table_word seen root) walking.want walking.address s)) at in
      let same_write : (table_walk seen root walking.address walking.want).write ≡ write = ap (λ (w : Walk). w.write) done_with in
      let room : 512 * (root + table_count (pages_of residency)) ≤ length before.contents = omega (arith, held.memory.whole, held.tables) in
      let small : IfSome write (λ (e : TableEntry). e.value < 2 ^ 64) =
      subst (λ (w : Option TableEntry). IfSome w (λ (e : TableEntry). e.value < 2 ^ 64)) same_write
      (small-write before.contents seen residency root walking.address walking.want agree held.stand room before.frames held.memory.limit held.pages) in
      let contents : after.contents ≡ with_entry write before.contents = makes.contents ∙ written-contents before.contents before.cycle walking.port write small in
      let stands : Stand (with_entry write before.contents) root (after_walk residency walking.address walking.want) =
      subst (λ (w : Option TableEntry). Stand (with_entry w before.contents) root (after_walk residency walking.address walking.want)) same_write
      (Stand-after_walk before.contents seen residency root walking.address walking.want agree held.stand room) in
      record {
        reads = ap (λ (w : Walk). w.reads) done_with ∙ append-nil done;
        answer =
            sym (ap (λ (w : Walk). w.answer) done_with)
            ∙ table_walk-answer root walking.address walking.want seen (subst IsPageList agree.pages held.stand.listed)
            ∙ page_map-agree walking.address walking.want seen residency agree;
        makes = subst (λ (w : Option TableEntry). Makes before after (map (written_entry before.cycle walking.port) (option_to_list w))) (sym same_write) makes;
        held = AreHeld-after before after (map (written_entry before.cycle walking.port) (option_to_list write)) root residency (after_walk residency walking.address walking.want) makes held
            (subst (λ (ws : List ℕ). Stand ws root (after_walk residency walking.address walking.want)) (sym contents) stands)
            (pages_of-after_walk walking.address walking.want residency)
            (AreBelow-after_walk before.frames walking.address walking.want residency held.pages);
        others = subst (λ (ws : List ℕ). SameBut root (table_count (pages_of residency)) before.contents ws) (sym contents) (within-others before.contents root (table_count (pages_of residency)) write there);
      }

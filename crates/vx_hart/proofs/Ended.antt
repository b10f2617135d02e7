-- Vector loads and stores as a whole: what their parts leave is what the definitions say.
use Rattle.std.proofs.Common.{◌≡◌, ◌⊎◌, ℕ, ◌-◌, ◌*◌, ◌/◌, ◌<◌, ◌≤◌, Bool, true, false, not, ◌&&◌, nat_le, ◌==◌, is_none, option_and_then, Option, None, Some, IfSome, List, length, if◌then◌else◌, refl, sym, ap, ◌∙◌, subst, arith}
use Rattle.std.specs.List.{flat_map, range_with_len}
use Rattle.std.specs.Option.{option_map}
use Rattle.std.proofs.lemmas.Bool.{eqb-true, false≢true, true≢false}
use Rattle.std.proofs.lemmas.Bool.Decides.{nat_tests}
use Rattle.std.proofs.lemmas.Option.{none-some}
use Rattle.vx_decode.specs.Encoded.{IsValid}
use Rattle.vx_decode.specs.Legal.{is_illegal}
use Rattle.vx_decode.specs.declared.instr.Instr.{Instr}
use Rattle.vx_image.specs.Pages.{Memory}
use Rattle.vx_flat.specs.Prefix.{prefix_at, prefix_of, transfer_next}
use Rattle.vx_flat.specs.Step.{upcoming}
use Rattle.vx_flat.specs.State.{Flat, at_element, register}
use Rattle.vx_flat.specs.Transfers.{Direction, Transfer, accesses_done, first_failure, is_fault_only_first, transfer, transferred, transferred_by, below_done}
use Rattle.vx_flat.specs.Transfers.Direction.{Loading, Storing}
use Rattle.vx_flat.specs.Vectors.{setting_at}
use Rattle.vx_rows.specs.Table.{class_of}
use Rattle.vx_rows.specs.declared.row.Addressing.{Addressing}
use Rattle.vx_rows.specs.declared.row.Addressing.TheVariants.{FaultOnlyFirst}
use Rattle.vx_rows.specs.declared.row.Class.TheVariants.{VectorLoad, VectorStore}
use Rattle.vx_rows.specs.declared.row.Eew.{Eew}
use Rattle.vx_vaddr.specs.Views.{movement_with}
use Rattle.vx_vaddr.specs.declared.pattern.AccessPattern.{AccessPattern}
use Rattle.vx_vector.specs.Accesses.{Access, Movement, access_bits, accesses_between, accesses_of_element, count_by, movement_count, registers_of_field, movement}
use Rattle.vx_vector.specs.Movements.{IsLegalMovement, IsSoundMovement}
use Rattle.vx_vstate.specs.Registers.{words_of_all}
use Rattle.vx_vstate.specs.State.{IsSetting, SettingView, VectorState, setting_of}
use Rattle.vx_vstate.specs.Views.{view_of}
use Rattle.vx_vstate.specs.declared.setting.Setting.{Setting}
use Rattle.vx_hart.specs.Transfers.{HasMoved, Moves, after_loading, after_stores, failure_from, stop_of, stopped, transfer_with}
use Rattle.vx_hart.specs.declared.failures.Failed.{Failed}
use Rattle.vx_hart.proofs.Moved.{loads-done, none-below, stores-done, vlen-stays, vl-stays}

-- ---- what the instruction moves

legal-is : (b : Bool) → true ≡ not b → b ≡ false
legal-is true h = absurd (true≢false h)
legal-is false h = refl

pub moves-are :
    (sound : (m : Movement) → IsLegalMovement m → length m.words ≡ words_of_all m.at.vlen → IsSoundMovement m)
    (v : VectorState) (i : Instr) (a : Addressing) (e : Eew) (pattern : AccessPattern) (at : Setting) (base stride : ℕ) →
    view_of at ≡ setting_of v base →
    ((words : List ℕ) → movement_with pattern words ≡ movement a e i (view_of at) base stride words) →
    IsValid i → (class_of i.op ≡ VectorLoad a e) ⊎ (class_of i.op ≡ VectorStore a e) → true ≡ not (is_illegal i (view_of at)) →
    length v.words ≡ words_of_all v.vlen →
    Moves v pattern at
moves-are sound v i a e pattern at base stride here h valid row legal words =
    let inside : IsSetting (view_of at) = record {
      vlen_in_range = at.vlen_in_range;
      vtype_in_range = at.vtype_in_range;
      vl_in_range = at.vl_in_range;
      vstart_in_range = at.vstart_in_range;
      vxrm_in_range = at.vxrm_in_range;
    } in
    let T : Movement = movement a e i (view_of at) base stride v.words in
    let is_legal : IsLegalMovement T = record {
      setting = inside;
      valid = valid;
      row = row;
      legal = legal-is (is_illegal i (view_of at)) legal;
    } in
    let count : length v.words ≡ words_of_all at.vlen = words ∙ ap (λ (x : SettingView). words_of_all x.vlen) (sym here) in
    record {
      here = here ∙ ap (setting_of v) (sym (ap (λ (x : SettingView). x.scalar) here));
      setting = ap (λ (m : Movement). m.at) (h v.words);
      sound = subst IsSoundMovement (sym (h v.words)) (sound T is_legal count);
    }

pub transfers-same :
    (d : Direction) (s : Flat) (i : Instr) (a : Addressing) (e : Eew) (pattern : AccessPattern) (at : Setting) (base stride : ℕ) →
    base ≡ register s i.rs1 → stride ≡ register s i.rs2 → view_of at ≡ setting_of s.v base →
    ((words : List ℕ) → movement_with pattern words ≡ movement a e i (view_of at) base stride words) →
    transfer_with d pattern s.v ≡ transfer d a e s i
transfers-same d s i a e pattern at base stride b t v h =
    let back : view_of at ≡ setting_at s i = v ∙ ap (setting_of s.v) b in
    ap (λ (m : Movement). record { direction = d; movement = m }) (h s.v.words)
    ∙ (λ j. record { direction = d; movement = movement a e i (back j) (b j) (t j) s.v.words })

-- the setting of a sound movement is that of the state
pub vlen-here : (v : VectorState) (pattern : AccessPattern) (at : Setting) → Moves v pattern at → (movement_with pattern v.words).at.vlen ≡ v.vlen
vlen-here v pattern at h = ap (λ (x : SettingView). x.vlen) (h.setting ∙ h.here)

pub vl-here : (v : VectorState) (pattern : AccessPattern) (at : Setting) → Moves v pattern at → (movement_with pattern v.words).at.vl ≡ v.vl
vl-here v pattern at h = ap (λ (x : SettingView). x.vl) (h.setting ∙ h.here)

-- ---- its elements

-- registers of which each element's accesses are the same serve as well as those that there are
pub loaded-moved :
    (pattern : AccessPattern) (words : List ℕ) (s : Flat) (end : ℕ) (v : VectorState) (memory : Memory) (failed : Option Failed) →
    ((i : ℕ) → accesses_of_element (movement_with pattern words) i ≡ accesses_of_element (movement_with pattern s.v.words) i) → memory ≡ s.memory →
    option_map failure_from failed ≡ first_failure Loading s.memory (accesses_between (movement_with pattern words) 0 end) →
    IfSome failed (λ (f : Failed). f.item.element < end) →
    v ≡ after_loading s.memory s.v (accesses_between (movement_with pattern words) 0 (stop_of end failed)) →
    HasMoved Loading (movement_with pattern s.v.words) end s (record s { v = v; memory = memory }) failed
loaded-moved pattern words s end v memory failed alike k failure among l =
    let m : Movement = movement_with pattern s.v.words in
    let between : (to : ℕ) → accesses_between (movement_with pattern words) 0 to ≡ accesses_between m 0 to = λ to j. flat_map (λ i. alike i j) (range_with_len 0 (to - 0)) in
    let loaded : v ≡ after_loading s.memory s.v (accesses_between m 0 (stop_of end failed)) = l ∙ ap (after_loading s.memory s.v) (between (stop_of end failed)) in
    record {
      failure = failure ∙ ap (first_failure Loading s.memory) (between end);
      among = among;
      done =
          (λ j. record s { v = loaded j; memory = k j })
          ∙ sym (loads-done (accesses_between m 0 (stop_of end failed)) s);
    }

-- what is sound with the words of some registers is so with those of others
pub sound-with : (pattern : AccessPattern) (words others : List ℕ) → length others ≡ words_of_all (movement_with pattern words).at.vlen → IsSoundMovement (movement_with pattern words) → IsSoundMovement (movement_with pattern others)
sound-with pattern words others count s = record {
  setting = s.setting;
  words = count;
  width = s.width;
  some_field = s.some_field;
  few_fields = s.few_fields;
  room = s.room;
  within = s.within;
  masked = s.masked;
  index_room = s.index_room;
  indexed = s.indexed;
}

pub stored-moved :
    (m : Movement) (s : Flat) (end : ℕ) (memory : Memory) (failed : Option Failed) →
    option_map failure_from failed ≡ first_failure Storing s.memory (accesses_between m 0 end) →
    IfSome failed (λ (f : Failed). f.item.element < end) →
    memory ≡ after_stores s.v.vlen s.v.words s.memory (accesses_between m 0 (stop_of end failed)) →
    HasMoved Storing m end s (record s { memory = memory }) failed
stored-moved m s end memory failed failure among l = record {
  failure = failure;
  among = among;
  done =
      ap (λ (x : Memory). record s { memory = x }) l
      ∙ sym (stores-done (accesses_between m 0 (stop_of end failed)) s);
}

-- ---- its end

pub below-length : (m : Movement) (i : ℕ) → IsSoundMovement m → i < movement_count m → i < m.at.vlen
below-length m i s l = let inside : i * 1 / 64 < m.at.vlen / 64 = s.masked i l in omega arith

first-count : (a : Addressing) (vl vlen registers width : ℕ) → is_fault_only_first a ≡ true → count_by a vl vlen registers width ≡ vl
first-count FaultOnlyFirst vl vlen registers width h = refl
first-count a vl vlen registers width h = absurd (false≢true h)

pub moved-length : (d : Direction) (m : Movement) (end : ℕ) (old new : Flat) (failed : Option Failed) → HasMoved d m end old new failed → new.v.vlen ≡ old.v.vlen
moved-length d m end old new failed h = ap (λ (q : Flat). q.v.vlen) h.done ∙ vlen-stays d (accesses_between m 0 (stop_of end failed)) old

moved-count : (d : Direction) (m : Movement) (end : ℕ) (old new : Flat) (failed : Option Failed) → HasMoved d m end old new failed → new.v.vl ≡ old.v.vl
moved-count d m end old new failed h = ap (λ (q : Flat). q.v.vl) h.done ∙ vl-stays d (accesses_between m 0 (stop_of end failed)) old

pub moved-within : (d : Direction) (m : Movement) (end : ℕ) (old new : Flat) (failed : Option Failed) → end ≤ movement_count m → HasMoved d m end old new failed → IsSoundMovement m → m.at.vlen ≡ old.v.vlen → IfSome failed (λ (f : Failed). f.item.element < new.v.vlen)
moved-within d m end old new None fits h s e = tt
moved-within d m end old new (Some f) fits h s e =
    let among = h.among in
    subst (λ n. f.item.element < n) (e ∙ sym (moved-length d m end old new (Some f) h)) (below-length m f.item.element s (omega (arith, among, fits)))

pub moved-trims : (d : Direction) (m : Movement) (end : ℕ) (old new : Flat) (failed : Option Failed) → end ≤ movement_count m → HasMoved d m end old new failed → m.at.vl ≡ old.v.vl → IfSome failed (λ (f : Failed). is_fault_only_first m.addressing ≡ true → f.item.element ≤ new.v.vl)
moved-trims d m end old new None fits h e = tt
moved-trims d m end old new (Some f) fits h e = λ first.
    let below = h.among in
    let count = first-count m.addressing m.at.vl m.at.vlen (registers_of_field m) (access_bits m) first in
    let same = moved-count d m end old new (Some f) h in
    omega arith

pub ended : (t : Transfer) (end : ℕ) (old new : Flat) (failed : Option Failed) → end ≡ movement_count t.movement → HasMoved t.direction t.movement end old new failed → stopped t.movement.addressing new failed ≡ transferred t old
ended t end old new failed all h =
    ap (λ (q : Flat). stopped t.movement.addressing q failed) (h.done ∙ ap (λ (n : ℕ). accesses_done t.direction (accesses_between t.movement 0 (stop_of n failed)) old) all)
    ∙ by_failed failed
    ∙ ap (transferred_by t old) (h.failure ∙ ap (λ (n : ℕ). first_failure t.direction old.memory (accesses_between t.movement 0 n)) all)
  where
    at : Option Failed → Flat
    at o = accesses_done t.direction (accesses_between t.movement 0 (stop_of (movement_count t.movement) o)) old

    by_failed : (o : Option Failed) → stopped t.movement.addressing (at o) o ≡ transferred_by t old (option_map failure_from o)
    by_failed None = refl
    by_failed (Some f) = refl

-- ---- the elements below one

none-failed : (failed : Option Failed) → option_map failure_from failed ≡ None → failed ≡ None
none-failed None h = refl
none-failed (Some f) h = absurd (none-some (failure_from f) (sym h))

pub reached : (t : Transfer) (k : ℕ) (old new : Flat) (failed : Option Failed) → first_failure t.direction old.memory (accesses_between t.movement 0 k) ≡ None → HasMoved t.direction t.movement k old new failed → at_element k new ≡ below_done t k old
reached t k old new failed free h =
    let none : failed ≡ None = none-failed failed (h.failure ∙ free) in
    ap (at_element k) (h.done ∙ ap (λ (o : Option Failed). accesses_done t.direction (accesses_between t.movement 0 (stop_of k o)) old) none)

-- what is reached at vstart is the state itself
at-start : (t : Transfer) (s : Flat) (k : ℕ) → t.movement.at.vstart ≡ s.v.vstart → k ≡ s.v.vstart → below_done t k s ≡ s
at-start t s k e at =
    ap (λ (accesses : List Access). at_element k (accesses_done t.direction accesses s)) (none-below t.movement k (omega (arith, e, at)))
    ∙ ap (λ (n : ℕ). at_element n s) at

pub reached-prefix : (t : Transfer) (s new : Flat) (k : ℕ) → t.movement.at.vstart ≡ s.v.vstart → s.v.vstart ≤ k → first_failure t.direction s.memory (accesses_between t.movement 0 k) ≡ None → new ≡ below_done t k s → transfer_next s (upcoming s) ≡ Some t → prefix_at k s ≡ Some new
reached-prefix t s new k e from free done next =
    ap (λ (o : Option Transfer). if k == s.v.vstart then Some s else option_and_then (λ (u : Transfer). prefix_of u k s) o) next
    ∙ by_test (k == s.v.vstart) (eqb-true k s.v.vstart)
    ∙ ap Some (sym done)
  where
    by_test : (b : Bool) → (b ≡ true → k ≡ s.v.vstart) → (if b then Some s else prefix_of t k s) ≡ Some (below_done t k s)
    by_test true at = ap Some (sym (at-start t s k e (at refl)))
    by_test false at =
        let low : nat_le s.v.vstart k ≡ true = grind (arith, nat_tests, from) in
        (λ j. if low j && is_none (free j) then Some (below_done t k s) else None)

-- What is known of an element by the last cycle of an episode.
use Rattle.std.proofs.Common.{◌≡◌, ℕ, zero, suc, ◌+◌, ◌*◌, ◌/◌, ◌%◌, ◌^◌, ◌<◌, ◌≤◌, Bool, true, false, List, [], ◌∷◌, map, refl, sym, ap, subst, ◌∙◌, inl, inr, arith, append_assoc}
use Rattle.std.specs.Prelude.{Option, Some, None, All, find, if◌then◌else◌}
use Rattle.std.specs.List.{range_with_len}
use Rattle.std.proofs.Math.Nat.{mul-le-mul}
use Rattle.std.proofs.lemmas.Bool.Decides.{nat_tests}
use Rattle.std.proofs.lemmas.List.Elements.{All-head, All-tail, All-cons}
use Rattle.vx_base.specs.declared.machine.Want.{Want}
use Rattle.vx_cells.specs.Cells.{CellsState}
use Rattle.vx_flat.specs.Transfers.{Direction, Transfer}
use Rattle.vx_flat.specs.Transfers.Direction.{Loading, Storing}
use Rattle.vx_image.specs.Pages.{page_of}
use Rattle.vx_tables.specs.Caches.{Fill, look_up}
use Rattle.vx_tables.specs.Tables.{AreHeld}
use Rattle.vx_tables.specs.declared.look.Look.{Look}
use Rattle.vx_tables.specs.declared.look.Look.TheVariants.{Hit, Denied, Miss}
use Rattle.vx_tables.specs.declared.walked.Walked.{Walked}
use Rattle.vx_tables.specs.declared.walked.Walked.TheVariants as walked
use Rattle.vx_tlb.specs.declared.tlb.Kept.{Kept}
use Rattle.vx_vector.specs.Accesses as vector
use Rattle.vx_vector.specs.Accesses.{Movement, access_bits, access_bytes, access_of, accesses_of_element, fields_of, offset_by, index_of, takes_part}
use Rattle.vx_vector.specs.Movements.{IsSoundMovement}
use Rattle.vx_vstate.specs.Registers.{is_byte_width}
use Rattle.vx_episode.specs.Batches.{Fate, fate_by_walk, fate_looked, fate_of, fate_walked, is_of_page, is_refused, word_in}
use Rattle.vx_episode.specs.Batches.Fate.{Good, Fails, Unknown}
use Rattle.vx_episode.specs.Footprint.{Access, Batch, Footprint, moved_access}
use Rattle.vx_episode.specs.History.{History, Entry, Walk, AccessTimes, BatchTimes, accesses_of, after_walks, fetch_walks, fills_of, queued_by, walks_of_batches}
use Rattle.vx_episode.specs.Organisation.{Organisation, Start, data_entries}
use Rattle.vx_quiet.specs.Quiet.{ended_by}
use Rattle.vx_look.specs.Aheads as look
use Rattle.vx_serve.specs.Agreeing.{AgreeAt, AgreeBy, AreApart, IsApart, is_known_by}
use Rattle.vx_serve.specs.Serving.{done_by, served_of}
use Rattle.vx_serve.specs.declared.fate.Fate.{Fate as Known}
use Rattle.vx_pipe.specs.Passing.{IsAhead}
use Rattle.vx_pipe.specs.Transfers.{IsFetchWalk, element_batch, own_walks}
use Rattle.vx_pipe.proofs.TransferElements.{accesses-are}
use Rattle.vx_pipe.proofs.TransferFetched.{ComesFirst, SetsNothing, walks-same}

-- ---- accesses that lie near one another

-- an address at most 56 bytes behind one
abbrev pub IsNear : (base : ℕ) → Access → Type 0
IsNear base a = (p : ℕ) × (p ≤ 56) × (a.address ≡ (base + p) % 2 ^ 64)

same-page : (base p q a b frame other : ℕ) → p ≤ 56 → q ≤ 56 → a ≡ (base + p) % 2 ^ 64 → b ≡ (base + q) % 2 ^ 64 → 512 * frame + a % 4096 / 8 ≡ 512 * other + b % 4096 / 8 → a / 4096 ≡ b / 4096
same-page base p q a b frame other low high at there same = omega (arith, low, high, at, there, same)

module _ (start : Start) (before : List BatchTimes) (history : History) (want : Want) (started : ℕ) (walks : List Walk) where
  abbrev fate : Access → Fate
  fate a = fate_of start history before want started walks a

  abbrev by-look : Access → Look → Option Walk → Fate
  by-look a (Hit frame) o = Good started (word_in frame a.address)
  by-look a Denied o = Fails started false
  by-look a Miss o = fate_by_walk a o

  looked-as : (a : Access) (l : Look) → fate_looked started walks a l ≡ by-look a l (find (is_of_page (page_of a.address)) walks)
  looked-as a (Hit frame) = refl
  looked-as a Denied = refl
  looked-as a Miss = refl

  abbrev fills : List Fill
  fills = fills_of (walks_of_batches before)

  abbrev as-page : Access → (page : ℕ) → Fate
  as-page a page = if is_refused a then Fails started false else by-look a (look_up data_entries fills page want) (find (is_of_page page) walks)

  fate-as : (a : Access) → fate a ≡ as-page a (page_of a.address)
  fate-as a = ap (λ (x : Fate). if is_refused a then Fails started false else x) (looked-as a (look_up data_entries fills (page_of a.address) want))

  walked-word : (a : Access) (ended cycle word : ℕ) (answer : Walked) → fate_walked a ended answer ≡ Good cycle word → (frame : ℕ) × ((word ≡ word_in frame a.address) × (cycle ≡ ended))
  walked-word a ended cycle word (walked.Leaf frame perm dirty) e = (frame, (let w : word_in frame a.address ≡ word = cc in sym w, let c : ended ≡ cycle = cc in sym c))
  walked-word a ended cycle word walked.Away e = absurd (cc)
  walked-word a ended cycle word walked.Denied e = absurd (cc)

  word-by : (a : Access) (r : Bool) (l : Look) (o : Option Walk) (cycle word : ℕ) → (if r then Fails started false else by-look a l o) ≡ Good cycle word → (frame : ℕ) × (word ≡ word_in frame a.address)
  word-by a true l o cycle word e = absurd (cc)
  word-by a false (Hit frame) o cycle word e = (frame, let w : word_in frame a.address ≡ word = cc in sym w)
  word-by a false Denied o cycle word e = absurd (cc)
  word-by a false Miss None cycle word e = absurd (cc)
  word-by a false Miss (Some w) cycle word e = let it = walked-word a w.ended cycle word w.answer e in (it.0, it.1.0)

  cycles-by : (a b : Access) (r s : Bool) (l : Look) (o : Option Walk) (cycle other word place : ℕ) → (if r then Fails started false else by-look a l o) ≡ Good cycle word → (if s then Fails started false else by-look b l o) ≡ Good other place → cycle ≡ other
  cycles-by a b true s l o cycle other word place one two = absurd (cc)
  cycles-by a b false true l o cycle other word place one two = absurd (cc)
  cycles-by a b false false (Hit frame) o cycle other word place one two = let c : started ≡ cycle = cc in let d : started ≡ other = cc in sym c ∙ d
  cycles-by a b false false Denied o cycle other word place one two = absurd (cc)
  cycles-by a b false false Miss None cycle other word place one two = absurd (cc)
  cycles-by a b false false Miss (Some w) cycle other word place one two = (walked-word a w.ended cycle word w.answer one).1.1 ∙ sym (walked-word b w.ended other place w.answer two).1.1

  cycles-same : (a b : Access) (cycle other word place : ℕ) → page_of a.address ≡ page_of b.address → fate a ≡ Good cycle word → fate b ≡ Good other place → cycle ≡ other
  cycles-same a b cycle other word place same one two =
      cycles-by a b (is_refused a) (is_refused b) (look_up data_entries fills (page_of a.address) want) (find (is_of_page (page_of a.address)) walks) cycle other word place
      (sym (fate-as a) ∙ one) (ap (as-page b) same ∙ sym (fate-as b) ∙ two)

  module _ (last base : ℕ) where
    apart-by : (a b : Access) (x y : Fate) → fate a ≡ x → fate b ≡ y → IsNear base a → IsNear base b → IsApart last x y
    apart-by a b (Good cycle word) (Good known place) one two near there = λ late early same.
        let v = word-by a (is_refused a) (look_up data_entries fills (page_of a.address) want) (find (is_of_page (page_of a.address)) walks) cycle word (sym (fate-as a) ∙ one) in
        let w = word-by b (is_refused b) (look_up data_entries fills (page_of b.address) want) (find (is_of_page (page_of b.address)) walks) known place (sym (fate-as b) ∙ two) in
        let page : page_of a.address ≡ page_of b.address = same-page base near.0 there.0 a.address b.address v.0 w.0 near.1 there.1 near.2 there.2 (sym v.1 ∙ same ∙ w.1) in
        let cycles : cycle ≡ known = cycles-same a b cycle known word place page one two in
        absurd (omega (arith, late, early, cycles))
    apart-by a b (Good cycle word) (Fails known is_away) one two near there = tt
    apart-by a b (Good cycle word) Unknown one two near there = tt
    apart-by a b (Fails cycle is_away) y one two near there = tt
    apart-by a b Unknown y one two near there = tt

    apart-each : (a : Access) (accesses : List Access) → IsNear base a → All (IsNear base) accesses → All (λ (b : Access). IsApart last (fate a) (fate b)) accesses
    apart-each a [] near all = λ k d less. absurd (omega arith)
    apart-each a (b ∷ accesses) near all =
        All-cons (λ (b : Access). IsApart last (fate a) (fate b)) b accesses (apart-by a b (fate a) (fate b) refl refl near (All-head (IsNear base) b accesses all))
        (apart-each a accesses near (All-tail (IsNear base) b accesses all))

    pub are-apart : (accesses : List Access) → All (IsNear base) accesses → AreApart last fate accesses
    are-apart [] all = tt
    are-apart (a ∷ accesses) all =
        (apart-each a accesses (All-head (IsNear base) a accesses all) (All-tail (IsNear base) a accesses all), are-apart accesses (All-tail (IsNear base) a accesses all))

-- ---- the accesses of an element do

some-bytes : (bits : ℕ) → is_byte_width bits ≡ true → bits / 8 ≤ 8
some-bytes bits h = grind (arith, nat_tests, h)

near-by : (f w : ℕ) → f < 8 → w ≤ 8 → f * w ≤ 56
near-by f w low few = let less : f ≤ 7 = omega (arith, low) in let both : f * w ≤ 7 * 8 = mul-le-mul less few in both

abbrev element_base : Movement → ℕ → ℕ
element_base m i = m.base + offset_by m.addressing i (fields_of m * access_bytes m) m.stride (index_of m i)

moved-address : (d : Direction) (m : Movement) (a : vector.Access) → (moved_access d m a).address ≡ a.address
moved-address Loading m a = refl
moved-address Storing m a = refl

fields-near : (d : Direction) (m : Movement) (i f n : ℕ) → access_bytes m ≤ 8 → f + n ≤ 8 → All (IsNear (element_base m i)) (map (moved_access d m) (map (access_of m i) (range_with_len f n)))
fields-near d m i f zero few within = λ k x less. absurd (omega arith)
fields-near d m i f (suc n) few within =
    All-cons (IsNear (element_base m i)) (moved_access d m (access_of m i f)) (map (moved_access d m) (map (access_of m i) (range_with_len (f + 1) n)))
    (f * access_bytes m, near-by f (access_bytes m) (omega (arith, within)) few, moved-address d m (access_of m i f))
    (fields-near d m i (f + 1) n few (omega (arith, within)))

pub element-near : (d : Direction) (m : Movement) (i : ℕ) → IsSoundMovement m → All (IsNear (element_base m i)) (map (moved_access d m) (accesses_of_element m i))
element-near d m i sound = by-part (takes_part m i)
  where
    by-part : (b : Bool) → All (IsNear (element_base m i)) (map (moved_access d m) (if b then map (access_of m i) (range_with_len 0 (fields_of m)) else []))
    by-part true = fields-near d m i 0 (fields_of m) (some-bytes (access_bits m) sound.width) (omega (arith, sound.few_fields))
    by-part false = λ k x less. absurd (omega arith)

-- ---- what is known ahead is enough

abbrev pub KnownIsEnough : Type 0
KnownIsEnough = (last : ℕ) (machine : Organisation) (earlier : List AccessTimes) (fate other : Access → Fate) (accesses : List Access) → AgreeBy last fate other accesses
    → AreApart last fate accesses → AreApart last other accesses
    → queued_by last (served_of machine earlier fate accesses) ≡ queued_by last (served_of machine earlier other accesses)

known-alike : (last : ℕ) (x : Fate) → look.is_known_by last x ≡ is_known_by last x
known-alike last (Good cycle word) = refl
known-alike last (Fails cycle is_away) = refl
known-alike last Unknown = refl

agree-at : (last : ℕ) (x y : Fate) → look.AgreeAt last x y → AgreeAt last y x
agree-at last x y (inl same) = inl (sym same)
agree-at last x y (inr none) = inr (sym (known-alike last y) ∙ none.1, sym (known-alike last x) ∙ none.0)

agree-all : (last : ℕ) (fate other : Access → Fate) (accesses : List Access) → ((a : Access) → look.AgreeAt last (other a) (fate a)) → AgreeBy last fate other accesses
agree-all last fate other [] each = λ k d less. absurd (omega arith)
agree-all last fate other (a ∷ accesses) each = All-cons (λ (b : Access). AgreeAt last (fate b) (other b)) a accesses (agree-at last (other a) (fate a) (each a)) (agree-all last fate other accesses each)

module _ (first : ComesFirst) (nothing : SetsNothing) (enough : KnownIsEnough) (start : Start) (history : History) (e : Entry) (earlier : List BatchTimes) (f : Footprint) (t : Transfer) (started i last root : ℕ) (want : Want) (places : List (Option Kept)) (before after : CellsState) (fates : List Known) (ended result : ℕ) where
  abbrev b : Batch
  b = element_batch t i

  abbrev walks : List Walk
  walks = own_walks start history earlier f.want started b.accesses

  abbrev pub ahead : Access → Fate
  ahead = fate_of start history earlier f.want started (ended_by last walks)

  pub looked-by : f.want ≡ want → IsFetchWalk e.fetch.walk → look.AreLookedAhead start (e ∷ history) earlier want started b.accesses last root places before after fates ended
      → look.AreLookedAheadBy start (e ∷ history) earlier f.want started b.accesses last walks root places before after fates ended
  looked-by wanted fetched looked =
      subst (λ (ws : List Walk). look.AreLookedAheadBy start (e ∷ history) earlier f.want started b.accesses last ws root places before after fates ended)
      (walks-same first nothing start history e earlier f.want started fetched [] b.accesses)
      (subst (λ (w : Want). look.AreLookedAhead start (e ∷ history) earlier w started b.accesses last root places before after fates ended) (sym wanted) looked)

  pub is-ahead : IsSoundMovement t.movement → look.AreLookedAheadBy start (e ∷ history) earlier f.want started b.accesses last walks root places before after fates ended
      → result ≡ done_by (queued_by last (served_of start.machine (accesses_of earlier) ahead b.accesses))
      → IsAhead start history e earlier f started b last root before after result
  is-ahead sound looked done =
      let near : All (IsNear (element_base t.movement i)) b.accesses =
      subst (λ (xs : List vector.Access). All (IsNear (element_base t.movement i)) (map (moved_access t.direction t.movement) xs)) (sym (accesses-are t.movement i)) (element-near t.direction t.movement i sound) in
      record {
        done_is = done ∙ ap done_by (sym (enough last start.machine (accesses_of earlier) (fate_of start history earlier f.want started walks) ahead b.accesses
            (agree-all last (fate_of start history earlier f.want started walks) ahead b.accesses looked.agree)
            (are-apart start earlier history f.want started walks last (element_base t.movement i) b.accesses near)
            (are-apart start earlier history f.want started (ended_by last walks) last (element_base t.movement i) b.accesses near)));
        held = subst (λ (ws : List Walk). AreHeld after root (after_walks start.residency ws)) (append_assoc (fetch_walks (e ∷ history)) (ended_by last walks) (walks_of_batches earlier)) looked.looked.held;
        frames = looked.looked.frames;
        cycle = looked.looked.cycle;
        others = looked.looked.others;
      }

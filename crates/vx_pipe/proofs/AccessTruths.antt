-- Walks of an episode answer what the pages grant, and what a cache has kept of them is true.
use Rattle.std.proofs.Common.{◌≡◌, ℕ, zero, suc, nat_eq, Bool, true, false, List, [], ◌∷◌, ◌++◌, refl, sym, ap, subst, ◌∙◌, arith}
use Rattle.std.specs.Prelude.{map, All, not, ◌&&◌, ◌%◌, Option, Some, if◌then◌else◌}
use Rattle.std.specs.Option.{option_map_or}
use Rattle.std.proofs.lemmas.Bool.{eqb-true}
use Rattle.std.proofs.lemmas.Grind.{flat_map-append}
use Rattle.std.proofs.lemmas.List.Elements.{All-head, All-tail, All-cons, All-append, All-same}
use Rattle.vx_base.specs.Permissions.{grants}
use Rattle.vx_base.specs.declared.machine.Want.{Want}
use Rattle.vx_base.specs.declared.perm.PageEntry.{PageEntry}
use Rattle.vx_flat.specs.Continued.{continued_by}
use Rattle.vx_flat.specs.State.{Flat}
use Rattle.vx_image.specs.Images.{entry_of_page}
use Rattle.vx_image.specs.Pages.{MappedPage, Memory, is_granted, page_numbered, page_of}
use Rattle.vx_tables.specs.Caches.{Fill, filled_by, last_fill, look_at, look_for}
use Rattle.vx_tables.specs.Residency.{Place, PlacedPage, Residency, found_at, is_store, page_map, pages_of, placed}
use Rattle.vx_tables.specs.Residency.Place.{Away, Present}
use Rattle.vx_tables.specs.declared.look.Look.{Look}
use Rattle.vx_tables.specs.declared.look.Look.TheVariants.{Hit, Denied, Miss}
use Rattle.vx_tables.specs.declared.walked.Walked.{Walked}
use Rattle.vx_tables.specs.declared.walked.Walked.TheVariants as walked
use Rattle.vx_episode.specs.Batches.{all_batches, batch_started, batch_times, fate_of, is_failing, is_unknown, retired_batches, walk_behind, walks_of, walks_with, with_commit}
use Rattle.vx_episode.specs.Commits.{entry_of, timed}
use Rattle.vx_episode.specs.Cycles.{Cycle}
use Rattle.vx_episode.specs.Cycles.Cycle.{At, Never}
use Rattle.vx_episode.specs.Footprint.{Access, Batch, Footprint, footprint}
use Rattle.vx_episode.specs.History.{History, Entry, Walk, BatchTimes, batches_of, data_walks, fetch_walks, fills_of, after_walks, walks_of_batches}
use Rattle.vx_episode.specs.Organisation.{Start}
use Rattle.vx_ending.specs.UnderWay.{first_instructions}

-- ---- what pages grant

-- the page of that number is among these, and grants an access
abbrev pub grants_of : List PageEntry → (number : ℕ) → Want → Bool
grants_of [] number want = false
grants_of (e ∷ entries) number want = if nat_eq e.page number then grants e.perm.bits want else grants_of entries number want

granted-by : (b : Bool) (page : MappedPage) (later : Option MappedPage) (rest : Bool) (want : Want) → option_map_or (λ (page : MappedPage). grants page.permissions want) later false ≡ rest
    → option_map_or (λ (page : MappedPage). grants page.permissions want) (if b then Some page else later) false ≡ (if b then grants page.permissions want else rest)
granted-by true page later rest want e = refl
granted-by false page later rest want e = e

granted-in : (memory : Memory) (number : ℕ) (want : Want) → option_map_or (λ (page : MappedPage). grants page.permissions want) (page_numbered number memory) false ≡ grants_of (map entry_of_page memory) number want
granted-in [] number want = refl
granted-in (page ∷ memory) number want = granted-by (nat_eq page.number number) page (page_numbered number memory) (grants_of (map entry_of_page memory) number want) want (granted-in memory number want)

-- of a memory: what its pages grant
pub granted : (memory : Memory) (address : ℕ) (want : Want) → is_granted memory address want ≡ grants_of (map entry_of_page memory) (page_of address) want
granted memory address want = granted-in memory (page_of address) want

-- ---- what a page map says of them

-- an answer is what these grants say, where it isn't that the page is away
abbrev pub Says : (Want → Bool) → Want → Walked → Type 0
Says g want (walked.Leaf frame perm dirty) = ((other : Want) → g other ≡ grants perm.bits other) × (g want ≡ true)
Says g want walked.Away = Unit {0}
Says g want walked.Denied = g want ≡ false

says-granted : (b : Bool) (bits frame : ℕ) (dirty : Bool) (want : Want) → grants bits want ≡ b → Says (grants bits) want (if b then walked.Leaf frame (record { bits = bits }) dirty else walked.Denied)
says-granted true bits frame dirty want e = (λ other. refl, e)
says-granted false bits frame dirty want e = e

says-found : (bits : ℕ) (want : Want) (place : Place) → Says (grants bits) want (found_at bits want place)
says-found bits want Away = tt
says-found bits want (Present frame accessed dirty) = says-granted (grants bits want) bits frame _ want refl

says-if : (b : Bool) (want : Want) (p : PlacedPage) (later : Option PlacedPage) (g : Want → Bool)
    → Says g want (option_map_or (λ (p : PlacedPage). found_at p.entry.perm.bits want p.place) later walked.Denied)
    → Says (λ other. if b then grants p.entry.perm.bits other else g other) want (option_map_or (λ (p : PlacedPage). found_at p.entry.perm.bits want p.place) (if b then Some p else later) walked.Denied)
says-if true want p later g h = says-found p.entry.perm.bits want p.place
says-if false want p later g h = h

says-in : (number : ℕ) (want : Want) (residency : Residency) → Says (grants_of (pages_of residency) number) want (option_map_or (λ (p : PlacedPage). found_at p.entry.perm.bits want p.place) (placed number residency) walked.Denied)
says-in number want [] = refl
says-in number want (p ∷ residency) = says-if (nat_eq p.entry.page number) want p (placed number residency) (grants_of (pages_of residency) number) (says-in number want residency)

pub says : (residency : Residency) (address : ℕ) (want : Want) → Says (grants_of (pages_of residency) (page_of address)) want (page_map residency address want)
unfolding page_map
says residency address want = says-in (page_of address) want residency

-- ---- walks that answer so

-- a walk answered what the residency says, as some walks have left it
abbrev pub IsAnswered : Residency → Walk → Type 0
IsAnswered residency w = (walks : List Walk) × (w.answer ≡ page_map (after_walks residency walks) w.address w.want)

abbrev pub AreAnswered : Residency → List Walk → Type 0
AreAnswered residency walks = All (IsAnswered residency) walks

no-walks : (residency : Residency) → AreAnswered residency []
no-walks residency = λ k d less. absurd (omega arith)

module _ (start : Start) (history : History) (before : List BatchTimes) (want : Want) (started : ℕ) where
  with-answered : (b : Bool) (walks : List Walk) (a : Access) → AreAnswered start.residency walks → AreAnswered start.residency (if b then walk_behind start history before want started walks a ∷ walks else walks)
  with-answered true walks a h =
      let own : IsAnswered start.residency (walk_behind start history before want started walks a) = (walks ++ fetch_walks history ++ walks_of_batches before, refl) in
      All-cons (IsAnswered start.residency) (walk_behind start history before want started walks a) walks own h
  with-answered false walks a h = h

  if-answered : (b : Bool) (one all : List Walk) → AreAnswered start.residency one → AreAnswered start.residency all → AreAnswered start.residency (elim b as (λ _. List Walk) [ true ↦ one | false ↦ all ])
  if-answered true one all h g = h
  if-answered false one all h g = g

  pub walks-answered : (walks : List Walk) (accesses : List Access) → AreAnswered start.residency walks → AreAnswered start.residency (walks_of start history before want started walks accesses)
  walks-answered walks [] h = h
  walks-answered walks (a ∷ accesses) h =
      let one = with-answered (is_unknown (fate_of start history before want started walks a)) walks a h in
      if-answered (is_failing (fate_of start history before want started (walks_with start history before want started walks a) a)) (walks_with start history before want started walks a)
      (walks_of start history before want started (walks_with start history before want started walks a) accesses) one
      (walks-answered (walks_with start history before want started walks a) accesses one)

module _ (start : Start) (history : History) where
  times-answered : (before : List BatchTimes) (f : Footprint) (b : Batch) (c : Cycle) → AreAnswered start.residency (batch_started start history before f b c).walks
  times-answered before f b Never = no-walks start.residency
  times-answered before f b (At started) = walks-answered start history before f.want started [] b.accesses (no-walks start.residency)

  either-answered : (b : Bool) (some others : List BatchTimes) → AreAnswered start.residency (walks_of_batches some) → AreAnswered start.residency (walks_of_batches others)
      → AreAnswered start.residency (walks_of_batches (elim b as (λ _. List BatchTimes) [ true ↦ some | false ↦ others ]))
  either-answered true some others h g = h
  either-answered false some others h g = g

  all-answered : (own : List BatchTimes) (issued : Cycle) (f : Footprint) (batches : List Batch) → AreAnswered start.residency (walks_of_batches own) → AreAnswered start.residency (walks_of_batches (all_batches start history own issued f batches))
  all-answered own issued f [] h = h
  all-answered own issued f (b ∷ batches) h =
      let times : BatchTimes = batch_times start history (own ++ batches_of history) issued f b in
      let more : AreAnswered start.residency (times.walks ++ walks_of_batches own) = All-append (IsAnswered start.residency) times.walks (walks_of_batches own) (times-answered (own ++ batches_of history) f b _) h in
      either-answered times.is_trimmed (with_commit start history own times) (all_batches start history (with_commit start history own times) issued f batches) more
      (all-answered (with_commit start history own times) issued f batches more)

  retired-answered : (retired : Cycle) (batches : List BatchTimes) → AreAnswered start.residency (walks_of_batches batches) → AreAnswered start.residency (walks_of_batches (retired_batches retired batches))
  retired-answered retired [] h = h
  retired-answered retired (b ∷ batches) h = h

  pub entry-answered : (s : Flat) (f : Footprint) → AreAnswered start.residency (walks_of_batches (timed start history s f).batches)
  entry-answered s f =
      let e : Entry = timed start history s f in
      retired-answered e.retired (all_batches start history [] e.issued f f.batches) (all-answered [] e.issued f f.batches (no-walks start.residency))

pub first-answered : (start : Start) (n : ℕ) (s : Flat) → AreAnswered start.residency (data_walks (first_instructions start n s))
unfolding first_instructions
first-answered start zero s = no-walks start.residency
first-answered start (suc n) s =
    let history : History = first_instructions start n s in
    let e : Entry = entry_of start history (continued_by n s) in
    All-same (IsAnswered start.residency) (walks_of_batches (e.batches ++ batches_of history)) (walks_of_batches e.batches ++ data_walks history)
    (flat_map-append (λ (b : BatchTimes). b.walks) e.batches (batches_of history))
    (All-append (IsAnswered start.residency) (walks_of_batches e.batches) (data_walks history)
    (entry-answered start history (continued_by n s) (footprint start.machine start.has_vectors start.residency (continued_by n s))) (first-answered start n s))

-- ---- what is kept

-- of each page that was filled, the permissions are those of the pages
abbrev pub IsTrueFill : List PageEntry → Fill → Type 0
IsTrueFill entries f = (want : Want) → grants_of entries f.page want ≡ grants f.perm.bits want

abbrev pub PagesStay : Type 0
PagesStay = (residency : Residency) (walks : List Walk) → pages_of (after_walks residency walks) ≡ pages_of residency

-- what a walk's answer says
pub answer-says : PagesStay → (residency : Residency) (w : Walk) → IsAnswered residency w → Says (grants_of (pages_of residency) (page_of w.address)) w.want w.answer
answer-says stay residency w h =
    subst (λ (answer : Walked). Says (grants_of (pages_of residency) (page_of w.address)) w.want answer) (sym h.1)
    (subst (λ (entries : List PageEntry). Says (grants_of entries (page_of w.address)) w.want (page_map (after_walks residency h.0) w.address w.want)) (stay residency h.0) (says (after_walks residency h.0) w.address w.want))

filled-true : (entries : List PageEntry) (page : ℕ) (want : Want) (answer : Walked) (fills : List Fill) → Says (grants_of entries page) want answer → All (IsTrueFill entries) fills → All (IsTrueFill entries) (filled_by page answer fills)
filled-true entries page want (walked.Leaf frame perm dirty) fills h all = All-cons (IsTrueFill entries) (record { page = page; frame = frame; perm = perm; dirty = dirty }) fills h.0 all
filled-true entries page want walked.Away fills h all = all
filled-true entries page want walked.Denied fills h all = all

pub fills-true : PagesStay → (residency : Residency) (walks : List Walk) → AreAnswered residency walks → All (IsTrueFill (pages_of residency)) (fills_of walks)
fills-true stay residency [] all = λ k d less. absurd (omega arith)
fills-true stay residency (w ∷ walks) all =
    filled-true (pages_of residency) (page_of w.address) w.want w.answer (fills_of walks) (answer-says stay residency w (All-head (IsAnswered residency) w walks all))
    (fills-true stay residency walks (All-tail (IsAnswered residency) w walks all))

-- a look-up says what the pages grant, where it doesn't miss
abbrev pub LookSays : Bool → Look → Type 0
LookSays g (Hit frame) = g ≡ true
LookSays g Denied = g ≡ false
LookSays g Miss = Unit {0}

look-by : (b miss : Bool) (g : Bool) (frame : ℕ) → g ≡ b → LookSays g (if b then (if miss then Miss else Hit frame) else Denied)
look-by true true g frame e = tt
look-by true false g frame e = e
look-by false miss g frame e = e

look-if : (b : Bool) (entries : List PageEntry) (page : ℕ) (want : Want) (f : Fill) → nat_eq f.page page ≡ b → IsTrueFill entries f → LookSays (grants_of entries page want) (if b then look_at want f else Miss)
look-if true entries page want f same h =
    look-by (grants f.perm.bits want) (is_store want && not f.dirty) (grants_of entries page want) f.frame (ap (λ (n : ℕ). grants_of entries n want) (sym (eqb-true f.page page same)) ∙ h want)
look-if false entries page want f same h = tt

for-find : (b : Bool) (entries : List PageEntry) (page : ℕ) (want : Want) (f : Fill) (later : Option Fill) → IsTrueFill entries f → LookSays (grants_of entries page want) (look_for page want later)
    → LookSays (grants_of entries page want) (look_for page want (if b then Some f else later))
for-find true entries page want f later h rest = look-if (nat_eq f.page page) entries page want f refl h
for-find false entries page want f later h rest = rest

pub look-says : (entries : List PageEntry) (count page : ℕ) (want : Want) (place : ℕ) (fills : List Fill) → All (IsTrueFill entries) fills → LookSays (grants_of entries page want) (look_for page want (last_fill count place fills))
look-says entries count page want place [] all = tt
look-says entries count page want place (f ∷ fills) all =
    for-find (nat_eq (f.page % count) place) entries page want f (last_fill count place fills) (All-head (IsTrueFill entries) f fills all)
    (look-says entries count page want place fills (All-tail (IsTrueFill entries) f fills all))

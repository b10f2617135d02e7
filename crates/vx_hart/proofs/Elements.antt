-- How far a vector load or store has come: a step of each loop, and its end.
use Rattle.std.proofs.Common.{◌≡◌, ℕ, ◌+◌, ◌<◌, ◌≤◌, min, Option, None, Some, List, [], ◌∷◌, refl, sym, ap, ◌∙◌, subst, IsTrue, arith}
use Rattle.std.specs.List.{Contains}
use Rattle.std.proofs.lemmas.List.Elements.{Contains-append_right}
use Rattle.vx_base.specs.declared.machine.Want.{Want}
use Rattle.vx_image.specs.Pages.{Memory}
use Rattle.vx_flat.specs.Checks.{cause_of}
use Rattle.vx_flat.specs.Transfers.{Direction, first_failure, failure_of, failure_or, want_of}
use Rattle.vx_flat.specs.Transfers.Direction.{Loading, Storing}
use Rattle.vx_scalar.specs.Operands.{is_access_width}
use Rattle.vx_vaddr.specs.Items.{access_of_item, accesses_of_items}
use Rattle.vx_vaddr.specs.declared.item.Item.{Item}
use Rattle.vx_vector.specs.Accesses.{Access, Movement, accesses_between, accesses_of_element}
use Rattle.vx_vector.specs.Movements.{IsPlacedAccess}
use Rattle.vx_vstate.specs.State.{VectorState}
use Rattle.vx_hart.specs.Transfers.{after_loading, after_stores, failure_from}
use Rattle.vx_hart.specs.declared.failures.Failed.{Failed}
use Rattle.vx_hart.proofs.Moved.{between-next, none-below, free-append, free-rest, element-fails, fails-all, alike-failure, stores-permit, loading-append, stores-append}

behind : (item : Item) (later : List Item) (a : Access) → Contains (accesses_of_items later) a → Contains (accesses_of_items (item ∷ later)) a
behind item later a c = Contains-append_right (access_of_item item ∷ []) (accesses_of_items later) a c

-- ---- the search of the first failure

pub record IsSearched (start memory : Memory) (want : Want) (items rest : List Item) : Type 0 where
  pub kept : memory ≡ start
  pub widths : (a : Access) → Contains (accesses_of_items rest) a → IsTrue (is_access_width a.width)
  pub same : (d : Direction) → want_of d ≡ want → first_failure d start (accesses_of_items rest) ≡ first_failure d start (accesses_of_items items)

cause-there : (d : Direction) (start memory : Memory) (want : Want) (item : Item) (o : Option ℕ) → memory ≡ start → want_of d ≡ want → o ≡ cause_of memory want item.address item.width → failure_of d start (access_of_item item) ≡ o
cause-there d start memory want item o k w e =
    ap (λ (m : Memory). cause_of m (want_of d) item.address item.width) (sym k) ∙ ap (λ (x : Want). cause_of memory x item.address item.width) w ∙ sym e

pub searched-more : (start memory new : Memory) (want : Want) (items rest later : List Item) (item : Item) → rest ≡ item ∷ later → new ≡ memory → None ≡ cause_of memory want item.address item.width → IsSearched start memory want items rest → IsSearched start new want items later
searched-more start memory new want items rest later item e n none h =
    let g : IsSearched start memory want items (item ∷ later) = subst (IsSearched start memory want items) e h in
    record {
      kept = n ∙ g.kept;
      widths = λ a c. g.widths a (behind item later a c);
      same = λ d w.
          ap (λ (o : Option ℕ). failure_or (access_of_item item) o (first_failure d start (accesses_of_items later))) (sym (cause-there d start memory want item None g.kept w none))
          ∙ g.same d w;
    }

pub searched-found : (start memory : Memory) (want : Want) (items rest later : List Item) (item : Item) (cause : ℕ) → rest ≡ item ∷ later → Some cause ≡ cause_of memory want item.address item.width → IsSearched start memory want items rest → (d : Direction) → want_of d ≡ want → Some (record { access = access_of_item item; cause = cause }) ≡ first_failure d start (accesses_of_items items)
searched-found start memory want items rest later item cause e some h d w =
    let g : IsSearched start memory want items (item ∷ later) = subst (IsSearched start memory want items) e h in
    ap (λ (o : Option ℕ). failure_or (access_of_item item) o (first_failure d start (accesses_of_items later))) (sym (cause-there d start memory want item (Some cause) g.kept w some))
    ∙ g.same d w

pub ahead : (item : Item) (later : List Item) → Contains (accesses_of_items (item ∷ later)) (access_of_item item)
ahead item later = (0, omega arith, refl)

pub searched-width : (start memory : Memory) (want : Want) (items rest later : List Item) (item : Item) → rest ≡ item ∷ later → IsSearched start memory want items rest → IsTrue (is_access_width item.width)
searched-width start memory want items rest later item e h =
    let g : IsSearched start memory want items (item ∷ later) = subst (IsSearched start memory want items) e h in
    g.widths (access_of_item item) (ahead item later)

-- ---- an element's accesses

pub record IsLoading (start memory : Memory) (old v : VectorState) (items rest : List Item) : Type 0 where
  pub kept : memory ≡ start
  pub placed : (a : Access) → Contains (accesses_of_items rest) a → IsPlacedAccess v.vlen a
  pub free : first_failure Loading start (accesses_of_items rest) ≡ None
  pub same : after_loading start v (accesses_of_items rest) ≡ after_loading start old (accesses_of_items items)

pub loading-placed : (start memory : Memory) (old v : VectorState) (items rest later : List Item) (item : Item) → rest ≡ item ∷ later → IsLoading start memory old v items rest → IsPlacedAccess v.vlen (access_of_item item)
loading-placed start memory old v items rest later item e h =
    let g : IsLoading start memory old v items (item ∷ later) = subst (IsLoading start memory old v items) e h in
    g.placed (access_of_item item) (ahead item later)

pub loading-more : (start memory new : Memory) (old v next : VectorState) (items rest later : List Item) (item : Item) → rest ≡ item ∷ later → new ≡ memory → next ≡ after_loading memory v (access_of_item item ∷ []) → IsLoading start memory old v items rest → IsLoading start new old next items later
loading-more start memory new old v next items rest later item e n l h =
    let g : IsLoading start memory old v items (item ∷ later) = subst (IsLoading start memory old v items) e h in
    let loaded : after_loading start v (access_of_item item ∷ []) ≡ next = ap (λ (m : Memory). after_loading m v (access_of_item item ∷ [])) (sym g.kept) ∙ sym l in
    subst (λ (s : VectorState). IsLoading start new old s items later) loaded (record {
      kept = n ∙ g.kept;
      placed = λ a c. g.placed a (behind item later a c);
      free = free-rest Loading start (access_of_item item) (accesses_of_items later) g.free;
      same = g.same;
    })

pub record IsStoring (v : VectorState) (start memory : Memory) (items rest : List Item) : Type 0 where
  pub placed : (a : Access) → Contains (accesses_of_items rest) a → IsPlacedAccess v.vlen a
  pub free : first_failure Storing memory (accesses_of_items rest) ≡ None
  pub same : after_stores v.vlen v.words memory (accesses_of_items rest) ≡ after_stores v.vlen v.words start (accesses_of_items items)

pub storing-placed : (v : VectorState) (start memory : Memory) (items rest later : List Item) (item : Item) → rest ≡ item ∷ later → IsStoring v start memory items rest → IsPlacedAccess v.vlen (access_of_item item)
storing-placed v start memory items rest later item e h =
    let g : IsStoring v start memory items (item ∷ later) = subst (IsStoring v start memory items) e h in
    g.placed (access_of_item item) (ahead item later)

pub storing-more : (v : VectorState) (start memory new : Memory) (items rest later : List Item) (item : Item) → rest ≡ item ∷ later → new ≡ after_stores v.vlen v.words memory (access_of_item item ∷ []) → IsStoring v start memory items rest → IsStoring v start new items later
storing-more v start memory new items rest later item e n h =
    let g : IsStoring v start memory items (item ∷ later) = subst (IsStoring v start memory items) e h in
    let stored : Memory = after_stores v.vlen v.words memory (access_of_item item ∷ []) in
    subst (λ (m : Memory). IsStoring v start m items later) (sym n) (record {
      placed = λ a c. g.placed a (behind item later a c);
      free =
          alike-failure Storing stored memory (accesses_of_items later) (stores-permit v.vlen v.words (access_of_item item ∷ []) memory)
          ∙ free-rest Storing memory (access_of_item item) (accesses_of_items later) g.free;
      same = g.same;
    })

-- ---- the elements

-- element k comes next
pub record IsNext (m : Movement) (end k : ℕ) : Type 0 where
  pub within : k ≤ end
  pub started : k < end → m.at.vstart ≤ k

pub next-first : (m : Movement) (end k : ℕ) → k ≡ min m.at.vstart (end) → IsNext m end k
next-first m end k e = record { within = omega arith; started = λ l. omega arith }

pub next-more : (m : Movement) (end k : ℕ) → k < end → IsNext m end k → IsNext m end (k + 1)
next-more m end k l h = let low = h.started l in record { within = omega arith; started = λ g. omega arith }

first-none : (m : Movement) (end k : ℕ) → k ≡ min m.at.vstart (end) → accesses_between m 0 k ≡ []
first-none m end k e = none-below m k (omega arith)

pub record IsLoaded (m : Movement) (end : ℕ) (start memory : Memory) (old v : VectorState) (k : ℕ) : Type 0 where
  pub next : IsNext m end k
  pub kept : memory ≡ start
  pub free : first_failure Loading start (accesses_between m 0 k) ≡ None
  pub done : v ≡ after_loading start old (accesses_between m 0 k)

pub loaded-first : (m : Movement) (end : ℕ) (start : Memory) (old : VectorState) (k : ℕ) → k ≡ min m.at.vstart (end) → IsLoaded m end start start old old k
loaded-first m end start old k e = record {
  next = next-first m end k e;
  kept = refl;
  free = ap (first_failure Loading start) (first-none m end k e);
  done = ap (after_loading start old) (sym (first-none m end k e));
}

pub loaded-more : (m : Movement) (end : ℕ) (start memory new : Memory) (old v after : VectorState) (k : ℕ) (accesses : List Access) → k < end → accesses ≡ accesses_of_element m k → new ≡ memory → None ≡ first_failure Loading memory accesses → after ≡ after_loading memory v accesses → IsLoaded m end start memory old v k → IsLoaded m end start new old after (k + 1)
loaded-more m end start memory new old v after k accesses l e n none a h =
    let all = between-next m k in
    record {
      next = next-more m end k l h.next;
      kept = n ∙ h.kept;
      free =
          ap (first_failure Loading start) all
          ∙ free-append Loading start (accesses_between m 0 k) (accesses_of_element m k) h.free
          ∙ sym (λ j. first_failure Loading (h.kept j) (e j))
          ∙ sym none;
      done =
          a
          ∙ (λ j. after_loading (h.kept j) (h.done j) (e j))
          ∙ sym (loading-append start old (accesses_between m 0 k) (accesses_of_element m k))
          ∙ ap (after_loading start old) (sym all);
    }

pub record IsStopped (d : Direction) (m : Movement) (end : ℕ) (start : Memory) (k : ℕ) (f : Failed) : Type 0 where
  pub failure : Some (failure_from f) ≡ first_failure d start (accesses_between m 0 end)
  pub here : k ≡ f.item.element
  pub among : f.item.element < end

stopped : (d : Direction) (m : Movement) (end : ℕ) (start memory : Memory) (k : ℕ) (f : Failed) (accesses : List Access) → k < end → accesses ≡ accesses_of_element m k → first_failure d start (accesses_between m 0 k) ≡ None → first_failure d start accesses ≡ first_failure d memory accesses → Some (failure_from f) ≡ first_failure d memory accesses → IsStopped d m end start k f
stopped d m end start memory k f accesses l e free alike some =
    let here : first_failure d start (accesses_of_element m k) ≡ Some (failure_from f) = ap (first_failure d start) (sym e) ∙ alike ∙ sym some in
    let element : f.item.element ≡ k = element-fails d start m k (failure_from f) here in
    record {
      failure = sym (fails-all d start m end k (failure_from f) l free here);
      here = sym element;
      among = omega arith;
    }

pub loaded-stopped : (m : Movement) (end : ℕ) (start memory : Memory) (old v : VectorState) (k : ℕ) (f : Failed) (accesses : List Access) → k < end → accesses ≡ accesses_of_element m k → Some (failure_from f) ≡ first_failure Loading memory accesses → IsLoaded m end start memory old v k → IsStopped Loading m end start k f
loaded-stopped m end start memory old v k f accesses l e some h =
    stopped Loading m end start memory k f accesses l e h.free (ap (λ (x : Memory). first_failure Loading x accesses) (sym h.kept)) some

pub record IsStored (m : Movement) (end : ℕ) (v : VectorState) (start memory : Memory) (k : ℕ) : Type 0 where
  pub next : IsNext m end k
  pub free : first_failure Storing start (accesses_between m 0 k) ≡ None
  pub done : memory ≡ after_stores v.vlen v.words start (accesses_between m 0 k)

pub stored-first : (m : Movement) (end : ℕ) (v : VectorState) (start : Memory) (k : ℕ) → k ≡ min m.at.vstart (end) → IsStored m end v start start k
stored-first m end v start k e = record {
  next = next-first m end k e;
  free = ap (first_failure Storing start) (first-none m end k e);
  done = ap (after_stores v.vlen v.words start) (sym (first-none m end k e));
}

-- the accesses fail as they did at the start
as-first : (m : Movement) (end : ℕ) (v : VectorState) (start memory : Memory) (k : ℕ) (accesses : List Access) → IsStored m end v start memory k → first_failure Storing memory accesses ≡ first_failure Storing start accesses
as-first m end v start memory k accesses h =
    ap (λ (x : Memory). first_failure Storing x accesses) h.done
    ∙ alike-failure Storing (after_stores v.vlen v.words start (accesses_between m 0 k)) start accesses (stores-permit v.vlen v.words (accesses_between m 0 k) start)

pub stored-more : (m : Movement) (end : ℕ) (v : VectorState) (start memory new : Memory) (k : ℕ) (accesses : List Access) → k < end → accesses ≡ accesses_of_element m k → None ≡ first_failure Storing memory accesses → new ≡ after_stores v.vlen v.words memory accesses → IsStored m end v start memory k → IsStored m end v start new (k + 1)
stored-more m end v start memory new k accesses l e none a h =
    let all = between-next m k in
    record {
      next = next-more m end k l h.next;
      free =
          ap (first_failure Storing start) all
          ∙ free-append Storing start (accesses_between m 0 k) (accesses_of_element m k) h.free
          ∙ ap (first_failure Storing start) (sym e)
          ∙ sym (as-first m end v start memory k accesses h)
          ∙ sym none;
      done =
          a
          ∙ (λ j. after_stores v.vlen v.words (h.done j) (e j))
          ∙ sym (stores-append v.vlen v.words start (accesses_between m 0 k) (accesses_of_element m k))
          ∙ ap (after_stores v.vlen v.words start) (sym all);
    }

pub stored-stopped : (m : Movement) (end : ℕ) (v : VectorState) (start memory : Memory) (k : ℕ) (f : Failed) (accesses : List Access) → k < end → accesses ≡ accesses_of_element m k → Some (failure_from f) ≡ first_failure Storing memory accesses → IsStored m end v start memory k → IsStopped Storing m end start k f
stored-stopped m end v start memory k f accesses l e some h =
    stopped Storing m end start memory k f accesses l e h.free (sym (as-first m end v start memory k accesses h)) some

-- at the end it is all of them
pub at-end : (m : Movement) (end k : ℕ) → end ≤ k → IsNext m end k → k ≡ end
at-end m end k l h = let w = h.within in omega arith

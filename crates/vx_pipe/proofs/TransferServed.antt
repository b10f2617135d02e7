-- What is true of each access of a batch is so of those that were served.
use Rattle.std.proofs.Common.{◌≡◌, ℕ, ◌&&◌, Bool, true, false, List, [], ◌∷◌, refl, sym, ap, ◌∙◌}
use Rattle.std.specs.Prelude.{All, if◌then◌else◌}
use Rattle.std.specs.List.{list_all}
use Rattle.std.proofs.lemmas.Bool.{and_parts}
use Rattle.std.proofs.lemmas.List.Elements.{All-head, All-tail}
use Rattle.vx_episode.specs.Batches.{Fate, Judged, judged, queue_cycle, queue_of, served_in_turn}
use Rattle.vx_episode.specs.Batches.Fate.{Good, Unknown}
use Rattle.vx_episode.specs.Footprint.{Access}
use Rattle.vx_episode.specs.History.{AccessTimes}
use Rattle.vx_episode.specs.Organisation.{Organisation}
use Rattle.vx_serve.specs.InTurn.{IsInTurn}
use Rattle.vx_serve.specs.Serving.{served_of}

abbrev pub AreInTurn : Type 0
AreInTurn = (machine : Organisation) (earlier : List AccessTimes) (fate : Access → Fate) (accesses : List Access) → All (IsInTurn machine fate) (served_of machine earlier fate accesses)

-- the fates of those that pass a test
abbrev only : (Access → Bool) → (Access → Fate) → Access → Fate
only p fate a = if p a then fate a else Unknown

only-is : (p : Access → Bool) (fate : Access → Fate) (a : Access) → p a ≡ true → only p fate a ≡ fate a
only-is p fate a h = ap (λ (b : Bool). if b then fate a else Unknown) h

passes-by : (b : Bool) (x : Fate) (known word : ℕ) → (if b then x else Unknown) ≡ Good known word → b ≡ true
passes-by true x known word h = refl
passes-by false x known word h = cc

judged-only : (p : Access → Bool) (fate : Access → Fate) (lower : List Judged) (accesses : List Access) → list_all p accesses ≡ true → judged (only p fate) lower accesses ≡ judged fate lower accesses
judged-only p fate lower [] h = refl
judged-only p fate lower (a ∷ accesses) h =
    let parts = and_parts (p a) (list_all p accesses) h in
    ap (λ (x : Fate). judged (only p fate) (record { access = a; fate = x; queued = queue_cycle lower x } ∷ lower) accesses) (only-is p fate a parts.0)
    ∙ judged-only p fate (record { access = a; fate = fate a; queued = queue_cycle lower (fate a) } ∷ lower) accesses parts.1

all-pass : (machine : Organisation) (p : Access → Bool) (fate : Access → Fate) (times : List AccessTimes) → All (IsInTurn machine (only p fate)) times → list_all (λ (t : AccessTimes). p t.access) times ≡ true
all-pass machine p fate [] all = refl
all-pass machine p fate (t ∷ times) all =
    let head : IsInTurn machine (only p fate) t = All-head (IsInTurn machine (only p fate)) t times all in
    let one : p t.access ≡ true = passes-by (p t.access) (fate t.access) head.known t.word head.is_known in
    (λ i. one i && all-pass machine p fate times (All-tail (IsInTurn machine (only p fate)) t times all) i)

pub served-pass : AreInTurn → (machine : Organisation) (earlier : List AccessTimes) (fate : Access → Fate) (accesses : List Access) (p : Access → Bool) → list_all p accesses ≡ true
    → list_all (λ (t : AccessTimes). p t.access) (served_of machine earlier fate accesses) ≡ true
served-pass law machine earlier fate accesses p h =
    ap (λ (js : List Judged). list_all (λ (t : AccessTimes). p t.access) (served_in_turn machine earlier [] (queue_of js))) (sym (judged-only p fate [] accesses h))
    ∙ all-pass machine p fate (served_of machine earlier (only p fate) accesses) (law machine earlier (only p fate) accesses)

-- The accesses of batches: once done, they were queued, and their banks are free.
use Rattle.std.proofs.Common.{◌≡◌, ℕ, ◌+◌, ◌≤◌, max, Bool, true, false, List, [], ◌∷◌, ◌++◌, refl, sym, ap, ◌∙◌, arith}
use Rattle.std.specs.Prelude.{◌&&◌, ◌==◌, nat_le, map, Option, Some, option_map, find, if◌then◌else◌}
use Rattle.std.specs.List.{list_all}
use Rattle.std.specs.Option.{option_map_or}
use Rattle.std.proofs.lemmas.Bool.{and_parts, and_from, false≢true, leb-true, le-leb}
use Rattle.std.proofs.lemmas.List.Folds.{list_all-map}
use Rattle.vx_episode.specs.Batches.{Waiting, serve_cycle, served_at, served_in_turn}
use Rattle.vx_episode.specs.Cycles.{is_by}
use Rattle.vx_episode.specs.Cycles.Cycle.{At, Never}
use Rattle.vx_episode.specs.Footprint.{Access}
use Rattle.vx_episode.specs.History.{AccessTimes, bank_of, last_serve, done_cycles}
use Rattle.vx_episode.specs.Organisation.{Organisation}
use Rattle.vx_quiet.proofs.Times.{all-both, all-parts, all-more}

-- an access was queued, and its bank is free, once it is done
abbrev pub is_served : (bank_time : ℕ) → AccessTimes → Bool
is_served bank_time a = nat_le a.queued a.done && nat_le (a.served + bank_time) a.done

served-at : (bank_time queued free : ℕ) → (nat_le queued (max (queued + 1) free + bank_time) && nat_le (max (queued + 1) free + bank_time) (max (queued + 1) free + bank_time)) ≡ true
served-at bank_time queued free =
    let done : ℕ = max (queued + 1) free + bank_time in
    and_from (nat_le queued done) (nat_le done done) (le-leb queued done (omega arith)) (le-leb done done (omega arith))

pub served-all : (machine : Organisation) (earlier now : List AccessTimes) (queue : List Waiting) → list_all (is_served machine.bank_time) now ≡ true → list_all (is_served machine.bank_time) (served_in_turn machine earlier now queue) ≡ true
served-all machine earlier now [] h = h
served-all machine earlier now (w ∷ queue) h =
    let a : AccessTimes = served_at machine (serve_cycle machine (now ++ earlier) w.word w.queued) w in
    let here : is_served machine.bank_time a ≡ true = served-at machine.bank_time w.queued (option_map_or (λ served. served + machine.bank_time) (last_serve machine (bank_of machine w.word) (now ++ earlier)) 0) in
    served-all machine earlier (a ∷ now) queue (and_from (is_served machine.bank_time a) (list_all (is_served machine.bank_time) now) here h)

-- what was done by a cycle was queued by then
queued-one : (bank_time k : ℕ) (a : AccessTimes) → (is_served bank_time a && nat_le a.done k) ≡ true → nat_le a.queued k ≡ true
queued-one bank_time k a h =
    let parts = and_parts (is_served bank_time a) (nat_le a.done k) h in
    let served = and_parts (nat_le a.queued a.done) (nat_le (a.served + bank_time) a.done) parts.0 in
    let first = leb-true a.queued a.done served.0 in
    let second = leb-true a.done k parts.1 in
    le-leb a.queued k (omega arith)

free-one : (bank_time k : ℕ) (a : AccessTimes) → (is_served bank_time a && nat_le a.done k) ≡ true → nat_le (a.served + bank_time) k ≡ true
free-one bank_time k a h =
    let parts = and_parts (is_served bank_time a) (nat_le a.done k) h in
    let served = and_parts (nat_le a.queued a.done) (nat_le (a.served + bank_time) a.done) parts.0 in
    let first = leb-true (a.served + bank_time) a.done served.1 in
    let second = leb-true a.done k parts.1 in
    le-leb (a.served + bank_time) k (omega arith)

pub all-zip : {A : Type 0} (p q : A → Bool) (xs : List A) → list_all p xs ≡ true → list_all q xs ≡ true → list_all (λ x. p x && q x) xs ≡ true
all-zip p q [] h k = refl
all-zip p q (x ∷ xs) h k =
    let first = and_parts (p x) (list_all p xs) h in
    let second = and_parts (q x) (list_all q xs) k in
    and_from (p x && q x) (list_all (λ x. p x && q x) xs) (and_from (p x) (q x) first.0 second.0) (all-zip p q xs first.1 second.1)

pub queued-all : (bank_time k : ℕ) (accesses : List AccessTimes) → list_all (is_served bank_time) accesses ≡ true → list_all (λ (a : AccessTimes). nat_le a.done k) accesses ≡ true → list_all (λ (a : AccessTimes). nat_le a.queued k) accesses ≡ true
queued-all bank_time k accesses h d = all-more (λ (a : AccessTimes). is_served bank_time a && nat_le a.done k) (λ (a : AccessTimes). nat_le a.queued k) (queued-one bank_time k) accesses (all-zip (is_served bank_time) (λ (a : AccessTimes). nat_le a.done k) accesses h d)

pub free-all : (bank_time k : ℕ) (accesses : List AccessTimes) → list_all (is_served bank_time) accesses ≡ true → list_all (λ (a : AccessTimes). nat_le a.done k) accesses ≡ true → list_all (λ (a : AccessTimes). nat_le (a.served + bank_time) k) accesses ≡ true
free-all bank_time k accesses h d = all-more (λ (a : AccessTimes). is_served bank_time a && nat_le a.done k) (λ (a : AccessTimes). nat_le (a.served + bank_time) k) (free-one bank_time k) accesses (all-zip (is_served bank_time) (λ (a : AccessTimes). nat_le a.done k) accesses h d)

-- the bank of a word is free, behind more accesses
abbrev free_from : Organisation → Option AccessTimes → ℕ
free_from machine last = option_map_or (λ served. served + machine.bank_time) (option_map (λ (a : AccessTimes). a.served) last) 0

free-if : (machine : Organisation) (k : ℕ) (b : Bool) (a : AccessTimes) (rest : Option AccessTimes) → nat_le (a.served + machine.bank_time) k ≡ true → free_from machine rest ≤ k → free_from machine (if b then Some a else rest) ≤ k
free-if machine k true a rest h few = leb-true (a.served + machine.bank_time) k h
free-if machine k false a rest h few = few

pub free-more : (machine : Organisation) (k bank : ℕ) (newer older : List AccessTimes) → list_all (λ (a : AccessTimes). nat_le (a.served + machine.bank_time) k) newer ≡ true
    → option_map_or (λ served. served + machine.bank_time) (last_serve machine bank older) 0 ≤ k → option_map_or (λ served. served + machine.bank_time) (last_serve machine bank (newer ++ older)) 0 ≤ k
free-more machine k bank [] older h few = few
free-more machine k bank (a ∷ newer) older h few =
    let parts = and_parts (nat_le (a.served + machine.bank_time) k) (list_all (λ (a : AccessTimes). nat_le (a.served + machine.bank_time) k) newer) h in
    free-if machine k (bank_of machine a.word == bank) a (find (λ (a : AccessTimes). bank_of machine a.word == bank) (newer ++ older)) parts.0 (free-more machine k bank newer older parts.1 few)

-- ---- those that are waited for

all-never : (k : ℕ) (missing : List Access) → list_all (is_by k) (map (λ (a : Access). Never) missing) ≡ true → missing ≡ []
all-never k [] h = refl
all-never k (a ∷ missing) h = absurd (false≢true h)

-- what waits for accesses comes once they are done, and where none is missing
pub done-parts : (k : ℕ) (accesses : List AccessTimes) (missing : List Access) → list_all (is_by k) (done_cycles accesses missing) ≡ true → (list_all (λ (a : AccessTimes). nat_le a.done k) accesses ≡ true) × (missing ≡ [])
done-parts k accesses missing h =
    let parts = all-parts (is_by k) (map (λ (a : AccessTimes). At a.done) accesses) (map (λ (a : Access). Never) missing) h in
    (sym (list_all-map (is_by k) (λ (a : AccessTimes). At a.done) accesses) ∙ parts.0, all-never k missing parts.1)

pub done-from : (k : ℕ) (accesses : List AccessTimes) (missing : List Access) → list_all (λ (a : AccessTimes). nat_le a.done k) accesses ≡ true → missing ≡ [] → list_all (is_by k) (done_cycles accesses missing) ≡ true
done-from k accesses missing h none =
    all-both (is_by k) (map (λ (a : AccessTimes). At a.done) accesses) (map (λ (a : Access). Never) missing)
    (list_all-map (is_by k) (λ (a : AccessTimes). At a.done) accesses ∙ h)
    (ap (λ (missing : List Access). list_all (is_by k) (map (λ (a : Access). Never) missing)) none)

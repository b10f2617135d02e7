-- The issue behind a quiet history.
use Rattle.std.proofs.Common.{◌≡◌, ℕ, ◌+◌, ◌≤◌, ◌<◌, max, Bool, true, false, List, [], ◌∷◌, ◌++◌, refl, sym, ap, ◌∙◌, arith}
use Rattle.std.specs.Prelude.{nat_le, map, if◌then◌else◌}
use Rattle.std.specs.List.{list_all}
use Rattle.std.proofs.lemmas.Bool.{and_parts, and_from, and_left, and_right, false≢true, leb-true, leb-false, lt-leb}
use Rattle.std.proofs.lemmas.List.Folds.{list_all-append}
use Rattle.vx_episode.specs.Cycles.{Cycle, behind, later_of, latest, is_by}
use Rattle.vx_episode.specs.Cycles.Cycle.{At, Never}
use Rattle.vx_episode.specs.Footprint.{Footprint}
use Rattle.vx_episode.specs.History.{History, last_issue, last_retire, retire_before, trimming_before, register_ready}
use Rattle.vx_episode.specs.Instructions.{issue_cycle}
use Rattle.vx_episode.specs.Organisation.{Start}
use Rattle.vx_quiet.specs.Quiet.{IsQuiet}
use Rattle.vx_quiet.proofs.Times.{all-both, all-if, by-latest, all-by-more, behind-by, all-behind, at-by}

-- ---- of cycles

pub at-cycle : (a b : ℕ) → At a ≡ At b → a ≡ b
at-cycle a b e = cc

tight-at : (c r : ℕ) → nat_le c (r + 1) ≡ true → nat_le c r ≡ false → c ≡ r + 1
tight-at c r above below = let high = leb-true c (r + 1) above in let low = leb-false c r below in omega arith

tight : (r : ℕ) (c : Cycle) → is_by (r + 1) c ≡ true → is_by r c ≡ false → c ≡ At (r + 1)
tight r (At c) above below = ap At (tight-at c r above below)
tight r Never above below = absurd (false≢true above)

one-behind : (r : ℕ) (c : Cycle) → c ≡ At r → is_by r (behind c) ≡ false
one-behind r c e = ap (λ c. is_by r (behind c)) e ∙ lt-leb (r + 1) r (omega arith)

none-before : (p : Cycle → Bool) (xs ys : List Cycle) → list_all p xs ≡ false → list_all p (xs ++ ys) ≡ false
none-before p xs ys h = list_all-append p xs ys ∙ and_left (list_all p xs) (list_all p ys) h

none-behind : (p : Cycle → Bool) (xs ys : List Cycle) → list_all p ys ≡ false → list_all p (xs ++ ys) ≡ false
none-behind p xs ys h = list_all-append p xs ys ∙ and_right (list_all p xs) (list_all p ys) h

-- all of some registers can be read
pub ready-all : (start r : ℕ) (history : History) → ((register : ℕ) → is_by r (register_ready start history register) ≡ true) → (reads : List ℕ) → list_all (is_by r) (map (register_ready start history) reads) ≡ true
ready-all start r history each [] = refl
ready-all start r history each (register ∷ reads) =
    and_from (is_by r (register_ready start history register)) (list_all (is_by r) (map (register_ready start history) reads)) (each register) (ready-all start r history each reads)

-- ---- the issue

abbrev waits : Start → History → Footprint → (window : ℕ) → List Cycle
waits start history f window =
    behind (last_issue start.cycle history)
    ∷ map (register_ready start.cycle history) f.reads
    ++ map behind (retire_before window history)
    ++ map behind (trimming_before history)
    ++ (if f.is_serial then behind (last_retire start.cycle history) ∷ [] else [])

-- the retire before, where an instruction waits for it
last-behind : (r : ℕ) (c : Cycle) → c ≡ At r → list_all (is_by (r + 1)) (behind c ∷ []) ≡ true
last-behind r c e = and_from (is_by (r + 1) (behind c)) true (behind-by r c (at-by r c e)) refl

waits-by : (start : Start) (history : History) (r : ℕ) (f : Footprint) → IsQuiet start history r → list_all (is_by (r + 1)) (waits start history f 1) ≡ true
waits-by start history r f q =
    let some : r ≤ r + 1 = omega arith in
    let p = is_by (r + 1) in
    let registers = map (register_ready start.cycle history) f.reads in
    let window = map behind (retire_before 1 history) in
    let trimming = map behind (trimming_before history) in
    let serial : List Cycle = if f.is_serial then behind (last_retire start.cycle history) ∷ [] else [] in
    let reads-by : list_all p registers ≡ true = all-by-more r (r + 1) some registers (ready-all start.cycle r history q.registers f.reads) in
    let serial-by : list_all p serial ≡ true = all-if p f.is_serial (behind (last_retire start.cycle history) ∷ []) [] (last-behind r (last_retire start.cycle history) q.last) refl in
    and_from (p (behind (last_issue start.cycle history))) (list_all p (registers ++ window ++ trimming ++ serial)) (behind-by r (last_issue start.cycle history) q.issue)
    (all-both p (registers ++ window ++ trimming) serial
    (all-both p (registers ++ window) trimming
    (all-both p registers window reads-by (all-behind r (retire_before 1 history) q.window))
    (all-behind r (trimming_before history) q.trimming))
    serial-by)

waits-not : (start : Start) (history : History) (r : ℕ) (f : Footprint) → last_retire start.cycle history ≡ At r → list_all (is_by r) (waits start history f 1) ≡ false
waits-not start [] r f last = and_left (is_by r (behind (last_issue start.cycle []))) _ (one-behind r (last_issue start.cycle []) last)
waits-not start (e ∷ history) r f last =
    let p = is_by r in
    let registers = map (register_ready start.cycle (e ∷ history)) f.reads in
    let window = map behind (retire_before 1 (e ∷ history)) in
    let trimming = map behind (trimming_before (e ∷ history)) in
    let serial : List Cycle = if f.is_serial then behind (last_retire start.cycle (e ∷ history)) ∷ [] else [] in
    let here : list_all p window ≡ false = and_left (is_by r (behind e.retired)) true (one-behind r e.retired last) in
    and_right (p (behind (last_issue start.cycle (e ∷ history)))) (list_all p (registers ++ window ++ trimming ++ serial))
    (none-before p (registers ++ window ++ trimming) serial
    (none-before p (registers ++ window) trimming
    (none-behind p registers window here)))

pub waits-at : (start : Start) (history : History) (r : ℕ) (f : Footprint) → start.machine.window ≡ 1 → IsQuiet start history r → latest (waits start history f start.machine.window) ≡ At (r + 1)
waits-at start history r f one q =
    let above : is_by (r + 1) (latest (waits start history f 1)) ≡ true = by-latest (r + 1) (waits start history f 1) ∙ waits-by start history r f q in
    let below : is_by r (latest (waits start history f 1)) ≡ false = by-latest r (waits start history f 1) ∙ waits-not start history r f q.last in
    ap (λ window. latest (waits start history f window)) one ∙ tight r (latest (waits start history f 1)) above below

pub issue-at : (start : Start) (history : History) (r fetched : ℕ) (f : Footprint) → start.machine.window ≡ 1 → IsQuiet start history r → issue_cycle start history (At fetched) f ≡ At (max fetched (r + 1))
issue-at start history r fetched f one q = ap (λ c. later_of (At fetched) c) (waits-at start history r f one q)

pub issue-of : (start : Start) (history : History) (r fetched : ℕ) (f : Footprint) (fetch : Cycle) → start.machine.window ≡ 1 → IsQuiet start history r → fetch ≡ At fetched → issue_cycle start history fetch f ≡ At (max fetched (r + 1))
issue-of start history r fetched f fetch one q e = ap (λ c. issue_cycle start history c f) e ∙ issue-at start history r fetched f one q

-- what is issued was fetched, and is behind the last retire
pub issue-after : (start : Start) (history : History) (r k : ℕ) (f : Footprint) (fetch : Cycle) → start.machine.window ≡ 1 → IsQuiet start history r → is_by k (issue_cycle start history fetch f) ≡ true → (is_by k fetch ≡ true) × (r < k)
issue-after start history r k f fetch one q h =
    let parts = and_parts (is_by k fetch) (list_all (is_by k) (waits start history f start.machine.window)) (sym (by-latest k (fetch ∷ waits start history f start.machine.window)) ∙ h) in
    let after : is_by k (At (r + 1)) ≡ true = sym (ap (is_by k) (waits-at start history r f one q)) ∙ by-latest k (waits start history f start.machine.window) ∙ parts.1 in
    let least = leb-true (r + 1) k after in
    (parts.0, omega arith)

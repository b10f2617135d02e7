-- At each width.
use Rattle.std.proofs.Common.{IsTrue, true, ◌≡◌, ℕ, ◌+◌, ◌/◌, ◌<◌, nat_eq, if◌then◌else◌, Option, unwrap_or, sym, subst, arith}
use Rattle.vx_packed.specs.Joined.{joined, lane}
use Rattle.vx_operands.proofs.moved_by.word_after.Goals as goal

pub returns-in-8 : goal.returns-in-8
returns-in-8 g c = subst (λ n. (h : ℕ → Option ℕ) → ((k : ℕ) → k < 64 / n → nat_eq (lane 1 c.args.active k) 1 ≡ true → (o : Option ℕ) → goal.F-post g c.args.f (c.args.first + k) o → o ≡ h k) → c.lanes_after.result ≡ joined n (64 / n) (λ k. if nat_eq (lane 1 c.args.active k) 1 then unwrap_or (h k) (lane n c.args.old k) else lane n c.args.old k)) (sym c.in-8.is) c.lanes_after.ensures

pub returns-in-16 : goal.returns-in-16
returns-in-16 g c = subst (λ n. (h : ℕ → Option ℕ) → ((k : ℕ) → k < 64 / n → nat_eq (lane 1 c.args.active k) 1 ≡ true → (o : Option ℕ) → goal.F-post g c.args.f (c.args.first + k) o → o ≡ h k) → c.lanes_after-in-16.result ≡ joined n (64 / n) (λ k. if nat_eq (lane 1 c.args.active k) 1 then unwrap_or (h k) (lane n c.args.old k) else lane n c.args.old k)) (sym c.in-16.is) c.lanes_after-in-16.ensures

pub returns-in-32 : goal.returns-in-32
returns-in-32 g c = subst (λ n. (h : ℕ → Option ℕ) → ((k : ℕ) → k < 64 / n → nat_eq (lane 1 c.args.active k) 1 ≡ true → (o : Option ℕ) → goal.F-post g c.args.f (c.args.first + k) o → o ≡ h k) → c.lanes_after-in-32.result ≡ joined n (64 / n) (λ k. if nat_eq (lane 1 c.args.active k) 1 then unwrap_or (h k) (lane n c.args.old k) else lane n c.args.old k)) (sym c.in-32.is) c.lanes_after-in-32.ensures

pub returns-in_default : goal.returns-in_default
returns-in_default g c =
    let e : 64 ≡ c.args.width = grind (arith, c.requires.width) in
    subst (λ n. (h : ℕ → Option ℕ) → ((k : ℕ) → k < 64 / n → nat_eq (lane 1 c.args.active k) 1 ≡ true → (o : Option ℕ) → goal.F-post g c.args.f (c.args.first + k) o → o ≡ h k) → c.lanes_after-in_default.result ≡ joined n (64 / n) (λ k. if nat_eq (lane 1 c.args.active k) 1 then unwrap_or (h k) (lane n c.args.old k) else lane n c.args.old k)) e c.lanes_after-in_default.ensures

-- A word made of its lanes one after another.
use Rattle.std.proofs.Common.{◌≡◌, ℕ, ◌+◌, ◌*◌, ◌%◌, ◌^◌, ◌<◌, sym, ap, ◌∙◌, subst, arith, add-one, pow_pos, mod-lt}
use Rattle.vx_bits.specs.declared.saturation.Sat.{Sat}
use Rattle.vx_packed.specs.Joined.{joined}
use Rattle.vx_base.specs.Numbers.{truth}
use Rattle.vx_packed.specs.Made.{IsWithin, Answers, lane_of, made}
use Rattle.vx_packed.specs.declared.elements.Lane.{Lane}
use Rattle.vx_packed.specs.declared.elements.Made.{Made}
use Rattle.vx_packed.specs.declared.elements.Packing.{Packing}
use Rattle.vx_packed.specs.declared.elements.Sources.{Sources}
use Rattle.vx_packed.proofs.Joined.{above-lt, joined-none, joined-suc}

-- the lanes below n are made
pub record IsMadeBelow (post : Lane → Sat → Type 0) (at : Packing) (from : Sources) (n : ℕ) (so_far : Made) : Type 0 where
  pub below : so_far.value < 2 ^ (n * at.width)
  pub sats_below : so_far.sats < 2 ^ (n * 1)
  pub value : (f : Lane → Sat) → Answers post at f → so_far.value ≡ joined at.width n (λ k. (f (lane_of at from k)).value)
  pub sats : (f : Lane → Sat) → Answers post at f → so_far.sats ≡ joined 1 n (λ k. truth (f (lane_of at from k)).sat)

pub made_none : (post : Lane → Sat → Type 0) (at : Packing) (from : Sources) → IsMadeBelow post at from 0 (record { value = 0; sats = 0 })
made_none post at from = record {
  below = pow_pos (0 * at.width);
  sats_below = pow_pos (0 * 1);
  value = λ f h. sym (joined-none at.width _);
  sats = λ f h. sym (joined-none 1 _);
}

above : (width n x v : ℕ) → x < 2 ^ (n * width) → x + v % 2 ^ width * 2 ^ (n * width) < 2 ^ ((n + 1) * width)
above width n x v h =
    let both = above-lt width (n * width) x (v % 2 ^ width) h (mod-lt v (pow_pos width)) in
    let bits : (n + 1) * width ≡ width + n * width = omega arith in
    subst (λ k. x + v % 2 ^ width * 2 ^ (n * width) < 2 ^ k) (sym bits) both

one_more : (width n x v : ℕ) (f : ℕ → ℕ) → x ≡ joined width n f → v % 2 ^ width ≡ f n % 2 ^ width → x + v % 2 ^ width * 2 ^ (n * width) ≡ joined width (n + 1) f
one_more width n x v f e h =
    (λ i. e i + h i * 2 ^ (n * width)) ∙ sym (joined-suc width n f) ∙ ap (λ k. joined width k f) (sym (add-one n))

pub made_more : (post : Lane → Sat → Type 0) (at : Packing) (from : Sources) (n : ℕ) (so_far next : Made) (x : Lane) (s : Sat) → IsMadeBelow post at from n so_far → x ≡ lane_of at from n → IsWithin at x → post x s → next.value ≡ so_far.value + s.value % 2 ^ at.width * 2 ^ (n * at.width) → next.sats ≡ so_far.sats + truth s.sat % 2 ^ 1 * 2 ^ (n * 1) → IsMadeBelow post at from (n + 1) next
made_more post at from n so_far next x s h e w p v t = record {
  below = subst (λ x. x < 2 ^ ((n + 1) * at.width)) (sym v) (above at.width n so_far.value s.value h.below);
  sats_below = subst (λ x. x < 2 ^ ((n + 1) * 1)) (sym t) (above 1 n so_far.sats (truth s.sat) h.sats_below);
  value = λ f a. v ∙ one_more at.width n so_far.value s.value (λ k. (f (lane_of at from k)).value) (h.value f a) ((a x s w p).0 ∙ ap (λ l. (f l).value % 2 ^ at.width) e);
  sats = λ f a. t ∙ one_more 1 n so_far.sats (truth s.sat) (λ k. truth (f (lane_of at from k)).sat) (h.sats f a) (ap (λ b. truth b % 2 ^ 1) ((a x s w p).1 ∙ ap (λ l. (f l).sat) e));
}

pub made_all : (post : Lane → Sat → Type 0) (at : Packing) (from : Sources) (so_far : Made) → IsMadeBelow post at from at.count so_far → (f : Lane → Sat) → Answers post at f → so_far ≡ made at from f
made_all post at from so_far h f a = λ i. record { value = h.value f a i; sats = h.sats f a i }

-- The bytes that a service reads, and what an ecall is that asks for another service than exit.
use Rattle.std.proofs.Common.{◌≡◌, ℕ, zero, suc, Bool, true, false, ◌==◌, if◌then◌else◌, length, refl, ap, ◌∙◌}
use Rattle.std.proofs.lemmas.Bool.{true≢false}
use Rattle.vx_base.specs.Numbers.{signed}
use Rattle.vx_flat.specs.Outcome.{Outcome}
use Rattle.vx_flat.specs.Outcome.Outcome.{Next, Exited}
use Rattle.vx_flat.specs.Service.{answered, service}
use Rattle.vx_flat.specs.State.{Flat, register}
use Rattle.vx_flat.specs.Step.{ecall}
use Rattle.vx_image.specs.Pages.{Memory}
use Rattle.vx_flat.specs.Memory.{bytes_at, next_address}

-- as many bytes as asked for
pub length-bytes_at : (memory : Memory) (address count : ℕ) → length (bytes_at memory address count) ≡ count
length-bytes_at memory address zero = refl
length-bytes_at memory address (suc count) = ap suc (length-bytes_at memory (next_address address) count)

either : (b : Bool) (x y : Outcome) → b ≡ false → y ≡ (if b then x else y)
either true x y h = absurd (true≢false h)
either false x y h = refl

pub ecall-other : (s : Flat) (n : ℕ) → n ≡ register s 17 → (n == 93) ≡ false → Next (answered s (service s n)) ≡ ecall s
ecall-other s n is other =
    either (n == 93) (Exited (signed 64 (register s 10))) (Next (answered s (service s n))) other
    ∙ ap (λ (m : ℕ). if m == 93 then Exited (signed 64 (register s 10)) else Next (answered s (service s m))) is

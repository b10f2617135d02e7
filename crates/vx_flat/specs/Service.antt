-- The services of ecall. Their numbers and error numbers are those of Linux's RISC-V system calls; what they do is this
-- project's own. a0, a1, a2 and a7 are x10, x11, x12 and x17 (RISC-V psABI).
use Rattle.std.specs.Prelude.{ℕ, ◌+◌, ◌^◌, Bool, not, ◌==◌, ◌||◌, ◌&&◌, nat_lt, nat_le, ℤ, pos, neg_ℤ, List, [], ◌++◌, length, if◌then◌else◌}
use Rattle.vx_base.specs.Numbers.{reduced}
use Rattle.vx_base.specs.declared.machine.Want.TheVariants.{Load}
use Rattle.vx_image.specs.Pages.{Memory}
use Rattle.vx_flat.specs.Memory.{all_permit, bytes_at}
use Rattle.vx_flat.specs.State.{Flat, register, with_register, following}

-- what a service answers in a0, and what it writes
pub record Answer : Type 0 where
  pub value : ℤ
  pub written : List ℕ

-- it answers a number, and writes nothing
abbrev pub answers : ℤ → Answer
answers value = record { value = value; written = [] }

-- no address of the range passes the last, and each lies on a page that may be read
abbrev pub is_readable : Memory → ℕ → ℕ → Bool
is_readable memory address count = nat_le (address + count) (2 ^ 64) && all_permit memory address count Load

-- how much a process may write: 1 MiB
abbrev pub output_limit : ℕ
output_limit = 2 ^ 20

-- write so many bytes from an address on to descriptor 1 or 2
abbrev pub write : Flat → (descriptor address count : ℕ) → Answer
write s descriptor address count =
    if not (descriptor == 1 || descriptor == 2) then answers (neg_ℤ (pos 9))
    else if count == 0 then answers (pos 0)
    else if not (is_readable s.memory address count) then answers (neg_ℤ (pos 14))
    else if nat_lt output_limit (length s.output + count) then answers (neg_ℤ (pos 28))
    else record { value = pos count; written = bytes_at s.memory address count }

-- the service of that number, other than exit
abbrev pub service : Flat → ℕ → Answer
service s number =
    if number == 64 then write s (register s 10) (register s 11) (register s 12)
    else answers (neg_ℤ (pos 38))

-- the state after an answer
abbrev pub answered : Flat → Answer → Flat
answered s answer = record s { pc = following s; x = with_register s.x 10 (reduced 64 answer.value); output = s.output ++ answer.written }

-- The numbers of an access fit the fields of an item.
use Rattle.std.proofs.Common.{◌≡◌, ℕ, suc, ◌*◌, ◌/◌, ◌<◌, ◌≤◌, true, sym, subst, arith, mul-le-mul_right}
use Rattle.std.proofs.Math.Nat.{mul-le-mul_left}
use Rattle.vx_vstate.specs.Registers.{words_of_register, is_byte_width}
use Rattle.vx_vector.specs.Accesses.{Movement, access_bits, access_bytes, fields_of, registers_of_field, movement_count}
use Rattle.vx_vector.specs.Movements.{IsSoundMovement}
use Rattle.vx_vaddr.specs.Patterns.{IsSized}
use Rattle.vx_vaddr.proofs.Places.{by_width, few_words}

few-bytes : (w : ℕ) → is_byte_width w ≡ true → w / 8 ≤ 8
few-bytes w h = by_width (λ n. n / 8 ≤ 8) w (omega arith) (omega arith) (omega arith) (omega arith) h

byte-below : (w i n : ℕ) → is_byte_width w ≡ true → i * w / 64 < n → n ≤ 1024 → i * (w / 8) < 8192
byte-below w i n h = by_width (λ w. i * w / 64 < n → n ≤ 1024 → i * (w / 8) < 8192) w (λ a b. omega arith) (λ a b. omega arith) (λ a b. omega arith) (λ a b. omega arith) h

sized-of : (m : Movement) (i f : ℕ) → IsSoundMovement m → i < movement_count m → f < fields_of m → IsSized (access_bytes m) (registers_of_field m) m.i.rd i f
sized-of m i f s l g =
    let inside = s.within i l in
    let next : suc f ≤ fields_of m = g in
    let fields = mul-le-mul_right (registers_of_field m) next in
    let few = s.few_fields in
    let fits = s.room in
    let words = few_words m.at.vlen s.setting.vlen_in_range in
    let positive : 1 ≤ registers_of_field m = omega arith in
    let one = mul-le-mul_right (registers_of_field m) s.some_field in
    let most : registers_of_field m ≤ 32 = omega arith in
    let rows = mul-le-mul_right (words_of_register m.at.vlen) most in
    let all : registers_of_field m * words_of_register m.at.vlen ≤ 1024 = omega (arith, words.1) in
    let small = byte-below (access_bits m) i (registers_of_field m * words_of_register m.at.vlen) s.width inside all in
    let bytes = few-bytes (access_bits m) s.width in
    let offsets = mul-le-mul_left f bytes in
    record {
      few_fields = omega arith;
      few_bytes = bytes;
      offset = omega arith;
      span = omega arith;
      inside = omega arith;
      byte = omega arith;
    }

pub sized : (m : Movement) (bytes registers i f : ℕ) → bytes ≡ access_bytes m → registers ≡ registers_of_field m → IsSoundMovement m → i < movement_count m → f < fields_of m → IsSized bytes registers m.i.rd i f
sized m bytes registers i f b r s l g =
    subst (λ n. IsSized n registers m.i.rd i f) (sym b) (subst (λ n. IsSized (access_bytes m) n m.i.rd i f) (sym r) (sized-of m i f s l g))

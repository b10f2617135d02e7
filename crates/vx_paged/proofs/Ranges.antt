-- Ranges of addresses: where all are let through, and the bytes of two parts.
use Rattle.std.proofs.Common.{◌≡◌, ℕ, zero, suc, ◌+◌, ◌-◌, ◌*◌, ◌/◌, ◌%◌, ◌^◌, ◌<◌, ◌≤◌, Bool, true, false, ◌&&◌, leb, List, ◌∷◌, ◌++◌, refl, sym, ap, ◌∙◌, zero-add, add-zero, arith}
use Rattle.std.proofs.Math.Bool.{and-false, and_assoc}
use Rattle.std.proofs.Math.Nat.{suc-add}
use Rattle.std.proofs.lemmas.Bool.{false≢true, leb-true}
use Rattle.std.proofs.lemmas.Nat.{div-mul-add, shr-shr}
use Rattle.vx_base.specs.declared.machine.Want.{Want}
use Rattle.vx_base.specs.declared.machine.Want.TheVariants.{Load}
use Rattle.vx_flat.specs.Memory.{byte_at, bytes_at, next_address, all_permit}
use Rattle.vx_flat.specs.Service.{is_readable}
use Rattle.vx_image.specs.Pages.{Memory, permits}
use Rattle.vx_paged.proofs.Shown.{next_is}

-- a test that isn't false is true
not_false : (b : Bool) → (b ≡ false → ⊥) → b ≡ true
not_false true differs = refl
not_false false differs = absurd (differs refl)

-- both of two tests that are true together are true
both_true : (a b : Bool) → (a && b) ≡ true → (a ≡ true) × (b ≡ true)
both_true true b both = (refl, both)
both_true false b both = absurd (false≢true both)

-- addresses of one page are let through alike
permits_alike : (memory : Memory) (a b : ℕ) (want : Want) → a / 4096 ≡ b / 4096 → permits memory a want ≡ permits memory b want
permits_alike memory a b want same =
    let upper : a / 2 ^ 38 ≡ b / 2 ^ 38 = sym (shr-shr a 12 26) ∙ ap (λ (q : ℕ). q / 2 ^ 26) same ∙ shr-shr b 12 26 in
    rw (upper, same) refl

module _ (memory : Memory) (want : Want) (page : ℕ) (granted : permits memory (page * 4096) want ≡ true) where
  -- where one address of a page is let through, each is
  one_on_page : (offset address : ℕ) → address ≡ page * 4096 + offset → offset < 4096 → permits memory address want ≡ true
  one_on_page offset address same below =
      let on : address / 4096 ≡ page * 4096 / 4096 = rw same (div-mul-add page 4096 offset below ∙ sym (div-mul-add page 4096 0 (omega arith)) ∙ ap (λ (n : ℕ). n / 4096) (add-zero (page * 4096))) in
      permits_alike memory address (page * 4096) want on ∙ granted

  -- and so are so many, as far as the page goes
  pub all_on_page : (count offset address : ℕ) → address ≡ page * 4096 + offset → offset + count ≤ 4096 → address + count ≤ 2 ^ 64 → all_permit memory address count want ≡ true
  all_on_page zero offset address same within fits = refl
  all_on_page (suc zero) offset address same within fits = rw (one_on_page offset address same (omega arith)) refl
  all_on_page (suc (suc count)) offset address same within fits =
      rw (one_on_page offset address same (omega arith), next_is address (omega arith))
      (all_on_page (suc count) (offset + 1) (address + 1) (omega arith) (omega arith) (omega arith))

-- the bytes of a range are those of its two parts
pub bytes_join : (memory : Memory) (m n address : ℕ) → address + m + n ≤ 2 ^ 64 → 0 < n → bytes_at memory address (m + n) ≡ bytes_at memory address m ++ bytes_at memory (address + m) n
bytes_join memory zero n address fits some = rw (zero-add n, add-zero address) refl
bytes_join memory (suc m) n address fits some =
    let next : next_address address ≡ address + 1 = next_is address (omega arith) in
    let there : address + 1 + m ≡ address + suc m = omega arith in
    rw (suc-add m n, next)
    (ap (λ (bs : List ℕ). byte_at memory address ∷ bs) (bytes_join memory m n (address + 1) (omega arith) some)
    ∙ ap (λ (a : ℕ). (byte_at memory address ∷ bytes_at memory (address + 1) m) ++ bytes_at memory a n) there)

-- a range is let through where its two parts are
pub all_join : (memory : Memory) (want : Want) (m n address : ℕ) → address + m + n ≤ 2 ^ 64 → 0 < n → all_permit memory address (m + n) want ≡ (all_permit memory address m want && all_permit memory (address + m) n want)
all_join memory want zero n address fits some = rw (zero-add n, add-zero address) refl
all_join memory want (suc m) n address fits some =
    let next : next_address address ≡ address + 1 = next_is address (omega arith) in
    let there : address + 1 + m ≡ address + suc m = omega arith in
    rw (suc-add m n, next)
    (ap (λ (b : Bool). permits memory address want && b) (all_join memory want m n (address + 1) (omega arith) some)
    ∙ ap (λ (a : ℕ). permits memory address want && (all_permit memory (address + 1) m want && all_permit memory a n want)) there
    ∙ sym (and_assoc (permits memory address want) (all_permit memory (address + 1) m want) (all_permit memory (address + suc m) n want)))

module _ (memory : Memory) (want : Want) (address done : ℕ) where
  -- a range that is let through goes on with so many addresses of a page that is
  pub all_more : (count : ℕ) → all_permit memory address done want ≡ true → permits memory (address + done) want ≡ true → 0 < count → (address + done) % 4096 + count ≤ 4096 → address + done + count ≤ 2 ^ 64 → all_permit memory address (done + count) want ≡ true
  all_more count before granted some within fits =
      let at = address + done in
      let page = at / 4096 in
      let start : page * 4096 / 4096 ≡ page = ap (λ (n : ℕ). n / 4096) (sym (add-zero (page * 4096))) ∙ div-mul-add page 4096 0 (omega arith) in
      let first : permits memory (page * 4096) want ≡ true = permits_alike memory (page * 4096) at want start ∙ granted in
      rw (all_join memory want done count address fits some, before)
      (all_on_page memory want page first count (at % 4096) at (omega arith) within fits)

  -- a range is not let through where one of its addresses is not
  pub not_all : (count : ℕ) → done < count → address + count ≤ 2 ^ 64 → permits memory (address + done) want ≡ false → all_permit memory address count want ≡ false
  not_all count below fits denied =
      let rest = count - done - 1 in
      let parts : count ≡ done + suc rest = omega arith in
      rw (parts, all_join memory want done (suc rest) address (omega arith) (omega arith), denied) (and-false (all_permit memory address done want))

  -- each address of a range that is let through is
  pub one_of_all : (count : ℕ) → done < count → address + count ≤ 2 ^ 64 → all_permit memory address count want ≡ true → permits memory (address + done) want ≡ true
  one_of_all count below fits all = not_false (permits memory (address + done) want) (λ denied. cc (not_all count below fits denied, all))

-- a range that can be read ends by the last address, and all of it is let through
pub readable_parts : (memory : Memory) (address count : ℕ) → is_readable memory address count ≡ true → record { fits : address + count ≤ 2 ^ 64; all : all_permit memory address count Load ≡ true }
readable_parts memory address count readable =
    let parts = both_true (leb (address + count) (2 ^ 64)) (all_permit memory address count Load) readable in
    record { fits = leb-true (address + count) (2 ^ 64) parts.0; all = parts.1 }

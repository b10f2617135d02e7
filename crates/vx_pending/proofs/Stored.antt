-- Accesses of a store done on two memories with the same pages: what both write is the same.
use Rattle.std.proofs.Common.{◌≡◌, ℕ, ◌+◌, ◌-◌, ◌*◌, ◌/◌, ◌%◌, ◌^◌, ◌<◌, ◌≤◌, Bool, true, false, not, ◌&&◌, ◌||◌, nat_eq, leb, ltb, List, [], ◌∷◌, map, if◌then◌else◌, cond, refl, sym, ap, ◌∙◌, subst, ⊎_elim, arith}
use Rattle.std.specs.List.{All, filter, list_any}
use Rattle.std.specs.Prelude.{Option, Some, None, is_none}
use Rattle.std.specs.Option.{option_map_or}
use Rattle.std.proofs.lemmas.Bool.{false≢true, true≢false, and_parts, or_cases, eqb-true, ltb-true, leb-true}
use Rattle.std.proofs.lemmas.List.Elements.{All-head, All-tail}
use Rattle.std.proofs.lemmas.Nat.{shr-shr}
use Rattle.std.proofs.lemmas.Option.{none-some}
use Rattle.vx_base.specs.Numbers.{little_endian}
use Rattle.vx_base.specs.Permissions.{grants}
use Rattle.vx_base.specs.declared.machine.Want.{Want}
use Rattle.vx_base.specs.declared.machine.Want.TheVariants.{Store}
use Rattle.vx_image.specs.Pages.{MappedPage, Memory, page_numbered, page_of, is_canonical, is_granted, permits}
use Rattle.vx_vstate.specs.Registers.{is_byte_width}
use Rattle.vx_vector.specs.Accesses.{Access, value_stored}
use Rattle.vx_flat.specs.Checks.{cause_of, misaligned, page_fault}
use Rattle.vx_flat.specs.Memory.{byte_at, put_number}
use Rattle.vx_flat.specs.State.{Flat}
use Rattle.vx_flat.specs.Transfers.{access_done, accesses_done, failure_of}
use Rattle.vx_flat.specs.Transfers.Direction.{Storing}
use Rattle.vx_episode.specs.Show.{Span, is_in}
use Rattle.vx_pending.specs.Alike.{HaveSamePages, with_memory}
use Rattle.vx_pending.proofs.Pages.{Agree, same-on, same-back, puts-same, puts-agree, puts-there, puts-elsewhere, length-little_endian}

-- ---- an access that doesn't fail

pub by_width : (P : ℕ → Type 0) (n : ℕ) → P 8 → P 16 → P 32 → P 64 → is_byte_width n ≡ true → P n
by_width P n one two four eight h =
    ⊎_elim
    (λ t. ⊎_elim
    (λ t. ⊎_elim
    (λ t. subst P (sym (eqb-true n 8 t)) one)
    (λ t. subst P (sym (eqb-true n 16 t)) two)
    (or_cases (nat_eq n 8) (nat_eq n 16) t))
    (λ t. subst P (sym (eqb-true n 32 t)) four)
    (or_cases (nat_eq n 8 || nat_eq n 16) (nat_eq n 32) t))
    (λ t. subst P (sym (eqb-true n 64 t)) eight)
    (or_cases (nat_eq n 8 || nat_eq n 16 || nat_eq n 32) (nat_eq n 64) h)

by_bytes : (P : ℕ → Type 0) (n : ℕ) → P 1 → P 2 → P 4 → P 8 → is_byte_width (8 * n) ≡ true → P n
by_bytes P n one two four eight h =
    let whole : 8 * n / 8 ≡ n = omega arith in
    subst P whole (by_width (λ w. P (w / 8)) (8 * n) one two four eight h)

on-page : (address width c : ℕ) → is_byte_width (8 * width) ≡ true → address % width ≡ 0 → address ≤ c → c < address + width → page_of c ≡ page_of address
on-page address width c h = by_bytes (λ w. address % w ≡ 0 → address ≤ c → c < address + w → c / 4096 ≡ address / 4096) width (λ e l u. omega arith) (λ e l u. omega arith) (λ e l u. omega arith) (λ e l u. omega arith) h

fits-below : (address width : ℕ) → is_byte_width (8 * width) ≡ true → address % width ≡ 0 → address < 2 ^ 64 → address + width ≤ 2 ^ 64
fits-below address width h = by_bytes (λ w. address % w ≡ 0 → address < 2 ^ 64 → address + w ≤ 2 ^ 64) width (λ e l. omega arith) (λ e l. omega arith) (λ e l. omega arith) (λ e l. omega arith) h

canonical-below : (address : ℕ) → is_canonical address ≡ true → address < 2 ^ 64
canonical-below address h =
    ⊎_elim
    (λ t. let e = eqb-true (address / 2 ^ 38) 0 t in omega arith)
    (λ t. let e = eqb-true (address / 2 ^ 38) (2 ^ 26 - 1) t in omega arith)
    (or_cases (nat_eq (address / 2 ^ 38) 0) (nat_eq (address / 2 ^ 38) (2 ^ 26 - 1)) h)

pub permitted-below : (memory : Memory) (address : ℕ) (want : Want) → permits memory address want ≡ true → address < 2 ^ 64
permitted-below memory address want h = canonical-below address (and_parts (is_canonical address) (is_granted memory address want) h).0

-- addresses of one page are let through alike
pub permits-page : (memory : Memory) (a b : ℕ) (want : Want) → page_of a ≡ page_of b → permits memory a want ≡ permits memory b want
permits-page memory a b want same =
    let upper : a / 2 ^ 38 ≡ b / 2 ^ 38 = sym (shr-shr a 12 26) ∙ ap (λ (q : ℕ). q / 2 ^ 26) same ∙ shr-shr b 12 26 in
    λ j. (nat_eq (upper j) 0 || nat_eq (upper j) (2 ^ 26 - 1)) && option_map_or (λ (page : MappedPage). grants page.permissions want) (page_numbered (same j) memory) false

-- what passes the check is aligned, and its page lets it through
passes : (memory : Memory) (want : Want) (address width : ℕ) → cause_of memory want address width ≡ None → (address % width ≡ 0) × (permits memory address want ≡ true)
passes memory want address width h = by_tests (nat_eq (address % width) 0) (permits memory address want) (λ e. eqb-true (address % width) 0 e) (λ e. e) h
  where
    by_tests : (p q : Bool) → (p ≡ true → address % width ≡ 0) → (q ≡ true → permits memory address want ≡ true) → (if not p then Some (misaligned want) else if not q then Some (page_fault want) else None) ≡ None → (address % width ≡ 0) × (permits memory address want ≡ true)
    by_tests true true f g e = (f refl, g refl)
    by_tests true false f g e = absurd (none-some (page_fault want) (sym e))
    by_tests false q f g e = absurd (none-some (misaligned want) (sym e))

-- the bytes of an access that doesn't fail may all be stored
pub record IsPassed (memory : Memory) (address width : ℕ) : Type 0 where
  pub fits : address + width ≤ 2 ^ 64
  pub stores : (c : ℕ) → address ≤ c → c < address + width → permits memory c Store ≡ true

pub passed : (memory : Memory) (address width : ℕ) → is_byte_width (8 * width) ≡ true → cause_of memory Store address width ≡ None → IsPassed memory address width
passed memory address width wide h =
    let checked = passes memory Store address width h in
    record {
      fits = fits-below address width wide checked.0 (permitted-below memory address Store checked.1);
      stores = λ c low high. permits-page memory c address Store (on-page address width c wide checked.0 low high) ∙ checked.1;
    }

pub in-span : (address width c : ℕ) → is_in c (record { address = address; width = width }) ≡ true → (address ≤ c) × (c < address + width)
in-span address width c h =
    let both = and_parts (leb address c) (ltb c (address + width)) h in
    (leb-true address c both.0, ltb-true c (address + width) both.1)

-- ---- a number stored

pub number-same : (m : Memory) (address width value : ℕ) → HaveSamePages (put_number m address width value) m
number-same m address width value = puts-same (little_endian width value) m address

pub numbers-same : (m n : Memory) (address width value : ℕ) → HaveSamePages m n → HaveSamePages (put_number m address width value) (put_number n address width value)
numbers-same m n address width value h = same-on _ m _ (number-same m address width value) (same-on m n _ h (same-back _ n (number-same n address width value)))

pub number-agree : (m n : Memory) (address width value c : ℕ) → HaveSamePages m n → Agree m n c → Agree (put_number m address width value) (put_number n address width value) c
number-agree m n address width value c = puts-agree (little_endian width value) m n address c

pub number-there : (m n : Memory) (address width value c : ℕ) → HaveSamePages m n → address + width ≤ 2 ^ 64 → address ≤ c → c < address + width → Agree (put_number m address width value) (put_number n address width value) c
number-there m n address width value c same fits low high =
    let count = length-little_endian width value in
    puts-there (little_endian width value) m n address c same (omega (arith, fits, count)) low (omega (arith, high, count))

number-elsewhere : (m : Memory) (address width value c : ℕ) → address + width ≤ 2 ^ 64 → (address ≤ c → c < address + width → ⊥) → byte_at (put_number m address width value) c ≡ byte_at m c
number-elsewhere m address width value c fits out =
    let count = length-little_endian width value in
    puts-elsewhere (little_endian width value) m address c (omega (arith, fits, count)) (λ low high. out low (omega (arith, high, count)))

-- ---- accesses of a store

abbrev pub Wide : Access → Type 0
Wide a = is_byte_width (8 * a.width) ≡ true

-- the spans of those that don't fail
abbrev pub good_spans : Memory → List Access → List Span
good_spans memory l = map (λ (a : Access). record { address = a.address; width = a.width }) (filter (λ (a : Access). is_none (failure_of Storing memory a)) l)

pub is-none : {A : Type 0} (o : Option A) → is_none o ≡ true → o ≡ None
is-none None h = refl
is-none (Some x) h = absurd (false≢true h)

pub spans-permit : (memory : Memory) (l : List Access) (c : ℕ) → All Wide l → list_any (is_in c) (good_spans memory l) ≡ true → permits memory c Store ≡ true
spans-permit memory [] c w h = absurd (false≢true h)
spans-permit memory (a ∷ l) c w h = by_test (spans-permit memory l c (All-tail Wide a l w)) (is_none (failure_of Storing memory a)) (λ e. e) h
  where
    by_test : (list_any (is_in c) (good_spans memory l) ≡ true → permits memory c Store ≡ true) → (b : Bool) → (b ≡ true → is_none (failure_of Storing memory a) ≡ true) → list_any (is_in c) (map (λ (a : Access). record { address = a.address; width = a.width }) (cond b (a ∷ filter (λ (a : Access). is_none (failure_of Storing memory a)) l) (filter (λ (a : Access). is_none (failure_of Storing memory a)) l))) ≡ true → permits memory c Store ≡ true
    by_test later true g e =
        ⊎_elim
        (λ t. let low = in-span a.address a.width c t in (passed memory a.address a.width (All-head Wide a l w) (is-none (failure_of Storing memory a) (g refl))).stores c low.0 low.1)
        later
        (or_cases (is_in c (record { address = a.address; width = a.width })) (list_any (is_in c) (good_spans memory l)) e)
    by_test later false g e = later e

module _ (vlen : ℕ) (words : List ℕ) where
  -- the memory after accesses of a store
  abbrev pub stored : List Access → Memory → Memory
  stored [] m = m
  stored (a ∷ l) m = stored l (put_number m a.address a.width (value_stored vlen words a))

  pub stored-same : (l : List Access) (m : Memory) → HaveSamePages (stored l m) m
  stored-same [] m = record { entries = refl; lengths = refl }
  stored-same (a ∷ l) m = same-on _ (put_number m a.address a.width (value_stored vlen words a)) m (stored-same l (put_number m a.address a.width (value_stored vlen words a))) (number-same m a.address a.width (value_stored vlen words a))

  pub stored-agree : (l : List Access) (m n : Memory) (c : ℕ) → HaveSamePages m n → Agree m n c → Agree (stored l m) (stored l n) c
  stored-agree [] m n c same h = h
  stored-agree (a ∷ l) m n c same h =
      let value = value_stored vlen words a in
      stored-agree l (put_number m a.address a.width value) (put_number n a.address a.width value) c (numbers-same m n a.address a.width value same) (number-agree m n a.address a.width value c same h)

  -- what lies in one of them is then the same
  pub stored-there : (memory : Memory) (l : List Access) (m n : Memory) (c : ℕ) → All Wide l → HaveSamePages m n → list_any (is_in c) (good_spans memory l) ≡ true → Agree (stored l m) (stored l n) c
  stored-there memory [] m n c w same h = absurd (false≢true h)
  stored-there memory (a ∷ l) m n c w same h =
      let value = value_stored vlen words a in
      by_test
      (stored-there memory l (put_number m a.address a.width value) (put_number n a.address a.width value) c (All-tail Wide a l w) (numbers-same m n a.address a.width value same))
      (is_none (failure_of Storing memory a)) (λ e. e) h
    where
      by_test : (list_any (is_in c) (good_spans memory l) ≡ true → Agree (stored (a ∷ l) m) (stored (a ∷ l) n) c) → (b : Bool) → (b ≡ true → is_none (failure_of Storing memory a) ≡ true) → list_any (is_in c) (map (λ (a : Access). record { address = a.address; width = a.width }) (cond b (a ∷ filter (λ (a : Access). is_none (failure_of Storing memory a)) l) (filter (λ (a : Access). is_none (failure_of Storing memory a)) l))) ≡ true → Agree (stored (a ∷ l) m) (stored (a ∷ l) n) c
      by_test later true g e =
          ⊎_elim
          (λ t.
          let low = in-span a.address a.width c t in
          let fits = (passed memory a.address a.width (All-head Wide a l w) (is-none (failure_of Storing memory a) (g refl))).fits in
          let value = value_stored vlen words a in
          stored-agree l (put_number m a.address a.width value) (put_number n a.address a.width value) c (numbers-same m n a.address a.width value same) (number-there m n a.address a.width value c same fits low.0 low.1))
          later
          (or_cases (is_in c (record { address = a.address; width = a.width })) (list_any (is_in c) (good_spans memory l)) e)
      by_test later false g e = later e

  -- accesses that don't fail leave what may not be stored
  pub stored-leave : (memory : Memory) (l : List Access) (m : Memory) (c : ℕ) → All Wide l → All (λ a. failure_of Storing memory a ≡ None) l → permits memory c Store ≡ false → byte_at (stored l m) c ≡ byte_at m c
  stored-leave memory [] m c w good h = refl
  stored-leave memory (a ∷ l) m c w good h =
      let value = value_stored vlen words a in
      let is = passed memory a.address a.width (All-head Wide a l w) (All-head (λ a. failure_of Storing memory a ≡ None) a l good) in
      stored-leave memory l (put_number m a.address a.width value) c (All-tail Wide a l w) (All-tail (λ a. failure_of Storing memory a ≡ None) a l good) h
      ∙ number-elsewhere m a.address a.width value c is.fits (λ low high. true≢false (sym (is.stores c low high) ∙ h))

pub stores-are : (l : List Access) (s : Flat) → accesses_done Storing l s ≡ with_memory (stored s.v.vlen s.v.words l s.memory) s
stores-are [] s = refl
stores-are (a ∷ l) s = stores-are l (access_done Storing a s)

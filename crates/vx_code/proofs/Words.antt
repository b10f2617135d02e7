-- The words of instructions.
use Rattle.std.proofs.Common.{◌≡◌, ℕ, Bool, true, false, cond, ◌&&◌, ℤ, pos, neg_ℤ, ◌≤ℤ◌, arith, List, [], ◌∷◌, ◌++◌, append_assoc, append-nil, Result, Ok, Err, OnOk, sym, ap, ◌∙◌}
use Rattle.std.specs.Prelude.{int_le}
use Rattle.std.specs.declared.alloc.AllocError.{AllocError}
use Rattle.std.proofs.lemmas.Int.{ints}
use Rattle.vx_base.specs.Numbers.{little_endian}
use Rattle.vx_decode.specs.Encoded.{word_of}
use Rattle.vx_decode.specs.declared.instr.Instr.{Instr}
use Rattle.vx_language.specs.Code.{Alone, LoadsNumber, LoadsAddress, expanded, instr_bytes, upper_part, lower_part}
use Rattle.vx_language.specs.Names.{scalar_instr}
use Rattle.vx_rows.specs.declared.op.Op.TheVariants.{Scalar}
use Rattle.vx_rows.specs.declared.op.ScalarOp.TheVariants.{Lui, Auipc, Addi, Addiw}

-- what is appended, written otherwise
pub on-ok : (r : Result (Unit {0}) AllocError) (old new one other : List ℕ) → OnOk r (new ≡ old ++ one) → one ≡ other → OnOk r (new ≡ old ++ other)
on-ok (Ok x) old new one other e f = e ∙ ap (λ (l : List ℕ). old ++ l) f
on-ok (Err e) old new one other p f = tt

pub one-word : (i : Instr) → little_endian 4 (word_of i) ≡ instr_bytes (i ∷ [])
unfolding instr_bytes
one-word i = sym (append-nil (little_endian 4 (word_of i)))

pub two-words : (i j : Instr) (old new : List ℕ) → new ≡ old ++ little_endian 4 (word_of i) ++ little_endian 4 (word_of j) → new ≡ old ++ instr_bytes (i ∷ j ∷ [])
unfolding instr_bytes
two-words i j old new e =
    e ∙ append_assoc old (little_endian 4 (word_of i)) (little_endian 4 (word_of j))
    ∙ ap (λ (l : List ℕ). old ++ (little_endian 4 (word_of i) ++ l)) (sym (append-nil (little_endian 4 (word_of j))))

pub address-load : (rd : ℕ) (value : ℤ) (old new : List ℕ) → new ≡ old ++ instr_bytes (scalar_instr (Scalar Auipc) rd 0 0 (upper_part value) ∷ scalar_instr (Scalar Addi) rd rd 0 (lower_part value) ∷ []) → (i : Instr) → i.rd ≡ rd → i.imm ≡ value → new ≡ old ++ instr_bytes (expanded LoadsAddress i)
unfolding expanded
address-load rd value old new e i a b =
    e ∙ (λ j. old ++ instr_bytes (scalar_instr (Scalar Auipc) (sym a j) 0 0 (upper_part (sym b j)) ∷ scalar_instr (Scalar Addi) (sym a j) (sym a j) 0 (lower_part (sym b j)) ∷ []))

by-size : (b : Bool) (rd : ℕ) (value : ℤ) → List Instr
by-size b rd value = cond b (scalar_instr (Scalar Addi) rd 0 0 value ∷ []) (scalar_instr (Scalar Lui) rd 0 0 (upper_part value) ∷ scalar_instr (Scalar Addiw) rd rd 0 (lower_part value) ∷ [])

number-load : (rd : ℕ) (value : ℤ) (b : Bool) → (int_le (neg_ℤ (pos 2048)) value && int_le value (pos 2047)) ≡ b → (i : Instr) → i.rd ≡ rd → i.imm ≡ value → expanded LoadsNumber i ≡ by-size b rd value
unfolding expanded by-size
number-load rd value b e i a c =
    (λ j. by-size (int_le (neg_ℤ (pos 2048)) (c j) && int_le (c j) (pos 2047)) (a j) (c j)) ∙ ap (λ (x : Bool). by-size x rd value) e

pub short-load : (rd : ℕ) (value : ℤ) (old new : List ℕ) → neg_ℤ (pos 2048) ≤ℤ value → value ≤ℤ pos 2047 → new ≡ old ++ little_endian 4 (word_of (scalar_instr (Scalar Addi) rd 0 0 value)) → (i : Instr) → i.rd ≡ rd → i.imm ≡ value → new ≡ old ++ instr_bytes (expanded LoadsNumber i)
unfolding by-size
short-load rd value old new low high e i a b =
    let small : (int_le (neg_ℤ (pos 2048)) value && int_le value (pos 2047)) ≡ true = grind (arith, ints) in
    e ∙ ap (λ (l : List ℕ). old ++ l) (one-word (scalar_instr (Scalar Addi) rd 0 0 value))
    ∙ ap (λ (l : List Instr). old ++ instr_bytes l) (sym (number-load rd value true small i a b))

pub long-load : (rd : ℕ) (value : ℤ) (old new : List ℕ) → (int_le (neg_ℤ (pos 2048)) value && int_le value (pos 2047)) ≡ false → new ≡ old ++ instr_bytes (scalar_instr (Scalar Lui) rd 0 0 (upper_part value) ∷ scalar_instr (Scalar Addiw) rd rd 0 (lower_part value) ∷ []) → (i : Instr) → i.rd ≡ rd → i.imm ≡ value → new ≡ old ++ instr_bytes (expanded LoadsNumber i)
unfolding by-size
long-load rd value old new large e i a b =
    e ∙ ap (λ (l : List Instr). old ++ instr_bytes l) (sym (number-load rd value false large i a b))

pub alone-word : (i : Instr) (old new : List ℕ) → new ≡ old ++ little_endian 4 (word_of i) → new ≡ old ++ instr_bytes (expanded Alone i)
unfolding expanded
alone-word i old new e = e ∙ ap (λ (l : List ℕ). old ++ l) (one-word i)

pub low-side : (value : ℤ) → (int_le (neg_ℤ (pos 2048)) value && int_le value (pos 2047)) ≡ true → neg_ℤ (pos 2048) ≤ℤ value
low-side value e = grind (arith, ints)

pub high-side : (value : ℤ) → (int_le (neg_ℤ (pos 2048)) value && int_le value (pos 2047)) ≡ true → value ≤ℤ pos 2047
high-side value e = grind (arith, ints)

pub two-loaded : (r : Result (Unit {0}) AllocError) (i own j other : Instr) (old mid new : List ℕ) → i ≡ own → j ≡ other → mid ≡ old ++ little_endian 4 (word_of i) → OnOk r (new ≡ mid ++ little_endian 4 (word_of j)) → OnOk r (new ≡ old ++ instr_bytes (own ∷ other ∷ []))
two-loaded (Ok x) i own j other old mid new a b first second =
    two-words own other old new (second ∙ (λ k. first k ++ little_endian 4 (word_of (b k))) ∙ (λ k. (old ++ little_endian 4 (word_of (a k))) ++ little_endian 4 (word_of other)))
two-loaded (Err e) i own j other old mid new a b first second = tt

pub address-loaded : (r : Result (Unit {0}) AllocError) (rd : ℕ) (value : ℤ) (old new : List ℕ) → OnOk r (new ≡ old ++ instr_bytes (scalar_instr (Scalar Auipc) rd 0 0 (upper_part value) ∷ scalar_instr (Scalar Addi) rd rd 0 (lower_part value) ∷ [])) → OnOk r ((i : Instr) → i.rd ≡ rd → i.imm ≡ value → new ≡ old ++ instr_bytes (expanded LoadsAddress i))
address-loaded (Ok x) rd value old new e = address-load rd value old new e
address-loaded (Err error) rd value old new e = tt

pub short-loaded : (r : Result (Unit {0}) AllocError) (rd : ℕ) (value : ℤ) (old new : List ℕ) → (int_le (neg_ℤ (pos 2048)) value && int_le value (pos 2047)) ≡ true → OnOk r (new ≡ old ++ little_endian 4 (word_of (scalar_instr (Scalar Addi) rd 0 0 value))) → OnOk r ((i : Instr) → i.rd ≡ rd → i.imm ≡ value → new ≡ old ++ instr_bytes (expanded LoadsNumber i))
short-loaded (Ok x) rd value old new short e = short-load rd value old new (low-side value short) (high-side value short) e
short-loaded (Err error) rd value old new short e = tt

pub long-loaded : (r : Result (Unit {0}) AllocError) (rd : ℕ) (value : ℤ) (old new : List ℕ) → (int_le (neg_ℤ (pos 2048)) value && int_le value (pos 2047)) ≡ false → OnOk r (new ≡ old ++ instr_bytes (scalar_instr (Scalar Lui) rd 0 0 (upper_part value) ∷ scalar_instr (Scalar Addiw) rd rd 0 (lower_part value) ∷ [])) → OnOk r ((i : Instr) → i.rd ≡ rd → i.imm ≡ value → new ≡ old ++ instr_bytes (expanded LoadsNumber i))
long-loaded (Ok x) rd value old new long e = long-load rd value old new long e
long-loaded (Err error) rd value old new long e = tt

pub alone-loaded : (r : Result (Unit {0}) AllocError) (i own : Instr) (old new : List ℕ) → i ≡ own → OnOk r (new ≡ old ++ little_endian 4 (word_of i)) → OnOk r (new ≡ old ++ instr_bytes (expanded Alone own))
alone-loaded (Ok x) i own old new a e = alone-word own old new (e ∙ ap (λ (k : Instr). old ++ little_endian 4 (word_of k)) a)
alone-loaded (Err error) i own old new a e = tt

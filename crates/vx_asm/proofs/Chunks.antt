-- Chunks one behind another.
use Rattle.std.proofs.Common.{◌≡◌, ℕ, suc, ◌+◌, arith, Bool, true, false, cond, ◌&&◌, List, [], ◌∷◌, ◌++◌, length, replicate, flat_map, append_assoc, append-nil, add-zero, refl, sym, ap, ◌∙◌}
use Rattle.std.specs.List.{list_all}
use Rattle.std.specs.Prelude.{◌==◌}
use Rattle.std.proofs.lemmas.Bool.{eqb-true}
use Rattle.std.proofs.lemmas.List.{replicate-append-replicate}
use Rattle.vx_language.specs.Assembly.{bytes_before_zeros, zeros_at_end, is_zeros}
use Rattle.vx_language.specs.Statements.{Chunk, Plain, Zeros, chunk_bytes, chunk_size}
use Rattle.vx_asm.specs.Parts.{IsPart}
use Rattle.vx_asm.specs.declared.part.Part.{Part}

assoc-from : (a r s b : Bool) → r ≡ (s && b) → (a && r) ≡ ((a && s) && b)
assoc-from true r s b e = e
assoc-from false r s b e = refl

-- one chunk more: it is zeros, or it isn't
all-with : (cs : List Chunk) (c : Chunk) (b : Bool) → is_zeros c ≡ b → list_all is_zeros (cs ++ c ∷ []) ≡ (list_all is_zeros cs && b)
all-with [] c true e = rw e refl
all-with [] c false e = rw e refl
all-with (x ∷ cs) c b e = assoc-from (is_zeros x) (list_all is_zeros (cs ++ c ∷ [])) (list_all is_zeros cs) b (all-with cs c b e)

and-true : (b : Bool) → (b && true) ≡ b
and-true true = refl
and-true false = refl

and-false : (b : Bool) → (b && false) ≡ false
and-false true = refl
and-false false = refl

sum-out : (b : Bool) (x n c : ℕ) → cond b (x + (n + c)) (n + c) ≡ cond b (x + n) n + c
sum-out true x n c = omega arith
sum-out false x n c = refl

-- zeros behind chunks change no bytes
pub bytes-with-zeros : (cs : List Chunk) (c : Chunk) → is_zeros c ≡ true → bytes_before_zeros (cs ++ c ∷ []) ≡ bytes_before_zeros cs
unfolding bytes_before_zeros
bytes-with-zeros [] c e = rw e refl
bytes-with-zeros (x ∷ cs) c e =
    let same : list_all is_zeros (x ∷ (cs ++ c ∷ [])) ≡ list_all is_zeros (x ∷ cs) = ap (λ (b : Bool). is_zeros x && b) (all-with cs c true e ∙ and-true (list_all is_zeros cs)) in
    λ j. cond (same j) [] (chunk_bytes x ++ bytes-with-zeros cs c e j)

pub zeros-with-zeros : (cs : List Chunk) (c : Chunk) → is_zeros c ≡ true → zeros_at_end (cs ++ c ∷ []) ≡ zeros_at_end cs + chunk_size c
unfolding zeros_at_end
zeros-with-zeros [] c e = rw e (let h : chunk_size c + 0 ≡ 0 + chunk_size c = omega arith in h)
zeros-with-zeros (x ∷ cs) c e =
    let same : list_all is_zeros (x ∷ (cs ++ c ∷ [])) ≡ list_all is_zeros (x ∷ cs) = ap (λ (b : Bool). is_zeros x && b) (all-with cs c true e ∙ and-true (list_all is_zeros cs)) in
    (λ j. cond (same j) (chunk_size x + zeros-with-zeros cs c e j) (zeros-with-zeros cs c e j))
    ∙ sum-out (list_all is_zeros (x ∷ cs)) (chunk_size x) (zeros_at_end cs) (chunk_size c)

-- other bytes behind chunks come behind their zeros
pub zeros-with-bytes : (cs : List Chunk) (c : Chunk) → is_zeros c ≡ false → zeros_at_end (cs ++ c ∷ []) ≡ 0
unfolding zeros_at_end
zeros-with-bytes [] c e = rw e refl
zeros-with-bytes (x ∷ cs) c e =
    let none : list_all is_zeros (x ∷ (cs ++ c ∷ [])) ≡ false = ap (λ (b : Bool). is_zeros x && b) (all-with cs c false e ∙ and-false (list_all is_zeros cs)) ∙ and-false (is_zeros x) in
    rw none (zeros-with-bytes cs c e)

-- all zeros of chunks that are zeros
only-zeros : (c : Chunk) → is_zeros c ≡ true → chunk_bytes c ≡ replicate (chunk_size c) 0
only-zeros (Plain []) e = refl
only-zeros (Plain (x ∷ xs)) e = absurd (let h : suc (length xs) ≡ 0 = eqb-true (suc (length xs)) 0 e in omega (arith, h))
only-zeros (Zeros n) e = refl

no-bytes : (cs : List Chunk) → list_all is_zeros cs ≡ true → bytes_before_zeros cs ≡ []
unfolding bytes_before_zeros
no-bytes [] e = refl
no-bytes (x ∷ cs) e = rw e refl

by-zeros : (x : Chunk) (cs : List Chunk) (a b : Bool) → is_zeros x ≡ a → list_all is_zeros cs ≡ b → flat_map chunk_bytes cs ≡ bytes_before_zeros cs ++ replicate (zeros_at_end cs) 0 → chunk_bytes x ++ flat_map chunk_bytes cs ≡ cond (is_zeros x && list_all is_zeros cs) [] (chunk_bytes x ++ bytes_before_zeros cs) ++ replicate (cond (is_zeros x && list_all is_zeros cs) (chunk_size x + zeros_at_end cs) (zeros_at_end cs)) 0
by-zeros x cs true true e h rest =
    let none : flat_map chunk_bytes cs ≡ replicate (zeros_at_end cs) 0 = rest ∙ ap (λ (l : List ℕ). l ++ replicate (zeros_at_end cs) 0) (no-bytes cs h) in
    rw e (rw h ((λ j. only-zeros x e j ++ none j) ∙ replicate-append-replicate (chunk_size x) (zeros_at_end cs) 0))
by-zeros x cs true false e h rest =
    rw e (rw h (ap (λ (l : List ℕ). chunk_bytes x ++ l) rest ∙ sym (append_assoc (chunk_bytes x) (bytes_before_zeros cs) (replicate (zeros_at_end cs) 0))))
by-zeros x cs false b e h rest =
    rw e (ap (λ (l : List ℕ). chunk_bytes x ++ l) rest ∙ sym (append_assoc (chunk_bytes x) (bytes_before_zeros cs) (replicate (zeros_at_end cs) 0)))

-- the bytes of chunks are those before the zeros, and the zeros
pub all-bytes : (cs : List Chunk) → flat_map chunk_bytes cs ≡ bytes_before_zeros cs ++ replicate (zeros_at_end cs) 0
unfolding bytes_before_zeros zeros_at_end
all-bytes [] = refl
all-bytes (x ∷ cs) = by-zeros x cs (is_zeros x) (list_all is_zeros cs) refl refl (all-bytes cs)

pub bytes-with-bytes : (cs : List Chunk) (c : Chunk) → is_zeros c ≡ false → bytes_before_zeros (cs ++ c ∷ []) ≡ bytes_before_zeros cs ++ replicate (zeros_at_end cs) 0 ++ chunk_bytes c
unfolding bytes_before_zeros zeros_at_end
bytes-with-bytes [] c e = rw e (append-nil (chunk_bytes c))
bytes-with-bytes (x ∷ cs) c e =
    let none : list_all is_zeros (x ∷ (cs ++ c ∷ [])) ≡ false = ap (λ (b : Bool). is_zeros x && b) (all-with cs c false e ∙ and-false (list_all is_zeros cs)) ∙ and-false (is_zeros x) in
    rw none (
    ap (λ (l : List ℕ). chunk_bytes x ++ l) (bytes-with-bytes cs c e ∙ ap (λ (l : List ℕ). l ++ chunk_bytes c) (sym (all-bytes cs)))
    ∙ sym (append_assoc (chunk_bytes x) (flat_map chunk_bytes cs) (chunk_bytes c))
    ∙ ap (λ (l : List ℕ). l ++ chunk_bytes c) (all-bytes (x ∷ cs)))

-- parts
pub part-none : (part : Part) → part.bytes.items ≡ [] → part.zeros ≡ 0 → IsPart [] part
unfolding bytes_before_zeros zeros_at_end
part-none part bytes zeros = record { bytes = bytes; zeros = zeros }

pub part-with-none : (cs : List Chunk) (part : Part) (bytes : List ℕ) → length bytes ≡ 0 → IsPart cs part → IsPart (cs ++ Plain bytes ∷ []) part
part-with-none cs part [] none is = record {
  bytes = is.bytes ∙ sym (bytes-with-zeros cs (Plain []) refl);
  zeros = is.zeros ∙ sym (zeros-with-zeros cs (Plain []) refl ∙ add-zero (zeros_at_end cs));
}
part-with-none cs part (x ∷ bytes) none is = absurd (omega (arith, none))

not-zero : (n : ℕ) (b : Bool) → (n == 0) ≡ b → (n ≡ 0 → ⊥) → b ≡ false
not-zero n true e h = absurd (h (eqb-true n 0 e))
not-zero n false e h = refl

some-bytes : (bytes : List ℕ) → (length bytes ≡ 0 → ⊥) → is_zeros (Plain bytes) ≡ false
some-bytes bytes h = not-zero (length bytes) (length bytes == 0) refl h

pub part-with-bytes : (cs : List Chunk) (old new : Part) (bytes : List ℕ) → (length bytes ≡ 0 → ⊥) → new.bytes.items ≡ old.bytes.items ++ replicate old.zeros 0 ++ bytes → new.zeros ≡ 0 → IsPart cs old → IsPart (cs ++ Plain bytes ∷ []) new
part-with-bytes cs old new bytes some put none is = record {
  bytes = put ∙ (λ j. is.bytes j ++ replicate (is.zeros j) 0 ++ bytes) ∙ sym (bytes-with-bytes cs (Plain bytes) (some-bytes bytes some));
  zeros = none ∙ sym (zeros-with-bytes cs (Plain bytes) (some-bytes bytes some));
}

pub part-with-zeros : (cs : List Chunk) (old new : Part) (count : ℕ) → new.bytes.items ≡ old.bytes.items → new.zeros ≡ old.zeros + count → IsPart cs old → IsPart (cs ++ Zeros count ∷ []) new
part-with-zeros cs old new count same more is = record {
  bytes = same ∙ is.bytes ∙ sym (bytes-with-zeros cs (Zeros count) refl);
  zeros = more ∙ ap (λ (n : ℕ). n + count) is.zeros ∙ sym (zeros-with-zeros cs (Zeros count) refl);
}

-- Accesses one behind the other.
use Rattle.std.proofs.Common.{Bool, true, false, ◌*◌, length, get_or, set, length-set, arith, ◌≡◌, List, [], ◌∷◌, ◌++◌, Some, None, refl, sym, ap, ◌∙◌, append_assoc}
use Rattle.std.proofs.lemmas.List.{append-nil}
use Rattle.std.specs.Prelude.{ℕ, Option, IfSome, IsSomeAnd, if◌then◌else◌}
use Rattle.vx_cells.specs.Cells.{CellsState, IsLogged, IsMemory, Makes, with_access, with_accesses}
use Rattle.vx_cells.specs.Merging.{merged}
use Rattle.vx_cells.specs.declared.access.Access.{Access}

with_accesses-append : (xs ys : List Access) (contents : List ℕ) → with_accesses contents (xs ++ ys) ≡ with_accesses (with_accesses contents xs) ys
with_accesses-append [] ys contents = refl
with_accesses-append (x ∷ xs) ys contents = with_accesses-append xs ys (with_access contents x)

IsLogged-none : (log : Option (List Access)) → IsLogged log log []
IsLogged-none None = tt
IsLogged-none (Some told) = sym (append-nil told)

IsLogged-join : (a b c : Option (List Access)) (xs ys : List Access) → IsLogged a b xs → IsLogged b c ys → IsLogged a c (xs ++ ys)
IsLogged-join a b None xs ys first second = tt
IsLogged-join a None (Some z) xs ys first second = absurd second
IsLogged-join None (Some y) (Some z) xs ys first second = absurd first
IsLogged-join (Some x) (Some y) (Some z) xs ys first second = second ∙ ap (λ (told : List Access). told ++ ys) first ∙ append_assoc x xs ys

pub Makes-none : (state : CellsState) → Makes state state []
Makes-none state = record { frames = refl; cycle = refl; contents = refl; log = IsLogged-none state.log }

pub Makes-join : (a b c : CellsState) (xs ys : List Access) → Makes a b xs → Makes b c ys → Makes a c (xs ++ ys)
Makes-join a b c xs ys first second = record {
  frames = second.frames ∙ first.frames;
  cycle = second.cycle ∙ first.cycle;
  contents = second.contents ∙ ap (λ (ws : List ℕ). with_accesses ws ys) first.contents ∙ sym (with_accesses-append xs ys a.contents);
  log = IsLogged-join a.log b.log c.log xs ys first.log second.log;
}

length-with_accesses : (accesses : List Access) (contents : List ℕ) → length (with_accesses contents accesses) ≡ length contents
length-with_accesses [] contents = refl
length-with_accesses (a ∷ accesses) contents = length-with_accesses accesses (with_access contents a) ∙ one a.written
  where
    one : (w : Bool) → length (if w then set contents a.word (merged a.bytes (get_or contents a.word 0) a.value) else contents) ≡ length contents
    one true = length-set contents a.word (merged a.bytes (get_or contents a.word 0) a.value)
    one false = refl

pub IsMemory-after : (before after : CellsState) (accesses : List Access) → Makes before after accesses → IsMemory before → IsMemory after
IsMemory-after before after accesses makes memory = record {
  whole = ap length makes.contents ∙ length-with_accesses accesses before.contents ∙ memory.whole ∙ ap (λ (n : ℕ). 512 * n) (sym makes.frames);
  limit = omega (arith, memory.limit, makes.frames);
}

-- The names of vector loads and stores.
use Rattle.std.proofs.Common.{◌≡◌, ℕ, zero, suc, ◌<◌, ◌%◌, List, [], ◌∷◌, map, option_map, get_or, length, refl, ap, ◌∙◌, arith}
use Rattle.std.proofs.lemmas.Option.{slice_get-map, get_or_from_slice_get}
use denote.Enum.Declared.{tag_of}
use Rattle.vx_rows.specs.contracts.op.MemoryOp as memory
use Rattle.vx_rows.specs.declared.op.Op.TheVariants.{Memory}
use Rattle.vx_rows.specs.declared.op.MemoryOp.{MemoryOp}
use Rattle.vx_rows.specs.declared.op.MemoryOp.TheVariants.{Vle8}
use Rattle.vx_rows.specs.declared.row.Nf.{Nf}
use Rattle.vx_rows.specs.declared.row.Nf.TheVariants.{Absent, Any, Registers}
use Rattle.vx_rows.specs.Lines.{Mnemonic, Plain, Counted, Segments, spelled, memory_line}
use Rattle.vx_rows.specs.Layouts.{HasFields, layout_of}
use Rattle.vx_rows.specs.Table.{memory_operations, all_memory_names, mnemonic, shape_of}
use Rattle.vx_rows.proofs.InTable.{at_memory}

-- the first eight values of a function
first_eight : (f : ℕ → List ℕ) (n : ℕ) (d : List ℕ) → n < 8 → get_or (map f (0 ∷ 1 ∷ 2 ∷ 3 ∷ 4 ∷ 5 ∷ 6 ∷ 7 ∷ [])) n d ≡ f n
first_eight f zero d below = refl
first_eight f (suc zero) d below = refl
first_eight f (suc (suc zero)) d below = refl
first_eight f (suc (suc (suc zero))) d below = refl
first_eight f (suc (suc (suc (suc zero)))) d below = refl
first_eight f (suc (suc (suc (suc (suc zero))))) d below = refl
first_eight f (suc (suc (suc (suc (suc (suc zero)))))) d below = refl
first_eight f (suc (suc (suc (suc (suc (suc (suc zero))))))) d below = refl
first_eight f (suc (suc (suc (suc (suc (suc (suc (suc n)))))))) d below = absurd (omega arith)

small : (nf : ℕ) → nf < 8 → nf % 8 ≡ nf
small nf below = omega arith

registers_below : (nf : ℕ) → HasFields Registers nf → nf < 8
registers_below nf has = omega arith

-- where there is no field nf, the mnemonic stands as it is
Agree : Nf → Mnemonic → Type 0
Agree Absent (Plain text) = Unit {0}
Agree Absent (Counted stem tail) = ⊥
Agree Absent (Segments stem tail) = ⊥
Agree Any m = Unit {0}
Agree Registers m = Unit {0}

spelled-small : (n : Nf) (m : Mnemonic) (nf : ℕ) → Agree n m → HasFields n nf → spelled m (nf % 8) ≡ spelled m nf
unfolding Agree
spelled-small Absent (Plain text) nf agree has = refl
spelled-small Absent (Counted stem tail) nf agree has = absurd agree
spelled-small Absent (Segments stem tail) nf agree has = absurd agree
spelled-small Any m nf agree has = ap (spelled m) (small nf has)
spelled-small Registers m nf agree has = ap (spelled m) (small nf (registers_below nf has))

agree : (op : MemoryOp) → Agree (layout_of (shape_of (Memory op))).nf (memory_line op).mnemonic
unfolding Agree
agree Vle8 = tt
agree op = tt

pub named : (op : MemoryOp) (nf : ℕ) → HasFields (layout_of (shape_of (Memory op))).nf nf → get_or (get_or all_memory_names (tag_of memory.the_type op) []) (nf % 8) [] ≡ mnemonic (Memory op) nf
named op nf has =
    let f = λ (op : MemoryOp). map (mnemonic (Memory op)) (0 ∷ 1 ∷ 2 ∷ 3 ∷ 4 ∷ 5 ∷ 6 ∷ 7 ∷ []) in
    let at : get_or all_memory_names (tag_of memory.the_type op) [] ≡ f op = get_or_from_slice_get all_memory_names (tag_of memory.the_type op) (f op) [] (slice_get-map f memory_operations (tag_of memory.the_type op) ∙ ap (λ o. option_map f o) (at_memory op)) in
    ap (λ names. get_or names (nf % 8) []) at ∙ first_eight (mnemonic (Memory op)) (nf % 8) [] (omega arith) ∙ spelled-small (layout_of (shape_of (Memory op))).nf (memory_line op).mnemonic nf (agree op) has

pub within : (op : MemoryOp) → tag_of memory.the_type op < 43
within Vle8 = omega arith
within op = omega arith

pub eight : (op : MemoryOp) → length (get_or all_memory_names (tag_of memory.the_type op) []) ≡ 8
eight Vle8 = refl
eight op = refl

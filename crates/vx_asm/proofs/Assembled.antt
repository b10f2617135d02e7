-- The answer.
use Rattle.std.proofs.Common.{◌≡◌, ℕ, ◌+◌, ◌≤◌, arith, Bool, true, false, cond, List, [], ◌∷◌, ◌++◌, length, replicate, codes, Option, Some, None, option_map, unwrap_or, refl, sym, ap, ◌∙◌}
use Rattle.std.specs.Prelude.{find}
use Rattle.std.proofs.lemmas.List.{length-append, length-replicate}
use Rattle.vx_elf.specs.Writing.{IsWritable}
use Rattle.vx_elf.specs.declared.program.Program.{Program}
use Rattle.vx_language.specs.Assembly.{layout, twice_faults, placed_faults, plain_faults, reach_faults, faults, assembled, chunks}
use Rattle.vx_language.specs.Faults.{first_of, earliest}
use Rattle.vx_language.specs.Forms.{OfCode}
use Rattle.vx_language.specs.Lines.{lines, labels_in, label_names}
use Rattle.vx_language.specs.Places.{Place, Placed, first_place, placed_from, is_faultless, label_address, address_of, has_label, total, program_room}
use Rattle.vx_language.specs.Tokens.{lexical_faults}
use Rattle.vx_language.specs.declared.fault.Fault.{Fault}
use Rattle.vx_statement.specs.Labels.{place_in}
use Rattle.vx_statement.proofs.Firsts.{first_of-append}
use Rattle.vx_asm.specs.Assembling.{Tells, IsAssembled}
use Rattle.vx_asm.specs.Emitting.{part_size}
use Rattle.vx_asm.specs.Laying.{AreLaid}
use Rattle.vx_asm.specs.Written.{IsLaid, IsEmitted, IsProgramOf}
use Rattle.vx_asm.specs.declared.emit.Emitted.{Emitted}
use Rattle.vx_asm.specs.declared.parts.Parts.{Parts}
use Rattle.vx_asm.specs.declared.placing.Laid.{Laid}
use Rattle.vx_asm.proofs.Chunks.{all-bytes}
use Rattle.vx_asm.proofs.Judged.{none-first, some-first}
use Rattle.vx_asm.proofs.Room.{end-fits, places-fit}

abbrev names_of : List ℕ → List (List ℕ)
names_of source = label_names (lines source)

pub plain-first : (source : List ℕ) (lexical twice placed found : Option Fault) → lexical ≡ first_of (lexical_faults source) → twice ≡ first_of (twice_faults [] (labels_in (lines source))) → placed ≡ first_of (placed_faults (names_of source) (placed_from (names_of source) first_place (lines source))) → found ≡ earliest (earliest lexical twice) placed → found ≡ first_of (plain_faults source)
unfolding plain_faults layout
plain-first source lexical twice placed found a b c e =
    let own = lexical_faults source in
    let again = twice_faults [] (labels_in (lines source)) in
    let all = placed_faults (names_of source) (placed_from (names_of source) first_place (lines source)) in
    e ∙ (λ j. earliest (earliest (a j) (b j)) (c j))
    ∙ ap (λ (o : Option Fault). earliest o (first_of all)) (sym (first_of-append own again))
    ∙ sym (first_of-append (own ++ again) all)

by-plain : (b : Bool) (plain reach : List Fault) (fault : Fault) → is_faultless plain ≡ b → first_of plain ≡ Some fault → first_of (cond b reach plain) ≡ Some fault
by-plain true plain reach fault e h = let no = some-first plain fault h in cc
by-plain false plain reach fault e h = h

pub tells-plain : (source : List ℕ) (fault : Fault) (told : Option Fault) → Some fault ≡ first_of (plain_faults source) → told ≡ Some fault → Tells source told
unfolding faults
tells-plain source fault told e is =
    rw is (by-plain (is_faultless (plain_faults source)) (plain_faults source) (reach_faults (layout source)) fault refl (sym e))

faults-are : (source : List ℕ) → plain_faults source ≡ [] → faults source ≡ reach_faults (layout source)
unfolding faults
faults-are source plain = rw plain refl

pub tells-reach : (source : List ℕ) (fault : Fault) (told : Option Fault) → plain_faults source ≡ [] → Some fault ≡ first_of (reach_faults (layout source)) → told ≡ Some fault → Tells source told
tells-reach source fault told plain e is = rw is (ap first_of (faults-are source plain) ∙ sym e)

last-part : {X : Type 0} (xs ys zs : List X) → xs ++ ys ++ zs ≡ [] → zs ≡ []
last-part [] [] zs e = e
last-part [] (y ∷ ys) zs e = cc
last-part (x ∷ xs) ys zs e = cc

placed-plain : (source : List ℕ) → plain_faults source ≡ [] → placed_faults (names_of source) (placed_from (names_of source) first_place (lines source)) ≡ []
unfolding plain_faults layout
placed-plain source e =
    last-part (lexical_faults source) (twice_faults [] (labels_in (lines source))) (placed_faults (names_of source) (placed_from (names_of source) first_place (lines source))) e

-- what is laid out
pub laid-out : (source : List ℕ) (laid : Laid) → AreLaid (names_of source) (lines source) laid → None ≡ first_of (plain_faults source) → IsLaid source laid
unfolding layout
laid-out source laid are none = record { plain = none-first (plain_faults source) (sym none); end = are.end; labels = are.labels }

first-fits : total first_place ≤ program_room
first-fits = omega arith

pub code-fits : (source : List ℕ) (laid : Laid) → IsLaid source laid → laid.end.code ≤ 8388608
code-fits source laid is =
    let room = end-fits (names_of source) first_place (lines source) first-fits (placed-plain source is.plain) in
    let total-is : laid.end.code + laid.end.variables ≤ 8388608 = rw (← is.end) at room in
    omega (arith, total-is)

pub code-is : (source : List ℕ) (laid : Laid) → IsLaid source laid → (layout source).code ≡ laid.end.code
unfolding layout
code-is source laid is = ap (λ (p : Place). p.code) (sym is.end)

pub start-fits : (source : List ℕ) (laid : Laid) → IsLaid source laid → (place : Place) → place_in (codes "_start") laid.labels ≡ Some place → total place ≤ 8388608
unfolding layout
start-fits source laid is place e =
    places-fit (names_of source) first_place (lines source) (has_label (codes "_start")) place first-fits (placed-plain source is.plain) (sym (is.labels (codes "_start")) ∙ e)

mapped-twice : (f : Place → ℕ) (o : Option Placed) → option_map f (option_map (λ (p : Placed). p.place) o) ≡ option_map (λ (p : Placed). f p.place) o
mapped-twice f None = refl
mapped-twice f (Some p) = refl

entry-is : (source : List ℕ) (laid : Laid) (code entry : ℕ) → IsLaid source laid → (layout source).code ≡ code → entry ≡ unwrap_or (option_map (address_of code) (place_in (codes "_start") laid.labels)) 0x10000 → entry ≡ unwrap_or (label_address (layout source).code (layout source).lines (codes "_start")) 0x10000
unfolding label_address
entry-is source laid code entry is same e =
    e ∙ ap (λ (o : Option ℕ). unwrap_or o 0x10000) (
    ap (option_map (address_of code)) (is.labels (codes "_start"))
    ∙ mapped-twice (address_of code) (find (has_label (codes "_start")) (layout source).lines)
    ∙ ap (λ (n : ℕ). option_map (λ (q : Placed). address_of n q.place) (find (has_label (codes "_start")) (layout source).lines)) (sym same))

writable-of : (parts : Parts) (entry : ℕ) (program : Program) → IsProgramOf entry parts program → part_size parts.code + part_size parts.variables ≤ 8388608 → IsWritable program
writable-of parts entry program of room =
    let a : length program.code ≡ part_size parts.code = ap length of.code ∙ length-append parts.code.bytes.items (replicate parts.code.zeros 0) ∙ ap (λ (n : ℕ). length parts.code.bytes.items + n) (length-replicate parts.code.zeros 0) in
    let b : length program.vars ≡ length parts.variables.bytes.items = ap length of.vars in
    let c = of.zero in
    omega (arith, a, b, c, room)

pub is-program : (source : List ℕ) (laid : Laid) (emitted : Emitted) (code entry : ℕ) (program : Program) → IsLaid source laid → (layout source).code ≡ code → IsEmitted source emitted → emitted.fault ≡ None → entry ≡ unwrap_or (option_map (address_of code) (place_in (codes "_start") laid.labels)) 0x10000 → IsProgramOf entry emitted.parts program → IsAssembled source program
unfolding assembled
is-program source laid emitted code entry program is same put none first of =
    let parts = put.parts none in
    let reach : reach_faults (layout source) ≡ [] = none-first (reach_faults (layout source)) (sym put.fault ∙ none) in
    let entries = of.entry ∙ entry-is source laid code entry is same first in
    let codes-are = of.code ∙ (λ j. parts.code.bytes j ++ replicate (parts.code.zeros j) 0) ∙ sym (all-bytes (chunks (layout source) OfCode)) in
    let vars = of.vars ∙ parts.variables.bytes in
    let zeros = of.zero ∙ parts.variables.zeros in
    record {
      faultless = faults-are source is.plain ∙ reach;
      program = λ j. record { entry = entries j; code = codes-are j; vars = vars j; zero = zeros j };
      writable = writable-of emitted.parts entry program of put.room;
    }

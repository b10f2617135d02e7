use Rattle.std.proofs.Common.{◌≡◌, ℕ, ◌==◌, false, List, [], ◌∷◌, bit_and, refl, ap, sym, ◌∙◌, rules, tests}
use Rattle.std.specs.List.{list_any}
use Rattle.vx_rows.specs.Table.{operations}
use Rattle.vx_decode.specs.Lookup.{operation_among}
use Rattle.vx_decode.proofs.Rows.{operation_of-last, operation_of-none, and_none}
use Rattle.vx_decode.proofs.operation.operation.Goals as goal

at_opcode : (word opcode : ℕ) → bit_and word 0x7f ≡ opcode → operation_among 0x7f opcode 0x7f opcode ≡ operation_among 0x7f opcode 0x7f (bit_and word 0x7f)
at_opcode word opcode known = ap (operation_among 0x7f opcode 0x7f) (sym known)

-- the opcodes of all rows
abbrev opcodes : List ℕ
opcodes = 0x37 ∷ 0x17 ∷ 0x6f ∷ 0x67 ∷ 0x63 ∷ 0x3 ∷ 0x23 ∷ 0x13 ∷ 0x1b ∷ 0x33 ∷ 0x3b ∷ 0xf ∷ 0x73 ∷ 0x57 ∷ 0x7 ∷ 0x27 ∷ []

pub returns-in_default : goal.returns-in_default
unfolding operations
returns-in_default c =
    let other : list_any (λ o. bit_and c.args.word 0x7f == o) opcodes ≡ false = search (rules, tests) in
    operation_of-none c.args.word 0 0 0x7f opcodes (and_none c.args.word) refl other

pub returns-in-103 : goal.returns-in-103
unfolding operations
returns-in-103 c = c.jump_register.ensures ∙ operation_of-last c.args.word 0x7f 0x67 [] 0x707f c.in-103.is tt refl

pub returns-in-99 : goal.returns-in-99
unfolding operations
returns-in-99 c = c.branch-word.ensures ∙ operation_of-last c.args.word 0x7f 0x63 [] 0x707f c.in-99.is tt refl

pub returns-in-3 : goal.returns-in-3
unfolding operations
returns-in-3 c = c.load.ensures ∙ operation_of-last c.args.word 0x7f 0x3 [] 0x707f c.in-3.is tt refl

pub returns-in-35 : goal.returns-in-35
unfolding operations
returns-in-35 c = c.store.ensures ∙ operation_of-last c.args.word 0x7f 0x23 [] 0x707f c.in-35.is tt refl

pub returns-in-51 : goal.returns-in-51
unfolding operations
returns-in-51 c = c.with_registers.ensures ∙ operation_of-last c.args.word 0x7f 0x33 [] 0xfe00707f c.in-51.is tt refl

pub returns-in-59 : goal.returns-in-59
unfolding operations
returns-in-59 c = c.with_registers_word.ensures ∙ operation_of-last c.args.word 0x7f 0x3b [] 0xfe00707f c.in-59.is tt refl

pub returns-in-15 : goal.returns-in-15
unfolding operations
returns-in-15 c = c.fence.ensures ∙ operation_of-last c.args.word 0x7f 0xf [] 0x707f c.in-15.is tt refl

pub returns-in-55 : goal.returns-in-55
unfolding operations
returns-in-55 c = at_opcode c.args.word 0x37 c.in-55.is ∙ operation_of-last c.args.word 0x7f 0x37 [] 0x7f c.in-55.is tt refl

pub returns-in-23 : goal.returns-in-23
unfolding operations
returns-in-23 c = at_opcode c.args.word 0x17 c.in-23.is ∙ operation_of-last c.args.word 0x7f 0x17 [] 0x7f c.in-23.is tt refl

pub returns-in-111 : goal.returns-in-111
unfolding operations
returns-in-111 c = at_opcode c.args.word 0x6f c.in-111.is ∙ operation_of-last c.args.word 0x7f 0x6f [] 0x7f c.in-111.is tt refl

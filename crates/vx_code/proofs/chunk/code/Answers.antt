use Rattle.std.proofs.Common.{◌≡◌, ℕ, List, [], ◌++◌, rules, sym, ap, ◌∙◌, subst}
use Rattle.vx_language.specs.Code.{instr_bytes, expanded}
use Rattle.vx_statement.specs.Lexemes.{pieces_of}
use Rattle.vx_statement.specs.Ways.{commas_in, way_slots, expansion_of}
use Rattle.vx_code.specs.Aiming.{aim_of}
use Rattle.vx_code.specs.Putting.{MayBePut, instr_with}
use Rattle.vx_code.specs.declared.fill.Filled.{Filled}
use Rattle.vx_code.proofs.Valid.{started, may-be-put, is-put}
use Rattle.vx_code.proofs.chunk.code.Goals as goal

pub push_code-requires : goal.push_code-requires
push_code-requires c =
    let start = started (expansion_of c.args.expansion) c.args.instr in
    subst (λ (f : Filled). MayBePut (expansion_of c.args.expansion) c.args.instr f) (sym (c.fill_all-filled.ensures start (c.start_of-start.ensures (aim_of c.args.aim.now) (expansion_of c.args.expansion)))) (may-be-put (aim_of c.args.aim.now) (way_slots (commas_in (pieces_of c.args.operands.now)) c.args.way) (pieces_of c.args.operands.now) (expansion_of c.args.expansion) c.args.instr c.requires)

pub returns : goal.returns
returns c =
    let start = started (expansion_of c.args.expansion) c.args.instr in
    c.in_ok-push_code.ensures
    ∙ ap (λ (l : List ℕ). l ++ instr_bytes (expanded (expansion_of c.args.expansion) (instr_with c.args.instr c.fill_all-filled.result))) (let e : c.new-bytes.result.items ≡ [] = search rules in e)
    ∙ ap (λ (f : Filled). instr_bytes (expanded (expansion_of c.args.expansion) (instr_with c.args.instr f))) (c.fill_all-filled.ensures start (c.start_of-start.ensures (aim_of c.args.aim.now) (expansion_of c.args.expansion)))
    ∙ is-put (aim_of c.args.aim.now) (way_slots (commas_in (pieces_of c.args.operands.now)) c.args.way) (pieces_of c.args.operands.now) (expansion_of c.args.expansion) c.args.instr c.requires

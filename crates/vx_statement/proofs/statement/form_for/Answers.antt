use Rattle.std.proofs.Common.{◌∙◌, rules, tests}
use Rattle.std.proofs.lemmas.Iterator.{YieldsList-from_slice}
use Rattle.std.proofs.lemmas.Iterator.Search.{find_from_yields_List}
use Rattle.vx_language.specs.Statements.{take_all}
use Rattle.vx_statement.specs.Lexemes.{piece_of, pieces_of}
use Rattle.vx_statement.specs.Ways.{commas_in, way_slots}
use Rattle.vx_statement.specs.declared.form.Form.{Form}
use Rattle.vx_statement.proofs.Naming.{form-found}
use Rattle.vx_statement.proofs.statement.form_for.Goals as goal

pub returns : goal.returns
returns c =
    let operands = pieces_of c.args.operands.now in
    let found = find_from_yields_List (λ (f : Form). take_all (way_slots (commas_in operands) f.way) operands) _ _ c.find.result c.find.ensures.ran (YieldsList-from_slice c.args.forms.now cc) (λ x b q k. search (rules, tests)) in
    form-found (piece_of c.args.name.now) operands c.args.forms.now c.copied.result c.requires (c.copied.ensures ∙ found)

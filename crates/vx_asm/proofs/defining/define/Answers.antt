use Rattle.std.proofs.Common.{sym, ◌∙◌}
use Rattle.vx_statement.specs.Labels.{place_of}
use Rattle.vx_statement.specs.Lexemes.{piece_of}
use Rattle.vx_asm.proofs.Naming.{defined-new, defined-again, put-new, put-again}
use Rattle.vx_asm.proofs.defining.define.Goals as goal

pub returns-then-branch-clause-fault : goal.returns-then-branch-clause-fault
returns-then-branch-clause-fault c names known =
    defined-new (piece_of c.args.name.now) names c.args.labels.now c.add.new.self (place_of c.args.place) (sym c.if-branch.true ∙ c.in_ok-add.ensures.added) (rw c.if-branch.true at c.in_ok-add.ensures.labels) known

pub returns-else-branch-clause-fault : goal.returns-else-branch-clause-fault
returns-else-branch-clause-fault c names known =
    defined-again (piece_of c.args.name.now) names c.args.labels.now c.add.new.self c.fault.result (sym c.if-branch.false ∙ c.in_ok-add.ensures.added) (rw c.if-branch.false at c.in_ok-add.ensures.labels) c.fault.ensures known

pub returns-then-branch-clause-places : goal.returns-then-branch-clause-places
returns-then-branch-clause-places c name =
    put-new c.args.labels.now c.add.new.self (record { name = c.args.name.now.text.now; place = place_of c.args.place }) (rw c.if-branch.true at c.in_ok-add.ensures.labels) name

pub returns-else-branch-clause-places : goal.returns-else-branch-clause-places
returns-else-branch-clause-places c name =
    put-again c.args.labels.now c.add.new.self c.args.name.now.text.now (place_of c.args.place) (sym c.if-branch.false ∙ c.in_ok-add.ensures.added) (rw c.if-branch.false at c.in_ok-add.ensures.labels) name

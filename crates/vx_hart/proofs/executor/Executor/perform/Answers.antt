-- Each class goes by its own function.
use Rattle.std.proofs.Common.{◌∙◌, sym, ap}
use Rattle.vx_flat.specs.Step.{is_legal_as}
use Rattle.vx_rows.specs.declared.row.Class.{Class}
use Rattle.vx_hart.specs.Outcomes.{flat_of}
use Rattle.vx_hart.proofs.executor.Executor.perform.Goals as goal

pub returns-in-Csr-clause-legal : goal.returns-in-Csr-clause-legal
returns-in-Csr-clause-legal g c output =
    c.control.ensures.legal (g.M.Memory.state c.args.memory.now c.args.physical.now) output
    ∙ ap (λ (k : Class). is_legal_as k (flat_of c.args.arch.now (g.M.Memory.state c.args.memory.now c.args.physical.now) output) c.args.known.now.instr) (sym c.in-Csr.is)

pub returns-in-VectorArithmetic-clause-legal : goal.returns-in-VectorArithmetic-clause-legal
returns-in-VectorArithmetic-clause-legal g c output =
    c.calculate_legal.ensures.legal (g.M.Memory.state c.args.memory.now c.args.physical.now) output
    ∙ ap (λ (k : Class). is_legal_as k (flat_of c.args.arch.now (g.M.Memory.state c.args.memory.now c.args.physical.now) output) c.args.known.now.instr) (sym c.in-VectorArithmetic.is)

pub returns-in-VectorArithmetic-clause-illegal : goal.returns-in-VectorArithmetic-clause-illegal
returns-in-VectorArithmetic-clause-illegal g c none output = c.calculate_legal.ensures.illegal none (g.M.Memory.state c.args.memory.now c.args.physical.now) output

pub returns-in-VectorLoad-clause-legal : goal.returns-in-VectorLoad-clause-legal
returns-in-VectorLoad-clause-legal g c output =
    c.load_vectors.ensures.legal output
    ∙ ap (λ (k : Class). is_legal_as k (flat_of c.args.arch.now (g.M.Memory.state c.args.memory.now c.args.physical.now) output) c.args.known.now.instr) (sym c.in-VectorLoad.is)

pub returns-in-VectorLoad-clause-illegal : goal.returns-in-VectorLoad-clause-illegal
returns-in-VectorLoad-clause-illegal g c none output = c.load_vectors.ensures.illegal none output

pub returns-in-VectorStore-clause-legal : goal.returns-in-VectorStore-clause-legal
returns-in-VectorStore-clause-legal g c output =
    c.store_vectors.ensures.legal output
    ∙ ap (λ (k : Class). is_legal_as k (flat_of c.args.arch.now (g.M.Memory.state c.args.memory.now c.args.physical.now) output) c.args.known.now.instr) (sym c.in-VectorStore.is)

pub returns-in-VectorStore-clause-illegal : goal.returns-in-VectorStore-clause-illegal
returns-in-VectorStore-clause-illegal g c none output = c.store_vectors.ensures.illegal none output

pub returns-in-Csr-clause-illegal : goal.returns-in-Csr-clause-illegal
returns-in-Csr-clause-illegal g c none output =
    c.control.ensures.illegal none (g.M.Memory.state c.args.memory.now c.args.physical.now) output

pub returns-in-Set-clause-illegal : goal.returns-in-Set-clause-illegal
returns-in-Set-clause-illegal g c none output =
    c.configure.ensures.illegal none (g.M.Memory.state c.args.memory.now c.args.physical.now) output

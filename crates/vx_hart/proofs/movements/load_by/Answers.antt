-- The elements below the stop are loaded.
use Rattle.std.proofs.Common.{◌∙◌, sym, ap}
use Rattle.vx_vstate.specs.Registers.{words_of_all}
use Rattle.vx_hart.specs.Outcomes.{flat_of}
use Rattle.vx_hart.proofs.Ended.{loaded-moved, sound-with, vlen-here}
use Rattle.vx_hart.proofs.movements.load_by.Goals as goal

pub load_elements-requires-clause-sound : goal.load_elements-requires-clause-sound
load_elements-requires-clause-sound g c =
    let length = vlen-here c.args.arch.now.v c.args.pattern.now c.args.at.now c.requires.moves in
    sound-with c.args.pattern.now c.args.arch.now.v.words c.keep_for.new.self.words (c.keep_for.ensures.count ∙ ap words_of_all (sym length)) c.requires.moves.sound

pub returns-clause-moved : goal.returns-clause-moved
returns-clause-moved g c output =
    loaded-moved c.args.pattern.now c.keep_for.new.self.words (flat_of c.args.arch.now (g.M.Memory.state c.args.memory.now c.args.physical.now) output) c.args.end c.load_elements.new.v (g.M.Memory.state c.load_elements.new.memory c.load_elements.new.physical) c.load_elements.result c.keep_for.ensures.accesses
    c.load_elements.ensures.memory c.load_elements.ensures.failure c.load_elements.ensures.among c.load_elements.ensures.loaded

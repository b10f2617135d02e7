-- The law of legality, of the instruction's places.
use Rattle.std.proofs.Common.{ap, ◌∙◌}
use Rattle.vx_vstate.specs.Registers.{words_of_all}
use Rattle.vx_vstate.specs.State.{IsSetting}
use Rattle.vx_vstate.specs.Views.{view_of}
use Rattle.vx_vector.specs.Instructions.{places_of}
use Rattle.vx_exec.specs.Executed.{reads}
use Rattle.vx_exec.proofs.Arithmetic.{is-legal}
use Rattle.vx_exec.proofs.executed.reads_soundly.Goals as goal

pub returns : goal.returns
returns g c =
    let at = view_of c.args.at.now in
    let words = g.S.WordFile.words c.args.file.now in
    let setting : IsSetting at = record {
      vlen_in_range = c.args.at.now.vlen_in_range;
      vtype_in_range = c.args.at.now.vtype_in_range;
      vl_in_range = c.args.at.now.vl_in_range;
      vstart_in_range = c.args.at.now.vstart_in_range;
      vxrm_in_range = c.args.at.now.vxrm_in_range;
    } in
    c.legal_readings_are_sound.ensures c.args.i.now.op at (places_of c.args.i.now) words (reads c.args.i.now at words)
    (is-legal c.args.i.now at setting c.requires.executable)
    (c.word-word.ensures.all ∙ ap words_of_all c.requires.same)
    (c.instructions_read.ensures c.args.i.now at words c.requires.executable)

-- The options of a run are the settings that its words ask for.
use Rattle.std.proofs.Common.{◌≡◌, ℕ, List}
use Rattle.std.specs.Prelude.{unwrap_or}
use Rattle.vx_base.specs.declared.options.Options.{Options}
use Rattle.vx_machine.specs.Machine.{settings_for}
use Rattle.vx_read.specs.Read.{AreRead}
use Rattle.vx_read.specs.declared.run_words.RunWords.{RunWords}
use Rattle.vx_system.specs.Runs.{settings_of}
use Rattle.vx_words.specs.declared.image_job.ImageJob.{ImageJob}

-- the options have the run's numbers, and else their defaults
pub record AreFor (options : Options) (run : RunWords) : Type 0 where
  pub vlen : options.vlen ≡ unwrap_or run.vlen 256
  pub lanes : options.lanes ≡ unwrap_or run.lanes 4
  pub banks : options.banks ≡ unwrap_or run.banks 8
  pub bank_time : options.bank_time ≡ unwrap_or run.bank_time 4
  pub window : options.window ≡ unwrap_or run.window 1
  pub slice : options.slice ≡ 10000
  pub frames : options.frames ≡ unwrap_or run.frames 4096
  pub budget : options.budget ≡ unwrap_or run.budget 1000000000

pub settled : (job : ImageJob) (words : List (List ℕ)) (run : RunWords) (read : AreRead job words run) (options : Options) → AreFor options run → settings_of options ≡ settings_for read.givens
settled job words run read options for =
    let v = for.vlen in
    let vlen = read.vlen in
    let lanes = read.lanes in
    let window = read.window in
    let banks = read.banks in
    let bank_time = read.bank_time in
    let frames = read.frames in
    let budget = read.budget in
    let l = for.lanes in
    let b = for.banks in
    let t = for.bank_time in
    let w = for.window in
    let s = for.slice in
    let f = for.frames in
    let g = for.budget in
    cc

use Rattle.std.proofs.Common.{map, string_bytes, subst}
use Rattle.vx_read.specs.Read.{IsRead}
use Rattle.vx_read.specs.declared.asked.Asked.{Asked}
use Rattle.vx_words.specs.Words.Command.{Execute}
use Rattle.vx_words.specs.declared.image_job.ImageJob.TheVariants.{Run}
use Rattle.vx_top.proofs.Wanted.{frames-read, no-asm, no-dis}
use Rattle.vx_top.proofs.frames.frames_for.Goals as goal

pub returns-in-Ok-Execute-clause-run : goal.returns-in-Ok-Execute-clause-run
returns-in-Ok-Execute-clause-run c givens file asks =
    let words = map string_bytes c.args.words.now in
    frames-read c.words_ask_for_one_command.ensures words c.in-Ok-Execute.job c.in-Ok-Execute.run'
    (subst (λ (asked : Asked). IsRead words asked) c.in-Ok-Execute.field-0-is c.in-Ok-Execute.ensures.asks) givens file c.frames_of.result c.frames_of.ensures.run asks

pub returns-in-Ok-Dis-clause-run : goal.returns-in-Ok-Dis-clause-run
returns-in-Ok-Dis-clause-run c givens file asks =
    let words = map string_bytes c.args.words.now in
    absurd (no-dis c.words_ask_for_one_command.ensures words _ givens file
    (subst (λ (asked : Asked). IsRead words asked) c.in-Ok-Dis.field-0-is c.in-Ok-Dis.ensures.asks) asks)

pub returns-in-Ok-Asm-clause-run : goal.returns-in-Ok-Asm-clause-run
returns-in-Ok-Asm-clause-run c givens file asks =
    let words = map string_bytes c.args.words.now in
    absurd (no-asm c.words_ask_for_one_command.ensures words _ givens file
    (subst (λ (asked : Asked). IsRead words asked) c.in-Ok-Asm.field-0-is c.in-Ok-Asm.ensures.asks) asks)

pub returns-in-Err-clause-run : goal.returns-in-Err-clause-run
returns-in-Err-clause-run c givens file asks = absurd (c.in-Err.ensures.outside (Execute Run givens file) asks)

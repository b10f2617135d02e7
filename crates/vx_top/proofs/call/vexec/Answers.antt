use Rattle.std.proofs.Common.{map, string_bytes, subst}
use Rattle.vx_read.specs.Read.{IsRead}
use Rattle.vx_read.specs.declared.asked.Asked.{Asked}
use Rattle.vx_top.proofs.Claimed.{Answers-from, Claims-usage}
use Rattle.vx_top.proofs.call.vexec.Goals as goal

pub returns-in-Ok-Dis : goal.returns-in-Ok-Dis
returns-in-Ok-Dis g c =
    c.dis.ensures (map string_bytes c.args.words.now) _ (subst (λ (asked : Asked). IsRead (map string_bytes c.args.words.now) asked) c.in-Ok-Dis.field-0-is c.in-Ok-Dis.ensures.asks)

pub returns-in-Ok-Asm : goal.returns-in-Ok-Asm
returns-in-Ok-Asm g c =
    c.asm.ensures (map string_bytes c.args.words.now) _ (subst (λ (asked : Asked). IsRead (map string_bytes c.args.words.now) asked) c.in-Ok-Asm.field-0-is c.in-Ok-Asm.ensures.asks)

pub returns-in-Err : goal.returns-in-Err
returns-in-Err g c =
    Claims-usage _ _ _ _ _ _ c.in-Err.index _ (c.in-Err.ensures.outside, c.in-Err.ensures.first_bad)
    (Answers-from string_bytes c.bad_words.result _ _ _ _ _ c.bad_words.ensures c.tell.ensures)

use Rattle.vx_read.proofs.Decimals.{parsed}
use Rattle.vx_read.proofs.digits.number.Goals as goal

pub returns-in-Ok : goal.returns-in-Ok
returns-in-Ok c =
    let read = parsed c.args.text.now c.parse.result c.parse.ensures.value.0 (rw c.as_bytes.ensures.value at c.if-not-begins_as_number.ensures.sign) (rw c.as_bytes.ensures.value at c.if-not-begins_as_number.ensures.zero) in
    rw c.in-Ok.is at read

pub returns-in-Err : goal.returns-in-Err
returns-in-Err c =
    let read = parsed c.args.text.now c.parse.result c.parse.ensures.value.0 (rw c.as_bytes.ensures.value at c.if-not-begins_as_number.ensures.sign) (rw c.as_bytes.ensures.value at c.if-not-begins_as_number.ensures.zero) in
    rw c.in-Err.is at read

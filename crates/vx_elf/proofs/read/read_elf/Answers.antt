-- The file's first fault, or its segments.
use Rattle.std.proofs.Common.{sym}
use Rattle.std.proofs.lemmas.Result.{err_from_is_err_and}
use Rattle.vx_elf.proofs.Files.{at_kind, at_table, at_headers, at_end}
use Rattle.vx_elf.proofs.read.read_elf.Goals as goal

pub returns-in-Some : goal.returns-in-Some
returns-in-Some c = at_kind c.args.bytes.now c.in-Some.fault (sym c.in-Some.ensures.fault)

pub returns-in-Some-table_fault : goal.returns-in-Some-table_fault
returns-in-Some-table_fault c =
    at_table c.args.bytes.now c.in-Some-table_fault.fault (sym c.in_default.ensures.fault) (sym c.in-Some-table_fault.ensures.fault)

pub returns-in_err-list : goal.returns-in_err-list
returns-in_err-list c =
    let p = err_from_is_err_and c.from_residual.result c.from_residual.ensures.1 in
    rw (p.1, p.2) (at_headers c.args.bytes.now c.in_err-list.field-0.0 (sym c.in_default.ensures.fault) (sym c.in_default-table_fault.ensures.fault) c.in_err-list.ensures)

pub returns : goal.returns
returns c =
    at_end c.args.bytes.now c.in_ok-list.list c.entry_point.result (sym c.in_default.ensures.fault) (sym c.in_default-table_fault.ensures.fault) c.in_ok-list.ensures.0 c.in_ok-list.ensures.1 c.entry_point.ensures

-- The account that a process's report tells. This project's own.
use Rattle.vx_machine.specs.Accounts.{Account, standing_of}
use Rattle.vx_system.specs.declared.report.ProcessReport.{ProcessReport}

abbrev pub told : ProcessReport → Account
told process = record {
  standing = standing_of process.pc process.vstart process.over;
  instructions = process.instructions;
  costs = process.costs;
  output = process.output.now;
}

-- The headers so far stand behind what there was.
use Rattle.std.proofs.Common.{◌≡◌, ◌++◌, take}
use Rattle.std.specs.List.{flat_map}
use Rattle.vx_elf.specs.Writing.{program_header}
use Rattle.vx_elf.proofs.write.put_program_headers.Given as goal

abbrev pub invariant-loop-header : goal.invariant-loop-header
invariant-loop-header l = l.out.items ≡ l.initial.out.items ++ flat_map program_header (take l.header-index l.headers)

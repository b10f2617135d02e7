use Rattle.std.proofs.Common.{◌≡◌, drop}
use Rattle.vx_base.specs.NamedFiles.{bytes_under}
use Rattle.vx_base.proofs.memory_shelf.file_named.Given as goal

-- no file that was passed has the name
abbrev pub invariant-loop-file : goal.invariant-loop-file
invariant-loop-file l = bytes_under l.files l.name ≡ bytes_under (drop l.file-index l.files) l.name

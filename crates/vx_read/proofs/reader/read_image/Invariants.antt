use Rattle.std.proofs.Common.{length, map, string_bytes}
use Rattle.vx_read.proofs.Leads.{LeadTo}
use Rattle.vx_read.proofs.reader.read_image.Given as goal

abbrev pub invariant-loop-setting : goal.invariant-loop-setting
invariant-loop-setting l = LeadTo l.job (map string_bytes l.words) l.numbers (map string_bytes l.rest)

abbrev pub decreases-loop-setting : goal.decreases-loop-setting
decreases-loop-setting l = length (map string_bytes l.rest)

use Rattle.std.proofs.Common.{◌≡◌, ◌++◌, length, string_bytes}
use Rattle.vx_source.specs.Listing.{listing}
use Rattle.vx_dis.proofs.listing.push_lines.Given as goal

-- with the lines that are left the text becomes the text with all of them
abbrev pub invariant-loop-word : goal.invariant-loop-word
invariant-loop-word l = string_bytes l.text ++ listing l.rest ≡ string_bytes l.fn.text ++ listing l.bytes

abbrev pub decreases-loop-word : goal.decreases-loop-word
decreases-loop-word l = length l.rest

-- The bytes are those of the entries.
use Rattle.std.proofs.Common.{ap, ◌∙◌}
use Rattle.vx_image.specs.Building.{bytes_of_entries}
use Rattle.vx_image.proofs.Assembled.{kept, the_pages}
use Rattle.vx_image.proofs.image.assembled.Goals as goal

pub invariant_of-result : goal.invariant_of-result
invariant_of-result c =
    kept c.args.segments.now c.args.entry c.args.entries.items c.in_ok-bytes.bytes.items (c.in_ok-bytes.ensures ∙ ap (bytes_of_entries c.args.segments.now) c.deref.ensures.value) c.requires.listed c.requires.aligned

pub returns : goal.returns
returns c =
    the_pages c.args.segments.now c.args.entry c.args.entries.items c.in_ok-bytes.bytes.items c.requires.segments c.requires.entries (c.in_ok-bytes.ensures ∙ ap (bytes_of_entries c.args.segments.now) c.deref.ensures.value)

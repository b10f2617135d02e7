-- All bytes, or each by the mask.
use Rattle.std.proofs.Common.{ℕ, sym, ap, ◌∙◌}
use Rattle.vx_cells.specs.Merging.{merged}
use Rattle.vx_cells.proofs.Merged.{read_bytes, merged-whole}
use Rattle.vx_cells.proofs.merge.merged.Goals as goal

pub returns-then-mask-eq255 : goal.returns-then-mask-eq255
returns-then-mask-eq255 c =
    sym (ap (λ (mask : ℕ). merged mask c.args.old c.args.value) c.if-mask-eq255.true ∙ merged-whole c.args.old c.args.value c.ranges.value.fits)

pub returns : goal.returns
unfolding merged
returns c =
    rw (c.from_le_bytes.ensures, c.merged_byte.ensures, c.merged_byte-2.ensures, c.merged_byte-3.ensures, c.merged_byte-4.ensures, c.merged_byte-5.ensures, c.merged_byte-6.ensures, c.merged_byte-7.ensures, c.merged_byte-8.ensures)
    (read_bytes _ _ _ _ _ _ _ _)

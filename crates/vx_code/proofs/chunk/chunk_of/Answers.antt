use Rattle.vx_code.proofs.chunk.chunk_of.Goals as goal

pub count_of-requires-clause-counts : goal.count_of-requires-clause-counts
count_of-requires-clause-counts c = (18446744073709551615, rw c.in-PutsZeros.is at c.requires.sound.right)

pub count_of-requires-in-Aligns-clause-counts : goal.count_of-requires-in-Aligns-clause-counts
count_of-requires-in-Aligns-clause-counts c = (12, rw c.in-Aligns.is at c.requires.sound.right)

pub padding-requires-clause-power : goal.padding-requires-clause-power
padding-requires-clause-power c = c.count_of-in-Aligns.ensures.within 12 (rw c.in-Aligns.is at c.requires.sound.right)

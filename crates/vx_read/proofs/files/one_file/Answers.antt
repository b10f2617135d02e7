use Rattle.std.proofs.Common.{map, string_bytes}
use Rattle.std.proofs.lemmas.Bool.{false≢true}
use Rattle.vx_read.proofs.OneFile.{no_words, no_file}
use Rattle.vx_read.proofs.files.one_file.Goals as goal

pub returns-in_default-clause-bad : goal.returns-in_default-clause-bad
returns-in_default-clause-bad c = rw c.in_default.ensures no_words

pub returns-then-not-is_file-clause-bad : goal.returns-then-not-is_file-clause-bad
returns-then-not-is_file-clause-bad c =
    rw c.in-Some.ensures (no_file c.in-Some.word.now (map string_bytes c.in-Some.rest.now) (λ file. false≢true (c.if-not-is_file.ensures.1 file)))

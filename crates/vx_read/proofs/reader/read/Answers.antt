use Rattle.std.proofs.Common.{◌∷◌, ap, ◌∙◌, map, string_bytes}
use Rattle.std.specs.Prelude.{codes}
use Rattle.vx_words.specs.declared.image_job.ImageJob.TheVariants.{Run, Alone}
use Rattle.vx_read.specs.Files.{AreOneFile}
use Rattle.vx_read.proofs.Whole.{AreOf, job_bad}
use Rattle.vx_read.proofs.Commands.{word_of_job, dis_word, asm_word, outside_by, first_bad_by, first_bad_none, first_bad_command}
use Rattle.vx_read.proofs.reader.read.Goals as goal

pub returns-in_default-clause-first_bad : goal.returns-in_default-clause-first_bad
returns-in_default-clause-first_bad c = rw c.in_default.ensures first_bad_none

pub returns-in-Err-clause-outside : goal.returns-in-Err-clause-outside
returns-in-Err-clause-outside c =
    let rest = map string_bytes c.in-Some.rest.now in
    outside_by (codes "run") (AreOf Run) (map string_bytes c.args.words.now) rest c.in-Err.index (word_of_job Run) (c.in-Some.ensures ∙ ap (λ word. word ∷ rest) c.in-run.is) (job_bad Run rest c.in-Err.index c.in-Err.ensures.bad)

pub returns-in-Err-clause-first_bad : goal.returns-in-Err-clause-first_bad
returns-in-Err-clause-first_bad c =
    let rest = map string_bytes c.in-Some.rest.now in
    first_bad_by (codes "run") (AreOf Run) (map string_bytes c.args.words.now) rest c.in-Err.index (word_of_job Run) (c.in-Some.ensures ∙ ap (λ word. word ∷ rest) c.in-run.is) (job_bad Run rest c.in-Err.index c.in-Err.ensures.bad)

pub returns-in-Err-read_image-clause-outside : goal.returns-in-Err-read_image-clause-outside
returns-in-Err-read_image-clause-outside c =
    let rest = map string_bytes c.in-Some.rest.now in
    outside_by (codes "alone") (AreOf Alone) (map string_bytes c.args.words.now) rest c.in-Err-read_image.index (word_of_job Alone) (c.in-Some.ensures ∙ ap (λ word. word ∷ rest) c.in-alone.is) (job_bad Alone rest c.in-Err-read_image.index c.in-Err-read_image.ensures.bad)

pub returns-in-Err-read_image-clause-first_bad : goal.returns-in-Err-read_image-clause-first_bad
returns-in-Err-read_image-clause-first_bad c =
    let rest = map string_bytes c.in-Some.rest.now in
    first_bad_by (codes "alone") (AreOf Alone) (map string_bytes c.args.words.now) rest c.in-Err-read_image.index (word_of_job Alone) (c.in-Some.ensures ∙ ap (λ word. word ∷ rest) c.in-alone.is) (job_bad Alone rest c.in-Err-read_image.index c.in-Err-read_image.ensures.bad)

pub returns-in-Err-one_file-clause-first_bad : goal.returns-in-Err-one_file-clause-first_bad
returns-in-Err-one_file-clause-first_bad c =
    let rest = map string_bytes c.in-Some.rest.now in
    first_bad_by (codes "dis") AreOneFile (map string_bytes c.args.words.now) rest c.in-Err-one_file.index dis_word (c.in-Some.ensures ∙ ap (λ word. word ∷ rest) c.in-dis.is) c.in-Err-one_file.ensures.bad

pub returns-in_default-word-clause-first_bad : goal.returns-in_default-word-clause-first_bad
returns-in_default-word-clause-first_bad c =
    rw c.in-Some.ensures (first_bad_command c.in-Some.word.now (map string_bytes c.in-Some.rest.now) c.in_default-word.not-run c.in_default-word.not-alone c.in_default-word.not-dis c.in_default-word.not-asm)

pub returns-in-Err-one_file-2-clause-first_bad : goal.returns-in-Err-one_file-2-clause-first_bad
returns-in-Err-one_file-2-clause-first_bad c =
    let rest = map string_bytes c.in-Some.rest.now in
    first_bad_by (codes "asm") AreOneFile (map string_bytes c.args.words.now) rest c.in-Err-one_file-2.index asm_word (c.in-Some.ensures ∙ ap (λ word. word ∷ rest) c.in-asm.is) c.in-Err-one_file-2.ensures.bad

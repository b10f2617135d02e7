use Rattle.std.proofs.Common.{◌≡◌, ℕ, ◌+◌, ◌-◌, length, map, string_bytes, subst, arith}
use Rattle.std.proofs.lemmas.List.{length-map}
use Rattle.vx_read.specs.Settings.{given_to}
use Rattle.vx_read.specs.Images.{image_of}
use Rattle.vx_read.specs.Numbers.{nothing}
use Rattle.vx_read.specs.Behind.{AreBadBehind}
use Rattle.vx_read.proofs.Leads.{lead_on, image_read}
use Rattle.vx_read.proofs.Whole.{read_whole}
use Rattle.vx_read.proofs.reader.read_image.Goals as goal

pub loop-setting-preserved : goal.loop-setting-preserved
loop-setting-preserved c =
    lead_on c.args.job (map string_bytes c.args.words.now) c.loop-setting.numbers (map string_bytes c.loop-setting.rest.now) (given_to c.in-Given.setting c.in-Given.number) c.with-numbers.result (map string_bytes c.in-Given.behind.now) c.loop-setting.invariant c.in-Given.ensures c.with-numbers.ensures

pub returns-in-Image-clause-asks : goal.returns-in-Image-clause-asks
returns-in-Image-clause-asks c =
    let numbers = c.loop-setting.numbers in
    let image = image_of c.in-Image.image in
    read_whole c.args.job (map string_bytes c.args.words.now) numbers image c.run_of.result (c.loop-setting.invariant.read numbers image (image_read c.args.job numbers (map string_bytes c.loop-setting.rest.now) image c.in-Image.ensures)) c.run_of.ensures

pub returns-in-Bad-clause-bad : goal.returns-in-Bad-clause-bad
returns-in-Bad-clause-bad c =
    let words = map string_bytes c.args.words.now in
    let lead = c.loop-setting.invariant in
    let lengths = lead.lengths in
    let e : lead.passed + c.in-Bad.index ≡ length c.args.words.now - length c.loop-setting.rest.now + c.in-Bad.index =
    omega (arith, lengths, length-map c.args.words.now string_bytes, length-map c.loop-setting.rest.now string_bytes) in
    let Bad : ℕ → Type 0 = λ index. AreBadBehind c.args.job nothing words index in
    subst Bad e (lead.bad c.in-Bad.index c.in-Bad.ensures)

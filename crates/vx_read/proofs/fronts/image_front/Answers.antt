use Rattle.std.proofs.Common.{◌≡◌, ◌<◌, length, map, string_bytes, arith}
use Rattle.std.proofs.lemmas.List.{length-map}
use Rattle.std.proofs.lemmas.Bool.Decides.{nat_tests}
use Rattle.vx_read.specs.Images.{image_of}
use Rattle.vx_read.proofs.First.{bad_behind, image_alone}
use Rattle.vx_read.proofs.fronts.image_front.Goals as goal

pub returns-then-is_empty : goal.returns-then-is_empty
returns-then-is_empty c = λ word is.
    let none : length c.args.rest.now ≡ 0 = grind (arith, nat_tests) in
    image_alone word (image_of c.args.image) (map string_bytes c.args.rest.now) (rw length-map none) is

pub returns-else-is_empty : goal.returns-else-is_empty
returns-else-is_empty c = λ word is.
    let some : 0 < length c.args.rest.now = grind (arith, nat_tests) in
    bad_behind c.args.job c.args.numbers.now word (image_of c.args.image) (map string_bytes c.args.rest.now) is (rw length-map some)

-- The only field's access, where the element takes part.
use Rattle.std.proofs.Common.{◌≡◌, sym, arith}
use Rattle.vx_vaddr.specs.Views.{movement_with}
use Rattle.vx_vector.specs.Accesses.{Movement}
use Rattle.vx_vaddr.proofs.Offsets.{first-is}
use Rattle.vx_vaddr.proofs.Sizes.{sized}
use Rattle.vx_vaddr.proofs.pattern.AccessPattern.only.Goals as goal

pub item-requires : goal.item-requires
item-requires g c =
    let p = c.args.self.now in
    sized (movement_with p (g.S.WordFile.words c.args.file.now)) p.bytes p.registers c.args.i 0 p.is.bytes_are p.is.registers_are c.requires.sound c.requires.among (omega (arith, c.requires.one))

-- An item is the access, field by field.
use Rattle.vx_vaddr.specs.Views.{movement_with}
use Rattle.vx_vaddr.proofs.Offsets.{item-is}
use Rattle.vx_vaddr.proofs.pattern.AccessPattern.item.Goals as goal

pub returns : goal.returns
returns c words h = item-is (movement_with c.args.self.now words) c.args.i c.args.field c.args.first c.args.self.now.bytes c.args.self.now.registers c.args.self.now.is.bytes_are c.args.self.now.is.registers_are h

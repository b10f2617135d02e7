-- One field more, and at the end all of them.
use Rattle.std.proofs.Common.{arith}
use Rattle.vx_vaddr.specs.Views.{movement_with}
use Rattle.vx_vector.specs.Accesses.{Movement}
use Rattle.vx_vaddr.proofs.Offsets.{filled-none, filled-more, first-is}
use Rattle.vx_vaddr.proofs.Sizes.{sized}
use Rattle.vx_vaddr.proofs.pattern.AccessPattern.fill.Goals as goal

pub loop-field-init : goal.loop-field-init
loop-field-init g c = filled-none (movement_with c.args.self.now (g.S.WordFile.words c.args.file.now)) c.args.i c.clear.new.self c.clear.ensures

pub item-requires : goal.item-requires
item-requires g c =
    let p = c.args.self.now in
    let fields = p.is.fields_are in
    sized (movement_with p (g.S.WordFile.words c.args.file.now)) p.bytes p.registers c.args.i c.loop-field.field p.is.bytes_are p.is.registers_are c.requires.sound c.requires.among (omega arith)

pub push-requires : goal.push-requires
push-requires g c =
    let few = c.requires.sound.few_fields in
    let fields = c.args.self.now.is.fields_are in
    let count = c.loop-field.invariant.count in
    omega arith

pub loop-field-preserved : goal.loop-field-preserved
loop-field-preserved g c =
    let m : Movement = movement_with c.args.self.now (g.S.WordFile.words c.args.file.now) in
    filled-more m c.args.i c.loop-field.field c.loop-field.list c.push.new.self c.item.result c.push.ensures
    (c.item.ensures (g.S.WordFile.words c.args.file.now) (first-is m c.args.i c.offset.result c.offset.ensures))
    c.loop-field.invariant

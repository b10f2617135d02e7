use Rattle.vx_asm.proofs.Labelled.{few-tokens, some-tokens}
use Rattle.vx_asm.proofs.label.begin_with_label.Goals as goal

pub returns-then-tokens-lt2 : goal.returns-then-tokens-lt2
returns-then-tokens-lt2 c = few-tokens c.args.tokens.now c.if-tokens-lt2.true

pub returns : goal.returns
returns c = some-tokens c.args.tokens.now c.index-tokens-0.result c.index-tokens-1.result c.is_label.result c.if-tokens-lt2.false c.index-tokens-0.is c.index-tokens-1.is c.is_label.ensures

use Rattle.std.proofs.Common.{◌≡◌, replicate, ◌*◌, ◌/◌, refl}
use Rattle.vx_vstate.specs.Registers.{no_words}
use Rattle.vx_vstate.proofs.state.VState.new.Goals as goal

pub returns : goal.returns
unfolding no_words
returns c =
    let zeros : c.in_ok-words.words.items ≡ replicate (32 * (c.args.vlen / 64)) 0 = c.in_ok-words.ensures.items_if_clones_equal (λ y h. h) in
    rw zeros refl

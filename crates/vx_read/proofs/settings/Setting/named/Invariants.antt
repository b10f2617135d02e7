use Rattle.std.proofs.Common.{◌≡◌, ℕ, ◌<◌, get_or}
use Rattle.vx_words.specs.Words.{row_of}
use Rattle.vx_read.specs.declared.settings.Setting.{Setting}
use Rattle.vx_read.specs.Settings.{option_of}
use Rattle.vx_read.proofs.settings.Setting.named.Given as goal

abbrev pub invariant-loop-setting : goal.invariant-loop-setting
invariant-loop-setting l =
    (k : ℕ) (other : Setting) → k < l.setting-index → l.word ≡ (row_of (option_of (get_or l.setting-items k other))).word → ⊥

-- The options, as the program names them. This project's own.
use Rattle.std.specs.Prelude.{◌≡◌, ℕ}
use Rattle.vx_words.specs.Words.{OptionName, Given, row_of}
use Rattle.vx_words.specs.Words.OptionName.{Vlen as VlenOption, Window as WindowOption, Lanes as LanesOption, Banks as BanksOption, BankTime as BankTimeOption, Frames as FramesOption, Budget as BudgetOption}
use Rattle.vx_read.specs.declared.settings.Row.{Row}
use Rattle.vx_read.specs.declared.settings.Setting.{Setting}
use Rattle.vx_read.specs.declared.settings.Setting.TheVariants.{Vlen, Window, Lanes, Banks, BankTime, Frames, Budget}

abbrev pub option_of : Setting → OptionName
option_of Vlen = VlenOption
option_of Window = WindowOption
option_of Lanes = LanesOption
option_of Banks = BanksOption
option_of BankTime = BankTimeOption
option_of Frames = FramesOption
option_of Budget = BudgetOption

-- the option, and the number that it is given
abbrev pub given_to : Setting → ℕ → Given
given_to setting number = record { option = option_of setting; number = number }

-- the row is the option's, as the grammar has it
pub record IsRow (option : OptionName) (row : Row) : Type 0 where
  pub word : row.word.now ≡ (row_of option).word
  pub least : row.least ≡ (row_of option).least
  pub greatest : row.greatest ≡ (row_of option).greatest

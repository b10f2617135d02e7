-- What a word of the command line is, taken alone. This project's own.
use Rattle.std.specs.Prelude.{◌≡◌, ℕ, List, ◌++◌, codes}
use Rattle.vx_words.specs.Words.{OptionName, row_of, ImageFile, IsImage}
use Rattle.vx_read.specs.Settings.{option_of}
use Rattle.vx_read.specs.Images.{image_of}
use Rattle.vx_read.specs.declared.forms.Form.{Form}
use Rattle.vx_read.specs.declared.forms.Form.TheVariants.{Image, Name, Both, Other}

-- the word is an option's, with this text behind it
abbrev pub IsBoth : List ℕ → OptionName → List ℕ → Type 0
IsBoth word option text = word ≡ (row_of option).word ++ codes "=" ++ text

-- the word is no image, no option's word, and none with a text behind it
pub record HasNoForm (word : List ℕ) : Type 0 where
  pub no_image : (image : ImageFile) → IsImage word image → ⊥
  pub no_name : (option : OptionName) → word ≡ (row_of option).word → ⊥
  pub no_both : (option : OptionName) (text : List ℕ) → IsBoth word option text → ⊥

-- the word is what the form says
abbrev pub IsOfForm : List ℕ → Form → Type 0
IsOfForm word (Image image) = IsImage word (image_of image)
IsOfForm word (Name setting) = word ≡ (row_of (option_of setting)).word
IsOfForm word (Both setting text) = IsBoth word (option_of setting) text.now
IsOfForm word Other = HasNoForm word

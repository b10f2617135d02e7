-- What file an image is in, as the program names it. This project's own.
use Rattle.vx_words.specs.Words.{ImageFile}
use Rattle.vx_words.specs.Words.ImageFile.{Raw as RawFile, Elf as ElfFile}
use Rattle.vx_read.specs.declared.image_word.ImageWord.{ImageWord}
use Rattle.vx_read.specs.declared.image_word.ImageWord.TheVariants.{Raw, Elf}

abbrev pub image_of : ImageWord → ImageFile
image_of (Raw name) = RawFile name.now
image_of (Elf name) = ElfFile name.now

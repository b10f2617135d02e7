-- What the bytes of an image's file give. This project's own.
use Rattle.std.specs.Prelude.{ℕ, List, Option, option_map}
use Rattle.std.specs.Option.{option_or}
use Rattle.vx_elf.specs.Reading.{elf_fault, segments_in}
use Rattle.vx_image.specs.Images.{image_fault, image_in, raw_fault, raw_image}
use Rattle.vx_image.specs.Pages.{Image}
use Rattle.vx_words.specs.Words.{ImageFile}
use Rattle.vx_words.specs.Words.ImageFile.{Raw, Elf}
use Rattle.vx_words.specs.declared.file_fault.FileFault.{FileFault}
use Rattle.vx_words.specs.declared.file_fault.FileFault.TheVariants.{BadElf, NoImage}

-- the first fault of the bytes
abbrev pub file_fault : ImageFile → List ℕ → Option FileFault
file_fault (Raw name) bytes = option_map NoImage (raw_fault bytes)
file_fault (Elf name) bytes = option_or (option_map BadElf (elf_fault bytes)) (option_map NoImage (image_fault (segments_in bytes)))

-- the image that bytes without a fault give
abbrev pub image_of_file : ImageFile → List ℕ → Image
image_of_file (Raw name) bytes = raw_image bytes
image_of_file (Elf name) bytes = image_in (segments_in bytes)

-- What a list of named files holds under a name. This project's own.
use Rattle.std.specs.Prelude.{List, [], ◌∷◌, Some, None, if◌then◌else◌, unwrap_or, bytes_eq}
use Rattle.vx_base.specs.Shelf.{Files}
use Rattle.vx_base.specs.declared.memory_shelf.NamedFile.{NamedFile}

-- the bytes of the first file of that name
abbrev pub bytes_under : List NamedFile → Files
bytes_under [] name = None
bytes_under (file ∷ files) name = if bytes_eq file.name name then Some file.bytes else bytes_under files name

-- the same, where every other name has the empty file
abbrev pub bytes_or_none : List NamedFile → Files
bytes_or_none files name = Some (unwrap_or (bytes_under files name) [])

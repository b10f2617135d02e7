use Rattle.std.proofs.lemmas.Str.{IsUtf8-string_bytes}
use Rattle.vx_dis.proofs.line.line_of.Goals as goal

-- the bytes of a string are a text
pub of-requires : goal.of-requires
of-requires c = rw c.into_bytes.ensures.value (IsUtf8-string_bytes c.push_line.new.text)

-- The control registers of this crate's table. This project's own.
use Rattle.vx_source.specs.Names.{NamedControl}
use Rattle.vx_statement.specs.declared.names.Control.{Control}

-- what a row of the table stands for
abbrev pub named : Control → NamedControl
named control = record { number = control.number; name = control.name.now }

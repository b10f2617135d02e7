use Rattle.std.proofs.Common.{◌≡◌, ◌-◌, ℕ, find, drop, bytes_eq}
use Rattle.vx_rows.specs.Table.{mnemonic}
use Rattle.vx_statement.proofs.Fields.{fields}
use Rattle.vx_statement.proofs.names.fields_named.Given as goal

-- what is found from here on is what is found of all
abbrev pub invariant-loop-nf : goal.invariant-loop-nf
invariant-loop-nf l =
    find (λ (n : ℕ). bytes_eq l.name (mnemonic l.op n)) (drop l.nf fields) ≡ find (λ (n : ℕ). bytes_eq l.name (mnemonic l.op n)) fields

abbrev pub decreases-loop-nf : goal.decreases-loop-nf
decreases-loop-nf l = 8 - l.nf

-- Numbers by names.
use Rattle.std.specs.Prelude.{ℕ, List, Option, bytes_eq}
use Rattle.std.specs.List.{position_from}
use Rattle.amx_ops.specs.declared.amx.Record.{Record}

-- the number of the first record with a name
abbrev pub number_named : List Record → List ℕ → Option ℕ
number_named records name = position_from (λ (it : Record). bytes_eq it.name name) 0 records

use Rattle.std.proofs.Common.{◌≡◌, drop}
use Rattle.std.specs.List.{position_from}
use Rattle.std.specs.Prelude.{bytes_eq}
use Rattle.amx_ops.specs.declared.amx.Record.{Record}
use Rattle.host_embed.proofs.files.number_of.Given as goal

abbrev pub invariant-loop-number : goal.invariant-loop-number
invariant-loop-number l =
    position_from (λ (it : Record). bytes_eq it.name l.name) l.number (drop l.number l.records)
    ≡ position_from (λ (it : Record). bytes_eq it.name l.name) 0 l.records

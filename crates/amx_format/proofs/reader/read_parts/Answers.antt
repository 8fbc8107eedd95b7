use Rattle.std.proofs.Common.{sym, ◌∙◌}
use Rattle.amx_format.proofs.ReadLaws.{plain_cells}
use Rattle.amx_format.proofs.reader.read_parts.Goals as goal

pub returns-then-not-is_compact-clause-cells : goal.returns-then-not-is_compact-clause-cells
returns-then-not-is_compact-clause-cells c =
    plain_cells c.args.bytes.now c.args.header.now c.in_ok-read_plain.field-0
    c.in_ok-read_plain-2.field-0 c.requires.header c.requires.order.parts
    (sym c.is_compact.ensures ∙ c.if-not-is_compact.true)
    c.in_ok-read_plain.ensures c.in_ok-read_plain-2.ensures

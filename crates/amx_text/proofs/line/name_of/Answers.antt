use Rattle.std.proofs.Common.{◌≡◌, ◌∙◌, pos, ap, sym, FitsSigned, w32, to_z, of_z, rules}
use Rattle.std.proofs.lemmas.Int.{to_z-of_z}
use Rattle.amx_ops.specs.Table.{row_at, op_by}
use Rattle.amx_text.proofs.LineLaws.{name_at, no_name}
use Rattle.amx_text.proofs.line.name_of.Goals as goal

pub returns-in-Some : goal.returns-in-Some
returns-in-Some c =
    let fits : FitsSigned w32 c.from.result = search rules in
    let is : to_z w32 (of_z w32 c.from.result) ≡ pos c.args.number =
    to_z-of_z w32 c.from.result fits ∙ c.from.ensures in
    c.name_in_table.ensures ∙ name_at (pos c.args.number) c.in-Some.op
    (ap (λ z. op_by (row_at z)) (sym is) ∙ sym c.in-Some.ensures)

pub returns-in-None : goal.returns-in-None
returns-in-None c =
    let fits : FitsSigned w32 c.from.result = search rules in
    let is : to_z w32 (of_z w32 c.from.result) ≡ pos c.args.number =
    to_z-of_z w32 c.from.result fits ∙ c.from.ensures in
    no_name (pos c.args.number) (ap (λ z. op_by (row_at z)) (sym is) ∙ sym c.in-None.ensures)

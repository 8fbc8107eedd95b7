use Rattle.std.proofs.Common.{◌++◌, ◌∷◌, [], ◌∙◌, ap}
use Rattle.std.proofs.lemmas.Result.{err_from_is_err_and}
use Rattle.pawn_outside.proofs.SaidLaws.{said_as, said_then, said_cut}
use Rattle.amx_ops.specs.Table.{row_of}
use Rattle.amx_text.specs.Lines.{address_text, cells_line, name_by}
use Rattle.amx_text.proofs.LineLaws.{instruction_parts}
use Rattle.amx_text.proofs.line.say_instruction.Goals as goal

pub returns-in_err-say : goal.returns-in_err-say
returns-in_err-say g c =
    let cells = cells_line c.args.operands.now in
    let name = name_by (row_of c.args.number) in
    let is = err_from_is_err_and c.from_residual.result c.from_residual.ensures.1 in
    said_as (ap (λ a. (a ++ (32 ∷ (c.as_bytes.result.now ++ []))) ++ cells) c.address.ensures
    ∙ ap (λ n. (address_text c.args.at ++ (32 ∷ (n ++ []))) ++ cells)
    (c.as_bytes.ensures.value ∙ c.name_of.ensures)
    ∙ instruction_parts (address_text c.args.at) name cells)
    (said_cut cells c.from_residual.result is.1 c.in_err-say.ensures)

pub returns : goal.returns
returns g c =
    let cells = cells_line c.args.operands.now in
    let name = name_by (row_of c.args.number) in
    said_as (ap (λ a. (a ++ (32 ∷ (c.as_bytes.result.now ++ []))) ++ cells) c.address.ensures
    ∙ ap (λ n. (address_text c.args.at ++ (32 ∷ (n ++ []))) ++ cells)
    (c.as_bytes.ensures.value ∙ c.name_of.ensures)
    ∙ instruction_parts (address_text c.args.at) name cells)
    (said_then c.in_ok-say.ensures c.say_cells.ensures)

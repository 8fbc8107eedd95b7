use Rattle.std.specs.Prelude.{map}
use Rattle.pawn_meaning.specs.View.{slot_view}
use Rattle.check_declarations.proofs.FillLaws.{params_stay}
use Rattle.check_declarations.proofs.function_table.set_params.Goals as goal

pub returns-else-is_empty : goal.returns-else-is_empty
returns-else-is_empty c =
    params_stay (map slot_view c.args.params) c.args.function.now c.is_empty.result
    c.is_empty.ensures c.if-is_empty.false

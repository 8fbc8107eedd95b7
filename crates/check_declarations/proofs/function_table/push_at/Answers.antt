use Rattle.std.specs.Prelude.{map}
use Rattle.pawn_meaning.specs.View.{body_view, slot_view}
use Rattle.check_declarations.proofs.FillLaws.{pushed_at}
use Rattle.check_declarations.proofs.function_table.push_at.Goals as goal

pub returns : goal.returns
returns c =
    pushed_at c.args.functions.now.items c.args.number c.index_mut.result.now
    c.push_body.new.function (map slot_view c.args.params) (body_view c.args.body)
    c.index_mut.ensures.value c.in_ok-push_body.ensures

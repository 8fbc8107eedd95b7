use Rattle.pawn_pre.proofs.ValueLaws.{told_value, one_value, told_by}
use Rattle.pawn_pre.proofs.value.value_of.Goals as goal

pub returns-clause-has : goal.returns-clause-has
returns-clause-has c = told_value c.args.control c.args.text.now _ c.computed_value.ensures

pub returns-clause-only : goal.returns-clause-only
returns-clause-only c = one_value c.args.control c.args.text.now

pub returns-clause-told : goal.returns-clause-told
returns-clause-told c value is =
    told_by c.args.control c.args.text.now _ c.computed_value.ensures value is

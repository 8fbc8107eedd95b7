use Rattle.std.proofs.Common.{sym, ◌∙◌}
use Rattle.names_sight.proofs.constants.unless_chosen.Goals as goal

pub returns-then-is_chosen : goal.returns-then-is_chosen
returns-then-is_chosen c =
    (sym (c.is_chosen.ensures c.args.place) ∙ c.if-is_chosen.true, c.not_constant.ensures)

pub returns-else-is_chosen : goal.returns-else-is_chosen
returns-else-is_chosen c = sym (c.is_chosen.ensures c.args.place) ∙ c.if-is_chosen.false

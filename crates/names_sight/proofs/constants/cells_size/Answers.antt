use Rattle.std.proofs.Common.{◌<◌, length, lit<, refl, sym, subst, arith}
use Rattle.names_rules.specs.Verdict.{Verdict}
use Rattle.names_rules.specs.Worth as spec
use Rattle.pawn_verdict.specs.Answers.{Answers}
use Rattle.names_sight.specs.ValuedView.{valued_view}
use Rattle.names_sight.proofs.ConstantLaws.{no_cells, cells_have, cells_lack}
use Rattle.names_sight.proofs.constants.cells_size.Goals as goal

pub returns-then-sizes-eq0 : goal.returns-then-sizes-eq0
returns-then-sizes-eq0 c =
    λ around. rw (no_cells around c.args.place c.args.brackets c.args.sizes.now (omega arith))
    (c.one_cell.ensures around)

pub returns-then-brackets-sizes : goal.returns-then-brackets-sizes
returns-then-brackets-sizes c = λ around.
    let lt : c.args.brackets < length c.args.sizes.now = omega arith in
    subst (λ (w : Verdict spec.Valued). Answers valued_view w c.size_worth.result)
    (sym (cells_have around c.args.place c.args.brackets c.args.sizes.now _ lt))
    (c.size_worth.ensures around c.args.place)

pub returns-else-brackets-sizes : goal.returns-else-brackets-sizes
returns-else-brackets-sizes c = λ around.
    let some : 0 < length c.args.sizes.now = omega (arith, c.if-sizes-eq0.false) in
    rw (
      cells_lack around c.args.place c.args.brackets c.args.sizes.now some (omega arith),
      c.not_constant.ensures,
    ) (record { cause = (0, lit< tt, refl) })

use Rattle.std.proofs.Common.{FitsSigned, w32, rules}
use Rattle.std.proofs.lemmas.Int.{to_z-of_z}
use Rattle.pawn_cells.specs.Operators as cells
use Rattle.names_rules.specs.Worth.{operator_tag}
use Rattle.names_sight.specs.ValuedView.{valued_view}
use Rattle.names_sight.proofs.ConstantLaws.{operated_stands}
use Rattle.names_sight.proofs.constants.operate.Goals as goal

pub returns-in-Some : goal.returns-in-Some
returns-in-Some c = λ around place.
    let f : FitsSigned w32 c.args.x.value = search rules in
    let g : FitsSigned w32 c.args.y.value = search rules in
    let h = simp to_z-of_z at c.in-Some.ensures in
    let v : FitsSigned w32 c.in-Some.cell.0 = search rules in
    let m = simp to_z-of_z at c.make_valued.ensures in
    operated_stands around place c.args.at (operator_tag around place c.args.operator c.args.x.tag)
    c.operator_tag.result
    (cells.binary c.args.operator c.args.x.value c.args.y.value) c.in-Some.cell.0
    (valued_view c.make_valued.result)
    h (c.operator_tag.ensures around place) m

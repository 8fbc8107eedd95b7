use Rattle.std.proofs.Common.{◌≡◌, ◌∙◌, Some, rules}
use Rattle.check_calls.proofs.NumberLaws.{looked_up}
use Rattle.check_calls.proofs.filling.find_param.Goals as goal

pub returns-in-Some : goal.returns-in-Some
returns-in-Some c =
    let is : c.args.numbers.now ≡ Some c.in-Some.numbers = search rules in
    c.find.ensures
    ∙ looked_up c.args.numbers.now c.in-Some.numbers c.args.head.now.params _ c.args.name.now
    c.requires is c.as_slice.ensures

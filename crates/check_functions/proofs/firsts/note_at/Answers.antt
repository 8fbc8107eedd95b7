use Rattle.std.proofs.Common.{◌≤◌, ℕ, Option, Some, length, arith}
use Rattle.std.specs.Option.{option_or}
use Rattle.check_source.proofs.PlaceLaws.{set_updates}
use Rattle.check_functions.proofs.OwnLaws.{noted_past}
use Rattle.check_functions.proofs.firsts.note_at.Goals as goal

pub returns-then-number-len : goal.returns-then-number-len
returns-then-number-len c =
    set_updates c.args.own.now.items c.args.number c.index.result.now c.first_of.result
    (λ (first : Option ℕ). option_or first (Some c.args.place))
    c.index.ensures c.first_of.ensures

pub returns-else-number-len : goal.returns-else-number-len
returns-else-number-len c =
    let past : length c.args.own.now.items ≤ c.args.number = omega arith in
    noted_past c.args.own.now.items c.args.number c.args.place past

use Rattle.std.proofs.Common.{◌≤◌, length, arith}
use Rattle.check_declarations.proofs.PublicMarkLaws.{set_marks, marked_past}
use Rattle.check_declarations.proofs.public_marks.mark_at.Goals as goal

pub returns-then-number-len : goal.returns-then-number-len
returns-then-number-len c = set_marks c.args.flags.now.items c.args.number

pub returns-else-number-len : goal.returns-else-number-len
returns-else-number-len c =
    let past : length c.args.flags.now.items ≤ c.args.number = omega arith in
    marked_past c.args.flags.now.items c.args.number past

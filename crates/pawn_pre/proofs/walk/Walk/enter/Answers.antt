use Rattle.std.proofs.Common.{◌<◌, ◌≤◌, ◌^◌, length, rules, arith}
use Rattle.pawn_pre.specs.File.{file_of}
use Rattle.pawn_pre.proofs.RemainingLaws.{entered_ok}
use Rattle.pawn_pre.proofs.walk.Walk.enter.Goals as goal

pub returns-clause-entered : goal.returns-clause-entered
returns-clause-entered c = search rules

pub returns-clause-falls : goal.returns-clause-falls
returns-clause-falls c =
    let few : length c.args.self.now.names < 2 ^ 64 =
    rw (← c.self.view_is) (omega (arith, c.len-number.ensures, c.len-number.type_inv)) in
    let rows : length (file_of c.args.bytes.now).rows ≤ 16777216 =
    let few_rows = rw c.in_ok-read_rows.ensures.rows at c.in_ok-read_rows.ensures.few in
    omega (arith, few_rows, c.requires.short) in
    entered_ok _ c.args.self.now _ c.args.name.now c.args.bytes.now few rows
    (returns-clause-entered c)

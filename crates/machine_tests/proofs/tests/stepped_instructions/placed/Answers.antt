use Rattle.std.proofs.Common.{rules, ◌≡◌, ◌+◌, ◌*◌, ◌%◌, ◌≤◌, length}
use Rattle.pawn_cells.specs.Cells.{bits_of}
use Rattle.machine_tests.proofs.PlacedLaws.{placed}
use Rattle.machine_tests.proofs.tests.stepped_instructions.placed.Goals as goal

pub clear-requires : goal.clear-requires
clear-requires c =
    let amx = c.args.verified in
    let r = c.args.start in
    let hea : bits_of r.hea % 4 ≡ 0 = search rules in
    let stk : bits_of r.stk % 4 ≡ 0 = search rules in
    let first : 4 * length amx.store ≤ bits_of r.hea = search rules in
    let order : bits_of r.hea ≤ bits_of r.stk = search rules in
    let top : bits_of r.stk ≤ 4 * length amx.store + 4 * amx.room = search rules in
    placed c.in_ok-core.core amx r (search rules) hea stk first order top

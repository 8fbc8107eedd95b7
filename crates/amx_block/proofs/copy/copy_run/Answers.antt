use Rattle.std.proofs.Common.{◌≡◌, ◌+◌, ◌<◌, pos, length, get_or, ◌∙◌, arith, rules, w32}
use Rattle.std.proofs.Common.{FitsSigned}
use Rattle.std.proofs.lemmas.Int.{to_z-of_z}
use Rattle.std.proofs.lemmas.List.{get_or_default}
use Rattle.amx_block.proofs.CopyLaws.{run_more}
use Rattle.amx_block.proofs.copy.copy_run.Goals as goal

pub loop-i-preserved : goal.loop-i-preserved
loop-i-preserved c =
    let l = c.loop-i in
    let a = c.args in
    let v = c.index-cell.result.now in
    let fit : FitsSigned w32 v = search rules in
    let there : a.from + l.i < length l.cells.items =
    omega (arith, l.invariant.size, c.loop-i-test.true, c.requires.from) in
    let is : v ≡ get_or l.cells.items (a.from + l.i) (pos 0) =
    c.index-cell.ensures ∙ get_or_default l.cells.items (a.from + l.i) v (pos 0) there in
    rw (to_z-of_z w32 v fit)
    (run_more a.from a.to a.count l.i a.cells.now.items l.cells.items v is fit c.requires.apart
    c.loop-i-test.true c.requires.to l.invariant)

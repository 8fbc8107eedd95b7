use Rattle.std.proofs.Common.{◌≡◌, ◌+◌, ◌-◌, ◌<◌, pos, length, get_or, ◌∙◌}
use Rattle.std.proofs.Common.{arith, rules, w32, FitsSigned, subst}
use Rattle.std.proofs.lemmas.Int.{to_z-of_z}
use Rattle.std.proofs.lemmas.List.{get_or_default}
use Rattle.std.specs.Prelude.{slice_set}
use Rattle.amx_block.specs.Copied.{IsRunFrom}
use Rattle.amx_block.proofs.CopyLaws.{none_down, all_down, run_down}
use Rattle.amx_block.proofs.copy.copy_run_down.Goals as goal

pub loop-i-init : goal.loop-i-init
loop-i-init c =
    none_down (c.args.count - 0) c.args.from c.args.to c.args.count c.args.cells.now.items
    (omega arith)

pub loop-i-preserved : goal.loop-i-preserved
loop-i-preserved c =
    let l = c.loop-i in
    let a = c.args in
    let v = c.index-cell.result.now in
    let place = a.count - 1 - l.i in
    let fit : FitsSigned w32 v = search rules in
    let there : a.from + place < length l.cells.items =
    omega (arith, l.invariant.size, c.loop-i-test.true, c.requires.from) in
    let is : v ≡ get_or l.cells.items (a.from + place) (pos 0) =
    c.index-cell.ensures ∙ get_or_default l.cells.items (a.from + place) v (pos 0) there in
    let last : place ≡ a.count - (l.i + 1) = omega arith in
    rw (to_z-of_z w32 v fit)
    (subst (λ n. IsRunFrom n a.from a.to a.count a.cells.now.items
    (slice_set l.cells.items (a.to + place) v)) last
    (run_down a.from a.to a.count (a.count - l.i) place a.cells.now.items l.cells.items v is fit
    c.requires.above (omega (arith, c.loop-i-test.true)) (omega (arith, c.loop-i-test.true))
    c.requires.to l.invariant))

pub returns : goal.returns
returns c =
    all_down (c.args.count - c.loop-i.i) c.args.from c.args.to c.args.count c.args.cells.now.items
    c.loop-i.cells.items (omega (arith, c.loop-i-test.false)) c.loop-i.invariant

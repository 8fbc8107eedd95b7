use Rattle.std.proofs.Common.{◌≡◌, ◌+◌, ◌-◌, ◌<◌, suc, length, length-set, ap, ◌∙◌, subst, arith}
use Rattle.amx_block.specs.Expanded.{IsExpandedFrom}
use Rattle.amx_block.proofs.ExpandLaws.{starts, ends_within, expanded}
use Rattle.amx_block.proofs.expand.expand_pieces.Goals as goal

pub expand_last-end-requires : goal.expand_last-end-requires
expand_last-end-requires c =
    let a = c.args in
    let p = c.requires.packed in
    let old = a.cells.now.items in
    let now = c.loop-done.cells.items in
    let end = c.loop-done.end in
    let j = a.count - 1 - c.loop-done.done in
    let h : j < a.count = omega (arith, c.loop-done-test.true) in
    let left : a.count - c.loop-done.done ≡ suc j = omega (arith, c.loop-done-test.true) in
    let v =
    subst (λ n. IsExpandedFrom old now a.len a.count n end p) left (c.loop-done.invariant.0 p) in
    let some = starts old now a.len a.count end j p v h in
    let within = ends_within old now a.len a.count end j p v h in
    let size = c.loop-done.invariant.1 in (
      omega (arith, some),
      omega (arith, within, size),
      omega (arith, h, p.within, size),
      omega (arith, size, c.requires.small),
    )

pub loop-done-preserved : goal.loop-done-preserved
loop-done-preserved c =
    let a = c.args in
    let old = a.cells.now.items in
    let now = c.loop-done.cells.items in
    let new = c.expand_last-end.new.cells.items in
    let end = c.loop-done.end in
    let start = c.expand_last-end.result in
    let j = a.count - 1 - c.loop-done.done in
    let h : j < a.count = omega (arith, c.loop-done-test.true) in
    let left : a.count - c.loop-done.done ≡ suc j = omega (arith, c.loop-done-test.true) in
    let next : j ≡ a.count - (c.loop-done.done + 1) = omega (arith, c.loop-done-test.true) in
    let w = c.expand_last-end.ensures in
    let size = c.loop-done.invariant.1 in (
      λ p.
          let v =
          subst (λ n. IsExpandedFrom old now a.len a.count n end p) left
          (c.loop-done.invariant.0 p) in
          subst (λ n. IsExpandedFrom old new a.len a.count n start p) next
          (expanded old now a.len a.count end j p v h new start w.start w.cells size),
      ap length w.cells ∙ length-set now j _ ∙ size,
    )

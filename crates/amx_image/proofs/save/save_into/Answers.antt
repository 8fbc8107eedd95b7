use Rattle.std.proofs.Common.{◌++◌, ◌^◌, ◌<◌, rules, length, sym, ap, ◌∙◌, subst, arith}
use Rattle.amx_format.specs.Layout.{cells}
use Rattle.amx_image.specs.declared.version.Version.TheVariants.{Live}
use Rattle.amx_image.specs.Image.{IsImage}
use Rattle.amx_image.specs.Spelled.{spelled}
use Rattle.amx_image.proofs.SaveLaws.{stack_lent, live_fit, spelled_is_image}
use Rattle.amx_image.proofs.save.save_into.Goals as goal

pub put_cells-requires : goal.put_cells-requires
put_cells-requires c =
    let m = c.args.machine.now in
    let r = c.registers-registers in
    let stack = stack_lent m r.result c.live_from-stack.result.now r.ensures.value r.ensures.kept (search rules) in
    let room = ap (λ b. b.room) c.put_front.ensures.bytes in
    omega (
      arith,
      room,
      c.put_front.ensures.size,
      c.requires.room,
      live_fit m r.ensures.kept _ _ c.heap_of-heap.ensures stack,
    )

pub put_cells-requires-2 : goal.put_cells-requires-2
put_cells-requires-2 c =
    let m = c.args.machine.now in
    let r = c.registers-registers in
    let stack = stack_lent m r.result c.live_from-stack.result.now r.ensures.value r.ensures.kept (search rules) in
    let room =
    ap (λ b. b.room) c.put_cells.ensures.bytes
    ∙ ap (λ b. b.room) c.put_front.ensures.bytes in
    omega (
      arith,
      room,
      c.put_front.ensures.size,
      c.put_cells.ensures.size,
      c.requires.room,
      live_fit m r.ensures.kept _ _ c.heap_of-heap.ensures stack,
    )

pub returns-clause-image : goal.returns-clause-image
returns-clause-image c =
    let m = c.args.machine.now in
    let r = c.registers-registers in
    let heap = c.heap_of-heap.result.now in
    let stack = c.live_from-stack.result.now in
    let is_stack = stack_lent m r.result stack r.ensures.value r.ensures.kept (search rules) in
    let few : length m.state.cells < 2 ^ 32 = omega (arith, c.cells_of.ensures.few) in
    let is =
    ap (λ b. b.bytes) c.put_cells-2.ensures.bytes
    ∙ ap (λ b. b.bytes ++ cells stack) c.put_cells.ensures.bytes
    ∙ ap (λ b. b.bytes ++ cells heap ++ cells stack) c.put_front.ensures.bytes
    ∙ ap (λ n. spelled r.result c.args.at n c.args.digest.now heap stack)
    c.cells_of.ensures.count in
    subst (λ bytes. IsImage Live m.state c.args.at c.args.digest.now bytes) (sym is)
    (spelled_is_image m.state c.args.at c.args.digest.now r.result heap stack c.told-digest
    c.ranges.at.fits few r.ensures.value c.put_front.ensures.fits c.put_cells.ensures.fits
    c.put_cells-2.ensures.fits c.heap_of-heap.ensures is_stack)

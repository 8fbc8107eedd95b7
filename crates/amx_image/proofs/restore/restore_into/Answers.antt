use Rattle.std.proofs.Common.{◌*◌, ◌≤◌, length, rules, sym, ap, ◌∙◌, subst, arith}
use Rattle.amx_ops.specs.Writable.{memory_limit}
use Rattle.amx_step.specs.Hosting.{AreInOrder, cleared}
use Rattle.amx_machine.specs.declared.mode.Mode.TheVariants.{Asleep}
use Rattle.amx_image.specs.Faults.{first_fault}
use Rattle.amx_image.specs.Restored.{IsImageFor}
use Rattle.amx_image.proofs.RestoreLaws.{told, sound_for, in_order, is_image_for, faulty}
use Rattle.amx_image.proofs.RestoreLaws.{same_machine, cleared_is, heap_row, heap_long, stack_count}
use Rattle.amx_image.proofs.RestoreLaws.{stack_row, stack_long, all_put, last_state}
use Rattle.amx_image.proofs.restore.restore_into.Goals as goal

pub returns-in_err-version : goal.returns-in_err-version
returns-in_err-version c =
    let a = c.args in
    let m = a.machine.now in
    let file =
    sym (ap (λ n. first_fault m.amx n a.digest.now a.bytes.now)
    c.cells_of-count.ensures.file) in
    let e =
    file ∙ told m c.verified.result.now c.cells_of-count.result a.digest.now a.bytes.now (sym c.verified.ensures)
    c.cells_of-count.ensures.count ∙ c.in_err-version.ensures.fault in
    let none = faulty m.amx a.digest.now a.bytes.now c.in_err-version.field-0.0 e in
    search (rules, e, none)

pub read_registers-registers-requires : goal.read_registers-registers-requires
read_registers-registers-requires c =
    let i =
    sound_for c.args.machine.now _ _ c.args.digest.now c.args.bytes.now (sym c.verified.ensures)
    c.cells_of-count.ensures.count _ c.in_ok-version.ensures.fault
    c.in_ok-version.ensures.version in
    i.long

pub set_asleep-requires : goal.set_asleep-requires
set_asleep-requires c =
    let i =
    sound_for c.args.machine.now _ _ c.args.digest.now c.args.bytes.now (sym c.verified.ensures)
    c.cells_of-count.ensures.count _ c.in_ok-version.ensures.fault
    c.in_ok-version.ensures.version in
    subst (λ q. AreInOrder c.args.machine.now.amx (cleared q c.args.machine.now.state))
    (sym c.read_registers-registers.ensures)
    (in_order c.args.machine.now.amx c.args.machine.now.state _ c.args.digest.now c.args.bytes.now
    i)

pub put_row-requires-clause-live : goal.put_row-requires-clause-live
put_row-requires-clause-live c =
    let i =
    sound_for c.args.machine.now _ _ c.args.digest.now c.args.bytes.now (sym c.verified.ensures)
    c.cells_of-count.ensures.count _ c.in_ok-version.ensures.fault
    c.in_ok-version.ensures.version in
    heap_row c.args.machine.now _ c.args.digest.now c.args.bytes.now i c.cast_unsigned-hea.result
    c.cast_unsigned-stk.result (search rules) (search rules) _
    (cleared_is c.args.machine.now _ _ _ c.set_asleep.ensures c.read_registers-registers.ensures)

pub put_row-requires-clause-long : goal.put_row-requires-clause-long
put_row-requires-clause-long c =
    let i =
    sound_for c.args.machine.now _ _ c.args.digest.now c.args.bytes.now (sym c.verified.ensures)
    c.cells_of-count.ensures.count _ c.in_ok-version.ensures.fault
    c.in_ok-version.ensures.version in
    heap_long c.args.machine.now _ c.args.digest.now c.args.bytes.now i c.cast_unsigned-hea.result
    c.cast_unsigned-stk.result (search rules) (search rules)

pub overflow_sub-count : goal.overflow_sub-count
overflow_sub-count c =
    let i =
    sound_for c.args.machine.now _ _ c.args.digest.now c.args.bytes.now (sym c.verified.ensures)
    c.cells_of-count.ensures.count _ c.in_ok-version.ensures.fault
    c.in_ok-version.ensures.version in
    stack_count c.args.machine.now _ c.args.digest.now c.args.bytes.now i c.cast_unsigned-hea.result
    c.cast_unsigned-stk.result (search rules) (search rules) _
    c.cells_of-count.ensures.count

pub put_row-requires-2-clause-live : goal.put_row-requires-2-clause-live
put_row-requires-2-clause-live c =
    let i =
    sound_for c.args.machine.now _ _ c.args.digest.now c.args.bytes.now (sym c.verified.ensures)
    c.cells_of-count.ensures.count _ c.in_ok-version.ensures.fault
    c.in_ok-version.ensures.version in
    stack_row c.args.machine.now _ c.args.digest.now c.args.bytes.now i c.cast_unsigned-hea.result
    c.cast_unsigned-stk.result (search rules) (search rules) _
    c.cells_of-count.ensures.count _ _
    (cleared_is c.args.machine.now _ _ _ c.set_asleep.ensures c.read_registers-registers.ensures)
    (ap (λ q. q.state) c.put_row.ensures)

pub put_row-requires-2-clause-long : goal.put_row-requires-2-clause-long
put_row-requires-2-clause-long c =
    let i =
    sound_for c.args.machine.now _ _ c.args.digest.now c.args.bytes.now (sym c.verified.ensures)
    c.cells_of-count.ensures.count _ c.in_ok-version.ensures.fault
    c.in_ok-version.ensures.version in
    stack_long c.args.machine.now _ c.args.digest.now c.args.bytes.now i c.cast_unsigned-hea.result
    c.cast_unsigned-stk.result (search rules) (search rules) _
    c.cells_of-count.ensures.count _ c.stack_place-place.ensures

pub read_word-requires : goal.read_word-requires
read_word-requires c =
    let i =
    sound_for c.args.machine.now _ _ c.args.digest.now c.args.bytes.now (sym c.verified.ensures)
    c.cells_of-count.ensures.count _ c.in_ok-version.ensures.fault
    c.in_ok-version.ensures.version in
    omega (arith, i.long)

pub returns : goal.returns
returns c =
    let i =
    sound_for c.args.machine.now _ _ c.args.digest.now c.args.bytes.now (sym c.verified.ensures)
    c.cells_of-count.ensures.count _ c.in_ok-version.ensures.fault
    c.in_ok-version.ensures.version in
    let m = c.args.machine.now in
    let last_is =
    all_put m _ c.args.digest.now c.args.bytes.now i c.cast_unsigned-hea.result
    c.cast_unsigned-stk.result (search rules) (search rules) _
    c.cells_of-count.ensures.count _ _ _ _
    (cleared_is c.args.machine.now _ _ _ c.set_asleep.ensures c.read_registers-registers.ensures)
    (ap (λ q. q.state) c.put_row.ensures) c.stack_place-place.ensures
    (ap (λ q. q.state) c.put_row-2.ensures) in
    let last =
    last_state m.amx m.state c.in_ok-version.version c.args.digest.now c.args.bytes.now i in
    let small : 4 * length m.state.cells ≤ memory_limit =
    omega (arith, c.cells_of-count.ensures.few) in
    let image =
    is_image_for m _ c.args.digest.now c.args.bytes.now i small c.cells_of-count.ensures.file in
    let amx =
    ap (λ q. q.amx) c.put_row-2.ensures ∙ ap (λ q. q.amx) c.put_row.ensures
    ∙ ap (λ q. q.amx) c.set_asleep.ensures in
    let mode =
    ap (λ q. q.mode) c.put_row-2.ensures ∙ ap (λ q. q.mode) c.put_row.ensures
    ∙ ap (λ q. q.mode) c.set_asleep.ensures in (
      subst (λ s. IsImageFor m.amx c.args.digest.now c.args.bytes.now s c.read_word.result)
          (sym last_is)
          (subst (λ p. IsImageFor m.amx c.args.digest.now c.args.bytes.now last p)
          (sym c.read_word.ensures.word) image),
      same_machine c.put_row-2.new.machine m Asleep amx mode,
    )

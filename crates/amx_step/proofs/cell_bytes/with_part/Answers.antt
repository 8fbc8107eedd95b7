use Rattle.std.proofs.Common.{arith}
use Rattle.amx_step.proofs.PartLaws.{changed_fits, moved_fits}
use Rattle.amx_step.proofs.cell_bytes.with_part.Goals as goal

pub overflow_mul-new : goal.overflow_mul-new
overflow_mul-new c =
    rw (c.worth-size.ensures.value, c.worth-scale.ensures.value)
    (omega (
      arith,
      moved_fits c.from-bits.result c.args.from c.args.count c.from.result
          (omega arith) c.requires,
    ))

pub overflow_add-bits : goal.overflow_add-bits
overflow_add-bits c =
    rw (c.worth-size.ensures.value, c.worth-scale.ensures.value)
    (omega (
      arith,
      changed_fits c.from-bits.result c.args.from c.args.count c.from.result
          (omega arith) c.requires,
    ))

pub overflow_cast-bits : goal.overflow_cast-bits
overflow_cast-bits c =
    rw (c.worth-size.ensures.value, c.worth-scale.ensures.value)
    (omega (
      arith,
      changed_fits c.from-bits.result c.args.from c.args.count c.from.result
          (omega arith) c.requires,
    ))

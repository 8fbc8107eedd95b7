use Rattle.check_locals.proofs.SumLaws.{block_objects, switch_objects}
use Rattle.check_locals.proofs.objects.+objects_in.Goals as goal

pub objects_in-returns-in-Block : goal.objects_in-returns-in-Block
objects_in-returns-in-Block t c =
    rw (c.in-Block.is, block_objects c.in-Block.field-0 c.in-Block.list) c.objects_in_all.ensures

pub objects_in-returns-in_ok-sum-in-Switch : goal.objects_in-returns-in_ok-sum-in-Switch
objects_in-returns-in_ok-sum-in-Switch t c =
    rw (
      c.in-Switch.is,
      switch_objects c.in-Switch.field-0 c.in-Switch.e c.in-Switch.list c.in-Switch.other,
      ← c.in_ok-literals-in-Switch.ensures,
      ← c.in_ok-objects_in_cases-in-Switch.ensures,
      ← c.in_ok-objects_in_other-in-Switch.ensures,
      ← c.in_ok-sum-in-Switch.ensures,
    ) c.sum-in-Switch-2.ensures

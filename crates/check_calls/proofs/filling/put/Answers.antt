use Rattle.std.proofs.Common.{arith, sym}
use Rattle.check_calls.proofs.PutLaws.{put_past, put_stands, put_twice}
use Rattle.check_calls.proofs.filling.put.Goals as goal

pub returns-then-i-len : goal.returns-then-i-len
returns-then-i-len c =
    rw c.broken.ensures (put_past c.args.at c.args.slots.items c.args.i c.args.it (omega arith))

pub returns-in-None : goal.returns-in-None
returns-in-None c =
    put_stands c.args.at c.args.slots.items c.args.i c.args.it _ _
    (omega arith) c.index_mut.ensures.value (sym c.in-None.ensures.value)
    c.in-None.ensures.after

pub returns-in-Some : goal.returns-in-Some
returns-in-Some c =
    rw c.broken-in-Some.ensures
    (put_twice c.args.at c.args.slots.items c.args.i c.args.it _ _
    (omega arith) c.index_mut.ensures.value (sym c.in-Some.ensures.value))

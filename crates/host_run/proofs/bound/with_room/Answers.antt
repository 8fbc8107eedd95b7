use Rattle.std.proofs.Common.{pos, ap}
use Rattle.std.proofs.lemmas.List.{length-replicate}
use Rattle.host_run.proofs.bound.with_room.Goals as goal

pub returns : goal.returns
returns c =
    rw (c.in_ok-reserved.ensures.items_if_clones_equal (λ y e. e))
    (ap (λ room. record { natives = c.args.natives; room = room })
    (length-replicate c.args.room (pos 0)))

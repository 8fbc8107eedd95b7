use Rattle.std.proofs.Common.{◌∙◌, ap, arith}
use Rattle.check_switches.specs.Neighbours.{neighbours_meet}
use Rattle.check_switches.proofs.ApartLaws.{twice_by}
use Rattle.check_switches.proofs.apart.any_twice.Goals as goal

pub returns : goal.returns
returns c =
    c.touches.ensures ∙ ap neighbours_meet c.as_slice.ensures.value
    ∙ twice_by c.args.ranges.now c.in_ok-sorted.sorted.items c.requires
    c.in_ok-sorted.ensures.permutation
    (λ k d l. c.in_ok-sorted.ensures.sorted k d (omega arith) l)

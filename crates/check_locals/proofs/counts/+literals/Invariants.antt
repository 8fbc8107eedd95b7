use Rattle.std.proofs.Common.{◌≡◌, map, take}
use Rattle.std.specs.List.{sum_by}
use Rattle.pawn_tree.specs.View.{arg_view, link_view}
use Rattle.types_rules.specs.Literals.{literals_of_arg, literals_of_link}
use Rattle.check_locals.proofs.counts.+literals.Given as goal

abbrev pub invariant-arg_literals-loop-i : goal.invariant-arg_literals-loop-i
invariant-arg_literals-loop-i l = l.count ≡ sum_by literals_of_arg (map arg_view (take l.i l.items))

abbrev pub invariant-link_literals-loop-i : goal.invariant-link_literals-loop-i
invariant-link_literals-loop-i l =
    l.count ≡ sum_by literals_of_link (map link_view (take l.i l.items))

use Rattle.std.proofs.Common.{ℤ, List, ◌++◌, map, take}
use Rattle.pawn_tree.specs.View.{dim_view}
use Rattle.names_rules.specs.Verdict.{Verdict}
use Rattle.names_rules.specs.Sizes.{dim_size}
use Rattle.names_sight.specs.Means.{around_view, means_view}
use Rattle.names_sight.specs.Views.{size_view}
use Rattle.names_sight.specs.Narrower.{AreNarrower}
use Rattle.names_sight.proofs.sizes.with_others.Given as goal

abbrev pub invariant-loop-i : goal.invariant-loop-i
invariant-loop-i l =
    (verdicts : List (Verdict ℤ)) → AreNarrower (map size_view l.fn.first.items) verdicts
    → AreNarrower (map size_view l.sizes.items)
    (verdicts ++ map (dim_size (around_view l.cx) l.place (means_view l.cx))
    (map dim_view (take l.i l.dims)))

use Rattle.std.proofs.Common.{◌++◌, ◌∷◌, [], List, ℤ, map, drop, arith}
use Rattle.std.specs.Result.{IfOk}
use Rattle.pawn_tree.specs.View.{dim_view}
use Rattle.names_rules.specs.Verdict.{Verdict}
use Rattle.names_rules.specs.Sizes.{dim_size, open_size}
use Rattle.names_sight.specs.Means.{around_view, means_view}
use Rattle.names_sight.specs.Views.{size_view}
use Rattle.names_sight.specs.Narrower.{AreNarrower}
use Rattle.names_sight.proofs.SizeLaws.{parameter_parts, behind_first}
use Rattle.names_sight.proofs.sizes.parameter_sizes.Goals as goal

pub returns-in_ok-sizes-in-len1-up : goal.returns-in_ok-sizes-in-len1-up
returns-in_ok-sizes-in-len1-up c =
    let all =
    c.with_others.ensures (open_size (around_view c.args.cx.now) c.args.place
    (means_view c.args.cx.now) (dim_view c.first-item.result) ∷ [])
    (c.in_ok-sizes-in-len1-up.ensures
    (open_size (around_view c.args.cx.now) c.args.place (means_view c.args.cx.now)
    (dim_view c.first-item.result)) c.open_size.ensures) in
    rw (
      ← c.as_slice.ensures,
      parameter_parts (around_view c.args.cx.now) c.args.place
          (means_view c.args.cx.now) c.as_slice.result.now c.first-item.result
          c.in-len1-up.len_at_least c.first-item.is,
    )
    (rw (behind_first c.as_slice.result.now) at all)

use Rattle.std.proofs.Common.{◌++◌, ◌∷◌, [], List, ℤ, map, drop, option_map, arith}
use Rattle.std.specs.Result.{IfOk}
use Rattle.pawn_tree.specs.View.{dim_view, init_view}
use Rattle.names_rules.specs.Verdict.{Verdict}
use Rattle.names_rules.specs.Sizes.{dim_size, first_size}
use Rattle.names_sight.specs.Means.{around_view, means_view}
use Rattle.names_sight.specs.Views.{size_view}
use Rattle.names_sight.specs.Narrower.{AreNarrower}
use Rattle.names_sight.proofs.SizeLaws.{variable_parts, behind_first}
use Rattle.names_sight.proofs.sizes.variable_sizes.Goals as goal

pub returns-in_ok-sizes-in-len1-up : goal.returns-in_ok-sizes-in-len1-up
returns-in_ok-sizes-in-len1-up c =
    let all =
    c.with_others.ensures (first_size (around_view c.args.cx.now) c.args.place
    (means_view c.args.cx.now) (dim_view c.first-item.result)
    (option_map init_view c.args.init.now) ∷ [])
    (c.in_ok-sizes-in-len1-up.ensures
    (first_size (around_view c.args.cx.now) c.args.place (means_view c.args.cx.now)
    (dim_view c.first-item.result) (option_map init_view c.args.init.now))
    c.first_size.ensures) in
    rw (
      ← c.as_slice.ensures,
      variable_parts (around_view c.args.cx.now) c.args.place (means_view c.args.cx.now)
          (option_map init_view c.args.init.now) c.as_slice.result.now c.first-item.result
          c.in-len1-up.len_at_least c.first-item.is,
    )
    (rw (behind_first c.as_slice.result.now) at all)

use Rattle.names_sight.specs.Means.{around_view, means_view}
use Rattle.names_sight.proofs.SizeLaws.{list_gives}
use Rattle.names_sight.proofs.sizes.init_gives.Goals as goal

pub returns-in-Braces : goal.returns-in-Braces
returns-in-Braces c =
    rw (
      c.in-Braces.is,
      list_gives (around_view c.args.cx.now) c.args.place
          (means_view c.args.cx.now) c.in-Braces.field-0 c.in-Braces.list c.in-Braces.goes_on,
      ← c.len.ensures,
    ) (c.list_gives.ensures (around_view c.args.cx.now))

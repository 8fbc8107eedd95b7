use Rattle.types_rules.specs.FirstValues.{literal_in}
use Rattle.check_nodes.specs.TypedView.{typed_view}
use Rattle.check_expressions.proofs.FirstSizeLaws.{size_by_text}
use Rattle.check_expressions.proofs.arrays.value_size.Goals as goal

pub returns : goal.returns
returns c =
    rw (
      size_by_text c.args.at c.args.second c.args.third
          (literal_in (typed_view c.args.x.now) (typed_view c.args.x.now).form),
      ← c.literal_size.ensures,
    ) c.text_size.ensures

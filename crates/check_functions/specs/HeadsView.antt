-- What the definitions see of the typed heads that code holds.
use Rattle.std.specs.Prelude.{List, Option, map, option_map}
use Rattle.types_rules.specs.Around as plain
use Rattle.check_nodes.specs.declared.context.Head.{Head}
use Rattle.check_nodes.specs.ContextView.{head_view}

-- the heads of a source in order, where they stand
abbrev pub heads_view : List (Option Head) → List (Option plain.Head)
heads_view heads = map (λ (head : Option Head). option_map head_view head) heads

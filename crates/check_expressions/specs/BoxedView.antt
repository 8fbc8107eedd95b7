-- A typed expression in its box, as the rules of typing see it.
use Rattle.std.specs.declared.alloc.Global.{Global}
use Rattle.std.specs.declared.boxed.Box.{Box}
use Rattle.types_rules.specs.Typed as plain
use Rattle.check_nodes.specs.TypedView.{typed_view}
use Rattle.check_nodes.specs.declared.typed.Typed.{Typed}

abbrev pub boxed_view : Box Typed Global → plain.Typed
boxed_view it = typed_view it.value

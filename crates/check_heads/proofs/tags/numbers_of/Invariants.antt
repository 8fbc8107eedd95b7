use Rattle.std.proofs.Common.{◌≡◌, take, map}
use Rattle.pawn_tree.specs.declared.name.Name.{Name}
use Rattle.types_rules.specs.Around.{tag_number}
use Rattle.check_nodes.specs.ContextView.{around_view}
use Rattle.check_heads.proofs.tags.numbers_of.Given as goal

abbrev pub invariant-loop-tag : goal.invariant-loop-tag
invariant-loop-tag l =
    l.all ≡ map (λ (it : Name). tag_number (around_view l.cx) it.bytes) (take l.tag-index l.tags)

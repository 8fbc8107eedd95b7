use Rattle.std.proofs.Common.{◌≡◌, ◌-◌, suc, length, [], ◌∷◌, map, not, true, false}
use Rattle.tree_rules.specs.Declarations.{further_item}
use Rattle.pawn_tree.specs.View.{item_view}
use Rattle.tree_rules.specs.Readers.{many, behind}
use Rattle.tree_rules.specs.ReadDeclarations.{item}
use Rattle.pawn_parse.proofs.declarations.Declarations.more_items.Given as goal

abbrev pub invariant-loop-turn : goal.invariant-loop-turn
invariant-loop-turn l =
    many (further_item l.self.reader.parser.tokens.now)
    (behind (item l.self.reader.parser.tokens.now l.self.reader.height))
    (suc (length l.self.reader.parser.tokens.now))
    (item_view l.fn.first.tree ∷ []) l.fn.first.height l.fn.first.stop
    ≡ many (further_item l.self.reader.parser.tokens.now)
    (behind (item l.self.reader.parser.tokens.now l.self.reader.height)) (l._turn-end - l._turn)
    (map item_view l.parts.tree) l.parts.height l.parts.stop

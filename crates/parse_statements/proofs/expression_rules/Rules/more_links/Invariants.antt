use Rattle.std.proofs.Common.{◌≡◌, ◌-◌, suc, length, map}
use Rattle.pawn_tree.specs.View.{link_view}
use Rattle.tree_rules.specs.Levels.{compares}
use Rattle.tree_rules.specs.Readers.{many}
use Rattle.tree_rules.specs.ReadExpressions.{link, expr}
use Rattle.parse_statements.proofs.expression_rules.Rules.more_links.Given as goal

abbrev pub invariant-loop-turn : goal.invariant-loop-turn
invariant-loop-turn g l =
    many (compares l.self.parser.tokens.now)
    (link l.self.parser.tokens.now (expr l.self.parser.tokens.now l.self.height) l.tags)
    (suc (length l.self.parser.tokens.now))
    (map link_view l.fn.done.tree) l.fn.done.height l.fn.done.stop
    ≡ many (compares l.self.parser.tokens.now)
    (link l.self.parser.tokens.now (expr l.self.parser.tokens.now l.self.height) l.tags)
    (l._turn-end - l._turn) (map link_view l.links.tree) l.links.height l.links.stop

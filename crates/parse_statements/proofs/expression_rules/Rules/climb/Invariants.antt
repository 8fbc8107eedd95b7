use Rattle.std.proofs.Common.{◌≡◌, ◌-◌, suc}
use Rattle.tree_rules.specs.ReadExpressions.{climb, expr}
use Rattle.parse_statements.specs.Answers.{part_view}
use Rattle.parse_statements.proofs.expression_rules.Rules.climb.Given as goal

abbrev pub invariant-loop-turn : goal.invariant-loop-turn
invariant-loop-turn g l =
    climb l.self.parser.tokens.now (expr l.self.parser.tokens.now l.self.height) l.self.height
    l.tags l.level l.start (suc l.self.height) (part_view l.fn.first)
    ≡ climb l.self.parser.tokens.now (expr l.self.parser.tokens.now l.self.height) l.self.height
    l.tags l.level l.start (l._turn-end - l._turn) (part_view l.left)

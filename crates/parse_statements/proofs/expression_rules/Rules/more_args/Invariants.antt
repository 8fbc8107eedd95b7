use Rattle.std.proofs.Common.{◌≡◌, ◌-◌, suc, length, map}
use Rattle.pawn_tree.specs.View.{arg_view}
use Rattle.tree_rules.specs.ReadExpressions.{more_args, expr}
use Rattle.parse_statements.proofs.expression_rules.Rules.more_args.Given as goal

abbrev pub invariant-loop-turn : goal.invariant-loop-turn
invariant-loop-turn g l =
    more_args l.self.parser.tokens.now (expr l.self.parser.tokens.now l.self.height)
    (suc (length l.self.parser.tokens.now)) l.fn.named
    (map arg_view l.fn.done.tree) l.fn.done.height l.fn.done.stop
    ≡ more_args l.self.parser.tokens.now (expr l.self.parser.tokens.now l.self.height)
    (l._turn-end - l._turn) l.named (map arg_view l.arguments.tree) l.arguments.height
    l.arguments.stop

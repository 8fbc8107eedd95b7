use Rattle.std.proofs.Common.{◌≡◌, ◌-◌, suc, length, [], ◌∷◌, map, not, true, false}
use Rattle.pawn_token.specs.declared.sign.Sign.TheVariants as sign
use Rattle.pawn_tree.specs.View.{range_view}
use Rattle.tree_rules.specs.Tokens.{sees}
use Rattle.tree_rules.specs.Readers.{many, behind}
use Rattle.tree_rules.specs.ReadExpressions.{expr}
use Rattle.tree_rules.specs.ReadStatements.{range}
use Rattle.parse_statements.proofs.expressions.Reader.more_ranges.Given as goal

abbrev pub invariant-loop-turn : goal.invariant-loop-turn
invariant-loop-turn l =
    many (sees l.self.parser.tokens.now sign.Comma)
    (behind (range l.self.parser.tokens.now (expr l.self.parser.tokens.now l.self.height)))
    (suc (length l.self.parser.tokens.now))
    (range_view l.fn.first.tree ∷ []) l.fn.first.height l.fn.first.stop
    ≡ many (sees l.self.parser.tokens.now sign.Comma)
    (behind (range l.self.parser.tokens.now (expr l.self.parser.tokens.now l.self.height)))
    (l._turn-end - l._turn) (map range_view l.parts.tree) l.parts.height l.parts.stop

use Rattle.std.proofs.Common.{◌≡◌, ◌-◌, suc, length, [], ◌∷◌, map, not, true, false}
use Rattle.pawn_token.specs.declared.sign.Sign.TheVariants as sign
use Rattle.pawn_tree.specs.View.{dim_view}
use Rattle.tree_rules.specs.Tokens.{sees}
use Rattle.tree_rules.specs.Readers.{many}
use Rattle.tree_rules.specs.ReadExpressions.{expr}
use Rattle.tree_rules.specs.ReadVariables.{dim, dims}
use Rattle.parse_statements.proofs.expressions.Reader.dims.Given as goal

abbrev pub invariant-loop-turn : goal.invariant-loop-turn
invariant-loop-turn l =
    many (sees l.self.parser.tokens.now sign.OpenBracket)
    (dim l.self.parser.tokens.now (expr l.self.parser.tokens.now l.self.height))
    (suc (length l.self.parser.tokens.now)) [] 0 l.start
    ≡ many (sees l.self.parser.tokens.now sign.OpenBracket)
    (dim l.self.parser.tokens.now (expr l.self.parser.tokens.now l.self.height))
    (l._turn-end - l._turn) (map dim_view l.parts.tree) l.parts.height l.parts.stop

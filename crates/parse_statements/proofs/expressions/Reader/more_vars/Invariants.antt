use Rattle.std.proofs.Common.{◌≡◌, ◌-◌, suc, length, [], ◌∷◌, map, not, true, false}
use Rattle.pawn_token.specs.declared.sign.Sign.TheVariants as sign
use Rattle.pawn_tree.specs.View.{var_view}
use Rattle.tree_rules.specs.Tokens.{sees}
use Rattle.tree_rules.specs.Readers.{many, behind}
use Rattle.tree_rules.specs.ReadVariables.{var}
use Rattle.parse_statements.proofs.expressions.Reader.more_vars.Given as goal

abbrev pub invariant-loop-turn : goal.invariant-loop-turn
invariant-loop-turn l =
    many (sees l.self.parser.tokens.now sign.Comma)
    (behind (var l.self.parser.tokens.now l.self.height))
    (suc (length l.self.parser.tokens.now))
    (var_view l.fn.first.tree ∷ []) l.fn.first.height l.fn.first.stop
    ≡ many (sees l.self.parser.tokens.now sign.Comma)
    (behind (var l.self.parser.tokens.now l.self.height)) (l._turn-end - l._turn)
    (map var_view l.parts.tree) l.parts.height l.parts.stop

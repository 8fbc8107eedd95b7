use Rattle.std.proofs.Common.{◌≡◌, ◌-◌, suc, length, [], ◌∷◌, map, not, true, false}
use Rattle.pawn_token.specs.declared.sign.Sign.TheVariants as sign
use Rattle.pawn_tree.specs.View.{param_view}
use Rattle.tree_rules.specs.Tokens.{sees}
use Rattle.tree_rules.specs.Readers.{many, behind}
use Rattle.tree_rules.specs.ReadDeclarations.{param}
use Rattle.pawn_parse.proofs.declarations.Declarations.more_params.Given as goal

abbrev pub invariant-loop-turn : goal.invariant-loop-turn
invariant-loop-turn l =
    many (sees l.self.reader.parser.tokens.now sign.Comma)
    (behind (param l.self.reader.parser.tokens.now l.self.reader.height l.native))
    (suc (length l.self.reader.parser.tokens.now))
    (param_view l.fn.first.tree ∷ []) l.fn.first.height l.fn.first.stop
    ≡ many (sees l.self.reader.parser.tokens.now sign.Comma)
    (behind (param l.self.reader.parser.tokens.now l.self.reader.height l.native))
    (l._turn-end - l._turn) (map param_view l.parts.tree) l.parts.height l.parts.stop

use Rattle.std.proofs.Common.{◌≡◌, ◌-◌, suc, length, [], ◌∷◌, map, not, true, false}
use Rattle.pawn_token.specs.declared.sign.Sign.TheVariants as sign
use Rattle.tree_rules.specs.Tokens.{sees}
use Rattle.tree_rules.specs.Readers.{many, behind}
use Rattle.tree_rules.specs.ReadStatements.{state_name}
use Rattle.pawn_parse.proofs.declarations.Declarations.more_state_names.Given as goal

abbrev pub invariant-loop-turn : goal.invariant-loop-turn
invariant-loop-turn l =
    many (sees l.self.reader.parser.tokens.now sign.Comma)
    (behind (state_name l.self.reader.parser.tokens.now))
    (suc (length l.self.reader.parser.tokens.now))
    (l.fn.first.tree ∷ []) l.fn.first.height l.fn.first.stop
    ≡ many (sees l.self.reader.parser.tokens.now sign.Comma)
    (behind (state_name l.self.reader.parser.tokens.now))
    (l._turn-end - l._turn) l.parts.tree l.parts.height l.parts.stop

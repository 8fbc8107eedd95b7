use Rattle.std.proofs.Common.{◌≡◌, ◌-◌, suc, length, [], ◌∷◌, map, not, true, false}
use Rattle.pawn_token.specs.declared.key.Key.TheVariants as key
use Rattle.pawn_tree.specs.View.{case_view}
use Rattle.tree_rules.specs.Tokens.{sees_key}
use Rattle.tree_rules.specs.Readers.{many}
use Rattle.tree_rules.specs.ReadStatements.{statement, case_of}
use Rattle.parse_statements.proofs.statement_rules.Statements.more_cases.Given as goal

abbrev pub invariant-loop-turn : goal.invariant-loop-turn
invariant-loop-turn g l =
    many (sees_key l.self.reader.parser.tokens.now key.Case)
    (case_of l.self.reader.parser.tokens.now
    (statement l.self.reader.parser.tokens.now l.self.reader.height) l.self.reader.height)
    (suc (length l.self.reader.parser.tokens.now)) [] 0 l.start
    ≡ many (sees_key l.self.reader.parser.tokens.now key.Case)
    (case_of l.self.reader.parser.tokens.now
    (statement l.self.reader.parser.tokens.now l.self.reader.height) l.self.reader.height)
    (l._turn-end - l._turn) (map case_view l.parts.tree) l.parts.height l.parts.stop

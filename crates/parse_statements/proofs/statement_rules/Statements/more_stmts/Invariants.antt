use Rattle.std.proofs.Common.{◌≡◌, ◌-◌, suc, length, [], ◌∷◌, map, not, true, false}
use Rattle.pawn_tree.specs.View.{stmt_view}
use Rattle.tree_rules.specs.Readers.{many}
use Rattle.tree_rules.specs.ReadStatements.{statement}
use Rattle.parse_statements.specs.Block.{goes_on}
use Rattle.parse_statements.proofs.statement_rules.Statements.more_stmts.Given as goal

abbrev pub invariant-loop-turn : goal.invariant-loop-turn
invariant-loop-turn g l =
    many (goes_on l.self.reader.parser.tokens.now)
    (statement l.self.reader.parser.tokens.now l.self.reader.height true)
    (suc (length l.self.reader.parser.tokens.now)) [] 0 l.start
    ≡ many (goes_on l.self.reader.parser.tokens.now)
    (statement l.self.reader.parser.tokens.now l.self.reader.height true)
    (l._turn-end - l._turn) (map stmt_view l.parts.tree) l.parts.height l.parts.stop

use Rattle.std.proofs.Common.{◌≡◌, ◌-◌}
use Rattle.tree_rules.specs.Declarations.{none_yet}
use Rattle.tree_rules.specs.ReadDeclarations.{modifiers}
use Rattle.pawn_parse.proofs.declarations.Declarations.modifiers.Given as goal

abbrev pub invariant-loop-turn : goal.invariant-loop-turn
invariant-loop-turn l =
    modifiers l.self.reader.parser.tokens.now 4 none_yet l.start
    ≡ modifiers l.self.reader.parser.tokens.now (4 - l._turn) l.all l.stop

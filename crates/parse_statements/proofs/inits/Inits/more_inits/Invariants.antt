use Rattle.std.proofs.Common.{◌≡◌, ◌-◌, suc, length, [], ◌∷◌, map, not, true, false}
use Rattle.pawn_tree.specs.View.{init_view}
use Rattle.tree_rules.specs.Variables.{further_init}
use Rattle.tree_rules.specs.Readers.{many, behind}
use Rattle.tree_rules.specs.ReadVariables.{init}
use Rattle.parse_statements.proofs.inits.Inits.more_inits.Given as goal

abbrev pub invariant-loop-turn : goal.invariant-loop-turn
invariant-loop-turn g l =
    many (further_init l.self.parser.tokens.now)
    (behind (init l.self.parser.tokens.now l.self.height))
    (suc (length l.self.parser.tokens.now))
    (init_view l.fn.first.tree ∷ []) l.fn.first.height l.fn.first.stop
    ≡ many (further_init l.self.parser.tokens.now)
    (behind (init l.self.parser.tokens.now l.self.height)) (l._turn-end - l._turn)
    (map init_view l.parts.tree) l.parts.height l.parts.stop

use Rattle.std.proofs.Common.{◌≡◌, ◌-◌, suc, length, [], ◌∷◌, map, not, true, false}
use Rattle.tree_rules.specs.Spells.{are_left}
use Rattle.pawn_tree.specs.View.{decl_view}
use Rattle.tree_rules.specs.Readers.{many}
use Rattle.tree_rules.specs.ReadDeclarations.{decl, unit_to}
use Rattle.pawn_parse.proofs.declarations.Declarations.decls.Given as goal

abbrev pub invariant-loop-turn : goal.invariant-loop-turn
invariant-loop-turn l =
    many (are_left l.self.reader.parser.tokens.now)
    (decl l.self.reader.parser.tokens.now l.self.reader.height)
    (suc (length l.self.reader.parser.tokens.now)) [] 0 0
    ≡ many (are_left l.self.reader.parser.tokens.now)
    (decl l.self.reader.parser.tokens.now l.self.reader.height) (l._turn-end - l._turn)
    (map decl_view l.parts.tree) l.parts.height l.parts.stop

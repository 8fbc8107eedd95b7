use Rattle.pawn_tree.specs.View.{decl_view}
use Rattle.types_rules.specs.Declarations.{decl_rule, declarations}
use Rattle.types_rules.specs.Paths.{behind_decl}
use Rattle.check_nodes.specs.ContextView.{around_view}
use Rattle.check_locals.specs.PointView.{point_view}
use Rattle.check_locals.specs.Tells.{told}
use Rattle.check_declarations.specs.DoneView.{done_view}
use Rattle.check_declarations.specs.KnownView.{source_view}
use Rattle.check_declarations.proofs.DeclLaws.{Told, behind_decls}
use Rattle.check_declarations.proofs.decls.all_decls.Given as goal

abbrev pub invariant-loop-i : goal.invariant-loop-i
invariant-loop-i l =
    Told decl_view (λ p x. decl_rule (source_view l.known) (around_view l.known.cx.now) p x)
    (λ p x. behind_decl (around_view l.known.cx.now) p x)
    (λ p xs. declarations (source_view l.known) (around_view l.known.cx.now) p xs)
    (behind_decls (source_view l.known) (around_view l.known.cx.now))
    (point_view l.fn.point) l.decls l.i (point_view l.point) (told done_view l.done)

use Rattle.std.proofs.Common.{◌≡◌, ◌+◌, ℕ, List, false, map, sym, ap, ◌∙◌, arith}
use Rattle.pawn_tree.specs.declared.declaration.Param.{Param}
use Rattle.pawn_tree.specs.View.{function_view, param_view, stmt_view}
use Rattle.types_rules.specs.Counts.{objects_in}
use Rattle.types_rules.specs.Points.{Point, beyond, tag_of}
use Rattle.types_rules.specs.Statements.{stmt}
use Rattle.types_rules.specs.Declarations.{body_point, param_count}
use Rattle.check_nodes.specs.ContextView.{around_view}
use Rattle.check_nodes.specs.Scopes.{scope_view}
use Rattle.check_source.specs.AutomataView.{automata_view}
use Rattle.check_locals.specs.PointView.{point_view}
use Rattle.check_declarations.specs.KnownView.{source_view}
use Rattle.check_declarations.proofs.PlaceLaws.{place_is}
use Rattle.check_declarations.proofs.function_rules.both_halves.Goals as goal

pub returns-clause-body : goal.returns-clause-body
returns-clause-body c =
    let known = c.args.known.now in
    let place = place_is _ (body_point (source_view known) (around_view known.cx.now)
    (point_view c.args.point.now) c.args.at (function_view c.args.it.now))
    c.in_ok-head.ensures.scope c.in_ok-head.ensures.objects
    (c.in_ok-point.ensures
    ∙ ap (λ (params : List Param). param_count (map param_view params)) c.as_slice.ensures) in
    ap (λ (p : Point). stmt (around_view known.cx.now) (automata_view known.automata.now)
    (tag_of (around_view known.cx.now) c.args.it.now.head.tag) p false
    (stmt_view c.args.it.now.body)) (sym place)
    ∙ c.in_ok-body.ensures.tells

pub returns-clause-behind : goal.returns-clause-behind
returns-clause-behind c =
    let n : ℕ = objects_in (stmt_view c.args.it.now.body) in
    place_is _ (beyond (point_view c.args.point.now) n 0)
    (c.in_ok-body.ensures.scope ∙ ap scope_view c.in_ok-head.ensures.outer)
    (c.in_ok-body.ensures.objects ∙ ap (λ (k : ℕ). k + n) c.in_ok-head.ensures.objects)
    (c.in_ok-body.ensures.slots ∙ omega arith)

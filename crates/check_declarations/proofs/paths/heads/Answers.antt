use Rattle.std.proofs.Common.{ap, ◌∙◌, arith}
use Rattle.pawn_tree.specs.View.{decl_view}
use Rattle.types_rules.specs.Points.{Point}
use Rattle.types_rules.specs.Paths.{behind_decl}
use Rattle.check_nodes.specs.ContextView.{around_view}
use Rattle.check_declarations.proofs.DeclLaws.{headed_begins, headed_more, headed_all}
use Rattle.check_declarations.proofs.paths.heads.Goals as goal

pub loop-i-init : goal.loop-i-init
loop-i-init c = rw c.new-heads.ensures (headed_begins _ _ _)

pub loop-i-preserved : goal.loop-i-preserved
loop-i-preserved c =
    headed_more _ _ _ _ _ _ _ _ c.index-decls-i.result c.loop-i.invariant (omega arith)
    c.index-decls-i.is c.in_ok-heads.ensures.heads
    (c.in_ok-pass_decl.ensures ∙ ap (λ (at : Point). behind_decl (around_view c.args.cx.now) at
    (decl_view c.index-decls-i.result)) c.in_ok-heads.ensures.point)

pub returns : goal.returns
returns c = headed_all _ _ _ _ _ _ c.loop-i.invariant (omega arith)

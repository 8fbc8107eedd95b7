-- One more link of a list.
use Rattle.std.proofs.Common.{◌≡◌, List, [], ◌∷◌, ◌++◌, refl, ap}
use Rattle.pawn_meaning.specs.Program.{no_links, then_link}
use Rattle.pawn_meaning.specs.View.{expr_view, links_view}
use Rattle.pawn_meaning.specs.declared.node.Link as held
use Rattle.pawn_meaning.proofs.ViewLaws.{expr_view-Chain}
use Rattle.check_nodes.specs.Begun.{behind}

pub ruleset chains = (expr_view-Chain)

pub links_more : (links : List held.Link) (it : held.Link)
    → links_view (links ++ it ∷ [])
    ≡ behind (links_view links)
    (then_link it.op (expr_view it.operand) it.function it.swapped no_links)
links_more [] it = refl
links_more (link ∷ links) it =
    ap (λ others. then_link link.op (expr_view link.operand) link.function link.swapped others)
    (links_more links it)

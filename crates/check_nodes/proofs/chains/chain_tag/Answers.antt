use Rattle.std.proofs.Common.{arith, sym}
use Rattle.check_nodes.specs.ContextView.{around_view}
use Rattle.check_nodes.proofs.TagLaws.{tag_of_one, tag_of_others}
use Rattle.check_nodes.proofs.chains.chain_tag.Goals as goal

pub returns-then-count-eq1 : goal.returns-then-count-eq1
returns-then-count-eq1 c =
    let one =
    tag_of_one (around_view c.args.cx.now) c.args.left c.args.links.now
    c.index-links-0.result (omega arith) c.index-links-0.is in
    rw (c.link_tag.ensures, c.link_choice.ensures) (sym one)

pub returns-else-count-eq1 : goal.returns-else-count-eq1
returns-else-count-eq1 c =
    sym (tag_of_others (around_view c.args.cx.now) c.args.left c.args.links.now (omega arith))

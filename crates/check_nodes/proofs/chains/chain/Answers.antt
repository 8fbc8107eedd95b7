use Rattle.std.proofs.Common.{◌≡◌, rules, map, sym, ap, ◌∙◌}
use Rattle.std.proofs.lemmas.Result.{err_from_is_err_and}
use Rattle.std.proofs.lemmas.Iterator.Adapters.{YieldsList-from_vec}
use Rattle.std.proofs.lemmas.Iterator.Consumers.{YieldsList-turn, YieldsList-end}
use Rattle.names_rules.specs.Verdict.{Stands}
use Rattle.types_rules.specs.Chains.{chain_tag}
use Rattle.check_nodes.specs.ContextView.{around_view}
use Rattle.check_nodes.specs.Compared.{compared_view}
use Rattle.check_nodes.proofs.ChainLaws.{chain_begins, links_more_stand, links_fail, links_end}
use Rattle.check_nodes.proofs.chains.chain.Goals as goal

pub loop-it-init : goal.loop-it-init
loop-it-init c = (c.in_ok-first.ensures, chain_begins _ _ _ _ _ c.first_operand-done.ensures)

pub loop-it-preserved : goal.loop-it-preserved
loop-it-preserved c =
    let turn =
    YieldsList-turn (YieldsList-from_vec c.args.links.items (search rules) (search rules))
    c.loop-it.yielded _ c.loop-it.yielded_by _ c.next.new.self c.in-Some.it c.in-Some.is
    c.next.ensures.steps in (
      c.loop-it.invariant.0,
      links_more_stand _ _ _ c.args.links.items c.loop-it.yielded c.in-Some.it
          _ _ c.loop-it.invariant.1 turn c.in_ok-done.ensures,
    )

pub returns-in_err-done : goal.returns-in_err-done
returns-in_err-done c =
    let p =
    err_from_is_err_and c.from_residual-in_err-done.result
    c.from_residual-in_err-done.ensures.1 in
    let turn =
    YieldsList-turn (YieldsList-from_vec c.args.links.items (search rules) (search rules))
    c.loop-it.yielded _ c.loop-it.yielded_by _ c.next.new.self c.in-Some.it c.in-Some.is
    c.next.ensures.steps in
    rw (p.1, p.2) (links_fail _ _ _ c.args.links.items c.loop-it.yielded c.in-Some.it _ _
    c.loop-it.invariant.1 turn c.in_err-done.ensures)

pub returns : goal.returns
returns c =
    let end =
    YieldsList-end (YieldsList-from_vec c.args.links.items (search rules) (search rules))
    c.loop-it.yielded _ c.loop-it.yielded_by _ c.next.new.self c.in-None.is
    c.next.ensures.steps in
    let tag : c.chain_tag-tag.result
    ≡ chain_tag (around_view c.args.cx.now) c.args.x.tag
    (map compared_view c.args.links.items) = cc in
    let whole =
    links_end _ _ _ c.args.links.items _ _ _ _ end.1 c.loop-it.invariant.0 tag
    c.loop-it.invariant.1 in
    whole ∙ ap (λ x. Stands x) (sym c.in_ok-typed.ensures)

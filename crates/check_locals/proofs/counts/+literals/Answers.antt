use Rattle.std.proofs.Common.{◌≡◌, ◌+◌, map, arith, sym}
use Rattle.std.proofs.lemmas.Grind.{common_steps}
use Rattle.std.specs.List.{sum_by}
use Rattle.pawn_tree.specs.View.{expr_view, arg_view, link_view}
use Rattle.types_rules.specs.Literals.{literals, literals_of_arg, literals_of_link}
use Rattle.check_locals.proofs.CountLaws.{call_counted, chain_counted, answered}
use Rattle.check_locals.proofs.counts.+literals.Goals as goal

pub literals-returns-in_ok-link_literals-in-Chain
    : goal.literals-returns-in_ok-link_literals-in-Chain
literals-returns-in_ok-link_literals-in-Chain t c =
    let e : literals (expr_view c.args.x.now)
    ≡ literals (expr_view c.in-Chain.x.value)
    + sum_by literals_of_link (map link_view c.in-Chain.links) =
    rw c.in-Chain.is (chain_counted c.in-Chain.field-0 c.in-Chain.x c.in-Chain.links) in
    answered _ _ _ c.sum-in-Chain.ensures (grind (arith, common_steps))

pub literals-returns-in-Call : goal.literals-returns-in-Call
literals-returns-in-Call t c =
    let e : literals (expr_view c.args.x.now)
    ≡ sum_by literals_of_arg (map arg_view c.in-Call.args) =
    rw c.in-Call.is (call_counted c.in-Call.field-0 c.in-Call.field-1 c.in-Call.args
    c.in-Call.field-3) in
    answered _ _ _ c.arg_literals.ensures (sym e)

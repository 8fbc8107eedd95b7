use Rattle.std.proofs.Common.{arith}
use Rattle.std.proofs.lemmas.Result.{err_from_is_err_and}
use Rattle.names_sight.specs.Means.{around_view, means_view}
use Rattle.names_sight.specs.ValuedView.{valued_view}
use Rattle.names_sight.proofs.LinkLaws.{link_goes_on, link_fails, chain_ends}
use Rattle.names_sight.proofs.ConstantLaws.{tagged_stands, choice_stands, chain_stands}
use Rattle.names_sight.proofs.ConstantLaws.{chain_fails}
use Rattle.names_sight.proofs.constant_worth.+worth.Goals as goal

pub links_hold-loop-i-preserved : goal.links_hold-loop-i-preserved
links_hold-loop-i-preserved t c =
    rw c.both_hold-holds.ensures (link_goes_on _ _ _ _ _ _ _ _ c.loop-i.invariant
    (omega arith) c.index-links-i.is c.in_ok-right.ensures
    (rw c.sign_of.ensures at c.in_ok-here.ensures))

pub links_hold-returns : goal.links_hold-returns
links_hold-returns t c =
    rw (← c.as_slice-links.ensures) (chain_ends _ _ _ _ _ c.loop-i.invariant (omega arith))

pub links_hold-returns-in_err-here : goal.links_hold-returns-in_err-here
links_hold-returns-in_err-here t c =
    let p =
    err_from_is_err_and c.from_residual-in_err-here.result
    c.from_residual-in_err-here.ensures.1 in
    rw (p.1, p.2, ← c.as_slice-links.ensures)
    (link_fails _ _ _ _ _ c.index-links-i.result _ _ c.loop-i.invariant
    (omega arith) c.index-links-i.is c.in_ok-right.ensures
    (rw c.sign_of.ensures at c.in_err-here.ensures))

pub worth-returns-in-Tagof : goal.worth-returns-in-Tagof
worth-returns-in-Tagof t c = rw c.in-Tagof.is (c.tagof_worth.ensures c.args.place)

pub worth-returns-in_err-holds-in-Chain : goal.worth-returns-in_err-holds-in-Chain
worth-returns-in_err-holds-in-Chain t c =
    let p =
    err_from_is_err_and c.from_residual-in_err-holds-in-Chain.result
    c.from_residual-in_err-holds-in-Chain.ensures.1 in
    rw (p.1, p.2) (chain_fails (around_view c.args.cx.now) c.args.place
    (means_view c.args.cx.now) c.args.x.now c.in-Chain.field-0 c.in-Chain.x c.in-Chain.links
    (valued_view c.in_ok-first-in-Chain.first) _ c.in-Chain.is
    (rw c.deref-in-Chain.ensures at c.in_ok-first-in-Chain.ensures)
    c.in_err-holds-in-Chain.ensures)

pub worth-returns-in_ok-holds-in-Chain : goal.worth-returns-in_ok-holds-in-Chain
worth-returns-in_ok-holds-in-Chain t c =
    chain_stands (around_view c.args.cx.now) c.args.place
    (means_view c.args.cx.now) c.args.x.now c.in-Chain.field-0 c.in-Chain.x c.in-Chain.links
    (valued_view c.in_ok-first-in-Chain.first) c.in_ok-holds-in-Chain.holds
    (valued_view c.truth_worth.result) c.in-Chain.is
    (rw c.deref-in-Chain.ensures at c.in_ok-first-in-Chain.ensures) c.in_ok-holds-in-Chain.ensures
    c.truth_worth.ensures

pub worth-returns-in_ok-x-in-Tagged : goal.worth-returns-in_ok-x-in-Tagged
worth-returns-in_ok-x-in-Tagged t c =
    let s = c.tagged_worth.ensures c.args.place in
    tagged_stands (around_view c.args.cx.now) c.args.place
    (means_view c.args.cx.now) c.args.x.now c.in-Tagged.field-0 c.in-Tagged.tag c.in-Tagged.x
    (valued_view c.in_ok-x-in-Tagged.x) (valued_view c.tagged_worth.result) c.in-Tagged.is
    (rw c.deref-in-Tagged.ensures at c.in_ok-x-in-Tagged.ensures)
    (rw c.as_slice-in-Tagged.ensures at s)

pub worth-returns-in_ok-z-in-Choice : goal.worth-returns-in_ok-z-in-Choice
worth-returns-in_ok-z-in-Choice t c =
    choice_stands (around_view c.args.cx.now) c.args.place
    (means_view c.args.cx.now) c.args.x.now c.in-Choice.field-0 c.in-Choice.x c.in-Choice.y
    c.in-Choice.z
    (valued_view c.in_ok-test-in-Choice.test) (valued_view c.in_ok-y-in-Choice.y)
    (valued_view c.in_ok-z-in-Choice.z) (valued_view c.choice_worth.result) c.in-Choice.is
    (rw c.deref-in-Choice.ensures at c.in_ok-test-in-Choice.ensures)
    (rw c.deref-in-Choice-2.ensures at c.in_ok-y-in-Choice.ensures)
    (rw c.deref-in-Choice-3.ensures at c.in_ok-z-in-Choice.ensures)
    (c.choice_worth.ensures (around_view c.args.cx.now) c.args.place)

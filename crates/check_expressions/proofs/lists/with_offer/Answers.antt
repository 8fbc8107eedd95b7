use Rattle.std.proofs.Common.{◌≡◌, Global, Vec, refl}
use Rattle.std.proofs.lemmas.Result.{err_from_is_err_and}
use Rattle.check_calls.specs.declared.filling.Offer as held_offer
use Rattle.check_calls.specs.FillingView.{offer_view}
use Rattle.check_expressions.proofs.LiteralCountLaws.{offers_seen}
use Rattle.check_expressions.proofs.PairLaws.{judged_fail, judged_stand}
use Rattle.check_expressions.proofs.SoFarLaws.{list_fails, list_grows}
use Rattle.check_expressions.proofs.lists.with_offer.Goals as goal

pub returns-in_err-all-clause-so_far : goal.returns-in_err-all-clause-so_far
returns-in_err-all-clause-so_far c =
    λ whole rest w h k.
    let p = err_from_is_err_and c.from_residual.result c.from_residual.ensures.1 in
    rw (p.1, p.2) (list_fails offers_seen offer_view whole rest w c.args.all c.args.it _
    c.in_err-all.ensures h k)

pub returns-in_err-all-clause-judged : goal.returns-in_err-all-clause-judged
returns-in_err-all-clause-judged c =
    λ m n h.
    let p = err_from_is_err_and c.from_residual.result c.from_residual.ensures.1 in
    rw (p.1, p.2) (judged_fail (m ≡ n) c.args.all c.args.it (Vec held_offer.Offer Global) _
    c.in_err-all.ensures h)

pub returns-clause-so_far : goal.returns-clause-so_far
returns-clause-so_far c =
    λ whole rest w h k.
    list_grows offers_seen offer_view whole rest w c.args.all c.args.it c.in_ok-all.all
    c.in_ok-all.it _ _ c.in_ok-all.ensures h k refl c.in_ok-push.ensures.items

pub returns-clause-judged : goal.returns-clause-judged
returns-clause-judged c =
    λ m n h.
    judged_stand (m ≡ n) c.args.all c.args.it c.in_ok-all.all c.in_ok-all.it c.in_ok-all.ensures h

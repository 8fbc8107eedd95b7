use Rattle.std.proofs.Common.{[], ◌∷◌, sym, refl}
use Rattle.check_source.specs.KeyView.{key_view}
use Rattle.check_source.proofs.GroupLaws.{body_known, body_new}
use Rattle.check_source.proofs.groups.Groups.add.Goals as goal

pub returns-in_ok-add_body-in-Some : goal.returns-in_ok-add_body-in-Some
returns-in_ok-add_body-in-Some c =
    body_known c.args.self.now c.add_body.new.self
    (key_view c.args.key) c.args.it.now c.in-Some.number
    (sym c.in-Some.ensures) c.in_ok-add_body-in-Some.ensures

pub returns-in_ok-push-in-None : goal.returns-in_ok-push-in-None
returns-in_ok-push-in-None c =
    body_new c.args.self.now c.push.new.self
    (record { key = c.args.key; bodies = c.args.it.now ∷ [] }) c.args.it.now
    (sym c.in-None.ensures) refl c.in_ok-push-in-None.ensures

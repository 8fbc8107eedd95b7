use Rattle.std.proofs.Common.{[], ◌∷◌, ap, ◌∙◌}
use Rattle.check_locals.specs.StoodView.{other_view, stood_of}
use Rattle.check_switches.proofs.SwitchLaws.{switch_is}
use Rattle.check_switches.proofs.switches.switch_rule.Goals as goal

pub returns : goal.returns
returns c =
    c.in_ok-with.ensures
    ∙ ap (λ s. stood_of (s ∷ []) c.in_ok-parts.parts) c.switch_node-stmt.ensures
    ∙ switch_is c.args.e c.args.it (other_view c.args.other) c.in_ok-other.other.stmt
    c.in_ok-other.other.parts c.in_ok-inner.inner c.in_ok-parts.parts
    c.in_ok-other.ensures.stmt c.in_ok-other.ensures.slots c.in_ok-other.ensures.objects
    c.in_ok-other.ensures.returns c.in_ok-other.ensures.warned
    c.in_ok-inner.ensures.slots c.in_ok-inner.ensures.objects c.in_ok-inner.ensures.returns
    c.in_ok-inner.ensures.warned
    c.in_ok-parts.ensures.slots c.in_ok-parts.ensures.objects c.in_ok-parts.ensures.returns
    c.in_ok-parts.ensures.warned

use Rattle.std.proofs.Common.{◌≡◌, ◌≤◌, ◌-◌, ◌∙◌, ap, arith, length}
use Rattle.amx_format.proofs.NameLaws.{has_names}
use Rattle.amx_format.proofs.names.read_names.Goals as goal

pub returns-in-Ok : goal.returns-in-Ok
returns-in-Ok c =
    let text = c.in-Ok.text.value in
    let same : text ≡ c.part.result.now = c.in-Ok.ensures.ok ∙ c.in_ok-text.ensures in
    let long : length text ≡ length c.part.result.now = ap length same in
    let few : length text ≤ c.past_zero-past.result - c.args.header.now.names =
    omega (arith, long, c.part.ensures.few) in
    has_names c.args.bytes.now text c.args.header.now.names c.past_zero-past.result
    c.past_zero-past.ensures.within c.past_zero-past.ensures.zero few (same ∙ c.part.ensures.part)

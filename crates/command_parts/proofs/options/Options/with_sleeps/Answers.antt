use Rattle.std.proofs.Common.{◌∙◌, refl, sym}
use Rattle.command_parts.proofs.WordLaws.{once_no, once_is}
use Rattle.command_parts.proofs.options.Options.with_sleeps.Goals as goal

pub returns-then-is_some : goal.returns-then-is_some
returns-then-is_some c = once_no c.args.self.sleeps _ c.if-is_some.ensures

pub returns-in_default : goal.returns-in_default
returns-in_default c =
    once_is c.args.self.sleeps _ c.if-is_some.ensures
    ∙ (let e = sym c.in_default.ensures.value in rw e refl)

pub returns : goal.returns
returns c =
    once_is c.args.self.sleeps _ c.if-is_some.ensures
    ∙ (let e = sym c.in-Some.ensures.value in rw e refl)

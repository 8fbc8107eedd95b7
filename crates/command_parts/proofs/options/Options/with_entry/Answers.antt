use Rattle.std.proofs.Common.{◌∙◌, Some, sym, ap}
use Rattle.command_parts.proofs.WordLaws.{once_no, once_is}
use Rattle.command_parts.proofs.options.Options.with_entry.Goals as goal

pub returns-then-is_some : goal.returns-then-is_some
returns-then-is_some c = once_no c.args.self.entry _ c.if-is_some.ensures

pub returns : goal.returns
returns c =
    once_is c.args.self.entry _ c.if-is_some.ensures
    ∙ ap (λ e. Some (record c.args.self { entry = Some e }))
    (sym (c.in_ok-from_slice.ensures ∙ c.as_bytes.ensures.value))

use Rattle.std.proofs.Common.{◌≡◌, ◌∙◌, sym, true, false}
use Rattle.host_script.specs.Characters.{is_packed}
use Rattle.host_script.proofs.CharacterLaws.{ends_is}
use Rattle.host_script.proofs.arguments.has_text.Goals as goal

pub returns-then-is_packed : goal.returns-then-is_packed
returns-then-is_packed c =
    let packed : is_packed c.args.cells.now ≡ true =
    sym c.is_packed.ensures ∙ c.if-is_packed.true in
    c.has_packed_zero.ensures ∙ rw packed at (ends_is c.args.cells.now)

pub returns-else-is_packed : goal.returns-else-is_packed
returns-else-is_packed c =
    let packed : is_packed c.args.cells.now ≡ false =
    sym c.is_packed.ensures ∙ c.if-is_packed.false in
    c.has_zero.ensures ∙ rw packed at (ends_is c.args.cells.now)

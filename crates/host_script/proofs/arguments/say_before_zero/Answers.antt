use Rattle.std.proofs.Common.{◌≡◌, ◌∙◌, sym, ap, true, false, if◌then◌else◌}
use Rattle.std.specs.List.{flat_map}
use Rattle.pawn_outside.proofs.SaidLaws.{said_as}
use Rattle.host_script.specs.Script.{bytes_of}
use Rattle.host_script.specs.Characters.{front, is_packed, characters_text}
use Rattle.host_script.proofs.arguments.say_before_zero.Goals as goal

pub returns-then-is_packed : goal.returns-then-is_packed
returns-then-is_packed g c =
    let cells = c.args.cells.now in
    let packed : is_packed cells ≡ true = sym c.is_packed.ensures ∙ c.if-is_packed.true in
    said_as (ap (λ b. characters_text (front (if b then flat_map bytes_of cells else cells)))
    (sym packed)) c.say_packed.ensures

pub returns-else-is_packed : goal.returns-else-is_packed
returns-else-is_packed g c =
    let cells = c.args.cells.now in
    let packed : is_packed cells ≡ false = sym c.is_packed.ensures ∙ c.if-is_packed.false in
    said_as (ap (λ b. characters_text (front (if b then flat_map bytes_of cells else cells)))
    (sym packed)) c.say_unpacked.ensures

use Rattle.std.proofs.Common.{Some, sym, ap, ◌∙◌, ◌≡◌}
use Rattle.names_sight.specs.Means.{around_view, means_view}
use Rattle.names_sight.specs.Views.{meant_view}
use Rattle.names_sight.proofs.constants.tagof_worth.Goals as goal

pub returns-in-Some : goal.returns-in-Some
returns-in-Some c = λ place.
    let known : means_view c.args.cx.now c.in-Name.name.bytes ≡ Some (meant_view c.in-Some.meant) =
    ap (means_view c.args.cx.now) (sym c.as_slice.ensures) ∙ sym c.in-Some.ensures in
    rw (c.in-Name.is, known) (c.tag_worth.ensures (around_view c.args.cx.now) place)

pub returns-in-Tag : goal.returns-in-Tag
returns-in-Tag c =
    λ place. rw (c.in-Tag.is, ← c.tag_number.ensures)
    (c.tag_worth-in-Tag.ensures (around_view c.args.cx.now) place)

use Rattle.std.proofs.Common.{Some, sym, ap, ◌∙◌, ◌≡◌}
use Rattle.names_sight.specs.Means.{around_view, means_view}
use Rattle.names_sight.specs.Views.{meant_view}
use Rattle.names_sight.proofs.constants.sizeof_worth.Goals as goal

pub returns-in-Text : goal.returns-in-Text
returns-in-Text c = rw c.in-Text.is (c.text_size.ensures (around_view c.args.cx.now))

pub returns-in-Some : goal.returns-in-Some
returns-in-Some c =
    let known : means_view c.args.cx.now c.in-Name.name.bytes ≡ Some (meant_view c.in-Some.meant) =
    ap (means_view c.args.cx.now) (sym c.as_slice.ensures) ∙ sym c.in-Some.ensures in
    rw (c.in-Name.is, known) (c.kind_size.ensures (around_view c.args.cx.now))

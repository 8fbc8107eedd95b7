use Rattle.std.proofs.Common.{map, sym, ap, ◌∙◌}
use Rattle.std.proofs.lemmas.List.{length-map}
use Rattle.pawn_meaning.specs.View.{body_view, slot_view}
use Rattle.gen_module.specs.Source.{program_of}
use Rattle.gen_module.proofs.BodyLaws.{body_made}
use Rattle.gen_module.proofs.bodies.body.Goals as goal

pub returns : goal.returns
returns c =
    body_made (program_of c.args.source.now) (map slot_view c.args.params.now)
    (map slot_view c.as_slice.result.now) c.in_ok-count_of.field-0
    (body_view c.args.body.now) c.never_goes_on.result c.args.b c.in_ok-done.done
    c.in_ok-ended.ended c.never_goes_on.ensures
    (ap (λ l. map slot_view l) c.as_slice.ensures)
    (c.in_ok-count_of.ensures ∙ sym (length-map c.args.params.now slot_view)) c.in_ok-done.ensures
    c.in_ok-ended.ensures

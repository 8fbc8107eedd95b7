use Rattle.std.proofs.Common.{drop, option_map}
use Rattle.pawn_outside.proofs.SoFarLaws.{SoFar}
use Rattle.command_texts.specs.Forms.{forms_by, forms_text}
use Rattle.command_texts.proofs.helping.say_forms.Given as goal

abbrev pub invariant-loop-form : goal.invariant-loop-form
invariant-loop-form g l =
    let sink = g.S.Sink in
    let asked = option_map (λ word. word.now) l.asked in
    SoFar sink.taken sink.faults sink.has_room l.initial.out l.out
    (forms_text asked (forms_by (drop l.form-index l.forms))) (forms_text asked (forms_by l.forms))

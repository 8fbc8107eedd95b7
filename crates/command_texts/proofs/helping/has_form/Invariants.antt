use Rattle.std.proofs.Common.{◌≡◌, drop, find, is_some}
use Rattle.command_texts.specs.Forms.{forms_by, has_word}
use Rattle.command_texts.proofs.helping.has_form.Given as goal

abbrev pub invariant-loop-form : goal.invariant-loop-form
invariant-loop-form l =
    is_some (find (has_word l.word) (forms_by (drop l.form-index l.forms)))
    ≡ is_some (find (has_word l.word) (forms_by l.forms))

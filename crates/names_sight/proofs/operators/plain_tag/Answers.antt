use Rattle.std.proofs.Common.{sym, ap, ◌∙◌}
use Rattle.std.proofs.lemmas.Bool.{false≢true}
use Rattle.names_rules.specs.Overloads.{plain_tag}
use Rattle.pawn_tree.specs.declared.declaration.Param.{Param}
use Rattle.pawn_tree.specs.View.{param_view}
use Rattle.names_sight.proofs.OperatorLaws.{has_dims}
use Rattle.names_sight.proofs.operators.plain_tag.Goals as goal

pub returns-then-not-is_empty : goal.returns-then-not-is_empty
returns-then-not-is_empty c =
    sym (ap (λ (x : Param). plain_tag c.args.tags.now (param_view x)) c.in-Plain.is
    ∙ has_dims c.args.tags.now c.in-Plain.constant c.in-Plain.reference c.in-Plain.given
    c.in-Plain.name c.in-Plain.dims c.in-Plain.value
    (λ e. absurd (false≢true (c.if-not-is_empty.ensures.1 e))))

use Rattle.std.proofs.Common.{◌∙◌, ℕ, List, position, ap₂}
use Rattle.std.specs.Str.{bytes_eq}
use Rattle.check_nodes.specs.declared.context.Param as held
use Rattle.check_calls.proofs.NameLaws.{place_is}
use Rattle.check_calls.proofs.filling.number_of_param.Goals as goal

pub returns : goal.returns
returns c =
    c.place_of.ensures
    ∙ (ap₂ (λ (name : List ℕ) (params : List held.Param). position
    (λ (p : held.Param). bytes_eq p.name name) params) c.as_slice-name.ensures
    c.as_slice-params.ensures
    ∙ place_is c.args.name.now c.args.head.now.params)

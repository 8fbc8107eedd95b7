-- What code made, seen as the rules say it.
use Rattle.std.proofs.Common.{◌≡◌, ◌∙◌}
use Rattle.std.specs.Prelude.{Result, Ok, Err, IfOk}
use Rattle.check_nodes.specs.declared.fault.PartFault.{PartFault}
use Rattle.check_nodes.specs.declared.fault.PartFault.TheVariants as part
use Rattle.check_nodes.specs.PartAnswers.{Judged}
use Rattle.types_rules.specs.Stood.{Stood}
use Rattle.check_locals.specs.declared.stood.Stood as held
use Rattle.check_locals.specs.StoodView.{stood_view}
use Rattle.check_locals.specs.Tells.{told_part}

-- what is seen of an answer may be seen as what equals it
pub made_as : {E : Type 0} (r : Result held.Stood E) (a b : Stood)
    → IfOk r (λ it. stood_view it ≡ a) → a ≡ b → IfOk r (λ it. stood_view it ≡ b)
made_as (Ok x) a b h e = h ∙ e
made_as (Err x) a b h e = tt

-- what holds of a part that was judged, as it is told
pub judged_told : {B : Type 0} (r : Result B PartFault) (holds : Type 0) → Judged r holds
    → IfOk (told_part r) (λ it. holds)
judged_told (Ok x) holds h = h
judged_told (Err part.Fallen) holds h = h
judged_told (Err (part.Source kind place)) holds h = tt
judged_told (Err part.Memory) holds h = tt

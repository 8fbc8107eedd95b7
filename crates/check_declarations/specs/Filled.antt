-- Functions with their bodies, one body after another.
use Rattle.std.specs.Prelude.{List, [], ◌∷◌, ◌++◌}
use Rattle.pawn_meaning.specs.Program.{Slot, Body, Function}
use Rattle.types_rules.specs.Declarations.{Bodied}
use Rattle.check_source.specs.Update.{updated}

-- the slots of parameters are those of the first body
abbrev pub params_by : List Slot → List Slot → List Body → List Slot
params_by new old [] = new
params_by new old (it ∷ more) = old

-- a function with the parameters of its next body
abbrev pub with_params : List Slot → Function → Function
with_params params it = record it { params = params_by params it.params it.bodies }

-- a function with a body more
abbrev pub with_body : List Slot → Body → Function → Function
with_body params body it = record {
  params = params_by params it.params it.bodies;
  tag = it.tag;
  dispatch = it.dispatch;
  bodies = it.bodies ++ body ∷ [];
}

-- functions with bodies, each by its function's number
abbrev pub filled : List Function → List Bodied → List Function
filled functions [] = functions
filled functions (it ∷ more) =
    filled (updated functions it.number (with_body it.params it.body)) more

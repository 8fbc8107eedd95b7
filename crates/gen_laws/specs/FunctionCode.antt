-- The code of a function, and a file in which each function of the program lies at its address.
use Rattle.std.specs.Prelude.{◌≡◌, ◌^◌, ◌<◌, ◌≤◌, ℕ, List, [], ◌∷◌, Option, None, Some, All, length}
use Rattle.std.specs.Prelude.{slice_get}
use Rattle.pawn_meaning.specs.Program.{Body, Route, Function, Automaton, Program}
use Rattle.gen_sim.specs.Site.{Site, IsSite}
use Rattle.gen_sim.specs.Items.{Item, item_cells, LieIn}
use Rattle.gen_laws.specs.BodyCode.{single_items}
use Rattle.gen_laws.specs.RouteCode.{route_items}

-- without a route it has one body
abbrev pub one_of : Program → Function → ℕ → List Body → List Item
one_of program function begin [] = []
one_of program function begin (body ∷ bodies) = single_items program function.params begin body

-- by the route, where there is one
abbrev pub function_by : Program → Function → ℕ → Option Route → List Item
function_by program function begin None = one_of program function begin function.bodies
function_by program function begin (Some route) = route_items program function begin route

-- from PROC to the last RETN
abbrev pub function_items : Program → ℕ → Function → List Item
function_items program begin function = function_by program function begin function.dispatch

-- the file has each function at its address
pub record HasFunctions (x : Site) : Type 0 where
  pub site : IsSite x
  pub few : All (λ (it : Automaton). length it.states < 2 ^ 31) x.program.automata
  pub lie : (f : ℕ) (function : Function) → slice_get x.program.functions f ≡ Some function
      → LieIn x (x.entry f) (function_items x.program (x.entry f) function)
      × (length (item_cells (function_items x.program (x.entry f) function)) ≤ length x.amx.code)

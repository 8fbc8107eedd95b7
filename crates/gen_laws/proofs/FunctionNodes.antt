-- Each function of a valid program does what a call of it means, and so do calls with any number of
-- turns left.
use Rattle.std.proofs.Common.{◌≡◌, ◌+◌, ◌*◌, ◌^◌, ◌<◌, ◌≤◌, ℕ, ℤ, pos, List, [], ◌∷◌}
use Rattle.std.proofs.Common.{◌++◌, Option, None, Some, length, sum, slice_get, refl, ap}
use Rattle.std.proofs.Common.{arith}
use Rattle.std.specs.Prelude.{IfSome, IfNone}
use Rattle.std.proofs.lemmas.Option.{slice_get_within}
use Rattle.pawn_meaning.specs.Program.{Body, Route, Function}
use Rattle.pawn_meaning.specs.Valid.{IsValidBody, IsValidRoute, IsValidFunction}
use Rattle.pawn_meaning.specs.World.{World}
use Rattle.pawn_meaning.specs.Natives.{Held}
use Rattle.pawn_meaning.specs.Calls.{enter_function}
use Rattle.amx_ops.specs.Moves.{Config}
use Rattle.gen_sim.specs.View.{View, kept, used, Laid}
use Rattle.gen_sim.specs.Next.{HoldArguments}
use Rattle.gen_sim.specs.Stands.{Stands, With}
use Rattle.gen_sim.specs.Site.{Site, Starts, DoesAt}
use Rattle.gen_sim.specs.Results.{SuitAll}
use Rattle.gen_sim.specs.Items.{item_cells, LieIn}
use Rattle.gen_sim.specs.Code.{CallsWithin, with_turns}
use Rattle.gen_sim.specs.Enters.{CallsBelow, FunctionsDo}
use Rattle.gen_sim.proofs.KnotLaws.{calls_within}
use Rattle.gen_laws.specs.Fresh.{Ready}
use Rattle.gen_laws.proofs.RouteNodes.{route_runs}
use Rattle.gen_laws.proofs.SingleRuns.{single_runs}
use Rattle.gen_laws.specs.FunctionCode.{one_of, function_by, function_items, HasFunctions}
use Rattle.gen_laws.proofs.ElementLaws.{got}

got_below : {A : Type 0} (xs : List A) (i : ℕ) (y : A) → slice_get xs i ≡ Some y → i < length xs
got_below xs i y e = slice_get_within xs i y e

module _ (x : Site) (has : HasFunctions x) (turns : ℕ) (calls : CallsBelow x turns) (f : ℕ)
    (function : Function)
    (there : slice_get x.program.functions f ≡ Some function) where
  valid : IsValidFunction x.program function
  valid =
      got (IsValidFunction x.program) x.program.functions f function has.site.valid.functions there

  body_valid : (number : ℕ) (body : Body) → slice_get function.bodies number ≡ Some body
      → IsValidBody x.program function.params body × Ready x.program body.slots
  body_valid number body e =
      let it =
      got (IsValidBody x.program function.params) function.bodies number body
      valid.bodies e in
      (it, record { valid = has.site.valid; few = has.few; slots_are = it.slots })

  -- what its code has to do
  abbrev Runs : ℕ → Type 0
  Runs count =
      (v : View) (held : List Held) (cells waits : List ℤ) (back : ℕ)
      → SuitAll function.params held → HoldArguments x.program x.room v held cells
      → Laid x.program x.room v → Starts x back → back < 2 ^ 31
      → used x.program x.room v waits ≤ kept x.program x.room + sum v.needs
      → (w : World) (c : Config) → Stands x.program x.room v
      (pos back ∷ pos (4 * length cells) ∷ (cells ++ waits)) (x.entry f) w c
      → DoesAt x count w c (enter_function (with_turns x turns) f function held w)
      (With x.program x.room v waits back)

  by_bodies : function.dispatch ≡ None → (bodies : List Body) → function.bodies ≡ bodies
      → length bodies ≡ 1
      → LieIn x (x.entry f) (one_of x.program function (x.entry f) bodies)
      → length (item_cells (one_of x.program function (x.entry f) bodies)) ≤ length x.amx.code
      → Runs (length (item_cells (one_of x.program function (x.entry f) bodies)))
  by_bodies single [] e count l paid = absurd (omega (arith, count))
  by_bodies single (body ∷ bodies) e count l paid =
      let first : slice_get function.bodies 0 ≡ Some body =
      ap (λ (bs : List Body). slice_get bs 0) e in
      let sound = body_valid 0 body first in
      λ v held cells waits back suit hold laid starts small deep w c s.
      single_runs x has.site f function body single first sound.0 sound.1 l paid turns calls v held
      cells waits back suit hold laid starts deep w c s

  by_dispatch : (d : Option Route) → function.dispatch ≡ d
      → IfSome d (IsValidRoute x.program (length function.bodies))
      → IfNone d (length function.bodies ≡ 1)
      → LieIn x (x.entry f) (function_by x.program function (x.entry f) d)
      → length (item_cells (function_by x.program function (x.entry f) d)) ≤ length x.amx.code
      → Runs (length (item_cells (function_by x.program function (x.entry f) d)))
  by_dispatch None e some none l paid = by_bodies e function.bodies refl none l paid
  by_dispatch (Some route) e some none l paid =
      λ v held cells waits back suit hold laid starts small deep w c s.
      route_runs x has.site f function route e
      (got_below x.program.automata route.automaton some.automaton some.there) some.bodies_in
      some.fallback body_valid l paid
      turns calls v held cells waits back suit hold laid starts deep w c s

  -- from its address on, in at most the cells of its code
  pub function_runs : Runs (length (item_cells (function_items x.program (x.entry f) function)))
  function_runs =
      let it = has.lie f function there in
      by_dispatch function.dispatch refl valid.routed valid.one_body it.0 it.1

-- functions do what calls of them mean, where calls with fewer turns do
pub functions_do : (x : Site) → HasFunctions x → FunctionsDo x
functions_do x has turns calls f function there v held cells waits back suit hold laid starts small
    deep w c s = record {
      count = length (item_cells (function_items x.program (x.entry f) function));
      paid = (has.lie f function there).1;
      does =
          function_runs x has turns calls f function there v held cells waits back suit hold laid starts
          small deep w c s;
    }

-- and calls do, with any number of turns left
pub calls_do : (x : Site) → HasFunctions x → (turns : ℕ) → CallsWithin x turns
calls_do x has turns = calls_within x (functions_do x has) turns

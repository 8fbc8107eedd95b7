-- What the code of functions has to do.
use Rattle.std.specs.Prelude.{◌≡◌, ◌+◌, ◌*◌, ◌^◌, ◌<◌, ◌≤◌, ℕ, ℤ, pos, List, ◌∷◌, ◌++◌, Some}
use Rattle.std.specs.Prelude.{length, sum, slice_get}
use Rattle.pawn_meaning.specs.Program.{Function}
use Rattle.pawn_meaning.specs.World.{World}
use Rattle.pawn_meaning.specs.Natives.{Held}
use Rattle.pawn_meaning.specs.Calls.{enter_function}
use Rattle.pawn_meaning.specs.Meaning.{Fewer}
use Rattle.amx_ops.specs.Moves.{Config}
use Rattle.gen_sim.specs.View.{View, kept, used, Laid}
use Rattle.gen_sim.specs.Next.{HoldArguments}
use Rattle.gen_sim.specs.Stands.{Stands, With}
use Rattle.gen_sim.specs.Site.{Site, Starts, DoesAt}
use Rattle.gen_sim.specs.Results.{SuitAll}
use Rattle.gen_sim.specs.Code.{CallsDo, with_turns}

-- what a function's code does in at most as many steps as the file has cells, beside those of each
-- turn
pub record Entered (x : Site) (fewer : Fewer) (f : ℕ) (function : Function) (v : View)
    (held : List Held) (waits : List ℤ) (back : ℕ) (w : World) (c : Config) : Type 0 where
  pub count : ℕ
  pub paid : count ≤ length x.amx.code
  pub does : DoesAt x count w c (enter_function fewer f function held w)
      (With x.program x.room v waits back)

-- from each function's address on, with the return address on top of the count of bytes and the
-- arguments, its turn being begun: the need of the function and its body are behind that, and it
-- returns to an instruction
abbrev pub EntersDo : Site → Fewer → Type 0
EntersDo x fewer =
    (f : ℕ) (function : Function) → slice_get x.program.functions f ≡ Some function
    → (v : View) (held : List Held) (cells waits : List ℤ) (back : ℕ)
    → SuitAll function.params held → HoldArguments x.program x.room v held cells
    → Laid x.program x.room v → Starts x back → back < 2 ^ 31
    → used x.program x.room v waits ≤ kept x.program x.room + sum v.needs
    → (w : World) (c : Config) → Stands x.program x.room v
    (pos back ∷ pos (4 * length cells) ∷ (cells ++ waits)) (x.entry f) w c
    → Entered x fewer f function v held waits back w c

-- calls do what they mean with fewer than so many turns left
abbrev pub CallsBelow : Site → ℕ → Type 0
CallsBelow x turns = (fewer : ℕ) → fewer < turns → CallsDo x (with_turns x fewer)

-- functions do, with so many turns left, where calls do with fewer
abbrev pub FunctionsDo : Site → Type 0
FunctionsDo x = (turns : ℕ) → CallsBelow x turns → EntersDo x (with_turns x turns)

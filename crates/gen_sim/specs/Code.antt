-- What the code of a node does, as one form for expressions, places, arrays and arguments.
use Rattle.std.specs.Prelude.{◌≡◌, ◌+◌, ◌*◌, ◌^◌, ◌<◌, ◌≤◌, ℕ, ℤ, pos, List, ◌∷◌, ◌++◌, Some}
use Rattle.std.specs.Prelude.{length, sum, slice_get}
use Rattle.pawn_meaning.specs.Program.{Function}
use Rattle.pawn_meaning.specs.Scope.{Scope}
use Rattle.pawn_meaning.specs.World.{World}
use Rattle.pawn_meaning.specs.Run.{Run}
use Rattle.pawn_meaning.specs.Natives.{Held}
use Rattle.pawn_meaning.specs.Meaning.{Fewer, call}
use Rattle.pawn_meaning.specs.Told.{nested}
use Rattle.amx_ops.specs.Instructions.{fetched}
use Rattle.amx_ops.specs.Written.{read_as}
use Rattle.amx_ops.specs.Moves.{Config}
use Rattle.gen_sim.specs.View.{View, kept, used}
use Rattle.gen_sim.specs.Next.{HoldArguments}
use Rattle.gen_sim.specs.Stands.{Stands, With}
use Rattle.gen_sim.specs.Site.{Site, IsSite, Starts, scene_at, DoesAt}
use Rattle.gen_sim.specs.Items.{Item, CallOf, placed_in, item_cells, past, LieIn}
use Rattle.gen_sim.specs.Fits.{Fits}
use Rattle.gen_sim.specs.Results.{SuitAll}

-- so many turns may still be begun one within another
abbrev pub with_turns : Site → ℕ → Fewer
with_turns x turns = nested (scene_at x) turns

-- a call does what it means, from its CALL on, with the arguments and their count of bytes on the
-- stack: the function's address, its need and each of its bodies are behind that. The arguments are
-- within the need of the function, and what waits below them within that of the calls alive. It
-- returns to an instruction
abbrev pub CallsDo : Site → Fewer → Type 0
CallsDo x fewer =
    (f : ℕ) (function : Function) (v : View) (held : List Held) (cells waits : List ℤ) (p : ℕ)
    (w : World) (c : Config)
    → slice_get x.program.functions f ≡ Some function → SuitAll function.params held
    → HoldArguments x.program x.room v held cells
    → p + 8 < 2 ^ 31 → Starts x (p + 8)
    → fetched x.amx.code p ≡ Some (read_as (placed_in x.entry (CallOf f)))
    → used x.program x.room v (pos (4 * length cells) ∷ (cells ++ waits)) ≤ kept x.program x.room
    + sum v.needs + 15
    → used x.program x.room v waits ≤ kept x.program x.room + sum v.needs
    → Stands x.program x.room v (pos (4 * length cells) ∷ (cells ++ waits)) p w c
    → DoesAt x 1 w c (call (scene_at x) fewer f held w) (With x.program x.room v waits (p + 8))

-- so with at most so many turns left
abbrev pub CallsWithin : Site → ℕ → Type 0
CallsWithin x turns = (fewer : ℕ) → fewer ≤ turns → CallsDo x (with_turns x fewer)

-- from each view that fits the scope, in which `need` cells more stay within the live need, some
-- items at an address do what a run does, and come to their end where it gives its value. A callee
-- does so with fewer turns left
abbrev pub Code : {A : Type 0} → Scope → ((x : Site) → Fewer → Run A) → ℕ → List Item → ℕ
    → ((x : Site) → View → List ℤ → ℕ → A → World → Config → Type 0) → Type 0
Code scope run need items begin Result =
    (x : Site) → IsSite x → x.program ≡ scope.program → (turns : ℕ) → CallsWithin x turns
    → (v : View) → Fits x.program x.room scope v → LieIn x begin items → Starts x (past begin items)
    → (pending : List ℤ)
    → used x.program x.room v pending + need ≤ kept x.program x.room + sum v.needs
    → (w : World) (c : Config) → Stands x.program x.room v pending begin w c
    → DoesAt x (length (item_cells items)) w c (run x (with_turns x turns) w)
    (Result x v pending (past begin items))

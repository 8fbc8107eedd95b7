-- What the code of cases does, from where their table leads a value.
use Rattle.std.specs.Prelude.{◌≡◌, ◌+◌, ◌*◌, ◌^◌, ◌<◌, ◌≤◌, ℕ, ℤ, List, [], ◌++◌, length, sum}
use Rattle.pawn_meaning.specs.Program.{Cases}
use Rattle.pawn_meaning.specs.World.{World}
use Rattle.pawn_meaning.specs.Run.{Run}
use Rattle.pawn_meaning.specs.Calls.{Way}
use Rattle.pawn_meaning.specs.Meaning.{run_case}
use Rattle.pawn_meaning.specs.Need.{cases_load, cases_locals}
use Rattle.amx_ops.specs.Effects.{paired}
use Rattle.amx_ops.specs.Moves.{Config}
use Rattle.gen_sim.specs.View.{View, kept, used}
use Rattle.gen_sim.specs.Stands.{Stands}
use Rattle.gen_sim.specs.Site.{Site, DoesAt, scene_at}
use Rattle.gen_sim.specs.Items.{Item, item_cells}
use Rattle.gen_sim.specs.Code.{with_turns}
use Rattle.gen_sim.specs.Lies.{Lies}
use Rattle.gen_sim.specs.Here.{Here}
use Rattle.gen_sim.specs.Ways.{Outer, Left}
use Rattle.gen_sim.specs.Flow.{Begins}
use Rattle.gen_laws.specs.SwitchCode.{cases_values}

-- the machine stands where a table leads a value
abbrev pub LedBy : Site → View → List ℤ → ℤ → (count default : ℕ) → World → Config → Type 0
LedBy x v pairs y count default w c =
    Stands x.program x.room v [] (paired pairs y count default) w c

-- the cases' pairs are the first ones of a table. From where it leads a value, the items do what
-- the first case that holds the value means, and come to an end; where none holds it, what the
-- other pairs lead to does the rest in d steps
pub record CasesCode (here : Here) (cases : Cases) (begin end : ℕ) (items : List Item)
    (table : List ℤ) : Type 0 where
  pub count : length table ≡ 2 * cases_values cases
  pub does : (x : Site) (turns : ℕ) (v : View) (o : Outer) → Begins here x turns v o
      → Lies x begin items → end < 2 ^ 31
      → length (item_cells items) ≤ length x.amx.code
      → used x.program x.room v [] + (cases_locals here.scope.slots cases + cases_load cases)
      ≤ kept x.program x.room + sum v.needs
      → (y : ℤ) (more : List ℤ) (n default d : ℕ) (other : Run Way) (w : World) (c : Config)
      → LedBy x v (table ++ more) y (n + cases_values cases) default w c
      → (LedBy x v more y n default w c → DoesAt x d w c (other w) (Left x here.exits o v end))
      → DoesAt x (d + length (item_cells items)) w c
      (run_case (scene_at x) (with_turns x turns) cases other y w) (Left x here.exits o v end)

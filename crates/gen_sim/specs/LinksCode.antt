-- What the code of a chain's links does, from its left operand on.
use Rattle.std.specs.Prelude.{◌≡◌, ◌+◌, ◌^◌, ◌<◌, ◌≤◌, ◌⊎◌, ℕ, ℤ, pos, List, ◌∷◌, length, sum}
use Rattle.pawn_meaning.specs.Program.{Links, no_links, then_link}
use Rattle.pawn_meaning.specs.Scope.{Scope}
use Rattle.pawn_meaning.specs.World.{World}
use Rattle.pawn_meaning.specs.Run.{Run, ◌>>=◌, give}
use Rattle.pawn_meaning.specs.Need.{links_load}
use Rattle.pawn_meaning.specs.Meaning.{Scene, Fewer, value, linked, chained}
use Rattle.amx_ops.specs.Moves.{Config}
use Rattle.gen_sim.specs.View.{View, kept, used}
use Rattle.gen_sim.specs.Stands.{Stands, With}
use Rattle.gen_sim.specs.Site.{Site, IsSite, DoesAt, scene_at}
use Rattle.gen_sim.specs.Items.{Item, item_cells, past}
use Rattle.gen_sim.specs.Fits.{Fits}
use Rattle.gen_sim.specs.Code.{with_turns, CallsWithin}
use Rattle.gen_sim.specs.Lies.{Lies}

-- the links with their left operand, up to what the last one gives
abbrev pub links_run : Scene → Fewer → Links → ℤ → Run ℤ
links_run scene fewer no_links y = give y
links_run scene fewer (then_link o e f swapped links) y =
    value scene fewer e >>= (λ z. linked scene fewer o f swapped y z
    >>= (λ u. chained scene fewer links z u))

-- a link didn't hold, and its right operand waits
pub record Failed (x : Site) (v : View) (pending : List ℤ) (fail : ℕ) (z : ℤ) (w : World)
    (c : Config) : Type 0 where
  pub other : ℤ
  pub stands : Stands x.program x.room v (other ∷ pending) fail w c
  pub zero_is : z ≡ pos 0
  pub pri : c.state.pri ≡ pos 0

-- the links come to their end with what the last one gave, or one doesn't hold
abbrev pub LinksAt : Site → View → List ℤ → (fail q : ℕ) → ℤ → World → Config → Type 0
LinksAt x v pending fail q z w c =
    With x.program x.room v pending q z w c ⊎ Failed x v pending fail z w c

-- the items do the links, with the left operand of the first one in PRI at their begin
pub record LinksCode (scope : Scope) (links : Links) (begin fail : ℕ)
    (items : List Item) : Type 0 where
  pub does : (x : Site) → IsSite x → x.program ≡ scope.program → (turns : ℕ) → CallsWithin x turns
      → (v : View) → Fits x.program x.room scope v
      → Lies x begin items → fail < 2 ^ 31 → (pending : List ℤ)
      → used x.program x.room v pending + (2 + links_load links) ≤ kept x.program x.room
      + sum v.needs
      → (y : ℤ) (w : World) (c : Config) → With x.program x.room v pending begin y w c
      → DoesAt x (length (item_cells items)) w c
      (links_run (scene_at x) (with_turns x turns) links y w)
      (LinksAt x v pending fail (past begin items))

-- What holds where a statement is left, by the way in which it is.
use Rattle.std.specs.Prelude.{◌≡◌, ◌^◌, ◌<◌, ℕ, ℤ, pos, List, [], ◌∷◌, ◌++◌, true, Some, slice_get}
use Rattle.pawn_meaning.specs.Program.{Slot}
use Rattle.pawn_meaning.specs.World.{World}
use Rattle.pawn_meaning.specs.Run.{Gives}
use Rattle.pawn_meaning.specs.Calls.{Way, Through, Broke, Continued, Returned}
use Rattle.amx_ops.specs.declared.op.Op.TheVariants as op
use Rattle.amx_ops.specs.Instructions.{fetched}
use Rattle.amx_ops.specs.Written.{read_as}
use Rattle.amx_ops.specs.Moves.{Config}
use Rattle.gen_sim.specs.View.{View, innermost, Laid}
use Rattle.gen_sim.specs.Next.{with_local}
use Rattle.gen_sim.specs.Stands.{Stands, With}
use Rattle.gen_sim.specs.Site.{Site, DoesAt}
use Rattle.gen_sim.specs.Items.{with}
use Rattle.gen_sim.specs.Back.{Back}
use Rattle.gen_sim.specs.Fits.{own_sizes, locals_of}
use Rattle.gen_sim.specs.Here.{Exits, Here}

-- the views in which the loop's body and the function's body began, and the caller's, in which some
-- cells wait and to which a RETN returns
pub record Outer : Type 0 where
  pub loop : View
  pub body : View
  pub caller : View
  pub waits : List ℤ
  pub back : ℕ

-- a view with slots that were made one after another
abbrev pub made_view : List Slot → List ℕ → View → View
made_view slots [] v = v
made_view slots (s ∷ made) v = made_view slots made (with_local v s (own_sizes (slice_get slots s)))

-- at the statement's end; at the loop's exits without the locals made since its body began; and at
-- the caller without the frame
abbrev pub Left : Site → Exits → Outer → View → ℕ → Way → World → Config → Type 0
Left x e o v q Through w c = Stands x.program x.room v [] q w c
Left x e o v q Broke w c = (e.looped ≡ true) × Stands x.program x.room o.loop [] e.broke w c
Left x e o v q Continued w c = (e.looped ≡ true) × Stands x.program x.room o.loop [] e.continued w c
Left x e o v q (Returned y) w c = Back x.program x.room o.caller o.waits o.back y w c

-- a view is another one with the locals of these slots upon it
pub record Upon (x : Site) (slots : List Slot) (made : List ℕ) (v base : View) : Type 0 where
  pub is : v ≡ record base { high = locals_of (innermost base) slots made ++ base.high }
  pub laid : Laid x.program x.room base

-- exits that a cell can hold, and the view with what was made since the loop's body began
pub record InLoop (x : Site) (here : Here) (o : Outer) (v : View) : Type 0 where
  pub broke : here.exits.broke < 2 ^ 31
  pub continued : here.exits.continued < 2 ^ 31
  pub upon : Upon x here.scope.slots here.since v o.loop

-- a view belongs to where a statement stands, and a RETN in the body's own view goes back to the
-- caller
pub record Inside (x : Site) (here : Here) (o : Outer) (v : View) : Type 0 where
  pub loop : here.exits.looped ≡ true → InLoop x here o v
  pub body : Upon x here.scope.slots here.scope.made v o.body
  pub returns : (y : ℤ) (q : ℕ) (w : World) (c : Config) → With x.program x.room o.body [] q y w c
      → fetched x.amx.code q ≡ Some (read_as (with op.Retn (pos 0)))
      → DoesAt x 1 w c (Gives y w) (Back x.program x.room o.caller o.waits o.back)

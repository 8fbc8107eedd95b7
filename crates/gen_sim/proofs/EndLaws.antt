-- A run ends by HALT 1, with a value and a tag.
use Rattle.std.proofs.Common.{◌≡◌, ◌+◌, ℕ, ℤ, pos, List, Some, length, refl, ap, ◌∙◌}
use Rattle.host_script.specs.declared.event.End.TheVariants as end
use Rattle.pawn_meaning.specs.World.{World}
use Rattle.pawn_meaning.specs.Run.{Stops}
use Rattle.amx_ops.specs.declared.op.Op.TheVariants as op
use Rattle.amx_ops.specs.Instructions.{fetched}
use Rattle.amx_ops.specs.Written.{read_as}
use Rattle.amx_ops.specs.State.{State}
use Rattle.amx_ops.specs.Runs as runs
use Rattle.amx_ops.specs.Moves.{Config, move}
use Rattle.gen_sim.proofs.Sim.{stops, ends_one}
use Rattle.gen_sim.specs.View.{View}
use Rattle.gen_sim.specs.Stands.{With}
use Rattle.gen_sim.specs.Site.{Site, DoesAt}
use Rattle.gen_sim.specs.Items.{with}
use Rattle.gen_sim.proofs.StepLaws.{move_is, goes}

-- CONST.alt, HALT 1
pub exit_does : (x : Site) {A : Type 0} {Q : A → World → Config → Type 0} {v : View}
    {pending : List ℤ} (y tag : ℤ) (p : ℕ) (w : World) (c : Config)
    → With x.program x.room v pending p y w c
    → fetched x.amx.code p ≡ Some (read_as (with op.ConstAlt tag))
    → fetched x.amx.code (p + 8) ≡ Some (read_as (with op.Halt (pos 1)))
    → DoesAt x 2 w c (Stops (end.Exit y tag) w) Q
exit_does x y tag p w c a f g =
    let t : State = record c.state { alt = tag; cip = p + 8 } in
    let c1 : Config = record c { state = t } in
    goes x {d = 1} a.stands (with op.ConstAlt tag) f t refl
    (stops (move x.amx x.script) (length x.amx.code) x.room
    (ends_one (move x.amx x.script) (length x.amx.code) x.room c1
    (record c { state = record t { cip = p + 8 + 8 } }) w (end.Exit y tag)
    (move_is x c1 (p + 8) (with op.Halt (pos 1)) refl g
    ∙ ap (λ z. runs.Ends (end.Exit z tag) (record c { state = record t { cip = p + 8 + 8 } }))
    a.value) a.stands.said))

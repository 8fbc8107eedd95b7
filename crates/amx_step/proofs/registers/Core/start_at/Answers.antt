use Rattle.std.proofs.Common.{◌≡◌, ◌+◌, ◌*◌, ◌<◌, ◌≤◌, ◌∷◌, ◌∙◌, pos, length, refl, sym, ap, arith}
use Rattle.pawn_cells.specs.Cells.{cell_of}
use Rattle.amx_ops.specs.State.{stp, first_hea}
use Rattle.amx_ops.specs.Trace.{fresh}
use Rattle.amx_step.proofs.StartLaws.{no_room}
use Rattle.amx_step.proofs.registers.Core.start_at.Goals as goal
use Rattle.amx_step.proofs.registers.Core.start_at.Goals.{then-room-lt2-via-then-room-lt2}
use Rattle.amx_step.proofs.registers.Core.start_at.Goals.{then-room-lt2-via-else-room-lt2+then-room-arguments}

pub returns-then-room-lt2 : goal.returns-then-room-lt2
returns-then-room-lt2 c =
    let m = c.args.self.now in
    let f = c.self.inside in
    let i = c.self.invariant in
    let arguments = c.args.arguments.now in
    let store : c.len.result ≡ length f.verified.store =
    c.len.ensures ∙ ap (λ amx. length amx.store) c.amx.ensures.value in
    let top : stp m.state ≡ f.stp = rw (← c.self.view_is) (sym i.top_is) in
    let first : first_hea m.amx ≡ 4 * c.len.result = rw (← c.self.view_is, store) refl in
    let order : first_hea m.amx ≤ stp m.state =
    omega (arith, first, top, i.first, i.apart, i.within, i.top_is, store) in
    let below : stp m.state < first_hea m.amx + 4
    * length (pos 0 ∷ cell_of (4 * length arguments) ∷ arguments) =
    elim c.then-room-lt2.branch [
      | then-room-lt2-via-then-room-lt2 w ↦ omega (arith, w.if-room-lt2.true, top, first)
      | then-room-lt2-via-else-room-lt2+then-room-arguments w ↦ omega
          (arith, w.if-room-arguments.true, top, first)
    ] in (
      no_room (pos 0 ∷ cell_of (4 * length arguments) ∷ arguments)
          (fresh m.amx c.args.address m.state) order below,
      refl,
    )

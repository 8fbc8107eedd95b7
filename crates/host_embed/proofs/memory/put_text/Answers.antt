use Rattle.std.proofs.Common.{◌≡◌, ◌≤◌, ◌++◌, ◌∙◌, w32, length, drop, ap}
use Rattle.std.proofs.lemmas.Int.{to_z-of_z}
use Rattle.pawn_cells.specs.Cells.{bits_of}
use Rattle.amx_ops.specs.Moves.{live_from}
use Rattle.amx_step.specs.Hosting.{with_live}
use Rattle.amx_machine.specs.Machine.{resting}
use Rattle.amx_machine.proofs.PutLaws.{put_kept}
use Rattle.host_embed.proofs.memory.put_text.Goals as goal

pub returns : goal.returns
returns c =
    let m = c.args.machine.now in
    let at = bits_of c.args.at in
    let fits = to_z-of_z w32 c.args.at c.ranges.at in
    let part = rw fits at c.live_from_mut.ensures.value in
    let spelled = c.spell.ensures in
    let cells = spelled.0 in
    let given : c.spell.new.part ≡ cells ++ drop (length cells) (live_from m.state at) =
    spelled.2 ∙ ap (λ part. cells ++ drop (length cells) part) part in
    let room : length cells ≤ length (live_from m.state at) = rw spelled.1.count c.requires in (
      cells,
      spelled.1,
      rw fits
          (ap (λ part. record m { state = resting m.mode (with_live m.state at part) }) given
          ∙ put_kept m at cells c.registers.ensures.kept room),
    )

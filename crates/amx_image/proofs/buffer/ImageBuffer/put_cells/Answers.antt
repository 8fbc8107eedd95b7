use Rattle.std.proofs.Common.{◌≡◌, ◌+◌, ◌++◌, pos, rules, drop, ap, ◌∙◌, arith, slice_index_or}
use Rattle.pawn_cells.specs.Cells.{IsCell, bits_of}
use Rattle.amx_format.specs.Layout.{word, cells}
use Rattle.amx_image.proofs.SaveLaws.{fit_more, cells_more}
use Rattle.amx_image.proofs.buffer.ImageBuffer.put_cells.Goals as goal

pub loop-index-preserved : goal.loop-index-preserved
loop-index-preserved c =
    let l = c.loop-index in
    let v = l.invariant in
    let fit : IsCell (slice_index_or c.args.row.now l.index (pos 0)) = search rules in
    let bits : c.cast_unsigned.result ≡ bits_of (slice_index_or c.args.row.now l.index (pos 0)) =
    search rules in
    let more = ap (λ b. b.bytes) c.put_word.ensures.bytes in
    record {
      bytes =
          ap (λ bytes. bytes ++ cells (drop (l.index + 1) c.args.row.now))
          (more ∙ ap (λ n. l.self.bytes ++ word n) bits)
          ∙ cells_more l.self.bytes c.args.row.now l.index c.loop-index-test.true ∙ v.bytes;
      room = ap (λ b. b.room) c.put_word.ensures.bytes ∙ v.room;
      size = omega (arith, v.size, c.put_word.ensures.size);
      fits = fit_more c.args.row.now l.index c.loop-index-test.true fit v.fits;
    }

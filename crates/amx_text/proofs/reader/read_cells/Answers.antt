use Rattle.std.proofs.Common.{◌≡◌, ◌∙◌, ◌++◌, ◌∷◌, [], ap, append_assoc, to_z, of_z, w32}
use Rattle.std.proofs.lemmas.Int.{to_z-of_z}
use Rattle.amx_text.specs.Readers.{operand_at}
use Rattle.amx_text.proofs.PartReads.{operand_is}
use Rattle.amx_text.proofs.ReaderSteps.{run_more, operand_shorter}
use Rattle.amx_text.proofs.reader.read_cells.Goals as goal

pub loop-cell-smaller : goal.loop-cell-smaller
loop-cell-smaller c =
    operand_shorter c.in-Some.cell c.loop-cell.rest.now c.in-Some.more.now c.in-Some.ensures

pub loop-cell-preserved : goal.loop-cell-preserved
loop-cell-preserved c =
    let cell = c.in-Some.cell in
    let so_far = c.loop-cell.invariant in
    let it = operand_is c.in-Some.cell c.loop-cell.rest.now c.in-Some.more.now c.in-Some.ensures in
    let back : to_z w32 (of_z w32 c.in-Some.cell) ≡ c.in-Some.cell =
    to_z-of_z w32 c.in-Some.cell it.fits in
    let added : c.push.new.self ≡ c.loop-cell.cells ++ (c.in-Some.cell ∷ []) =
    cc (c.in_ok-push.ensures.ok, back) in (
      so_far.0 ++ (cell ∷ []),
      (
        added ∙ ap (λ cells. cells ++ (cell ∷ [])) so_far.1.0
            ∙ append_assoc c.args.cells.now so_far.0 (cell ∷ []),
        run_more operand_at so_far.0 cell c.args.text.now c.loop-cell.rest.now c.in-Some.more.now
            so_far.1.1 c.in-Some.ensures,
      ),
    )

pub returns : goal.returns
returns c = record {
  cells = c.loop-cell.invariant.0;
  end = c.loop-cell.rest.now;
  whole = record { run = c.loop-cell.invariant.1.1; stops = c.in_default.ensures };
  put = c.loop-cell.invariant.1.0;
  leaves = c.after_word.ensures;
}

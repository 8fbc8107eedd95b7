use Rattle.std.proofs.Common.{ap, ◌∙◌, ◌++◌, ℕ, List}
use Rattle.amx_format.proofs.RowLaws.{five, five_names}
use Rattle.amx_format.proofs.writer.put_all_names.Goals as goal

pub returns : goal.returns
returns c =
    five _ _ _ _ _ _ _ _ _ _ _ c.in_ok-put_names.ensures c.in_ok-put_names-2.ensures
    c.in_ok-put_names-3.ensures c.in_ok-put_names-4.ensures c.in_ok-put_names-5.ensures
    ∙ ap (λ (bytes : List ℕ). c.args.out.now ++ bytes)
    (five_names c.args.amx.now c.args.publics.now _ _ _ _ c.as_slice.ensures c.as_slice-2.ensures
    c.as_slice-3.ensures c.as_slice-4.ensures)

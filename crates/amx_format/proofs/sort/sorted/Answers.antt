use Rattle.std.proofs.Common.{rules, arith, ◌∙◌}
use Rattle.std.specs.Ordering.{is_lt, nat_cmp}
use Rattle.std.specs.Cmp.Lexicographic.{slice_cmp}
use Rattle.std.proofs.lemmas.Cmp.{nat_list_cmp_total}
use Rattle.std.proofs.lemmas.List.{take_all}
use Rattle.std.proofs.lemmas.List.Sorted.{answers_always, ranks_by}
use Rattle.amx_ops.specs.declared.amx.Record.{Record}
use Rattle.amx_format.proofs.RowLaws.{sorts_by}
use Rattle.amx_format.proofs.sort.sorted.Goals as goal

pub returns : goal.returns
returns c =
    let lt = λ (a b : Record). is_lt (slice_cmp nat_cmp a.name b.name) in
    let order = ranks_by nat_list_cmp_total (λ (it : Record). it.name) in
    sorts_by _ _ _ _ (c.loop-record.invariant
    ∙ take_all c.loop-record.record-index c.args.records.now (omega arith)) c.from_vec.ensures
    c.in_ok-sort_by.ensures.permutation
    (c.in_ok-sort_by.ensures.sorted lt order (answers_always _ _ _ (λ f a r g h. search rules)))
    (c.in_ok-sort_by.ensures.stable lt order (answers_always _ _ _ (λ f a r g h. search rules)))

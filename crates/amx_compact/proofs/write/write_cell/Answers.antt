use Rattle.std.proofs.Common.{rules, ap, ◌∙◌, ◌++◌, FitsSigned, w32}
use Rattle.std.proofs.lemmas.Result.{on_ok_weaker}
use Rattle.amx_compact.proofs.RangeLemmas.{written}
use Rattle.amx_compact.proofs.ShortestLemmas.{one_shortest}
use Rattle.amx_compact.proofs.write.write_cell.Goals as goal

pub returns-clause-ok : goal.returns-clause-ok
returns-clause-ok c =
    let cell : FitsSigned w32 c.args.cell = search rules in
    let count = c.group_count.ensures in
    let shortest =
    written c.args.cell c.group_count.result c.cast_unsigned-bits.result c.low_group.result
    c.low_group-2.result c.low_group-3.result c.low_group-4.result c.low_group-5.result
    cell c.cast_unsigned-bits.ensures count.enough count.least count.bound
    c.low_group.ensures c.low_group-2.ensures c.low_group-3.ensures c.low_group-4.ensures
    c.low_group-5.ensures in
    on_ok_weaker c.append.result (λ e. (_, shortest, e)) c.append.ensures.ok

pub returns-clause-one : goal.returns-clause-one
returns-clause-one c bytes is_shortest =
    on_ok_weaker c.append.result (λ appended. appended.2
    ∙ ap (λ spelling. c.args.out.now ++ spelling)
    (one_shortest c.args.cell appended.0 bytes appended.1 is_shortest))
    (returns-clause-ok c)

use Rattle.std.proofs.Common.{rules, ◌≡◌, ◌+◌, ◌*◌, pos, [], ◌∷◌, ◌++◌, length, FitsSigned, w32}
use Rattle.std.proofs.Common.{sym, ap, subst, ◌∙◌, arith}
use Rattle.std.proofs.lemmas.Int.{to_z-of_z}
use Rattle.gen_expr.specs.Built.{with_items}
use Rattle.gen_module.specs.Source.{program_of}
use Rattle.gen_module.proofs.FunctionRows.{function_part, functions_row, functions_begin}
use Rattle.gen_module.proofs.RowLaws.{Row, row_none, row_more, row_all}
use Rattle.gen_module.proofs.functions.functions.Goals as goal

pub loop-one-init : goal.loop-one-init
loop-one-init c =
    let part = function_part (program_of c.args.source.now) in
    subst (λ l. Row part c.args.all.now c.args.b c.args.b 0 l) (sym c.new-entries.ensures.items)
    (row_none part c.args.all.now c.args.b)

pub loop-one-preserved : goal.loop-one-preserved
loop-one-preserved c =
    let part = function_part (program_of c.args.source.now) in
    let i = c.loop-one.one-index in
    let fits : FitsSigned w32 c.in_ok-begin.begin = search rules in
    let pushed : c.push.new.self.items ≡ c.loop-one.entries.items ++ c.in_ok-begin.begin ∷ [] =
    rw (to_z-of_z w32 c.in_ok-begin.begin fits) at c.in_ok-push.ensures.items in
    subst (λ l. Row part c.args.all.now c.args.b c.in_ok-grown.grown (i + 1) l) (sym pushed)
    (row_more part c.args.all.now c.args.b c.loop-one.grown c.in_ok-grown.grown i
    c.loop-one.entries.items c.one-item.result c.in_ok-begin.begin
    c.loop-one.invariant c.loop-one-test.true c.one-item.is c.in_ok-begin.ensures
    c.in_ok-grown.ensures)

pub returns-clause-code : goal.returns-clause-code
returns-clause-code c =
    let part = function_part (program_of c.args.source.now) in
    let all : c.loop-one.one-index ≡ length c.args.all.now = omega arith in
    row_all part c.args.all.now c.args.b c.loop-one.grown c.loop-one.one-index
    c.loop-one.entries.items c.loop-one.invariant all
    ∙ ap (λ l. with_items l c.args.b)
    (functions_row (program_of c.args.source.now) (4 * length c.args.b.code) c.args.all.now)

pub returns-clause-entries : goal.returns-clause-entries
returns-clause-entries c = λ n x e.
    c.loop-one.invariant.finds n x e
    ∙ ap pos (functions_begin (program_of c.args.source.now)
    (4 * length c.args.b.code) c.args.all.now n)

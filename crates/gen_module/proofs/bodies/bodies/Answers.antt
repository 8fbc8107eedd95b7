use Rattle.std.proofs.Common.{rules, ◌≡◌, ◌+◌, ◌*◌, pos, [], ◌∷◌, ◌++◌, length, map, FitsSigned}
use Rattle.std.proofs.Common.{w32, sym, ap, subst, ◌∙◌, arith}
use Rattle.std.proofs.lemmas.Int.{to_z-of_z}
use Rattle.pawn_meaning.specs.View.{slot_view}
use Rattle.gen_expr.specs.Built.{with_items}
use Rattle.gen_module.specs.Source.{program_of}
use Rattle.gen_module.proofs.FunctionRows.{body_part, bodies_row, bodies_begin}
use Rattle.gen_module.proofs.RowLaws.{Row, row_none, row_more, row_all}
use Rattle.gen_module.proofs.bodies.bodies.Goals as goal

pub loop-one-init : goal.loop-one-init
loop-one-init c =
    let part = body_part (program_of c.args.source.now) (map slot_view c.args.params.now) in
    subst (λ l. Row part c.args.bodies.now c.args.b c.args.b 0 l) (sym c.new-starts.ensures.items)
    (row_none part c.args.bodies.now c.args.b)

pub loop-one-preserved : goal.loop-one-preserved
loop-one-preserved c =
    let part = body_part (program_of c.args.source.now) (map slot_view c.args.params.now) in
    let i = c.loop-one.one-index in
    let fits : FitsSigned w32 c.in_ok-begin.begin = search rules in
    let pushed : c.push.new.self.items ≡ c.loop-one.starts.items ++ c.in_ok-begin.begin ∷ [] =
    rw (to_z-of_z w32 c.in_ok-begin.begin fits) at c.in_ok-push.ensures.items in
    subst (λ l. Row part c.args.bodies.now c.args.b c.in_ok-grown.grown (i + 1) l) (sym pushed)
    (row_more part c.args.bodies.now c.args.b c.loop-one.grown c.in_ok-grown.grown i
    c.loop-one.starts.items c.one-item.result c.in_ok-begin.begin
    c.loop-one.invariant c.loop-one-test.true c.one-item.is c.in_ok-begin.ensures
    c.in_ok-grown.ensures)

pub returns-clause-code : goal.returns-clause-code
returns-clause-code c =
    let part = body_part (program_of c.args.source.now) (map slot_view c.args.params.now) in
    let all : c.loop-one.one-index ≡ length c.args.bodies.now = omega arith in
    row_all part c.args.bodies.now c.args.b c.loop-one.grown c.loop-one.one-index
    c.loop-one.starts.items c.loop-one.invariant all
    ∙ ap (λ l. with_items l c.args.b)
    (bodies_row (program_of c.args.source.now) (map slot_view c.args.params.now)
    (4 * length c.args.b.code) c.args.bodies.now)

pub returns-clause-starts : goal.returns-clause-starts
returns-clause-starts c = λ n x e.
    c.loop-one.invariant.finds n x e
    ∙ ap pos (bodies_begin (program_of c.args.source.now) (map slot_view c.args.params.now)
    (4 * length c.args.b.code) c.args.bodies.now n)

use Rattle.std.proofs.Common.{◌≡◌, ◌+◌, ◌*◌, length, map, max, arith}
use Rattle.std.proofs.lemmas.Grind.{common_steps}
use Rattle.pawn_meaning.specs.Need.{load, arg_load, greatest}
use Rattle.pawn_meaning.specs.View.{expr_view, arg_view}
use Rattle.pawn_meaning.proofs.LoadLaws.{chain_load, call_load, native_load}
use Rattle.pawn_meaning.proofs.load.+load.Goals as goal

pub expr_load-returns-in-Chain : goal.expr_load-returns-in-Chain
expr_load-returns-in-Chain t c =
    let e : load (expr_view c.args.expr.now)
    ≡ 2 + max (load (expr_view c.in-Chain.x.value))
    (greatest (map (λ link. load (expr_view link.operand)) c.in-Chain.links)) =
    rw c.in-Chain.is (chain_load c.in-Chain.x c.in-Chain.links) in
    grind (arith, common_steps)

pub expr_load-returns-in-Call : goal.expr_load-returns-in-Call
expr_load-returns-in-Call t c =
    let e : load (expr_view c.args.expr.now)
    ≡ 2 * length c.in-Call.args + 1
    + greatest (map (λ arg. arg_load (arg_view arg)) c.in-Call.args) =
    rw c.in-Call.is (call_load c.in-Call.field-0 c.in-Call.args) in
    grind (arith, common_steps)

pub expr_load-returns-in-Native : goal.expr_load-returns-in-Native
expr_load-returns-in-Native t c =
    let e : load (expr_view c.args.expr.now)
    ≡ 2 * length c.in-Native.args + 1
    + greatest (map (λ arg. arg_load (arg_view arg)) c.in-Native.args) =
    rw c.in-Native.is (native_load c.in-Native.field-0 c.in-Native.args) in
    grind (arith, common_steps)

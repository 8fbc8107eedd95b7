use Rattle.std.proofs.Common.{◌≡◌, ◌+◌, ◌++◌, [], ◌∷◌, drop, take, get_or, arith}
use Rattle.std.proofs.lemmas.Grind.{common_steps}
use Rattle.pawn_pre.proofs.CutLaws.{place_here, no_place}
use Rattle.pawn_pre.proofs.table.Table.substituted.Goals as goal

pub returns-in-Some : goal.returns-in-Some
returns-in-Some c =
    let cut : drop c.loop-i.i c.args.bytes.now
    ≡ get_or c.args.bytes.now c.loop-i.i 0 ∷ drop (c.loop-i.i + 1) c.args.bytes.now =
    grind (arith, common_steps) in
    let found =
    rw (c.in-Some.is, c.split_at.ensures.back, c.begins_whole_name-begins.ensures) at
    c.in_ok-after.ensures in
    rw c.split_at.ensures.front (place_here _ _ _ _ _ _ _ _ _ cut c.loop-i.invariant _ found)

pub loop-i-preserved : goal.loop-i-preserved
loop-i-preserved c =
    let cut : drop c.loop-i.i c.args.bytes.now
    ≡ get_or c.args.bytes.now c.loop-i.i 0 ∷ drop (c.loop-i.i + 1) c.args.bytes.now =
    grind (arith, common_steps) in
    let next : take (c.loop-i.i + 1) c.args.bytes.now
    ≡ take c.loop-i.i c.args.bytes.now ++ get_or c.args.bytes.now c.loop-i.i 0 ∷ [] =
    grind (arith, common_steps) in
    let none =
    rw (c.in-None.is, c.split_at.ensures.back, c.begins_whole_name-begins.ensures) at
    c.in_ok-after.ensures in
    rw (next, c.after-quote.ensures, c.is_in-joined.ensures)
    (no_place _ _ _ _ _ _ _ _ _ cut c.loop-i.invariant none)

-- The code of each sort of statement, by what its parts appended.
use Rattle.std.proofs.Common.{◌≡◌, ◌+◌, ◌*◌, ◌≤◌, ℕ, ℤ, pos, Bool, List, [], ◌∷◌, ◌++◌, true, drop, length}
use Rattle.std.proofs.Common.{map, refl, sym, ap, subst, ◌∙◌, Result, Ok, Err, IfOk}
use Rattle.pawn_meaning.specs.Program.{Expr, Stmt, Stmts, Perhaps}
use Rattle.pawn_meaning.specs.View.{slot_view}
use Rattle.pawn_meaning.specs.ValidStmts.{slots_made_by}
use Rattle.amx_ops.specs.declared.op.Op.TheVariants as op
use Rattle.gen_sim.specs.Items.{Item, past}
use Rattle.gen_sim.specs.SimpleCode.{alone, taking}
use Rattle.gen_sim.specs.JumpCode.{jump_to, other_at}
use Rattle.gen_sim.specs.Here.{Exits}
use Rattle.gen_sim.specs.FlowCode.{leave_code}
use Rattle.gen_laws.specs.ExprCode.{value_items}
use Rattle.gen_laws.specs.GoesOn.{list_leaves, at_end_of, dropped_by}
use Rattle.gen_laws.specs.ClosedCode.{closed_until}
use Rattle.gen_laws.specs.StmtCode.{step_items, stmt_items}
use Rattle.gen_laws.specs.StmtCode.{stmts_items, for_items}
use Rattle.gen_laws.specs.BranchItems.{jump_items, perhaps_jumps}
use Rattle.pawn_meaning.specs.Program as plain
use Rattle.gen_expr.specs.Built.{Built, with_items}
use Rattle.gen_expr.specs.Filled.{filled}
use Rattle.gen_expr.proofs.GrowLaws.{both_grow, then_grow, none_grow}
use Rattle.gen_stmt.specs.declared.draft.Draft.{Draft}
use Rattle.gen_stmt.specs.declared.draft.Hole.{Hole}
use Rattle.gen_stmt.specs.Led.{all_led, AreOthers}
use Rattle.gen_stmt.specs.Grown.{IsDraft, Grown}
use Rattle.gen_stmt.specs.Looped.{nowhere}
use Rattle.gen_stmt.proofs.GrownLaws.{code_grown, grown_as, then_grown, part_grown}
use Rattle.gen_stmt.proofs.LoopLaws.{begun, loop_done, until_closed}
use Rattle.gen_stmt.specs.Keeps.{scope_in}
use Rattle.gen_stmt.specs.declared.locals.Mark.{Mark}
use Rattle.gen_stmt.specs.declared.place.Place.{Place}
use Rattle.gen_stmt.specs.Closed.{closed_by, ended_by}
use Rattle.gen_stmt.specs.Standing.{here_in, within_in}
use Rattle.gen_stmt.proofs.StandLaws.{dropped_more, begun_here}

-- ---- blocks

pub block_done : {E : Type 0} (place : Place) (since cells : ℕ) (old new : List ℕ) (mark : Mark)
    (stmts : Stmts) (never : Bool) (b m : Draft) (r : Result Draft E) → never ≡ list_leaves stmts
    → Grown b m (λ exits. stmts_items (here_in place old since exits)
    (4 * length b.code.code) stmts)
    → mark ≡ record { made = length old; cells = cells } → new ≡ old ++ slots_made_by stmts
    → IfOk r (λ x. Grown m x (λ exits. leave_code (map slot_view place.slots.now)
    (at_end_of never (drop mark.made new))))
    → IfOk r (λ x. Grown b x (λ exits. stmt_items (here_in place old since exits)
    (4 * length b.code.code) (plain.Block stmts)))
block_done place since cells old new mark stmts never b m (Ok x) is f em en g =
    let slots = map slot_view place.slots.now in
    let dropped : drop mark.made new ≡ slots_made_by stmts =
    ap (λ l. drop mark.made l) en ∙ dropped_more mark cells old (slots_made_by stmts) em in
    then_grown b m x (λ exits. stmts_items (here_in place old since exits)
    (4 * length b.code.code) stmts) (λ exits. leave_code slots (dropped_by stmts)) f
    (grown_as m x (λ exits. leave_code slots (at_end_of never (drop mark.made new)))
    (λ exits. leave_code slots (dropped_by stmts))
    (λ h exits. ap (λ l. leave_code slots (at_end_of never l)) dropped
    ∙ ap (λ k. leave_code slots (at_end_of k (slots_made_by stmts))) is) g)
block_done place since cells old new mark stmts never b m (Err fault) is f em en g = g

-- ---- loops

pub until_done : (b j y r : Built) (x : Draft) (body : Exits → ℕ → List Item) (test : ℕ → List Item)
    (top more : ℤ)
    → top ≡ pos (4 * length b.code) → j ≡ with_items (alone op.Nop ∷ []) b
    → Grown (begun j) x (λ exits. body exits (4 * length j.code))
    → more ≡ pos (4 * length x.code.code) → y ≡ with_items (test (4 * length x.code.code)) x.code
    → r ≡ ended_by top more x.holes y
    → r ≡ with_items (closed_until (4 * length b.code)
    (λ exits. body exits (4 * length b.code + 4)) test) b
until_done b j y r x body test top more et ej gx em ey er =
    let end = pos (4 * length y.code + 16) in
    let d : Built = with_items (taking op.Jzer end ∷ []) y in
    let z : Built = with_items (taking op.Jump top ∷ []) d in
    until_closed b j y d z r x body test top more end et ej gx em ey refl refl refl
    (er ∙ ap (λ (c : Built). all_led end more x.holes c)
    (sym (both_grow (taking op.Jzer end ∷ []) (taking op.Jump top ∷ []) y)))

-- ---- `for`

pub for_done : {E : Type 0} (place : Place) (since cells : ℕ) (old new last : List ℕ) (mark : Mark)
    (first : Stmts) (c step : Perhaps) (s : Stmt) (b m n : Draft)
    (r : Result Draft E) → since ≤ length old
    → Grown b m (λ exits. stmts_items (here_in place old since exits)
    (4 * length b.code.code) first)
    → mark ≡ record { made = length old; cells = cells } → new ≡ old ++ slots_made_by first
    → Grown m n (λ exits. for_items (within_in place new exits) (4 * length m.code.code) c step s)
    → last ≡ new
    → IfOk r (λ x. Grown n x (λ exits. leave_code (map slot_view place.slots.now)
    (drop mark.made last)))
    → IfOk r (λ x. Grown b x (λ exits. stmt_items (here_in place old since exits)
    (4 * length b.code.code) (plain.For first c step s)))
for_done place since cells old new last mark first c step s b m n (Ok x) le f em en h el g =
    let slots = map slot_view place.slots.now in
    let made = slots_made_by first in
    let dropped : drop mark.made last ≡ made =
    ap (λ l. drop mark.made l) (el ∙ en) ∙ dropped_more mark cells old made em in
    let loop : Exits → ℕ → List Item =
    λ exits q. for_items (within_in place (old ++ made) exits) q c step s in
    let second : Grown m n (λ exits. loop exits (4 * length m.code.code)) =
    grown_as m n (λ exits. for_items (within_in place new exits) (4 * length m.code.code) c step s)
    (λ exits. loop exits (4 * length m.code.code))
    (λ d exits. ap (λ l. for_items (within_in place l exits) (4 * length m.code.code) c step s) en)
    h in
    let third : Grown n x (λ exits. leave_code slots made) =
    grown_as n x (λ exits. leave_code slots (drop mark.made last)) (λ exits. leave_code slots made)
    (λ d exits. ap (λ l. leave_code slots l) dropped) g in
    part_grown b m x (λ exits. stmts_items (here_in place old since exits)
    (4 * length b.code.code) first) (λ exits q. loop exits q ++ leave_code slots made) f
    (then_grown m n x (λ exits. loop exits (4 * length m.code.code))
    (λ exits. leave_code slots made) second third)
for_done place since cells old new last mark first c step s b m n (Err fault) le f em en h el g = g

-- ---- parts

pub body_done : (place : Place) (made : List ℕ) (since : ℕ) (b : Built) (o d : Draft) (s : Stmt)
    → o ≡ begun b → since ≡ length made
    → Grown o d (λ exits. stmt_items (here_in place made since exits) (4 * length o.code.code) s)
    → Grown (begun b) d (λ exits. stmt_items (within_in place made exits) (4 * length b.code) s)
body_done place made since b o d s eo es g =
    grown_as (begun b) d (λ exits. stmt_items (here_in place made since exits)
    (4 * length b.code) s)
    (λ exits. stmt_items (within_in place made exits) (4 * length b.code) s)
    (λ h exits. ap (λ z. stmt_items z (4 * length b.code) s) (begun_here place made since exits es))
    (subst (λ (z : Draft). Grown z d
    (λ exits. stmt_items (here_in place made since exits) (4 * length z.code.code) s)) eo g)

pub while_done : (place : Place) (made : List ℕ) (b : Draft) (j l r : Built) (t x : Draft)
    (c : Expr) (s : Stmt) (start more : ℤ) (hole : ℕ)
    → j ≡ with_items (jump_to op.Jump 0 ∷ []) b.code → hole + 1 ≡ length j.code
    → start ≡ pos (4 * length j.code)
    → Grown (begun j) x (λ exits. stmt_items (within_in place made exits) (4 * length j.code) s)
    → more ≡ pos (4 * length x.code.code)
    → l ≡ filled hole (pos (4 * length x.code.code)) x.code
    → Grown (begun l) t (λ exits. jump_items (scope_in place made) true exits.broke
    (4 * length l.code) c)
    → r ≡ closed_by t start more x.holes
    → Grown b (record { code = r; holes = b.holes })
    (λ exits. stmt_items (within_in place made exits) (4 * length b.code.code) (plain.While c s))
while_done place made b j l r t x c s start more hole ej eo es gx em el gt er =
    let scope = scope_in place made in
    code_grown b r (stmt_items (within_in place made nowhere) (4 * length b.code.code)
    (plain.While c s))
    (loop_done b.code j x.code l r t x
    (λ exits q. stmt_items (within_in place made exits) q s) (λ q. [])
    (λ to q. jump_items scope true to q c) start more hole ej eo es gx em (none_grow x.code) el gt
    er)

pub for_loop_done : (place : Place) (made : List ℕ) (b : Draft) (j y l r : Built) (t x : Draft)
    (c next : Perhaps) (s : Stmt) (start more : ℤ) (hole : ℕ)
    → j ≡ with_items (jump_to op.Jump 0 ∷ []) b.code → hole + 1 ≡ length j.code
    → start ≡ pos (4 * length j.code)
    → Grown (begun j) x (λ exits. stmt_items (within_in place made exits) (4 * length j.code) s)
    → more ≡ pos (4 * length x.code.code)
    → y ≡ with_items (step_items (scope_in place made) (4 * length x.code.code) next) x.code
    → l ≡ filled hole (pos (4 * length y.code)) y
    → Grown (begun l) t (λ exits. perhaps_jumps (scope_in place made) true exits.broke
    (4 * length l.code) c)
    → r ≡ closed_by t start more x.holes
    → Grown b (record { code = r; holes = b.holes })
    (λ exits. for_items (within_in place made exits) (4 * length b.code.code) c next s)
for_loop_done place made b j y l r t x c next s start more hole ej eo es gx em ey el gt er =
    let scope = scope_in place made in
    code_grown b r (for_items (within_in place made nowhere) (4 * length b.code.code) c next s)
    (loop_done b.code j y l r t x
    (λ exits q. stmt_items (within_in place made exits) q s) (λ q. step_items scope q next)
    (λ to q. perhaps_jumps scope true to q c) start more hole ej eo es gx em ey el gt er)

pub until_loop_done : (place : Place) (made : List ℕ) (b : Draft) (j y r : Built) (x : Draft)
    (c : Expr) (s : Stmt) (top more : ℤ)
    → top ≡ pos (4 * length b.code.code) → j ≡ with_items (alone op.Nop ∷ []) b.code
    → Grown (begun j) x (λ exits. stmt_items (within_in place made exits) (4 * length j.code) s)
    → more ≡ pos (4 * length x.code.code)
    → y ≡ with_items (value_items (scope_in place made) (4 * length x.code.code) c) x.code
    → r ≡ ended_by top more x.holes y
    → Grown b (record { code = r; holes = b.holes })
    (λ exits. stmt_items (within_in place made exits) (4 * length b.code.code) (plain.DoWhile s c))
until_loop_done place made b j y r x c s top more et ej gx em ey er =
    let scope = scope_in place made in
    code_grown b r (stmt_items (within_in place made nowhere) (4 * length b.code.code)
    (plain.DoWhile s c))
    (until_done b.code j y r x (λ exits q. stmt_items (within_in place made exits) q s)
    (λ q. value_items scope q c) top more et ej gx em ey er)

-- behind a test at the end
pub until_ended : (y d z r : Built) (holes : List Hole) (top more end : ℤ)
    → end ≡ pos (4 * length y.code + 16)
    → d ≡ with_items (taking op.Jzer end ∷ []) y → z ≡ with_items (taking op.Jump top ∷ []) d
    → r ≡ all_led end more holes z → r ≡ ended_by top more holes y
until_ended y d z r holes top more end ee ed ez er =
    er
    ∙ ap (λ (b : Built). all_led end more holes b)
    (then_grow y d z (taking op.Jzer end ∷ []) (taking op.Jump top ∷ []) ed ez)
    ∙ ap (λ v. all_led v more holes (with_items (taking op.Jzer v ∷ taking op.Jump top ∷ []) y)) ee

-- A loop around a body whose jumps to exits are led when these are known.
use Rattle.std.proofs.Common.{◌≡◌, ◌+◌, ◌*◌, ◌<◌, ℕ, ℤ, pos, List, [], ◌∷◌, ◌++◌, true, length}
use Rattle.std.proofs.Common.{refl, sym, ap, ◌∙◌, arith, length-append}
use Rattle.amx_ops.specs.declared.op.Op.TheVariants as op
use Rattle.gen_sim.specs.Items.{Item, item_cells, past}
use Rattle.gen_sim.specs.SimpleCode.{alone, taking}
use Rattle.gen_sim.specs.JumpCode.{jump_to}
use Rattle.gen_sim.specs.Here.{Exits}
use Rattle.gen_expr.specs.Built.{Built, with_items}
use Rattle.gen_expr.specs.Filled.{filled}
use Rattle.gen_expr.proofs.GrowLaws.{then_grow, next_at}
use Rattle.gen_expr.proofs.JumpLaws.{jump_filled}
use Rattle.gen_expr.proofs.PartLaws.{keeps_cells}
use Rattle.gen_sim.specs.LoopCode.{body_at}
use Rattle.gen_laws.specs.ClosedCode.{closed_loop}
use Rattle.gen_stmt.specs.declared.draft.Draft.{Draft}
use Rattle.gen_stmt.specs.Led.{all_led, led}
use Rattle.gen_stmt.specs.Grown.{Grown}
use Rattle.gen_stmt.specs.Looped.{nowhere, until_tail}
use Rattle.gen_stmt.specs.Closed.{closed_by}
use Rattle.gen_stmt.proofs.LedLaws.{filled_cells, filled_before, led_cells, led_before}
use Rattle.gen_stmt.proofs.LedLaws.{led_others}
use Rattle.gen_stmt.proofs.GrownLaws.{ends_at}

-- a body whose own jumps are none yet
abbrev pub begun : Built → Draft
begun b = record { code = b; holes = [] }

-- with what stands behind it, once its exits are known
body_led : (j z : Built) (x : Draft) (body : Exits → List Item) (tail : List Item) (exits : Exits)
    → Grown (begun j) x body
    → z ≡ with_items tail x.code → all_led (pos exits.broke) (pos exits.continued) x.holes z
    ≡ with_items (body exits ++ tail) j
body_led j z x body tail exits g e =
    let here : all_led (pos exits.broke) (pos exits.continued) x.holes z
    ≡ with_items tail (led exits x) =
    ap (λ (b : Built). all_led (pos exits.broke) (pos exits.continued) x.holes b) e
    ∙ led_before (pos exits.broke) (pos exits.continued) x.holes tail x.code (g.inside tt) in
    then_grow j (led exits x) (all_led (pos exits.broke) (pos exits.continued) x.holes z)
    (body exits) tail (g.is tt exits) here

-- a jump to the condition, the body, a step, and the condition with its jumps back
pub loop_closed : (b j y l z r : Built) (x : Draft) (body : Exits → ℕ → List Item)
    (step test : ℕ → List Item) (more : ℤ) (hole : ℕ)
    → j ≡ with_items (jump_to op.Jump 0 ∷ []) b → hole + 1 ≡ length j.code
    → Grown (begun j) x (λ exits. body exits (4 * length j.code))
    → more ≡ pos (4 * length x.code.code) → y ≡ with_items (step (4 * length x.code.code)) x.code
    → l ≡ filled hole (pos (4 * length y.code)) y → z ≡ with_items (test (4 * length l.code)) l
    → r ≡ all_led (pos (4 * length z.code)) more x.holes z
    → r ≡ with_items (closed_loop (4 * length b.code) test
    (λ exits. body exits (4 * length b.code + 8)) step) b
loop_closed b j y l z r x body step test more hole ej eo gx em ey el ez er =
    let p = 4 * length b.code in
    let zero_jump : List Item = jump_to op.Jump 0 ∷ [] in
    let cells_j : length j.code ≡ length b.code + 2 =
    ap (λ (v : Built). length v.code) ej ∙ length-append b.code (item_cells zero_jump) in
    let at_j : 4 * length j.code ≡ p + 8 = omega (arith, cells_j) in
    let place : hole ≡ length b.code + 1 = omega (arith, eo, cells_j) in
    let at : (e : Exits) → 4 * length x.code.code ≡ past (p + 8) (body e (p + 8)) =
    λ e. ends_at (begun j) x (λ exits. body exits (4 * length j.code)) gx tt e
    ∙ ap (λ q. past q (body e q)) at_j in
    let at_x = at nowhere in
    let next : ℕ = past (p + 8) (body nowhere (p + 8)) in
    let then_step : List Item = step next in
    let there : y ≡ with_items then_step x.code = ey ∙ ap (λ q. with_items (step q) x.code) at_x in
    let told_at : ℕ = past next then_step in
    let at_y : 4 * length y.code ≡ told_at =
    next_at x.code y then_step there ∙ ap (λ q. past q then_step) at_x in
    let within : hole < length y.code =
    omega (arith, eo, gx.long, keeps_cells x.code y then_step there) in
    let landed : l ≡ filled hole (pos told_at) y =
    el ∙ ap (λ n. filled hole (pos n) y) at_y in
    let at_l : 4 * length l.code ≡ told_at =
    ap (λ (v : Built). 4 * length v.code) el
    ∙ ap (λ n. 4 * n) (filled_cells hole (pos (4 * length y.code)) y) ∙ at_y in
    let told : List Item = test told_at in
    let z_is : z ≡ with_items told l = ez ∙ ap (λ q. with_items (test q) l) at_l in
    let tail : List Item = then_step ++ told in
    let all : Built = with_items tail x.code in
    let z_filled : z ≡ filled hole (pos told_at) all =
    z_is ∙ ap (λ (v : Built). with_items told v) landed
    ∙ sym (filled_before hole (pos told_at) told y within)
    ∙ ap (λ (v : Built). filled hole (pos told_at) v)
    (then_grow x.code y (with_items told y) then_step told there refl) in
    let last : ℕ = past told_at told in
    let at_z : 4 * length z.code ≡ last =
    next_at l z told z_is ∙ ap (λ q. past q told) at_l in
    let exits : Exits = record { looped = true; broke = last; continued = next } in
    let inner : List Item = body exits (p + 8) ++ tail in
    let led_is : all_led (pos last) (pos next) x.holes all
    ≡ with_items (body exits (4 * length j.code) ++ tail) j =
    body_led j all x (λ exits. body exits (4 * length j.code)) tail exits gx refl in
    let whole : with_items (body exits (4 * length j.code) ++ tail) j
    ≡ with_items (jump_to op.Jump 0 ∷ inner) b =
    then_grow b j (with_items (body exits (4 * length j.code) ++ tail) j) zero_jump
    (body exits (4 * length j.code) ++ tail) ej refl
    ∙ ap (λ q. with_items (jump_to op.Jump 0 ∷ (body exits q ++ tail)) b) at_j in
    er ∙ ap (λ v. all_led v more x.holes z) (ap pos at_z)
    ∙ ap (λ v. all_led (pos last) v x.holes z) (em ∙ ap pos at_x)
    ∙ ap (λ (v : Built). all_led (pos last) (pos next) x.holes v) z_filled
    ∙ led_others (pos last) (pos next) x.holes hole (pos told_at) all
    (gx.free hole (omega (arith, eo)) tt)
    ∙ ap (λ (v : Built). filled hole (pos told_at) v) (led_is ∙ whole)
    ∙ ap (λ n. filled n (pos told_at) (with_items (jump_to op.Jump 0 ∷ inner) b)) place
    ∙ jump_filled b (with_items (jump_to op.Jump 0 ∷ inner) b) inner (pos told_at) refl
    ∙ ap (λ q. with_items (jump_to op.Jump (past q then_step) ∷ inner) b) (sym at_x ∙ at exits)

-- whose jumps lead back to the body
pub loop_done : (b j y l r : Built) (t x : Draft) (body : Exits → ℕ → List Item)
    (step : ℕ → List Item) (test : ℕ → ℕ → List Item) (start more : ℤ) (hole : ℕ)
    → j ≡ with_items (jump_to op.Jump 0 ∷ []) b → hole + 1 ≡ length j.code
    → start ≡ pos (4 * length j.code)
    → Grown (begun j) x (λ exits. body exits (4 * length j.code))
    → more ≡ pos (4 * length x.code.code) → y ≡ with_items (step (4 * length x.code.code)) x.code
    → l ≡ filled hole (pos (4 * length y.code)) y
    → Grown (begun l) t (λ exits. test exits.broke (4 * length l.code))
    → r ≡ closed_by t start more x.holes
    → r ≡ with_items (closed_loop (4 * length b.code) (λ q. test (body_at (4 * length b.code)) q)
    (λ exits. body exits (4 * length b.code + 8)) step) b
loop_done b j y l r t x body step test start more hole ej eo es gx em ey el gt er =
    let p = 4 * length b.code in
    let at_j : 4 * length j.code ≡ body_at p = next_at b j (jump_to op.Jump 0 ∷ []) ej in
    let z : Built = all_led start (pos 0) t.holes t.code in
    let to : Exits = record { looped = true; broke = 4 * length j.code; continued = 0 } in
    let ez : z ≡ with_items (test (body_at p) (4 * length l.code)) l =
    ap (λ v. all_led v (pos 0) t.holes t.code) es ∙ gt.is tt to
    ∙ ap (λ q. with_items (test q (4 * length l.code)) l) at_j in
    loop_closed b j y l z r x body step (λ q. test (body_at p) q) more hole ej eo gx em ey el ez
    (er ∙ ap (λ n. all_led (pos (4 * n)) more x.holes z)
    (sym (led_cells start (pos 0) t.holes t.code)))

-- a body, a test, and the jumps behind it
pub until_closed : (b j y d z r : Built) (x : Draft) (body : Exits → ℕ → List Item)
    (test : ℕ → List Item) (top more end : ℤ)
    → top ≡ pos (4 * length b.code) → j ≡ with_items (alone op.Nop ∷ []) b
    → Grown (begun j) x (λ exits. body exits (4 * length j.code))
    → more ≡ pos (4 * length x.code.code) → y ≡ with_items (test (4 * length x.code.code)) x.code
    → end ≡ pos (4 * length y.code + 16) → d ≡ with_items (taking op.Jzer end ∷ []) y
    → z ≡ with_items (taking op.Jump top ∷ []) d
    → r ≡ all_led end more x.holes z
    → r ≡ with_items (until_tail (4 * length b.code) body test) b
until_closed b j y d z r x body test top more end et ej gx em ey ee ed ez er =
    let p = 4 * length b.code in
    let at_j : 4 * length j.code ≡ p + 4 = next_at b j (alone op.Nop ∷ []) ej in
    let at : (e : Exits) → 4 * length x.code.code ≡ past (p + 4) (body e (p + 4)) =
    λ e. ends_at (begun j) x (λ exits. body exits (4 * length j.code)) gx tt e
    ∙ ap (λ q. past q (body e q)) at_j in
    let at_x = at nowhere in
    let next : ℕ = past (p + 4) (body nowhere (p + 4)) in
    let tested : List Item = test next in
    let there : y ≡ with_items tested x.code = ey ∙ ap (λ q. with_items (test q) x.code) at_x in
    let at_y : 4 * length y.code ≡ past next tested =
    next_at x.code y tested there ∙ ap (λ q. past q tested) at_x in
    let last : ℕ = past next tested + 8 + 8 in
    let end_is : end ≡ pos last = ee ∙ ap pos (omega (arith, at_y)) in
    let jumps : List Item = taking op.Jzer end ∷ taking op.Jump top ∷ [] in
    let all : z ≡ with_items (tested ++ jumps) x.code =
    then_grow x.code y z tested jumps there
    (then_grow y d z (taking op.Jzer end ∷ []) (taking op.Jump top ∷ []) ed ez) in
    let exits : Exits = record { looped = true; broke = last; continued = next } in
    let led_is : r ≡ with_items (body exits (4 * length j.code) ++ (tested ++ jumps)) j =
    er ∙ ap (λ v. all_led v more x.holes z) end_is
    ∙ ap (λ v. all_led (pos last) v x.holes z) (em ∙ ap pos at_x)
    ∙ body_led j z x (λ exits. body exits (4 * length j.code)) (tested ++ jumps) exits gx all in
    then_grow b j r (alone op.Nop ∷ []) (body exits (4 * length j.code) ++ (tested ++ jumps))
    ej led_is
    ∙ ap (λ q. with_items (alone op.Nop ∷ (body exits q ++ (tested ++ jumps))) b) at_j
    ∙ ap (λ v. with_items (alone op.Nop
    ∷ (body exits (p + 4) ++ (tested ++ (taking op.Jzer v ∷ taking op.Jump top ∷ [])))) b)
    end_is
    ∙ ap (λ v. with_items (alone op.Nop
    ∷ (body exits (p + 4) ++ (tested ++ (jump_to op.Jzer last ∷ taking op.Jump v ∷ [])))) b) et
    ∙ ap (λ q. with_items (alone op.Nop
    ∷ (body exits (p + 4) ++ (tested
    ++ (jump_to op.Jzer (past q tested + 8 + 8) ∷ jump_to op.Jump p ∷ [])))) b)
    (sym at_x ∙ at exits)

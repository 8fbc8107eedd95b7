-- Conditions with jumps that lead nowhere yet, and what stands behind them once these are led.
use Rattle.std.proofs.Common.{◌≡◌, ◌+◌, ◌*◌, ◌<◌, ◌≤◌, ℕ, ℤ, pos, List, [], ◌∷◌, ◌++◌, Bool, true}
use Rattle.std.proofs.Common.{false, nat_lt, length, refl, sym, ap, subst, ◌∙◌, arith, append_assoc}
use Rattle.std.proofs.Common.{append-nil}
use Rattle.std.proofs.Common.{Result, Ok, Err, IfOk, not as no}
use Rattle.std.proofs.lemmas.Bool.{ltb-true, ltb-false}
use Rattle.pawn_meaning.specs.Program.{Expr}
use Rattle.pawn_meaning.specs.Scope.{Scope}
use Rattle.amx_ops.specs.declared.op.Op.TheVariants as op
use Rattle.gen_sim.specs.Items.{Item, past}
use Rattle.gen_sim.proofs.ItemLaws.{past-append}
use Rattle.gen_sim.specs.JumpCode.{jump_to}
use Rattle.gen_sim.specs.TestCode.{Test, test_op}
use Rattle.gen_sim.specs.Branch.{test_where, aim}
use Rattle.gen_sim.specs.Here.{Exits}
use Rattle.gen_sim.specs.FlowCode.{else_at, if_code}
use Rattle.gen_laws.specs.ConditionCode.{test_of, test_items}
use Rattle.gen_laws.specs.BranchItems.{single_items, joint_items, jump_items}
use Rattle.gen_laws.specs.ClosedCode.{closed_if, closed_only}
use Rattle.gen_laws.proofs.BranchForms.{jump_ends}
use Rattle.gen_expr.specs.Built.{Built, with_items}
use Rattle.gen_expr.specs.Filled.{filled}
use Rattle.gen_expr.proofs.GrowLaws.{both_grow, none_grow}
use Rattle.gen_stmt.specs.declared.draft.Draft.{Draft}
use Rattle.gen_stmt.specs.declared.draft.Exit.TheVariants as exit
use Rattle.gen_stmt.specs.declared.draft.Hole.{Hole}
use Rattle.gen_stmt.specs.Led.{all_led, AreIn, AreOthers, led}
use Rattle.gen_stmt.specs.Grown.{IsDraft, Grown}
use Rattle.gen_stmt.specs.Ended.{AreFrom, AreApart, Ended}
use Rattle.gen_stmt.specs.Firsts.{first_code}
use Rattle.gen_stmt.specs.Looped.{nowhere}
use Rattle.gen_stmt.proofs.LedLaws.{led_cells, led_before, in_more, others_before}
use Rattle.gen_stmt.proofs.GrownLaws.{code_grown, grown_as, then_grown, part_grown}
use Rattle.gen_stmt.proofs.GrownLaws.{ends_at}
use Rattle.gen_stmt.proofs.EndedLaws.{led_swap, grown_apart, one_ended}
use Rattle.gen_stmt.proofs.LoopLaws.{begun}

-- ---- one that is told by a test

pub told_grown : {E : Type 0} (scope : Scope) (when : Bool) (e : Expr) (b : Draft) (m : Built)
    (t u : Test) (r : Result Draft E)
    → m ≡ with_items (test_items scope (4 * length b.code.code) e) b.code → t ≡ test_of scope e
    → u ≡ test_where when t
    → IfOk r (λ x. Grown (record { code = m; holes = b.holes }) x
    (λ exits. jump_to (test_op u) exits.broke ∷ []))
    → IfOk r (λ x. Grown b x
    (λ exits. single_items scope when exits.broke (4 * length b.code.code) e))
told_grown scope when e b m t u (Ok x) em et eu g =
    let items = test_items scope (4 * length b.code.code) e in
    let d : Draft = record { code = m; holes = b.holes } in
    grown_as b x (λ exits. items ++ jump_to (test_op u) exits.broke ∷ [])
    (λ exits. single_items scope when exits.broke (4 * length b.code.code) e)
    (λ h exits. ap (λ z. items ++ jump_to (test_op z) exits.broke ∷ [])
    (eu ∙ ap (λ z. test_where when z) et))
    (then_grown b d x (λ exits. items) (λ exits. jump_to (test_op u) exits.broke ∷ [])
    (code_grown b m items em) g)
told_grown scope when e b m t u (Err fault) em et eu g = g

-- ---- two operands that jump alike

aim_same : (when : Bool) (to end : ℕ) → aim when when to end ≡ to
aim_same true to end = refl
aim_same false to end = refl

pub both_grown : {E : Type 0} (scope : Scope) (when : Bool) (x y : Expr) (b m : Draft)
    (r : Result Draft E)
    → Grown b m (λ exits. jump_items scope when exits.broke (4 * length b.code.code) x)
    → IfOk r (λ z. Grown m z
    (λ exits. jump_items scope when exits.broke (4 * length m.code.code) y))
    → IfOk r (λ z. Grown b z (λ exits. joint_items when when exits.broke (4 * length b.code.code)
    (λ t q. jump_items scope when t q x) (λ t q. jump_items scope when t q y)))
both_grown scope when x y b m (Ok z) f g =
    let begin = 4 * length b.code.code in
    let left : ℕ → List Item = λ t. jump_items scope when t begin x in
    let right : ℕ → ℕ → List Item = λ t q. jump_items scope when t q y in
    let p = past begin (left 0) in
    grown_as b z (λ exits. left exits.broke ++ right exits.broke (past begin (left exits.broke)))
    (λ exits. joint_items when when exits.broke begin (λ t q. jump_items scope when t q x) right)
    (λ h exits. let to = exits.broke in
    ap (λ q. left to ++ right to q) (jump_ends scope x when begin to 0)
    ∙ ap (λ t. left t ++ right to p) (sym (aim_same when to (past p (right to p)))))
    (part_grown b m z (λ exits. left exits.broke) (λ exits q. right exits.broke q) f g)
both_grown scope when x y b m (Err fault) f g = g

-- ---- jumps of a draft of their own

from_free : (n : ℕ) (ends : List Hole) → ((at : ℕ) → at < n → AreOthers at ends) → AreFrom n ends
from_free n [] free = tt
from_free n (end ∷ ends) free =
    (by (nat_lt end.at n) refl, from_free n ends (λ at lt. (free at lt).1))
  where
    by : (b : Bool) → nat_lt end.at n ≡ b → n ≤ end.at
    by true e = absurd ((free end.at (ltb-true end.at n e)).0 refl)
    by false e = ltb-false end.at n e

apart_from : (n : ℕ) (ends holes : List Hole) → AreFrom n ends → AreIn n holes
    → AreApart ends holes
apart_from n [] holes from all = tt
apart_from n (end ∷ ends) holes from all =
    (others_before n end.at holes from.0 all, apart_from n ends holes from.1 all)

pub own_ended : (o l : Draft) (items : ℕ → List Item)
    → Grown (begun o.code) l (λ exits. items exits.broke)
    → Ended o (record { code = l.code; holes = o.holes }) l.holes (λ end exits. items end)
own_ended o l items g =
    let from : AreFrom (length o.code.code) l.holes =
    from_free (length o.code.code) l.holes (λ at lt. g.free at lt tt) in
    record {
      long = g.long;
      inside = λ h. in_more (length o.code.code) (length l.code.code) o.holes g.long h;
      is = λ h end exits.
          let broke = pos exits.broke in
          let continued = pos exits.continued in
          let to : Exits = record { looped = true; broke = end; continued = 0 } in
          sym (led_swap broke continued (pos end) (pos 0) l.holes o.holes l.code
          (apart_from (length o.code.code) l.holes o.holes from h))
          ∙ ap (λ (z : Built). all_led broke continued o.holes z) (g.is tt to)
          ∙ led_before broke continued o.holes (items end) o.code h;
      free = λ at within others. others;
      ends_from = from;
      ends_in = g.inside tt;
      ends_apart = λ h. apart_from (length o.code.code) l.holes o.holes from h;
    }

pub own_ended_ok : {E : Type 0} (o : Draft) (r : Result Draft E) (items : ℕ → List Item)
    → IfOk r (λ l. Grown (begun o.code) l (λ exits. items exits.broke))
    → IfOk r (λ l. Ended o (record { code = l.code; holes = o.holes }) l.holes
    (λ end exits. items end))
own_ended_ok o (Ok l) items g = own_ended o l items g
own_ended_ok o (Err fault) items g = g

-- ---- what stands behind them, once they are led

pub ends_closed : (o m x r : Draft) (ends : List Hole) (first : ℕ → Exits → List Item)
    (rest : Exits → List Item) (v : ℕ) → Ended o m ends first → Grown m x rest
    → r ≡ record { code = all_led (pos v) (pos 0) ends x.code; holes = x.holes }
    → Grown o r (λ exits. first v exits ++ rest exits)
ends_closed o m x r ends first rest v f g er =
    let cells : length r.code.code ≡ length x.code.code =
    ap (λ (z : Draft). length z.code.code) er ∙ led_cells (pos v) (pos 0) ends x.code in
    let same : r.holes ≡ x.holes = ap (λ (z : Draft). z.holes) er in
    record {
      long = omega (arith, f.long, g.long, cells);
      inside = λ h. subst (λ n. AreIn n r.holes) (sym cells)
          (subst (λ l. AreIn (length x.code.code) l) (sym same) (g.inside (f.inside h)));
      is = λ h exits.
          let broke = pos exits.broke in
          let continued = pos exits.continued in
          let lx : Built = led exits x in
          let lm : Built = led exits m in
          let in_m : AreIn (length lm.code) ends =
          subst (λ n. AreIn n ends) (sym (led_cells broke continued m.holes m.code)) f.ends_in in
          ap (λ (z : Draft). led exits z) er
          ∙ led_swap broke continued (pos v) (pos 0) ends x.holes x.code
          (grown_apart m x ends rest g f.ends_in (f.ends_apart h))
          ∙ ap (λ (z : Built). all_led (pos v) (pos 0) ends z) (g.is (f.inside h) exits)
          ∙ led_before (pos v) (pos 0) ends (rest exits) lm in_m
          ∙ ap (λ (z : Built). with_items (rest exits) z) (f.is h v exits)
          ∙ both_grow (first v exits) (rest exits) (led exits o);
      free = λ at within others. subst (λ l. AreOthers at l) (sym same)
          (g.free at (omega (arith, within, f.long)) (f.free at within others));
    }

-- where the jumps of a condition's own draft begin to be behind it
ended_at : (o m : Draft) (ends : List Hole) (items : ℕ → Exits → List Item) → Ended o m ends items
    → IsDraft o → (end : ℕ) (exits : Exits)
    → 4 * length m.code.code ≡ past (4 * length o.code.code) (items end exits)
ended_at o m ends items f h end exits =
    let z : Draft = record { code = all_led (pos end) (pos 0) ends m.code; holes = m.holes } in
    let g : Grown o z (λ e. items end e ++ []) =
    ends_closed o m m z ends items (λ e. []) end f (code_grown m m.code [] (none_grow m.code))
    refl in
    let same : length z.code.code ≡ length m.code.code =
    led_cells (pos end) (pos 0) ends m.code in
    omega (arith, same, ends_at o z (λ e. items end e ++ []) g h exits)
    ∙ ap (λ l. past (4 * length o.code.code) l) (append-nil (items end exits))

-- a condition whose jumps lead so many bytes behind a part
module _ (o m x r : Draft) (ends : List Hole) (condition : ℕ → List Item)
    (same : (i j : ℕ) → past (4 * length o.code.code) (condition i)
    ≡ past (4 * length o.code.code) (condition j))
    (part : Exits → ℕ → List Item) (bytes : ℕ) (f : Ended o m ends (λ end exits. condition end))
    (g : Grown m x (λ exits. part exits (4 * length m.code.code)))
    (er : r ≡ record {
      code = all_led (pos (4 * length x.code.code + bytes)) (pos 0) ends x.code;
      holes = x.holes;
    }) where
  pub front_closed : Grown o r (λ exits. let p = past (4 * length o.code.code) (condition 0) in
      condition (past p (part exits p) + bytes) ++ part exits p)
  front_closed =
      let p = past (4 * length o.code.code) (condition 0) in
      grown_as o r
      (λ exits. condition (4 * length x.code.code + bytes) ++ part exits (4 * length m.code.code))
      (λ exits. condition (past p (part exits p) + bytes) ++ part exits p)
      (λ h exits.
      let at_m : 4 * length m.code.code ≡ p =
      ended_at o m ends (λ end e. condition end) f h 0 exits in
      let at_x : 4 * length x.code.code ≡ past p (part exits p) =
      ends_at m x (λ e. part e (4 * length m.code.code)) g (f.inside h) exits
      ∙ ap (λ q. past q (part exits q)) at_m in
      ap (λ q. condition (4 * length x.code.code + bytes) ++ part exits q) at_m
      ∙ ap (λ q. condition (q + bytes) ++ part exits p) at_x)
      (ends_closed o m x r ends (λ end exits. condition end)
      (λ exits. part exits (4 * length m.code.code)) (4 * length x.code.code + bytes) f g er)

zero_more : (n : ℕ) → n + 0 ≡ n
zero_more n = omega arith

-- ---- two operands of which the left one jumps behind the right one

aim_other : (when : Bool) (to end : ℕ) → aim (no when) when to end ≡ end
aim_other true to end = refl
aim_other false to end = refl

pub past_grown : {E : Type 0} (scope : Scope) (when : Bool) (x y : Expr) (b m z : Draft)
    (ends : List Hole) (r : Result Draft E)
    → Ended b m ends (λ to exits. jump_items scope (no when) to (4 * length b.code.code) x)
    → Grown m z (λ exits. jump_items scope when exits.broke (4 * length m.code.code) y)
    → IfOk r (λ d. d ≡ record {
      code = all_led (pos (4 * length z.code.code + 0)) (pos 0) ends z.code;
      holes = z.holes;
    })
    → IfOk r (λ d. Grown b d (λ exits. joint_items (no when) when exits.broke
    (4 * length b.code.code) (λ t q. jump_items scope (no when) t q x)
    (λ t q. jump_items scope when t q y)))
past_grown scope when x y b m z ends (Ok d) f g er =
    let begin = 4 * length b.code.code in
    let left : ℕ → List Item = λ t. jump_items scope (no when) t begin x in
    let right : ℕ → ℕ → List Item = λ t q. jump_items scope when t q y in
    let p = past begin (left 0) in
    grown_as b d (λ exits. left (past p (right exits.broke p) + 0) ++ right exits.broke p)
    (λ exits. joint_items (no when) when exits.broke begin
    (λ t q. jump_items scope (no when) t q x) right)
    (λ h exits. let to = exits.broke in let end = past p (right to p) in
    ap (λ t. left t ++ right to p)
    (zero_more end ∙ sym (aim_other when to end)))
    (front_closed b m z d ends left (λ i j. jump_ends scope x (no when) begin i j)
    (λ exits q. right exits.broke q) 0 f g er)
past_grown scope when x y b m z ends (Err fault) f g er = er

-- ---- `if`

pub only_done : {E : Type 0} (scope : Scope) (c : Expr) (b m x : Draft) (ends : List Hole)
    (first : Exits → ℕ → List Item) (r : Result Draft E)
    → Ended b m ends (λ to exits. jump_items scope false to (4 * length b.code.code) c)
    → Grown m x (λ exits. first exits (4 * length m.code.code))
    → IfOk r (λ d. d ≡ record {
      code = all_led (pos (4 * length x.code.code + 0)) (pos 0) ends x.code;
      holes = x.holes;
    })
    → IfOk r (λ d. Grown b d (λ exits. closed_only (4 * length b.code.code)
    (λ to. jump_items scope false to (4 * length b.code.code) c) (first exits)))
only_done scope c b m x ends first (Ok d) f g er =
    let begin = 4 * length b.code.code in
    let condition : ℕ → List Item = λ to. jump_items scope false to begin c in
    let p = past begin (condition 0) in
    grown_as b d (λ exits. condition (past p (first exits p) + 0) ++ first exits p)
    (λ exits. closed_only begin condition (first exits))
    (λ h exits. ap (λ t. condition t ++ first exits p) (zero_more (past p (first exits p))))
    (front_closed b m x d ends condition (λ i j. jump_ends scope c false begin i j) first 0 f g er)
only_done scope c b m x ends first (Err fault) f g er = er

-- the first of two parts, with the jump over the second one
pub first_done : (scope : Scope) (c : Expr) (b m x y j : Draft) (ends : List Hole) (at : ℕ)
    (first : Exits → ℕ → List Item)
    → Ended b m ends (λ to exits. jump_items scope false to (4 * length b.code.code) c)
    → Grown m x (λ exits. first exits (4 * length m.code.code))
    → y ≡ record {
      code = all_led (pos (4 * length x.code.code + 8)) (pos 0) ends x.code;
      holes = x.holes;
    }
    → j ≡ record { code = with_items (jump_to op.Jump 0 ∷ []) y.code; holes = y.holes }
    → at + 1 ≡ length j.code.code
    → Ended b j (record { at = at; exit = exit.Break } ∷ [])
    (λ end exits. first_code (4 * length b.code.code) end
    (λ to. jump_items scope false to (4 * length b.code.code) c) (first exits))
first_done scope c b m x y j ends at first f g ey ej ea =
    let begin = 4 * length b.code.code in
    let condition : ℕ → List Item = λ to. jump_items scope false to begin c in
    let p = past begin (condition 0) in
    one_ended b y j at (λ exits. condition (else_at p (first exits p)) ++ first exits p)
    (front_closed b m x y ends condition (λ i k. jump_ends scope c false begin i k) first 8 f g ey)
    ej ea

-- and the second one
pub if_done : {E : Type 0} (scope : Scope) (c : Expr) (b j y : Draft) (at : ℕ)
    (first second : Exits → ℕ → List Item) (r : Result Draft E)
    → Ended b j (record { at = at; exit = exit.Break } ∷ [])
    (λ end exits. first_code (4 * length b.code.code) end
    (λ to. jump_items scope false to (4 * length b.code.code) c) (first exits))
    → Grown j y (λ exits. second exits (4 * length j.code.code))
    → IfOk r (λ d. d ≡ record {
      code = filled at (pos (4 * length y.code.code)) y.code;
      holes = y.holes;
    })
    → IfOk r (λ d. Grown b d (λ exits. closed_if (4 * length b.code.code)
    (λ to. jump_items scope false to (4 * length b.code.code) c) (first exits) (second exits)))
if_done scope c b j y at first second (Ok d) f g er =
    let begin = 4 * length b.code.code in
    let condition : ℕ → List Item = λ to. jump_items scope false to begin c in
    let p = past begin (condition 0) in
    let v = 4 * length y.code.code in
    let ends : List Hole = record { at = at; exit = exit.Break } ∷ [] in
    let front : ℕ → Exits → List Item = λ end exits. first_code begin end condition (first exits) in
    grown_as b d (λ exits. front v exits ++ second exits (4 * length j.code.code))
    (λ exits. closed_if begin condition (first exits) (second exits))
    (λ h exits.
    let one = first exits p in
    let other = else_at p one in
    let test = condition other in
    let over : ℕ → List Item = λ to. jump_to op.Jump to ∷ [] in
    let same : past begin test ≡ p = jump_ends scope c false begin other 0 in
    let at_j : 4 * length j.code.code ≡ other =
    ended_at b j ends front f h 0 exits
    ∙ past-append begin (test ++ one) (over 0)
    ∙ ap (λ q. q + 8) (past-append begin test one ∙ ap (λ q. past q one) same) in
    let at_y : v ≡ past other (second exits other) =
    ends_at j y (λ e. second e (4 * length j.code.code)) g (f.inside h) exits
    ∙ ap (λ q. past q (second exits q)) at_j in
    ap (λ q. ((test ++ one) ++ over v) ++ second exits q) at_j
    ∙ ap (λ q. ((test ++ one) ++ over q) ++ second exits other)
    (at_y ∙ ap (λ q. past (else_at q one) (second exits other)) (sym same))
    ∙ whole test one (second exits other)
    (past (else_at (past begin test) one) (second exits other)))
    (ends_closed b j y d ends front (λ exits. second exits (4 * length j.code.code)) v f g er)
  where
    whole : (test one two : List Item) (to : ℕ)
        → ((test ++ one) ++ jump_to op.Jump to ∷ []) ++ two
        ≡ test ++ (one ++ (jump_to op.Jump to ∷ two))
    whole test one two to =
        append_assoc (test ++ one) (jump_to op.Jump to ∷ []) two
        ∙ append_assoc test one (jump_to op.Jump to ∷ two)
if_done scope c b j y at first second (Err fault) f g er = er

-- `?:`, `&&` and `||`: a condition, then one of two.
use Rattle.std.proofs.Common.{◌≡◌, ◌+◌, ◌^◌, ◌<◌, ◌≤◌, ℕ, zero, suc, ℤ, pos, negsuc, List, [], ◌∷◌}
use Rattle.std.proofs.Common.{◌++◌, Bool, true, false, length, refl, sym, ap, subst, ◌∙◌, arith}
use Rattle.pawn_cells.specs.Cells.{IsCell, is_zero, truth}
use Rattle.pawn_cells.specs.Cells as cells
use Rattle.pawn_cells.specs.Operators.{is_true, logical}
use Rattle.pawn_cells.specs.declared.operator.Logical.TheVariants as logic
use Rattle.pawn_meaning.specs.Program.{Expr, Cond, And, Or}
use Rattle.pawn_meaning.specs.Scope.{Scope}
use Rattle.pawn_meaning.specs.World.{World}
use Rattle.pawn_meaning.specs.Run.{Run, ◌>>=◌, give, choose, at_zero}
use Rattle.pawn_meaning.specs.Later.{Grows}
use Rattle.pawn_meaning.specs.Meaning.{value}
use Rattle.pawn_meaning.proofs.Grows.{after_grows, give_grows, same_later}
use Rattle.amx_ops.specs.declared.op.Op.TheVariants as op
use Rattle.amx_ops.specs.Moves.{Config, move}
use Rattle.pawn_cells.proofs.CellLaws.{truth_cell, small_cell}
use Rattle.gen_sim.proofs.ConstantNodes.{const_does}
use Rattle.gen_sim.proofs.Sim.{after_it, size_is}
use Rattle.gen_sim.specs.View.{View}
use Rattle.gen_sim.specs.Stands.{Stands, With}
use Rattle.gen_sim.specs.Site.{Site, DoesAt, scene_at}
use Rattle.gen_sim.specs.Items.{Item, item_cells, past, with}
use Rattle.gen_sim.specs.Code.{with_turns}
use Rattle.gen_sim.specs.Contract.{ValueCode}
use Rattle.gen_sim.proofs.ItemLaws.{past-append, count-append}
use Rattle.gen_sim.proofs.StepLaws.{given}
use Rattle.gen_sim.specs.Lies.{Lies}
use Rattle.gen_sim.specs.SimpleCode.{alone, const_code}
use Rattle.gen_sim.specs.JumpCode.{jump_to, other_at, end_at, choice_code, cond_code, truth_code}
use Rattle.gen_sim.specs.JumpCode.{and_code, or_code}
use Rattle.gen_sim.proofs.ItemSteps.{first_lies, rest_lies, next_lies, item_sets}
use Rattle.gen_sim.proofs.NodesPartLaws.{nodes_of, then_items}
use Rattle.gen_sim.proofs.JumpSteps.{past_small, jump_does, zero_jumps, zero_passes}

pub choose_grows : {A : Type 0} (b : Bool) (first second : Run A) → Grows first → Grows second
    → Grows (choose b first second)
choose_grows true first second h g = h
choose_grows false first second h g = g

-- ---- one of two, by the value in PRI

-- a part does its run and comes to its end, where something is known of the value in PRI
abbrev pub PartDoes : Site → View → List ℤ → ℕ → List Item → Run ℤ → ℕ → Type 0 → Type 0
PartDoes x v pending p part run end Is =
    Is → Lies x p part → (n : World) (k : Config) → Stands x.program x.room v pending p n k
    → DoesAt x (length (item_cells part)) n k (run n) (With x.program x.room v pending end)

behind_jzer : (x : Site) (p : ℕ) (first second : List Item) → Lies x p (choice_code p first second)
    → Lies x (p + 8) (first ++ (jump_to op.Jump (end_at p first second) ∷ second))
behind_jzer x p first second l =
    next_lies x p (jump_to op.Jzer (other_at p first))
    (first ++ (jump_to op.Jump (end_at p first second) ∷ second)) l

module _ (x : Site) {v : View} {pending : List ℤ} (p : ℕ) (first second : List Item)
    (one two : Run ℤ) where
  branches : (y : ℤ) (u : World) (t : Config) → With x.program x.room v pending p y u t
      → p + 8 < 2 ^ 31 → Lies x p (choice_code p first second)
      → PartDoes x v pending (p + 8) first one (past (p + 8) first) (is_zero y ≡ false)
      → PartDoes x v pending (other_at p first) second two (end_at p first second)
      (is_zero y ≡ true)
      → (b : Bool) → is_zero y ≡ b
      → DoesAt x (length (item_cells (choice_code p first second))) u t (choose b two one u)
      (With x.program x.room v pending (end_at p first second))
  branches y u t a low l hone htwo true z =
      let jump = jump_to op.Jump (end_at p first second) in
      let l1 = behind_jzer x p first second l in
      let l2 = rest_lies x (p + 8) first (jump ∷ second) l1 in
      let few : length (item_cells second) ≤ length (item_cells (first ++ (jump ∷ second))) =
      omega (arith, count-append first (jump ∷ second)) in
      zero_jumps x a.stands (other_at p first) (length (item_cells second)) l2.lie.2
      (ap is_zero a.value ∙ z) few l
      (λ k s e. htwo z (next_lies x (past (p + 8) first) jump second l2) u k s)
  branches y u t a low l hone htwo false z =
      let jump = jump_to op.Jump (end_at p first second) in
      let l1 = behind_jzer x p first second l in
      let l2 = rest_lies x (p + 8) first (jump ∷ second) l1 in
      let l3 = next_lies x (past (p + 8) first) jump second l2 in
      zero_passes x a.stands (other_at p first) (ap is_zero a.value ∙ z) l
      (λ k s e. size_is (move x.amx x.script) (length x.amx.code) x.room
      (sym (count-append first (jump_to op.Jump (end_at p first second) ∷ second)))
      (after_it (move x.amx x.script) (length x.amx.code) x.room (one u)
      (With x.program x.room v pending (past (p + 8) first))
      (hone z (first_lies x (p + 8) first (jump_to op.Jump (end_at p first second) ∷ second) l1) u k
      s)
      (λ i n h m. jump_does x m.stands (end_at p first second) 0
      (past_small x (other_at p first) second l3.lie l2.lie.2) (omega arith) l2
      (λ g b q. given x b (record { stands = b; value = q ∙ m.value; fits = m.fits })))))

  pub choice_does : (y : ℤ) (u : World) (t : Config) → With x.program x.room v pending p y u t
      → Lies x p (choice_code p first second)
      → PartDoes x v pending (p + 8) first one (past (p + 8) first) (is_zero y ≡ false)
      → PartDoes x v pending (other_at p first) second two (end_at p first second)
      (is_zero y ≡ true)
      → DoesAt x (length (item_cells (choice_code p first second))) u t (at_zero y two one u)
      (With x.program x.room v pending (past p (choice_code p first second)))
  choice_does y u t a l hone htwo =
      let ends : end_at p first second ≡ past p (choice_code p first second) =
      sym (past-append (p + 8) first (jump_to op.Jump (end_at p first second) ∷ second)) in
      subst (λ q. DoesAt x (length (item_cells (choice_code p first second))) u t
      (at_zero y two one u) (With x.program x.room v pending q)) ends
      (branches y u t a l.lie.2 l hone htwo (is_zero y) refl)

-- ---- 1 or 0

module _ (x : Site) {v : View} {pending : List ℤ} (p : ℕ) where
  truth_does : (y : ℤ) (n : World) (k : Config) → With x.program x.room v pending p y n k
      → Lies x p truth_code
      → DoesAt x (length (item_cells truth_code)) n k (give (cells.not (cells.not y)) n)
      (With x.program x.room v pending (past p truth_code))
  truth_does y n k a l =
      item_sets x (with op.Not (pos 0)) a.stands l (cells.not k.state.pri) k.state.alt refl
      (λ t b e f. item_sets x (with op.Not (pos 0)) b
      (next_lies x p (alone op.Not) (alone op.Not ∷ []) l)
      (cells.not t.state.pri) t.state.alt refl
      (λ s h m g. given x h (record {
        stands = h;
        value = m
            ∙ ap cells.not (e ∙ ap cells.not a.value);
        fits = truth_cell _;
      })))

pub twice : (z : ℤ) → cells.not (cells.not z) ≡ truth (is_true z)
twice (pos zero) = refl
twice (pos (suc n)) = refl
twice (negsuc n) = refl

pub and_value : (y z : ℤ) → is_zero y ≡ false → cells.not (cells.not z) ≡ logical logic.And y z
and_value y z e = twice z ∙ rw e refl

pub or_value : (y z : ℤ) → is_zero y ≡ true → cells.not (cells.not z) ≡ logical logic.Or y z
or_value y z e = twice z ∙ rw e refl

-- a right operand's truth
module _ (x : Site) {v : View} {pending : List ℤ} (p : ℕ) (right : List Item) (run : Run ℤ)
    (result : ℤ → ℤ) where
  right_does : ((z : ℤ) → cells.not (cells.not z) ≡ result z) → Lies x p (right ++ truth_code)
      → (Lies x p right → (n : World) (k : Config) → Stands x.program x.room v pending p n k
      → DoesAt x (length (item_cells right)) n k (run n)
      (With x.program x.room v pending (past p right)))
      → (n : World) (k : Config) → Stands x.program x.room v pending p n k
      → DoesAt x (length (item_cells (right ++ truth_code))) n k
      ((run >>= (λ z. give (result z))) n)
      (With x.program x.room v pending (past p (right ++ truth_code)))
  right_does same l part n k s =
      then_items x p right truth_code (With x.program x.room v pending (past p right))
      (With x.program x.room v pending) n l (run n) (λ z. give (result z))
      (λ z u. same_later u) (λ j. part j n k s)
      (λ j z u t a. subst (λ y. DoesAt x (length (item_cells truth_code)) u t (give y u)
      (With x.program x.room v pending (past (past p right) truth_code))) (same z)
      (truth_does x (past p right) z u t a j))

-- ---- nodes

module _ (scope : Scope) (begin : ℕ) where
  pub cond_does : (c a b : Expr) (condition first second : List Item)
      → ValueCode scope c begin condition → ValueCode scope a (past begin condition + 8) first
      → ValueCode scope b (other_at (past begin condition) first) second
      → ValueCode scope (Cond c a b) begin (cond_code begin condition first second)
  cond_does c a b condition first second test one two = record {
    does = λ x site same turns calls v fits lie starts pending deep w s k.
        let fewer = with_turns x turns in
        let p = past begin condition in
        let ra = value (scene_at x) fewer a in
        let rb = value (scene_at x) fewer b in
        then_items x begin condition (choice_code p first second)
        (λ y u t. With x.program x.room v pending p y u t)
        (λ q. With x.program x.room v pending q) w
        (record { lie = lie; starts = starts }) (value (scene_at x) fewer c w)
        (λ y. at_zero y rb ra)
        (λ y u. (choose_grows (is_zero y) rb ra ((nodes_of x turns).values b)
        ((nodes_of x turns).values a)).at u)
        (λ l. test.does x site same turns calls v fits l.lie l.starts pending
        (omega (arith, deep)) w s k)
        (λ l y u t m. choice_does x p first second ra rb y u t m l
        (λ z j n h r. one.does x site same turns calls v fits j.lie j.starts pending
        (omega (arith, deep)) n h r)
        (λ z j n h r. two.does x site same turns calls v fits j.lie j.starts pending
        (omega (arith, deep)) n h r));
  }

  -- what is made of the second value only grows
  second_grows : (x : Site) (turns : ℕ) (r : Expr) (both : ℤ → ℤ)
      → Grows (value (scene_at x) (with_turns x turns) r >>= (λ z. give (both z)))
  second_grows x turns r both =
      after_grows ((nodes_of x turns).values r) (λ z. give_grows (both z))

  pub and_does : (l r : Expr) (left right : List Item) → ValueCode scope l begin left
      → ValueCode scope r (past begin left + 8) right
      → ValueCode scope (And l r) begin (and_code begin left right)
  and_does l r left right one two = record {
    does = λ x site same turns calls v fits lie starts pending deep w s k.
        let fewer = with_turns x turns in
        let p = past begin left in
        let rr = value (scene_at x) fewer r in
        let grows = λ (y : ℤ). second_grows x turns r (logical logic.And y) in
        then_items x begin left (choice_code p (right ++ truth_code) (const_code (pos 0)))
        (λ y u t. With x.program x.room v pending p y u t)
        (λ q. With x.program x.room v pending q) w
        (record { lie = lie; starts = starts }) (value (scene_at x) fewer l w)
        (λ y. at_zero y (give (pos 0)) (rr >>= (λ z. give (logical logic.And y z))))
        (λ y u. (choose_grows (is_zero y) (give (pos 0))
        (rr >>= (λ z. give (logical logic.And y z))) (give_grows (pos 0)) (grows y)).at u)
        (λ j. one.does x site same turns calls v fits j.lie j.starts pending
        (omega (arith, deep)) w s k)
        (λ j y u t m. choice_does x p (right ++ truth_code) (const_code (pos 0))
        (rr >>= (λ z. give (logical logic.And y z))) (give (pos 0)) y u t m j
        (λ e i n h a. right_does x (p + 8) right rr (logical logic.And y) (λ z. and_value y z e) i
        (λ g n2 h2 a2. two.does x site same turns calls v fits g.lie g.starts pending
        (omega (arith, deep)) n2 h2 a2) n h a)
        (λ e i n h a. const_does x (other_at p (right ++ truth_code)) (pos 0)
        (small_cell 0 (omega arith)) i n h a));
  }

  pub or_does : (l r : Expr) (left right : List Item) → ValueCode scope l begin left
      → ValueCode scope r (other_at (past begin left) (const_code (pos 1))) right
      → ValueCode scope (Or l r) begin (or_code begin left right)
  or_does l r left right one two = record {
    does = λ x site same turns calls v fits lie starts pending deep w s k.
        let fewer = with_turns x turns in
        let p = past begin left in
        let rr = value (scene_at x) fewer r in
        let grows = λ (y : ℤ). second_grows x turns r (logical logic.Or y) in
        then_items x begin left (choice_code p (const_code (pos 1)) (right ++ truth_code))
        (λ y u t. With x.program x.room v pending p y u t)
        (λ q. With x.program x.room v pending q) w
        (record { lie = lie; starts = starts }) (value (scene_at x) fewer l w)
        (λ y. at_zero y (rr >>= (λ z. give (logical logic.Or y z))) (give (pos 1)))
        (λ y u. (choose_grows (is_zero y) (rr >>= (λ z. give (logical logic.Or y z))) (give (pos 1))
        (grows y) (give_grows (pos 1))).at u)
        (λ j. one.does x site same turns calls v fits j.lie j.starts pending
        (omega (arith, deep)) w s k)
        (λ j y u t m. choice_does x p (const_code (pos 1)) (right ++ truth_code) (give (pos 1))
        (rr >>= (λ z. give (logical logic.Or y z))) y u t m j
        (λ e i n h a. const_does x (p + 8) (pos 1) (small_cell 1 (omega arith)) i n h a)
        (λ e i n h a. right_does x (other_at p (const_code (pos 1))) right rr (logical logic.Or y)
        (λ z. or_value y z e) i
        (λ g n2 h2 a2. two.does x site same turns calls v fits g.lie g.starts pending
        (omega (arith, deep)) n2 h2 a2) n h a));
  }

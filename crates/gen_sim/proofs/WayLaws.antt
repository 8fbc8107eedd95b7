-- A way out of a statement stays as it is; where it is left through its end, what follows is done.
use Rattle.std.proofs.Common.{◌≡◌, ◌+◌, ◌≤◌, ℕ, ℤ, List, [], ◌∷◌, ◌++◌, Bool, true, false, length}
use Rattle.std.proofs.Common.{refl, sym, ap, subst, ◌∙◌, arith}
use Rattle.pawn_cells.specs.Cells.{is_zero}
use Rattle.pawn_meaning.specs.World.{World}
use Rattle.pawn_meaning.specs.Run.{Outcome, Gives, Run, choose, at_zero, give}
use Rattle.pawn_meaning.specs.Calls.{Way, Through, Broke, Continued, Returned, pass}
use Rattle.pawn_meaning.specs.Later.{Grows}
use Rattle.pawn_meaning.proofs.Grows.{give_grows, same_later}
use Rattle.amx_ops.specs.declared.op.Op.TheVariants as op
use Rattle.amx_ops.specs.Moves.{Config, move}
use Rattle.gen_sim.proofs.Sim.{stays, gives, grown, size_is, after_it}
use Rattle.gen_sim.specs.View.{View}
use Rattle.gen_sim.specs.Stands.{Stands, With}
use Rattle.gen_sim.specs.Site.{Site, DoesAt}
use Rattle.gen_sim.specs.Items.{Item, item_cells, past}
use Rattle.gen_sim.proofs.ItemLaws.{past-append, count-append}
use Rattle.gen_sim.proofs.StepLaws.{given}
use Rattle.gen_sim.specs.Lies.{Lies}
use Rattle.gen_sim.specs.JumpCode.{jump_to, other_at, end_at, choice_code}
use Rattle.gen_sim.proofs.ItemSteps.{first_lies, rest_lies, next_lies}
use Rattle.gen_sim.proofs.NodesPartLaws.{then_items, then_nothing}
use Rattle.gen_sim.proofs.JumpSteps.{past_small, jump_does, zero_jumps, zero_passes}
use Rattle.gen_sim.specs.Here.{Exits}
use Rattle.gen_sim.specs.Ways.{Outer, Left}

module _ (x : Site) (e : Exits) (o : Outer) where
  pub stays_left : {n : ℕ} (v : View) (q : ℕ) (way : Way) (w : World) (t : Config)
      → Left x e o v q way w t
      → DoesAt x n w t (Gives way w) (Left x e o v q)
  stays_left v q Through w t k = given x k k
  stays_left v q Broke w t k = given x k.1 k
  stays_left v q Continued w t k = given x k.1 k
  stays_left v q (Returned y) w t k =
      gives (move x.amx x.script) (length x.amx.code) x.room
      (grown (move x.amx x.script) (length x.amx.code) x.room (omega arith)
      (stays (move x.amx x.script) (length x.amx.code) x.room t w k.back.stands.said k))

  module _ {n : ℕ} (v v2 : View) (q q2 : ℕ) where
    pub passes_left : (way : Way) (go : Run Way) (w : World) (t : Config) → Left x e o v q way w t
        → (Stands x.program x.room v [] q w t → DoesAt x n w t (go w) (Left x e o v2 q2))
        → DoesAt x n w t (pass way go w) (Left x e o v2 q2)
    passes_left Through go w t k next = next k
    passes_left Broke go w t k next = stays_left v2 q2 Broke w t k
    passes_left Continued go w t k next = stays_left v2 q2 Continued w t k
    passes_left (Returned y) go w t k next = stays_left v2 q2 (Returned y) w t k

    pub ends_left : (way : Way) (w : World) (t : Config) → Left x e o v q way w t
        → (Stands x.program x.room v [] q w t → DoesAt x n w t (Gives Through w) (Left x e o v2 q2))
        → DoesAt x n w t (Gives way w) (Left x e o v2 q2)
    ends_left Through w t k next = next k
    ends_left Broke w t k next = stays_left v2 q2 Broke w t k
    ends_left Continued w t k next = stays_left v2 q2 Continued w t k
    ends_left (Returned y) w t k next = stays_left v2 q2 (Returned y) w t k

-- in another way than through its end
abbrev pub IsOut : Way → Type 0
IsOut Through = ⊥
IsOut Broke = Unit {0}
IsOut Continued = Unit {0}
IsOut (Returned y) = Unit {0}

-- what holds then doesn't depend on the view or on the end
pub out_left : (x : Site) (e : Exits) (o : Outer) (v v2 : View) (q q2 : ℕ) (way : Way) (w : World)
    (t : Config) → IsOut way → Left x e o v q way w t → Left x e o v2 q2 way w t
out_left x e o v v2 q q2 Through w t h k = elim h [ ]
out_left x e o v v2 q q2 Broke w t h k = k
out_left x e o v v2 q q2 Continued w t h k = k
out_left x e o v v2 q q2 (Returned y) w t h k = k

pub pass_grows : (way : Way) {go : Run Way} → Grows go → Grows (pass way go)
pass_grows Through h = h
pass_grows Broke h = give_grows Broke
pass_grows Continued h = give_grows Continued
pass_grows (Returned y) h = give_grows (Returned y)

-- items behind those that do a run, which leave what it gave
module _ (x : Site) {A : Type 0} (p : ℕ) (is js : List Item) (P : A → World → Config → Type 0)
    (Q : ℕ → A → World → Config → Type 0) where
  pub after_items : (w : World) {c : Config} → Lies x p (is ++ js) → (o : Outcome A)
      → (Lies x p is → DoesAt x (length (item_cells is)) w c o P)
      → (Lies x (past p is) js → (a : A) (u : World) (t : Config) → P a u t
      → DoesAt x (length (item_cells js)) u t (Gives a u) (Q (past (past p is) js)))
      → DoesAt x (length (item_cells (is ++ js))) w c o (Q (past p (is ++ js)))
  after_items w {c} l o first next =
      subst (λ z. DoesAt x (length (item_cells (is ++ js))) w c z (Q (past p (is ++ js))))
      (then_nothing o)
      (then_items x p is js P Q w l o (λ a. give a) (λ a u. same_later u) first next)

-- a part does its run, and is left in its way
abbrev pub PartLeft : Site → Exits → Outer → View → ℕ → List Item → Run Way → ℕ → Type 0
PartLeft x e o v p part run end =
    Lies x p part → (n : World) (k : Config) → Stands x.program x.room v [] p n k
    → DoesAt x (length (item_cells part)) n k (run n) (Left x e o v end)

-- one of two parts, by the value in PRI
module _ (x : Site) (e : Exits) (o : Outer) {v : View} (p : ℕ) (first second : List Item)
    (one two : Run Way) where
  sides : (y : ℤ) (u : World) (t : Config) → With x.program x.room v [] p y u t
      → Lies x p (choice_code p first second)
      → PartLeft x e o v (p + 8) first one (past (p + 8) first)
      → PartLeft x e o v (other_at p first) second two (end_at p first second)
      → (b : Bool) → is_zero y ≡ b
      → DoesAt x (length (item_cells (choice_code p first second))) u t (choose b two one u)
      (Left x e o v (end_at p first second))
  sides y u t a l hone htwo true z =
      let jump = jump_to op.Jump (end_at p first second) in
      let l1 = next_lies x p (jump_to op.Jzer (other_at p first)) (first ++ (jump ∷ second)) l in
      let l2 = rest_lies x (p + 8) first (jump ∷ second) l1 in
      let few : length (item_cells second) ≤ length (item_cells (first ++ (jump ∷ second))) =
      omega (arith, count-append first (jump ∷ second)) in
      zero_jumps x a.stands (other_at p first) (length (item_cells second)) l2.lie.2
      (ap is_zero a.value ∙ z) few l
      (λ k s f. htwo (next_lies x (past (p + 8) first) jump second l2) u k s)
  sides y u t a l hone htwo false z =
      let jump = jump_to op.Jump (end_at p first second) in
      let l1 = next_lies x p (jump_to op.Jzer (other_at p first)) (first ++ (jump ∷ second)) l in
      let l2 = rest_lies x (p + 8) first (jump ∷ second) l1 in
      let l3 = next_lies x (past (p + 8) first) jump second l2 in
      zero_passes x a.stands (other_at p first) (ap is_zero a.value ∙ z) l
      (λ k s f. size_is (move x.amx x.script) (length x.amx.code) x.room
      (sym (count-append first (jump ∷ second)))
      (after_it (move x.amx x.script) (length x.amx.code) x.room (one u)
      (Left x e o v (past (p + 8) first))
      (hone (first_lies x (p + 8) first (jump ∷ second) l1) u k s)
      (λ way n h m. ends_left x e o v v (past (p + 8) first) (end_at p first second) way n h m
      (λ b. jump_does x b (end_at p first second) 0
      (past_small x (other_at p first) second l3.lie l2.lie.2) (omega arith) l2
      (λ g d q. given x d d)))))

  pub chooses : (y : ℤ) (u : World) (t : Config) → With x.program x.room v [] p y u t
      → Lies x p (choice_code p first second)
      → PartLeft x e o v (p + 8) first one (past (p + 8) first)
      → PartLeft x e o v (other_at p first) second two (end_at p first second)
      → DoesAt x (length (item_cells (choice_code p first second))) u t (at_zero y two one u)
      (Left x e o v (past p (choice_code p first second)))
  chooses y u t a l hone htwo =
      let ends : end_at p first second ≡ past p (choice_code p first second)
      = sym (past-append (p + 8) first (jump_to op.Jump (end_at p first second) ∷ second)) in
      subst (λ q. DoesAt x (length (item_cells (choice_code p first second))) u t
      (at_zero y two one u) (Left x e o v q)) ends
      (sides y u t a l hone htwo (is_zero y) refl)

-- A part's code, and what stands behind it.
use Rattle.std.proofs.Common.{◌≡◌, ◌+◌, ◌≤◌, inl, inr, ℕ, ℤ, pos, List, ◌∷◌, ◌++◌, length, sum}
use Rattle.std.proofs.Common.{refl, subst, sym, ◌∙◌, arith}
use Rattle.pawn_cells.specs.Cells.{IsCell}
use Rattle.pawn_meaning.specs.Program.{Expr}
use Rattle.pawn_meaning.specs.Scope.{Scope}
use Rattle.pawn_meaning.specs.World.{World}
use Rattle.pawn_meaning.specs.Need.{load}
use Rattle.pawn_meaning.specs.Meaning.{value}
use Rattle.pawn_meaning.specs.Run.{Outcome, Gives, Stops, More, Run, ◌>>=◌, then_do, give}
use Rattle.pawn_meaning.specs.Later.{Later, Grows, world_of}
use Rattle.pawn_meaning.specs.RunsGrow.{NodesGrow}
use Rattle.pawn_meaning.proofs.Grows.{after_grows}
use Rattle.pawn_meaning.proofs.RunLaws.{runs_grow_lem}
use Rattle.amx_ops.specs.declared.op.Op.TheVariants as op
use Rattle.amx_ops.specs.Moves.{Config, move}
use Rattle.gen_sim.specs.Does.{Then}
use Rattle.gen_sim.proofs.Sim.{reach_holds, in_turn, size_is}
use Rattle.gen_sim.specs.View.{View, kept, used}
use Rattle.gen_sim.specs.Stands.{Stands, With}
use Rattle.gen_sim.specs.Site.{Site, IsSite, DoesAt, scene_at}
use Rattle.gen_sim.specs.Items.{Item, item_cells, past, with}
use Rattle.gen_sim.specs.Code.{CallsWithin, with_turns}
use Rattle.gen_sim.specs.Contract.{ValueCode}
use Rattle.gen_sim.specs.Fits.{Fits}
use Rattle.gen_sim.proofs.ItemLaws.{past-append, count-append}
use Rattle.gen_sim.specs.Lies.{Lies}
use Rattle.gen_sim.specs.SimpleCode.{alone, waiting_code, both_code}
use Rattle.gen_sim.proofs.ItemSteps.{first_lies, rest_lies, next_lies, item_pushes, item_pops_alt}

-- each node only grows
pub nodes_of : (x : Site) (turns : ℕ) → NodesGrow (scene_at x) (with_turns x turns)
nodes_of x turns =
    runs_grow_lem.nodes (scene_at x) (with_turns x turns)
    (λ s. runs_grow_lem.nestings (scene_at x) turns s)

-- ---- what is done with a value

gives_by : {A B : Type 0} (x : Site) (n : ℕ) (w : World) (c : Config) (o : Outcome A) (f : A → B)
    (P : A → World → Config → Type 0)
    (Q : B → World → Config → Type 0) → ((a : A) (u : World) (t : Config) → P a u t → Q (f a) u t)
    → Then (move x.amx x.script) (length x.amx.code) x.room n w.turns c o P
    → Then (move x.amx x.script) (length x.amx.code) x.room n w.turns c
    (then_do o (λ a. give (f a))) Q
gives_by x n w c (Gives a u) f P Q k (inl short) = inl short
gives_by x n w c (Gives a u) f P Q k (inr r) =
    inr (reach_holds (move x.amx x.script) (length x.amx.code) x.room r (k a u r.config r.holds))
gives_by x n w c (Stops end u) f P Q k d = d
gives_by x n w c (More u) f P Q k d = d

-- a run, and another value made of its value
pub gives_of : {A B : Type 0} (x : Site) (n : ℕ) (w : World) {c : Config} (o : Outcome A)
    (f : A → B) (P : A → World → Config → Type 0)
    {Q : B → World → Config → Type 0} → ((a : A) (u : World) (t : Config) → P a u t → Q (f a) u t)
    → DoesAt x n w c o P
    → DoesAt x n w c (then_do o (λ a. give (f a))) Q
gives_of x n w {c} o f P {Q} k d = record { does = gives_by x n w c o f P Q k d.does }

pub then_nothing : {A : Type 0} (o : Outcome A) → then_do o (λ a. give a) ≡ o
then_nothing (Gives a w) = refl
then_nothing (Stops end w) = refl
then_nothing (More w) = refl

-- and the same value
pub does_as : {A : Type 0} (x : Site) (n : ℕ) (w : World) {c : Config} (o : Outcome A)
    (P : A → World → Config → Type 0)
    {Q : A → World → Config → Type 0} → ((a : A) (u : World) (t : Config) → P a u t → Q a u t)
    → DoesAt x n w c o P → DoesAt x n w c o Q
does_as x n w {c} o P {Q} k d =
    subst (λ z. DoesAt x n w c z Q) (then_nothing o) (gives_of x n w o (λ a. a) P k d)

-- ---- one part, and what follows

module _ (x : Site) {A B : Type 0} (p : ℕ) (is js : List Item) (P : A → World → Config → Type 0)
    (Q : ℕ → B → World → Config → Type 0) where
  -- the first items do a run, and the others what follows with its value
  pub then_items : (w : World) {c : Config} → Lies x p (is ++ js) → (o : Outcome A) (go : A → Run B)
      → ((a : A) (u : World) → Later u (world_of (go a u)))
      → (Lies x p is → DoesAt x (length (item_cells is)) w c o P)
      → (Lies x (past p is) js → (a : A) (u : World) (t : Config) → P a u t
      → DoesAt x (length (item_cells js)) u t (go a u) (Q (past (past p is) js)))
      → DoesAt x (length (item_cells (is ++ js))) w c (then_do o go) (Q (past p (is ++ js)))
  then_items w {c} l o go later first next =
      subst (λ q. DoesAt x (length (item_cells (is ++ js))) w c (then_do o go) (Q q))
      (sym (past-append p is js))
      (size_is (move x.amx x.script) (length x.amx.code) x.room (sym (count-append is js))
      (in_turn (move x.amx x.script) (length x.amx.code) x.room o go P later
      (first (first_lies x p is js l)) (next (rest_lies x p is js l))))

-- what a part leaves: the machine stands for its world, with a cell in PRI of which something holds
pub record Leaves (x : Site) (v : View) (pending : List ℤ) (p : ℕ) (Is : ℤ → Type 0) (w : World)
    (c : Config) : Type 0 where
  pub stands : Stands x.program x.room v pending p w c
  pub is : Is c.state.pri
  pub fits : IsCell c.state.pri

-- ---- two parts

-- where the second part begins, what is done behind it, and what is done with both
abbrev pub second_at : ℕ → List Item → ℕ
second_at begin first = past begin first + 4

abbrev pub tail_at : ℕ → (first second : List Item) → ℕ
tail_at begin first second = past (second_at begin first) second

abbrev pub last_at : ℕ → (first second : List Item) → ℕ
last_at begin first second = tail_at begin first second + 4

-- the cell of a first part can wait while a second one runs, and each does its run; what follows
-- from that stands behind it
module _ (x : Site) (v : View) (pending : List ℤ) {A B C : Type 0} (begin : ℕ)
    (first second : List Item) (run : Run B) (go : A → B → Run C)
    (P : A → World → Config → Type 0) (R : A → ℤ → Type 0) (O : ℤ → B → World → Config → Type 0)
    (S : B → ℤ → Type 0) where
  abbrev pub BothDo : World → Config → Outcome A → Type 0 → Type 0
  BothDo w c o Follows =
      used x.program x.room v pending ≤ kept x.program x.room + sum v.needs + 15 → Grows run
      → ((a : A) (b : B) → Grows (go a b))
      → (Lies x begin first → DoesAt x (length (item_cells first)) w c o P)
      → ((a : A) (u : World) (t : Config) → P a u t
      → Leaves x v pending (past begin first) (R a) u t)
      → (Lies x (second_at begin first) second → (y : ℤ) (u : World) (t : Config)
      → Stands x.program x.room v (y ∷ pending) (second_at begin first) u t
      → DoesAt x (length (item_cells second)) u t (run u) (O y))
      → ((y : ℤ) (b : B) (u : World) (t : Config) → O y b u t
      → Leaves x v (y ∷ pending) (tail_at begin first second) (S b) u t)
      → Follows

-- a first part, whose cell waits while the second one runs, and what is done then
module _ (x : Site) {v : View} {pending : List ℤ} {A B C : Type 0} (begin : ℕ)
    (first second tail : List Item) (run : Run B) (go : A → B → Run C)
    (P : A → World → Config → Type 0) (R : A → ℤ → Type 0) (O : ℤ → B → World → Config → Type 0)
    (S : B → ℤ → Type 0)
    (Q : ℕ → C → World → Config → Type 0) where
  pub waiting_does : (w : World) {c : Config} → Lies x begin (waiting_code first second tail)
      → (o : Outcome A)
      → BothDo x v pending begin first second run go P R O S w c o
      ((Lies x (tail_at begin first second) tail → (a : A) (b : B) (y z : ℤ) → R a y → IsCell y
      → S b z → IsCell z → (u : World) (t : Config)
      → Stands x.program x.room v (y ∷ pending) (tail_at begin first second) u t → t.state.pri ≡ z
      → DoesAt x (length (item_cells tail)) u t (go a b u)
      (Q (past (tail_at begin first second) tail)))
      → DoesAt x (length (item_cells (waiting_code first second tail))) w c
      (then_do o (λ a. run >>= go a)) (Q (past begin (waiting_code first second tail))))
  waiting_does w lies o deep grow grows one leaves two leaves_two three =
      then_items x begin first (alone op.PushPri ∷ (second ++ tail)) P Q w lies o
      (λ a. run >>= go a)
      (λ a u. (after_grows grow (grows a)).at u) one
      (λ l a u t k. pushed l a u t (leaves a u t k))
    where
      pushed : Lies x (past begin first) (alone op.PushPri ∷ (second ++ tail))
          → (a : A) (u : World) (t : Config)
          → Leaves x v pending (past begin first) (R a) u t
          → DoesAt x (length (item_cells (alone op.PushPri ∷ (second ++ tail)))) u t
          ((run >>= go a) u)
          (Q (past (past begin first) (alone op.PushPri ∷ (second ++ tail))))
      pushed l a u t k =
          item_pushes x (with op.PushPri (pos 0)) k.stands l t.state.pri refl k.fits deep
          ((after_grows grow (grows a)).at u)
          (λ n s e g. then_items x (second_at begin first) second tail (O t.state.pri) Q u
          (next_lies x (past begin first) (alone op.PushPri) (second ++ tail) l) (run u) (go a)
          (λ b m. (grows a b).at m) (λ j. two j t.state.pri u n s)
          (λ j b m i h. let r = leaves_two t.state.pri b m i h in three j a b t.state.pri
          i.state.pri k.is k.fits r.is r.fits m i r.stands refl))

-- and what is done with both
module _ (x : Site) {v : View} {pending : List ℤ} {A B C : Type 0} (begin : ℕ)
    (first second last : List Item) (run : Run B) (go : A → B → Run C)
    (P : A → World → Config → Type 0) (R : A → ℤ → Type 0) (O : ℤ → B → World → Config → Type 0)
    (S : B → ℤ → Type 0)
    (Q : ℕ → C → World → Config → Type 0) where
  pub both_does : (w : World) {c : Config} → Lies x begin (both_code first second last)
      → (o : Outcome A)
      → BothDo x v pending begin first second run go P R O S w c o
      ((Lies x (last_at begin first second) last → (a : A) (b : B) (y z : ℤ) → R a y → IsCell y
      → S b z → IsCell z → (u : World) (t : Config)
      → Stands x.program x.room v pending (last_at begin first second) u t → t.state.alt ≡ y
      → t.state.pri ≡ z
      → DoesAt x (length (item_cells last)) u t (go a b u)
      (Q (past (last_at begin first second) last)))
      → DoesAt x (length (item_cells (both_code first second last))) w c
      (then_do o (λ a. run >>= go a)) (Q (past begin (both_code first second last))))
  both_does w lies o deep grow grows one leaves two leaves_two three =
      waiting_does x begin first second (alone op.PopAlt ∷ last) run go P R O S Q w lies o deep grow
      grows one leaves two leaves_two
      (λ l a b y z r fy s fz u t k pri.
      item_pops_alt x k l
      (λ n i alt same. three (next_lies x (tail_at begin first second) (alone op.PopAlt) last l) a b
      y z r fy s fz u n i alt (same ∙ pri)))

-- a value as what a part leaves
pub value_leaves : (x : Site) {v : View} {pending : List ℤ} {p : ℕ} {y : ℤ} {w : World} {c : Config}
    → With x.program x.room v pending p y w c
    → Leaves x v pending p (λ z. z ≡ y) w c
value_leaves x a =
    record { stands = a.stands; is = a.value; fits = subst (λ z. IsCell z) (sym a.value) a.fits }

-- the cell of a first part waits while a value is made, and what is done with both gives a value
module _ (scope : Scope) {A : Type 0} (begin : ℕ) (e : Expr) (first items last : List Item)
    (part : ValueCode scope e (second_at begin first) items) (x : Site) (site : IsSite x)
    (same : x.program ≡ scope.program) (turns : ℕ) (calls : CallsWithin x turns) {v : View}
    (fits : Fits x.program x.room scope v) (pending : List ℤ) where
  pub with_value : used x.program x.room v pending + (1 + load e)
      ≤ kept x.program x.room + sum v.needs
      → (w : World) {c : Config} → Lies x begin (both_code first items last) → (o : Outcome A)
      (go : A → ℤ → Run ℤ) (P : A → World → Config → Type 0) (R : A → ℤ → Type 0)
      → ((a : A) (y : ℤ) → Grows (go a y))
      → (Lies x begin first → DoesAt x (length (item_cells first)) w c o P)
      → ((a : A) (u : World) (t : Config) → P a u t
      → Leaves x v pending (past begin first) (R a) u t)
      → (Lies x (last_at begin first items) last → (a : A) (y from : ℤ) → R a from → IsCell from
      → IsCell y → (u : World) (t : Config)
      → Stands x.program x.room v pending (last_at begin first items) u t → t.state.alt ≡ from
      → t.state.pri ≡ y
      → DoesAt x (length (item_cells last)) u t (go a y u)
      (With x.program x.room v pending (past (last_at begin first items) last)))
      → DoesAt x (length (item_cells (both_code first items last))) w c
      (then_do o (λ a. value (scene_at x) (with_turns x turns) e >>= go a))
      (With x.program x.room v pending (past begin (both_code first items last)))
  with_value deep w lies o go P R grows one leaves three =
      both_does x begin first items last (value (scene_at x) (with_turns x turns) e) go P R
      (λ y z u t. With x.program x.room v (y ∷ pending) (tail_at begin first items) z u t)
      (λ y z. z ≡ y) (λ q. With x.program x.room v pending q) w lies o (omega (arith, deep))
      ((nodes_of x turns).values e) grows one leaves
      (λ l y u t a. part.does x site same turns calls v fits l.lie l.starts (y ∷ pending)
      (omega (arith, deep)) u t a)
      (λ y z u t a. value_leaves x a)
      (λ l a y from z r fr z_is fz u t s alt pri. three l a y from r fr
      (subst (λ n. IsCell n) z_is fz) u t s alt (pri ∙ z_is))

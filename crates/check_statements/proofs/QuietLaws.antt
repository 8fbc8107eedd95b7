-- A part that was judged has no fault: so the node falls where one of its parts does, and else is
-- what its rule makes of them.
use Rattle.std.proofs.Common.{◌≡◌, [], ◌∷◌, refl, sym, subst}
use Rattle.std.specs.Prelude.{Option, None, Some, Result, Ok, Err, IfOk}
use Rattle.pawn_verdict.specs.declared.fault.CheckFault.{CheckFault}
use Rattle.pawn_verdict.specs.Answers.{Fails}
use Rattle.names_rules.specs.Verdict.{Verdict, Stands, Breaks, faults_of, both}
use Rattle.types_rules.specs.Rule.{pair, unless_faults}
use Rattle.check_locals.specs.Tells.{told, Tells}

pub tells_by : {A B : Type 0} (view : B → A) (v w : Verdict A) (r : Result (Option B) CheckFault)
    → v ≡ w → Tells view w r → Tells view v r
tells_by view v w r e h = subst (λ it. Tells view it r) (sym e) h

-- what holds whatever is answered
pub whatever : {A B : Type 0} (r : Result A B) (holds : Type 0) → holds → IfOk r (λ it. holds)
whatever (Ok x) holds h = h
whatever (Err x) holds h = tt

-- ---- verdicts without a fault

no_faults : {A B : Type 0} (v : Verdict A) (node : Verdict B) → faults_of v ≡ []
    → unless_faults v node ≡ node
no_faults (Stands x) node h = refl
no_faults (Breaks []) node h = refl
no_faults (Breaks (f ∷ more)) node h = cc

pair_quiet : {A B : Type 0} (v : Verdict A) (w : Verdict B) → faults_of v ≡ [] → faults_of w ≡ []
    → faults_of (pair v w) ≡ []
pair_quiet (Stands x) (Stands y) h k = refl
pair_quiet (Stands x) (Breaks faults) h k = k
pair_quiet (Breaks faults) w h k = rw (h, k) refl

told_quiet : {A X : Type 0} (view : X → A) (x : Option X) → faults_of (told view x) ≡ []
told_quiet view (Some x) = refl
told_quiet view None = refl

-- a `for` whose parts were all judged
pub for_judged : {A B C D R X Y Z W : Type 0} (a : X → A) (b : Y → B) (c : Z → C) (d : W → D)
    (x : Option X) (y : Option Y) (z : Option Z) (w : Option W) (node : Verdict R)
    → unless_faults (pair (told a x) (pair (pair (told b y) (told c z)) (told d w))) node ≡ node
for_judged a b c d x y z w node =
    no_faults _ node (pair_quiet (told a x) _ (told_quiet a x)
    (pair_quiet (pair (told b y) (told c z)) (told d w)
    (pair_quiet (told b y) (told c z) (told_quiet b y) (told_quiet c z)) (told_quiet d w)))

-- ---- a node of two, three or four parts

told_none : {A X : Type 0} (view : X → A) (x : Option X) → x ≡ None → told view x ≡ Breaks []
told_none view x h = rw h refl

falls_first : {A B C : Type 0} (v : Verdict A) (w : Verdict B) (rule : A → B → Verdict C)
    → v ≡ Breaks [] → faults_of w ≡ [] → both v w rule ≡ Breaks []
falls_first v w rule h k = rw (h, k) refl

falls_second : {A B C : Type 0} (v : Verdict A) (w : Verdict B) (rule : A → B → Verdict C)
    → faults_of v ≡ [] → w ≡ Breaks [] → both v w rule ≡ Breaks []
falls_second (Stands x) w rule h k = rw k refl
falls_second (Breaks faults) w rule h k = rw (h, k) refl

pair_first : {A B : Type 0} (v : Verdict A) (w : Verdict B) → v ≡ Breaks [] → faults_of w ≡ []
    → pair v w ≡ Breaks []
pair_first v w h k = falls_first v w (λ x y. Stands (x, y)) h k

pair_second : {A B : Type 0} (v : Verdict A) (w : Verdict B) → faults_of v ≡ [] → w ≡ Breaks []
    → pair v w ≡ Breaks []
pair_second v w h k = falls_second v w (λ x y. Stands (x, y)) h k

-- each part falls, or all of them stand
module _ {A B X Y R : Type 0} (a : X → A) (b : Y → B) (x : Option X) (y : Option Y)
    (rule : A → B → Verdict R) where
  pub first_of_two : x ≡ None → both (told a x) (told b y) rule ≡ Breaks []
  first_of_two h = falls_first (told a x) (told b y) rule (told_none a x h) (told_quiet b y)

  pub second_of_two : y ≡ None → both (told a x) (told b y) rule ≡ Breaks []
  second_of_two h = falls_second (told a x) (told b y) rule (told_quiet a x) (told_none b y h)

  pub all_of_two : (u : X) (v : Y) → x ≡ Some u → y ≡ Some v
      → both (told a x) (told b y) rule ≡ rule (a u) (b v)
  all_of_two u v h k = rw (h, k) refl

module _ {A B C X Y Z R : Type 0} (a : X → A) (b : Y → B) (c : Z → C) (x : Option X) (y : Option Y)
    (z : Option Z) (rule : A → B × C → Verdict R) where
  pub first_of_three : x ≡ None → both (told a x) (pair (told b y) (told c z)) rule ≡ Breaks []
  first_of_three h =
      falls_first (told a x) (pair (told b y) (told c z)) rule (told_none a x h)
      (pair_quiet (told b y) (told c z) (told_quiet b y) (told_quiet c z))

  pub second_of_three : y ≡ None → both (told a x) (pair (told b y) (told c z)) rule ≡ Breaks []
  second_of_three h =
      falls_second (told a x) (pair (told b y) (told c z)) rule (told_quiet a x)
      (pair_first (told b y) (told c z) (told_none b y h) (told_quiet c z))

  pub third_of_three : z ≡ None → both (told a x) (pair (told b y) (told c z)) rule ≡ Breaks []
  third_of_three h =
      falls_second (told a x) (pair (told b y) (told c z)) rule (told_quiet a x)
      (pair_second (told b y) (told c z) (told_quiet b y) (told_none c z h))

  pub all_of_three : (u : X) (v : Y) (w : Z) → x ≡ Some u → y ≡ Some v → z ≡ Some w
      → both (told a x) (pair (told b y) (told c z)) rule ≡ rule (a u) (b v, c w)
  all_of_three u v w h k l = rw (h, k, l) refl

module _ {A B C D X Y Z W R : Type 0} (a : X → A) (b : Y → B) (c : Z → C) (d : W → D)
    (x : Option X) (y : Option Y) (z : Option Z) (w : Option W)
    (rule : A → (B × C) × D → Verdict R) where
  pub first_of_four : x ≡ None → both (told a x) (pair (pair (told b y) (told c z)) (told d w)) rule
      ≡ Breaks []
  first_of_four h =
      falls_first (told a x) (pair (pair (told b y) (told c z)) (told d w)) rule (told_none a x h)
      (pair_quiet (pair (told b y) (told c z)) (told d w)
      (pair_quiet (told b y) (told c z) (told_quiet b y) (told_quiet c z)) (told_quiet d w))

  pub second_of_four : y ≡ None → both (told a x)
      (pair (pair (told b y) (told c z)) (told d w)) rule ≡ Breaks []
  second_of_four h =
      falls_second (told a x) (pair (pair (told b y) (told c z)) (told d w)) rule (told_quiet a x)
      (pair_first (pair (told b y) (told c z)) (told d w)
      (pair_first (told b y) (told c z) (told_none b y h) (told_quiet c z)) (told_quiet d w))

  pub third_of_four : z ≡ None → both (told a x) (pair (pair (told b y) (told c z)) (told d w)) rule
      ≡ Breaks []
  third_of_four h =
      falls_second (told a x) (pair (pair (told b y) (told c z)) (told d w)) rule (told_quiet a x)
      (pair_first (pair (told b y) (told c z)) (told d w)
      (pair_second (told b y) (told c z) (told_quiet b y) (told_none c z h)) (told_quiet d w))

  pub fourth_of_four : w ≡ None → both (told a x)
      (pair (pair (told b y) (told c z)) (told d w)) rule ≡ Breaks []
  fourth_of_four h =
      falls_second (told a x) (pair (pair (told b y) (told c z)) (told d w)) rule (told_quiet a x)
      (pair_second (pair (told b y) (told c z)) (told d w)
      (pair_quiet (told b y) (told c z) (told_quiet b y) (told_quiet c z)) (told_none d w h))

  pub all_of_four : (s : X) (t : Y) (u : Z) (v : W) → x ≡ Some s → y ≡ Some t → z ≡ Some u
      → w ≡ Some v
      → both (told a x) (pair (pair (told b y) (told c z)) (told d w)) rule
      ≡ rule (a s) ((b t, c u), d v)
  all_of_four s t u v h k l m = rw (h, k, l, m) refl

-- a fault of what the parts make
pub fails_by : {A : Type 0} (v w : Verdict A) (fault : CheckFault) → v ≡ w
    → Fails (faults_of w) fault → Fails (faults_of v) fault
fails_by v w fault e h = subst (λ it. Fails (faults_of it) fault) (sym e) h

-- Where a statement leaves the place.
use Rattle.std.proofs.Common.{◌≡◌, ℕ, ◌+◌, Bool, false, List, [], ◌∷◌, length, Option, Some, refl}
use Rattle.std.proofs.Common.{sym, ap, ap₂, ◌∙◌, subst, arith}
use Rattle.std.specs.List.{sum_by}
use Rattle.std.proofs.lemmas.List.Sums.{sum_by-cons}
use Rattle.pawn_tree.specs.declared.name.At.{At}
use Rattle.pawn_tree.specs.declared.variable.Storage.{Storage}
use Rattle.pawn_tree.specs.declared.variable.Storage.TheVariants as storage
use Rattle.pawn_tree.specs.Variables.{Var}
use Rattle.pawn_tree.specs.Statements as tree
use Rattle.types_rules.specs.Around.{Around}
use Rattle.types_rules.specs.Scope.{Scope}
use Rattle.types_rules.specs.Counts.{slots_of_storage, objects_of_var, slots_of_vars}
use Rattle.types_rules.specs.Counts.{objects_of_vars, slots_in, objects_in, slots_in_all}
use Rattle.types_rules.specs.Counts.{objects_in_all, slots_first, objects_first, literals_of}
use Rattle.types_rules.specs.Points.{Point, beyond, inside, behind, behind_var, behind_vars}
use Rattle.types_rules.specs.Points.{behind_first}
use Rattle.check_nodes.specs.Scopes.{scope_view, without, outer_of}
use Rattle.check_locals.specs.declared.point.Point as held
use Rattle.check_locals.specs.PointView.{point_view}
use Rattle.check_locals.proofs.PathLaws.{Extends, extends_none, extends_by, extends_then, forgotten}
use Rattle.check_locals.proofs.PathLaws.{left}
use Rattle.check_locals.proofs.VarLaws.{vars_extend}
use Rattle.check_statements.proofs.PointLaws.{point_eq}
use Rattle.check_statements.specs.BodyJudging.{behind_all, declares, declares_first}

-- so many declarations, objects and slots behind
pub record Placed (n objects slots : ℕ) (p q : Point) : Type 0 where
  pub path : Extends n p.scope q.scope
  pub objects_are : q.objects ≡ p.objects + objects
  pub slots_are : q.slots ≡ p.slots + slots

pub beyond_then : (p : Point) (a b c d : ℕ) → beyond (beyond p a b) c d ≡ beyond p (a + c) (b + d)
beyond_then p a b c d =
    point_eq (beyond (beyond p a b) c d) (beyond p (a + c) (b + d)) refl (omega arith) (omega arith)

-- behind three parts, of which the first makes no slot
pub beyond_three : (p : Point) (a b c d e : ℕ)
    → beyond (beyond (beyond p a 0) b c) d e ≡ beyond p (a + (b + d)) (c + e)
beyond_three p a b c d e =
    point_eq (beyond (beyond (beyond p a 0) b c) d e) (beyond p (a + (b + d)) (c + e)) refl
    (omega arith) (omega arith)

-- behind a value and a statement
pub beyond_value : (p : Point) (a b c : ℕ) → beyond (beyond p a 0) b c ≡ beyond p (a + b) c
beyond_value p a b c =
    point_eq (beyond (beyond p a 0) b c) (beyond p (a + b) c) refl (omega arith) (omega arith)

-- behind a statement and a value
pub beyond_body : (p : Point) (a b c : ℕ) → beyond (beyond p b c) a 0 ≡ beyond p (b + a) c
beyond_body p a b c =
    point_eq (beyond (beyond p b c) a 0) (beyond p (b + a) c) refl (omega arith) (omega arith)

placed_beyond : (p : Point) (a b : ℕ) → Placed 0 a b p (beyond p a b)
placed_beyond p a b = record { path = extends_none p.scope; objects_are = refl; slots_are = refl }

placed_none : (p : Point) → Placed 0 0 0 p p
placed_none p =
    record { path = extends_none p.scope; objects_are = omega arith; slots_are = omega arith }

placed_then : (m n a b c d : ℕ) (p q r : Point) → Placed m a b p q → Placed n c d q r
    → Placed (m + n) (a + c) (b + d) p r
placed_then m n a b c d p q r x y = record {
  path = extends_then m n p.scope q.scope r.scope x.path y.path;
  objects_are = omega (arith, x.objects_are, y.objects_are);
  slots_are = omega (arith, x.slots_are, y.slots_are);
}

module _ (cx : Around) where
  vars_objects : (p : Point) (at : At) (kind : Storage) (constant : Bool) (xs : List Var)
      → (behind_vars cx p at kind constant xs).objects ≡ p.objects + objects_of_vars kind xs
  unfolding behind_vars
  vars_objects p at kind constant [] = omega arith
  vars_objects p at kind constant (x ∷ xs) =
      omega (
        arith,
        vars_objects (behind_var cx p at kind constant x) at kind constant xs,
        sum_by-cons (λ it. objects_of_var kind it) x xs,
      )

  vars_slots : (p : Point) (at : At) (kind : Storage) (constant : Bool) (xs : List Var)
      → (behind_vars cx p at kind constant xs).slots ≡ p.slots + slots_of_vars kind xs
  unfolding behind_vars
  vars_slots p at kind constant [] = omega arith
  vars_slots p at kind constant (x ∷ xs) =
      omega (
        arith,
        vars_slots (behind_var cx p at kind constant x) at kind constant xs,
        sum_by-cons (λ (it : Var). slots_of_storage kind) x xs,
      )

  vars_placed : (p : Point) (at : At) (kind : Storage) (constant : Bool) (xs : List Var)
      → Placed (length xs) (objects_of_vars kind xs) (slots_of_vars kind xs) p
      (behind_vars cx p at kind constant xs)
  vars_placed p at kind constant xs = record {
    path = vars_extend cx at kind constant p xs;
    objects_are = vars_objects p at kind constant xs;
    slots_are = vars_slots p at kind constant xs;
  }

  pub first_placed : (p : Point) (at : At) (first : tree.First)
      → Placed (declares_first first) (objects_first first) (slots_first first) p
      (behind_first cx p at first)
  first_placed p at tree.Nothing = placed_none p
  first_placed p at (tree.New vars) = vars_placed p at storage.New false vars
  first_placed p at (tree.Value e) = placed_beyond p (literals_of (Some e)) 0

  pub stmt_placed : (p : Point) (s : tree.Stmt)
      → Placed (declares s) (objects_in s) (slots_in s) p (behind cx p s)
  stmt_placed p (tree.Empty at) = placed_beyond p _ _
  stmt_placed p (tree.Do at e) = placed_beyond p _ _
  stmt_placed p (tree.Block at ss) = placed_beyond p _ _
  stmt_placed p (tree.If at c s other) = placed_beyond p _ _
  stmt_placed p (tree.While at c s) = placed_beyond p _ _
  stmt_placed p (tree.DoWhile at s c) = placed_beyond p _ _
  stmt_placed p (tree.For at first c step s) = placed_beyond p _ _
  stmt_placed p (tree.Switch at e cs other) = placed_beyond p _ _
  stmt_placed p (tree.Return at e) = placed_beyond p _ _
  stmt_placed p (tree.Exit at e) = placed_beyond p _ _
  stmt_placed p (tree.Sleep at e) = placed_beyond p _ _
  stmt_placed p (tree.Assert at e) = placed_beyond p _ _
  stmt_placed p (tree.Break at) = placed_beyond p _ _
  stmt_placed p (tree.Continue at) = placed_beyond p _ _
  stmt_placed p (tree.State at e name) = placed_beyond p _ _
  stmt_placed p (tree.Local at it) = vars_placed p at it.storage it.constant it.vars
  stmt_placed p (tree.Constant at it) = record {
    path = extends_by p.scope _;
    objects_are = omega arith;
    slots_are = omega arith;
  }

  -- how many names the statements of a block declare in it
  abbrev pub declares_all : tree.Stmts → ℕ
  declares_all tree.no_stmts = 0
  declares_all (tree.then_stmt s more) = declares s + declares_all more

  pub all_placed : (p : Point) (ss : tree.Stmts)
      → Placed (declares_all ss) (objects_in_all ss) (slots_in_all ss) p
      (behind_all (behind cx) p ss)
  all_placed p tree.no_stmts = placed_none p
  all_placed p (tree.then_stmt s more) =
      placed_then (declares s) (declares_all more) (objects_in s) (slots_in s) (objects_in_all more)
      (slots_in_all more)
      p (behind cx p s) (behind_all (behind cx) (behind cx p s) more) (stmt_placed p s)
      (all_placed (behind cx p s) more)

-- ---- what code does with a place

-- the declarations are forgotten
pub placed_back : (n a b : ℕ) (old mid new : held.Point)
    → Placed n a b (point_view old) (point_view mid)
    → new.scopes ≡ without n mid.scopes → new.objects ≡ mid.objects → new.slots ≡ mid.slots
    → point_view new ≡ beyond (point_view old) a b
placed_back n a b old mid new h s o l =
    point_eq (point_view new) (beyond (point_view old) a b)
    (ap scope_view s ∙ forgotten n old.scopes mid.scopes h.path)
    (o ∙ h.objects_are) (l ∙ h.slots_are)

-- the block that was entered is left
pub placed_out : (n a b : ℕ) (old entered mid new : held.Point)
    → point_view entered ≡ inside (point_view old)
    → Placed n a b (point_view entered) (point_view mid)
    → new.scopes ≡ outer_of mid.scopes → new.objects ≡ mid.objects → new.slots ≡ mid.slots
    → point_view new ≡ beyond (point_view old) a b
placed_out n a b old entered mid new e h s o l =
    point_eq (point_view new) (beyond (point_view old) a b)
    (ap scope_view s ∙ left n old.scopes mid.scopes
    (rw (sym (ap (λ (it : Point). it.scope) e)) h.path))
    (o ∙ h.objects_are ∙ ap (λ (it : Point). it.objects + a) e)
    (l ∙ h.slots_are ∙ ap (λ (it : Point). it.slots + b) e)

-- ---- parts one behind another

pub three_places : (p p1 p2 p3 : Point) (a b c d e : ℕ) → p1 ≡ beyond p a 0 → p2 ≡ beyond p1 b c
    → p3 ≡ beyond p2 d e
    → p3 ≡ beyond p (a + (b + d)) (c + e)
three_places p p1 p2 p3 a b c d e h k l =
    l ∙ ap (λ q. beyond q d e) k ∙ ap (λ q. beyond (beyond q b c) d e) h ∙ beyond_three p a b c d e

pub value_first : (p p1 p2 : Point) (a b c : ℕ) → p1 ≡ beyond p a 0 → p2 ≡ beyond p1 b c
    → p2 ≡ beyond p (a + b) c
value_first p p1 p2 a b c h k = k ∙ ap (λ q. beyond q b c) h ∙ beyond_value p a b c

pub value_last : (p p1 p2 : Point) (a b c : ℕ) → p1 ≡ beyond p b c → p2 ≡ beyond p1 a 0
    → p2 ≡ beyond p (b + a) c
value_last p p1 p2 a b c h k = k ∙ ap (λ q. beyond q a 0) h ∙ beyond_body p a b c

-- ---- for

module _ (cx : Around) (at : At) (first : tree.First) {p1 p2 p3 : Point}
    (old entered p4 : held.Point) (c step n m : ℕ)
    (e : point_view entered ≡ inside (point_view old))
    (h : p1 ≡ behind_first cx (point_view entered) at first)
    (k : p2 ≡ beyond p1 c 0)
    (l : p3 ≡ beyond p2 step 0)
    (b : point_view p4 ≡ beyond p3 n m) where
  scope_is : scope_view p4.scopes ≡ (behind_first cx (point_view entered) at first).scope
  scope_is =
      ap (λ (q : Point). q.scope) b ∙ ap (λ (q : Point). q.scope) l ∙ ap (λ (q : Point). q.scope) k
      ∙ ap (λ (q : Point). q.scope) h

  -- the place is where the `for` began
  pub back_is : (q : held.Point) → q.scopes ≡ without (declares_first first) p4.scopes
      → q.objects ≡ entered.objects → q.slots ≡ entered.slots
      → point_view q ≡ inside (point_view old)
  back_is q s o t =
      point_eq (point_view q) (point_view entered)
      (ap scope_view s ∙ forgotten (declares_first first) entered.scopes p4.scopes
      (rw scope_is (first_placed cx (point_view entered) at first).path))
      o t ∙ e

  -- and in the end behind all of it
  pub closed_is : (q done new : held.Point) → point_view q ≡ inside (point_view old)
      → point_view done ≡ behind_first cx (point_view q) at first
      → new.scopes ≡ outer_of done.scopes → new.objects ≡ p4.objects → new.slots ≡ p4.slots
      → point_view new ≡ beyond (point_view old) (objects_first first + (c + (step + n)))
      (slots_first first + m)
  closed_is q done new g d s o t =
      let f = first_placed cx (point_view entered) at first in
      let objects : p4.objects ≡ old.objects + (objects_first first + (c + (step + n))) =
      omega (
        arith,
        f.objects_are,
        ap (λ (it : Point). it.objects) e,
        ap (λ (it : Point). it.objects) h,
        ap (λ (it : Point). it.objects) k,
        ap (λ (it : Point). it.objects) l,
        ap (λ (it : Point). it.objects) b,
      ) in
      let slots : p4.slots ≡ old.slots + (slots_first first + m) =
      omega (
        arith,
        f.slots_are,
        ap (λ (it : Point). it.slots) e,
        ap (λ (it : Point). it.slots) h,
        ap (λ (it : Point). it.slots) k,
        ap (λ (it : Point). it.slots) l,
        ap (λ (it : Point). it.slots) b,
      ) in
      let path : Extends (declares_first first) ([] ∷ scope_view old.scopes)
      (scope_view done.scopes) =
      subst (λ (it : Scope). Extends (declares_first first) ([] ∷ scope_view old.scopes) it)
      (sym (ap (λ (it : Point). it.scope) d))
      (subst (λ (it : Point). Extends (declares_first first) it.scope
      (behind_first cx (point_view q) at first).scope) g
      (first_placed cx (point_view q) at first).path) in
      point_eq (point_view new) (beyond (point_view old) (objects_first first + (c + (step + n)))
      (slots_first first + m))
      (ap scope_view s ∙ left (declares_first first) old.scopes done.scopes path) (o ∙ objects)
      (t ∙ slots)

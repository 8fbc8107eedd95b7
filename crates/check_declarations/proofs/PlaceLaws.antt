-- Places behind heads, bodies and variables.
use Rattle.std.proofs.Common.{◌≡◌, ◌+◌, ℕ, Bool, List, [], ◌∷◌, map, refl, sym, ap, ◌∙◌, arith}
use Rattle.std.specs.List.{sum_by}
use Rattle.std.proofs.lemmas.List.Sums.{sum_by-cons}
use Rattle.pawn_tree.specs.declared.name.At.{At}
use Rattle.pawn_tree.specs.declared.variable.Storage.{Storage}
use Rattle.pawn_tree.specs.Variables.{Var}
use Rattle.pawn_tree.specs.Statements.{Stmt, Empty, Do, Block, If, While, DoWhile, For, Switch}
use Rattle.pawn_tree.specs.Statements.{Return, Exit, Sleep, Assert, Break, Continue, State, Local}
use Rattle.pawn_tree.specs.Statements.{Constant}
use Rattle.types_rules.specs.Around.{Around}
use Rattle.types_rules.specs.Scope.{Scope, Entry, with_entries}
use Rattle.types_rules.specs.Counts.{objects_in, objects_of_var, objects_of_vars}
use Rattle.types_rules.specs.Points.{Point, behind, behind_var, behind_vars, beyond}
use Rattle.check_nodes.specs.Scopes.{Block as Held, Blocks, block_view, outer_by, outer_of}
use Rattle.check_nodes.specs.Scopes.{scope_view}
use Rattle.check_locals.specs.declared.point.Point as held
use Rattle.check_locals.specs.PointView.{point_view}

-- ---- a place by its parts

pub place_is : (now : held.Point) (to : Point) → scope_view now.scopes ≡ to.scope
    → now.objects ≡ to.objects → now.slots ≡ to.slots → point_view now ≡ to
place_is now to s o n = rw (s, o, n) refl

pub place_same : (old now : held.Point) → now.scopes ≡ old.scopes → now.objects ≡ old.objects
    → now.slots ≡ old.slots → point_view now ≡ point_view old
place_same old now s o n = rw (s, o, n) refl

-- ---- behind a statement

-- the blocks around
abbrev rest : Scope → Scope
rest [] = []
rest (block ∷ outer) = outer

with_rest : (scope : Scope) (entries : List Entry) → rest (with_entries scope entries) ≡ rest scope
with_rest [] entries = refl
with_rest (block ∷ outer) entries = refl

module _ (cx : Around) where
  vars_rest : (p : Point) (at : At) (kind : Storage) (constant : Bool) (xs : List Var)
      → rest (behind_vars cx p at kind constant xs).scope ≡ rest p.scope
  unfolding behind_vars
  vars_rest p at kind constant [] = refl
  vars_rest p at kind constant (x ∷ xs) =
      vars_rest (behind_var cx p at kind constant x) at kind constant xs ∙ with_rest p.scope _

  behind_rest : (p : Point) (s : Stmt) → rest (behind cx p s).scope ≡ rest p.scope
  behind_rest p (Local at it) = vars_rest p at it.storage it.constant it.vars
  behind_rest p (Constant at it) = with_rest p.scope _
  behind_rest p (Empty at) = refl
  behind_rest p (Do at e) = refl
  behind_rest p (Block at ss) = refl
  behind_rest p (If at c s other) = refl
  behind_rest p (While at c s) = refl
  behind_rest p (DoWhile at s c) = refl
  behind_rest p (For at first c step s) = refl
  behind_rest p (Switch at e cases other) = refl
  behind_rest p (Return at e) = refl
  behind_rest p (Exit at e) = refl
  behind_rest p (Sleep at e) = refl
  behind_rest p (Assert at e) = refl
  behind_rest p (Break at) = refl
  behind_rest p (Continue at) = refl
  behind_rest p (State at e name) = refl

  vars_objects : (p : Point) (at : At) (kind : Storage) (constant : Bool) (xs : List Var)
      → (behind_vars cx p at kind constant xs).objects ≡ p.objects + objects_of_vars kind xs
  unfolding behind_vars
  vars_objects p at kind constant [] = omega arith
  vars_objects p at kind constant (x ∷ xs) =
      let more = vars_objects (behind_var cx p at kind constant x) at kind constant xs in
      let split = sum_by-cons (λ (it : Var). objects_of_var kind it) x xs in
      omega (arith, more, split)

  pub behind_objects : (p : Point) (s : Stmt) → (behind cx p s).objects ≡ p.objects + objects_in s
  behind_objects p (Local at it) = vars_objects p at it.storage it.constant it.vars
  behind_objects p (Constant at it) = omega arith
  behind_objects p (Empty at) = refl
  behind_objects p (Do at e) = refl
  behind_objects p (Block at ss) = refl
  behind_objects p (If at c s other) = refl
  behind_objects p (While at c s) = refl
  behind_objects p (DoWhile at s c) = refl
  behind_objects p (For at first c step s) = refl
  behind_objects p (Switch at e cases other) = refl
  behind_objects p (Return at e) = refl
  behind_objects p (Exit at e) = refl
  behind_objects p (Sleep at e) = refl
  behind_objects p (Assert at e) = refl
  behind_objects p (Break at) = refl
  behind_objects p (Continue at) = refl
  behind_objects p (State at e name) = refl

  -- the blocks around, where there is one
  abbrev settled : Scope → Scope
  settled [] = [] ∷ []
  settled (block ∷ outer) = block ∷ outer

  seen_outer : (blocks : List Held) → scope_view (outer_by blocks) ≡ settled (map block_view blocks)
  seen_outer [] = refl
  seen_outer (block ∷ more) = refl

  -- the block around a body
  pub body_left : (old now : held.Point) (s : Stmt)
      → point_view now ≡ behind cx (point_view old) s
      → scope_view (outer_of now.scopes) ≡ scope_view (outer_of old.scopes)
  body_left old now s e =
      seen_outer now.scopes.outer
      ∙ ap (λ (p : Point). settled (rest p.scope)) e
      ∙ ap settled (behind_rest (point_view old) s)
      ∙ sym (seen_outer old.scopes.outer)

  pub body_objects : (old now : held.Point) (s : Stmt)
      → point_view now ≡ behind cx (point_view old) s
      → now.objects ≡ old.objects + objects_in s
  body_objects old now s e =
      ap (λ (p : Point). p.objects) e ∙ behind_objects (point_view old) s

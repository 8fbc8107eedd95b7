-- Statements break only with a fault where nothing that a name means is unknown; and behind a
-- declaration that stands nothing is.
use Rattle.std.proofs.Common.{ℕ, ℤ, List, [], ◌∷◌, Bool, true, false, Option, None, Some}
use Rattle.std.specs.Prelude.{position, slice_get}
use Rattle.std.specs.Str.{bytes_eq}
use Rattle.pawn_tree.specs.declared.name.At.{At}
use Rattle.pawn_tree.specs.declared.name.Name as n
use Rattle.pawn_tree.specs.declared.variable.Storage.{Storage}
use Rattle.pawn_tree.specs.declared.variable.Storage.TheVariants as storage
use Rattle.pawn_tree.specs.Expressions as e
use Rattle.pawn_tree.specs.Variables.{Dim, Var}
use Rattle.pawn_tree.specs.Statements as tree
use Rattle.pawn_tree.specs.Statements.{ConstantOf, First}
use Rattle.pawn_meaning.specs.Program as code
use Rattle.pawn_meaning.specs.Program.{Automaton}
use Rattle.names_rules.specs.Verdict.{Verdict, after}
use Rattle.types_rules.specs.Typed.{Typed}
use Rattle.types_rules.specs.Around.{Around}
use Rattle.types_rules.specs.Scope.{Scope, Meaning, found_in_block}
use Rattle.types_rules.proofs.VerdictLaws.{Holds, stands_itself, holds_after, holds_also}
use Rattle.types_rules.proofs.VerdictLaws.{holds_unless}
use Rattle.types_rules.specs.Constants as constants
use Rattle.types_rules.specs.Arrays.{shaped}
use Rattle.types_rules.specs.Points.{Point, beyond, inside, tag_of, array_place, var_by, behind_var}
use Rattle.types_rules.specs.Points.{behind_vars, behind_constant, behind_first, behind}
use Rattle.types_rules.specs.Counts.{slots_in_case, objects_in_case, slots_in_cases}
use Rattle.types_rules.specs.Counts.{objects_in_cases}
use Rattle.types_rules.specs.Stood.{Stood}
use Rattle.types_rules.specs.Locals.{unless_found, fresh_name, local_cell, local_by, local, locals}
use Rattle.types_rules.specs.Locals.{vars_parts, local_vars, local_constant}
use Rattle.types_rules.specs.States.{automaton_named, state_in, state_of, reached_in, reached_by}
use Rattle.types_rules.specs.Switches.{Ends, last_part, ends, label_by, labels, apart}
use Rattle.types_rules.specs.Statements.{CasePart, Other, part, maybe_part, use_at, maybe_use}
use Rattle.types_rules.specs.Statements.{value, value_or_zero, perhaps, returned, first_done}
use Rattle.types_rules.specs.Statements.{for_by, cased, switch_by, in_a_loop, past, past_maybe}
use Rattle.types_rules.specs.Statements.{past_stmt, stmt, block, otherwise, cases, one_case}
use Rattle.types_laws.proofs.Blames.{Blames, stood, blamed, when, blames_after, blames_both}
use Rattle.types_laws.proofs.Blames.{blames_also, blames_unless, blames_pair, blames_each}
use Rattle.types_laws.proofs.PathLaws.{AllMeant, meant_with, meant_inside, array_meant}
use Rattle.types_laws.proofs.PathLaws.{value_meant, holds_then}
use Rattle.types_laws.proofs.RuleFaults.{IsKnown, cell_blames}
use Rattle.types_laws.proofs.CallFaults.{expr_blames}
use Rattle.types_laws.proofs.ValueFaults.{constant_rule_blames, constant_blames}
use Rattle.types_laws.proofs.ValueFaults.{array_value_blames, static_blames, local_value_blames}

-- ---- declarations

found_blames : (at : At) (it : Option Meaning) → Blames (unless_found at it)
found_blames at None = stood _
found_blames at (Some it) = blamed _ _

pub fresh_blames : (scope : Scope) (at : At) (name : List ℕ) → Blames (fresh_name scope at name)
fresh_blames scope at name = found_blames at (found_in_block scope name)

-- nothing that a name means at a point is unknown
abbrev pub KnownAt : Point → Type 0
KnownAt point = AllMeant IsKnown point.scope

module _ (cx : Around) (at : At) where
  cell_blames_by : (point : Point) → KnownAt point → (kind : Storage) (constant : Bool) (x : Var)
      → Blames (local_cell cx point at kind constant x)
  cell_blames_by point known storage.New constant x =
      blames_after (local_value_blames cx point.scope known at _ point.objects x.init)
      (λ it s. stood _)
  cell_blames_by point known storage.Stock constant x =
      blames_after (local_value_blames cx point.scope known at _ point.objects x.init)
      (λ it s. stood _)
  cell_blames_by point known storage.Static constant x =
      blames_after (static_blames cx point.scope known at _ x.init) (λ it s. stood _)

  pub local_by_blames : (point : Point) → KnownAt point → (kind : Storage) (constant : Bool)
      (x : Var) (dims : List Dim) → Blames (local_by cx point at kind constant x dims)
  local_by_blames point known kind constant x [] = cell_blames_by point known kind constant x
  local_by_blames point known kind constant x (dim ∷ dims) =
      blames_after (array_value_blames cx point.scope known at _ dim dims x.init) (λ it s. stood _)

  local_blames : (point : Point) → KnownAt point → (kind : Storage) (constant : Bool) (x : Var)
      → Blames (local cx point at kind constant x)
  local_blames point known kind constant x =
      blames_also (fresh_blames point.scope at x.name.bytes)
      (local_by_blames point known kind constant x x.dims)

  -- what a variable that stands means
  var_known : (point : Point) (kind : Storage) (constant : Bool) (x : Var) (dims : List Dim)
      → Holds (λ y. IsKnown (var_by cx point at kind constant x dims))
      (local_by cx point at kind constant x dims)
  var_known point kind constant x [] = record { of = λ y e same. let no : ⊥ = cc in no }
  var_known point kind constant x (dim ∷ dims) =
      holds_after (array_meant IsKnown (array_place kind point) (tag_of cx x.tag) constant
      (shaped cx point.scope at dim dims x.init) _ (λ it e same. let no : ⊥ = cc in no))
      (λ it p. stands_itself _ _ p)

  pub known_behind_var : (point : Point) → KnownAt point → (kind : Storage) (constant : Bool)
      (x : Var) → Holds (λ y. KnownAt (behind_var cx point at kind constant x))
      (local_by cx point at kind constant x x.dims)
  known_behind_var point known kind constant x = record {
    of = λ y e.
        meant_with IsKnown point.scope _ known ((var_known point kind constant x x.dims).of y e);
  }

  locals_blame : (point : Point) → KnownAt point → (kind : Storage) (constant : Bool)
      (vars : List Var) → Blames (locals cx point at kind constant vars)
  unfolding locals
  locals_blame point known kind constant [] = stood _
  locals_blame point known kind constant (x ∷ xs) =
      blames_both (local_blames point known kind constant x)
      (λ y e. locals_blame (behind_var cx point at kind constant x)
      ((holds_also (fresh_name point.scope at x.name.bytes)
      (known_behind_var point known kind constant x)).of y e) kind constant xs)
      (λ y more e e2. stood _)

  known_behind_vars : (point : Point) → KnownAt point → (kind : Storage) (constant : Bool)
      (vars : List Var) → Holds (λ y. KnownAt (behind_vars cx point at kind constant vars))
      (locals cx point at kind constant vars)
  unfolding locals behind_vars
  known_behind_vars point known kind constant [] = record { of = λ y e. known }
  known_behind_vars point known kind constant (x ∷ xs) =
      holds_then (holds_also (fresh_name point.scope at x.name.bytes)
      (known_behind_var point known kind constant x))
      (λ y p. known_behind_vars (behind_var cx point at kind constant x) p kind constant xs)
      (λ y more p q. stands_itself _ _ q)

  local_vars_blame : (point : Point) → KnownAt point → (kind : Storage) (constant : Bool)
      (vars : List Var) → Blames (local_vars cx point at kind constant vars)
  local_vars_blame point known kind constant vars =
      blames_unless (vars_parts cx point at kind constant vars)
      (locals_blame point known kind constant vars)

  known_behind_local : (point : Point) → KnownAt point → (kind : Storage) (constant : Bool)
      (vars : List Var) → Holds (λ y. KnownAt (behind_vars cx point at kind constant vars))
      (local_vars cx point at kind constant vars)
  known_behind_local point known kind constant vars =
      holds_unless (vars_parts cx point at kind constant vars)
      (known_behind_vars point known kind constant vars)

  -- ---- constants

  local_constant_blames : (point : Point) → KnownAt point → (it : ConstantOf)
      → Blames (local_constant cx point at it)
  local_constant_blames point known it =
      blames_also (fresh_blames point.scope at it.name.bytes)
      (blames_after (constant_blames cx point.scope known at it.value) (λ x e. stood _))

  pub known_behind_constant : {A : Type 0} (point : Point) → KnownAt point → (it : ConstantOf)
      (rule : constants.Constant → Verdict A)
      → Holds (λ y. KnownAt (behind_constant cx point at it))
      (after (constants.constant cx point.scope at it.value) rule)
  known_behind_constant point known it rule = record {
    of = λ y e.
        meant_with IsKnown point.scope _ known
        ((value_meant IsKnown (tag_of cx it.tag) (constants.constant cx point.scope at it.value)
        rule (λ c s same. let no : ⊥ = cc in no)).of y e);
  }

-- ---- states and values of a `switch`

state_in_blames : (at : At) (automaton : ℕ) (state : Option ℕ)
    → Blames (state_in at automaton state)
state_in_blames at automaton None = blamed _ _
state_in_blames at automaton (Some state) = stood _

state_of_blames : (at : At) (number : ℕ) (automaton : Option Automaton) (state : List ℕ)
    → Blames (state_of at number automaton state)
state_of_blames at number None state = blamed _ _
state_of_blames at number (Some automaton) state =
    state_in_blames at number (position (bytes_eq state) automaton.states)

reached_in_blames : (at : At) (missing : ℕ) (automata : List Automaton) (number : Option ℕ)
    (state : List ℕ) → Blames (reached_in at missing automata number state)
reached_in_blames at missing automata None state = blamed _ _
reached_in_blames at missing automata (Some number) state =
    state_of_blames at number (slice_get automata number) state

reached_by_blames : (automata : List Automaton) (at : At) (name : Option n.Name) (state : List ℕ)
    → Blames (reached_by automata at name state)
reached_by_blames automata at None state =
    reached_in_blames at _ automata (automaton_named automata []) state
reached_by_blames automata at (Some name) state =
    reached_in_blames at _ automata (automaton_named automata name.bytes) state

module _ (cx : Around) (at : At) (tag : ℕ) where
  label_by_blames : (first : Typed) (last : Option Typed)
      → Blames (label_by cx at tag first last)
  label_by_blames first None = blames_after (constant_rule_blames at first) (λ x e. stood _)
  label_by_blames first (Some last) =
      blames_both (constant_rule_blames at first) (λ x e. constant_rule_blames at last)
      (λ x y e e2. stood _)

  labels_blame : (all : List Ends) → Blames (labels cx at tag all)
  unfolding labels
  labels_blame [] = stood _
  labels_blame (range ∷ more) =
      blames_both (label_by_blames range.first range.last) (λ x e. labels_blame more)
      (λ x y e e2. stood _)

apart_blames : (at : At) (ranges : List (ℤ × ℤ)) → Blames (apart at ranges)
apart_blames at ranges = when _ (blamed _ _) (stood _)

-- ---- statements

module _ (cx : Around) (automata : List Automaton) (result : ℕ) where
  use_blames : (at : At) (x : Typed) → Blames (use_at cx automata result at x)
  use_blames at x = blames_after (cell_blames at x) (λ c e. stood _)

  maybe_use_blames : (at : At) (it : Option Typed) → Blames (maybe_use cx automata result at it)
  maybe_use_blames at None = stood _
  maybe_use_blames at (Some x) = blames_after (use_blames at x) (λ it e. stood _)

  for_by_blames : (at : At) (first : Stood) (c step : Option Typed) (s : Stood)
      → Blames (for_by cx automata result at first c step s)
  for_by_blames at first c step s =
      blames_both (maybe_use_blames at c) (λ c2 e. maybe_use_blames at step)
      (λ c2 step2 e e2. stood _)

  cased_blames : (at : At) (tag : ℕ) (all : List CasePart)
      → Blames (cased cx automata result at tag all)
  unfolding cased
  cased_blames at tag [] = stood _
  cased_blames at tag (x ∷ more) =
      blames_both (labels_blame cx at tag x.ends) (λ values e. cased_blames at tag more)
      (λ values rest e e2. stood _)

  switch_by_blames : (at : At) (x : Typed) (all : List CasePart) (other : Other)
      → Blames (switch_by cx automata result at x all other)
  switch_by_blames at x all other =
      blames_both (use_blames at x) (λ it e. cased_blames at x.tag all) (λ it cs e e2.
      blames_after (apart_blames at cs.ranges) (λ ranges e3. stood _))

  loop_blames : (at : At) (in_loop : Bool) (s : code.Stmt) → Blames (in_a_loop at in_loop s)
  loop_blames at false s = blamed _ _
  loop_blames at true s = stood _

  module _ (point : Point) (known : KnownAt point) where
    part_blames : (it : e.Expr) → Blames (part cx automata result point it)
    part_blames it = expr_blames cx point.scope known point.objects it

    value_blames : (at : At) (it : e.Expr) → Blames (value cx automata result point at it)
    value_blames at it = blames_after (part_blames it) (λ x s. use_blames at x)

    zero_blames : (at : At) (it : Option e.Expr)
        → Blames (value_or_zero cx automata result point at it)
    zero_blames at None = stood _
    zero_blames at (Some it) = value_blames at it

    perhaps_blames : (at : At) (it : Option e.Expr)
        → Blames (perhaps cx automata result point at it)
    perhaps_blames at None = stood _
    perhaps_blames at (Some it) = blames_after (value_blames at it) (λ x s. stood _)

    returned_blames : (at : At) (it : Option e.Expr)
        → Blames (returned cx automata result point at it)
    returned_blames at None = stood _
    returned_blames at (Some it) = blames_after (value_blames at it) (λ x s. stood _)

    first_blames : (at : At) (first : First)
        → Blames (first_done cx automata result point at first)
    first_blames at tree.Nothing = stood _
    first_blames at (tree.New vars) = locals_blame cx at point known storage.New false vars
    first_blames at (tree.Value it) = blames_after (value_blames at it) (λ x s. stood _)

    known_behind_first : (at : At) (first : First)
        → Holds (λ y. KnownAt (behind_first cx point at first))
        (first_done cx automata result point at first)
    known_behind_first at tree.Nothing = record { of = λ y e. known }
    known_behind_first at (tree.New vars) =
        known_behind_vars cx at point known storage.New false vars
    known_behind_first at (tree.Value it) = record { of = λ y e. known }

    last_blames : (it : Option e.Expr) → Blames (last_part cx point.scope it)
    last_blames None = stood _
    last_blames (Some it) =
        blames_after (expr_blames cx point.scope known 0 it) (λ x s. stood _)

    ends_blame : (range : tree.Range) → Blames (ends cx point.scope range)
    ends_blame range =
        blames_both (expr_blames cx point.scope known 0 range.first)
        (λ x s. last_blames range.last) (λ x y s t. stood _)

  maybe_blames : (point : Point) → KnownAt point → (it : Option e.Expr)
      → Blames (maybe_part cx automata result point it)
  maybe_blames point known None = stood _
  maybe_blames point known (Some it) = blames_after (part_blames point known it) (λ x s. stood _)

  -- behind a statement that stands
  known_behind : (point : Point) → KnownAt point → (in_loop : Bool) (s : tree.Stmt)
      → Holds (λ y. KnownAt (behind cx point s)) (stmt cx automata result point in_loop s)
  known_behind point known in_loop (tree.Local at it) =
      known_behind_local cx at point known it.storage it.constant it.vars
  known_behind point known in_loop (tree.Constant at it) =
      holds_also (fresh_name point.scope at it.name.bytes)
      (known_behind_constant cx at point known it _)
  known_behind point known in_loop s = record { of = λ y e. known }

  mutual
    pub stmt_blames : (point : Point) → KnownAt point → (in_loop : Bool) (s : tree.Stmt)
        → Blames (stmt cx automata result point in_loop s)
    stmt_blames point known in_loop (tree.Empty at) = stood _
    stmt_blames point known in_loop (tree.Do at it) =
        blames_after (value_blames point known at it) (λ x s. stood _)
    stmt_blames point known in_loop (tree.Block at ss) =
        blames_after (block_blames (inside point)
        (meant_inside IsKnown point.scope known) in_loop ss)
        (λ x s. stood _)
    stmt_blames point known in_loop (tree.If at c s other) =
        let there : Point = past cx automata result point c in
        blames_both (part_blames point known c) (λ x e.
        blames_pair (stmt_blames there known in_loop s)
        (otherwise_blames (past_stmt cx automata result there s) known in_loop other))
        (λ x parts e e2. blames_after (use_blames at x) (λ it e3. stood _))
    stmt_blames point known in_loop (tree.While at c s) =
        blames_both (part_blames point known c)
        (λ x e. stmt_blames (past cx automata result point c) known true s)
        (λ x y e e2. blames_after (use_blames at x) (λ it e3. stood _))
    stmt_blames point known in_loop (tree.DoWhile at s c) =
        blames_both (stmt_blames point known true s)
        (λ x e. part_blames (past_stmt cx automata result point s) known c)
        (λ x y e e2. blames_after (use_blames at y) (λ it e3. stood _))
    stmt_blames point known in_loop (tree.For at first c step s) =
        let there : KnownAt (inside point) = meant_inside IsKnown point.scope known in
        let inner : Point = behind_first cx (inside point) at first in
        let then : Point = past_maybe cx automata result inner c in
        blames_unless _ (blames_both (first_blames (inside point) there at first) (λ x e.
        let more : KnownAt inner = (known_behind_first (inside point) there at first).of x e in
        blames_pair (blames_pair (maybe_blames inner more c) (maybe_blames then more step))
        (stmt_blames (past_maybe cx automata result then step) more true s))
        (λ x it e e2. for_by_blames at x it.0.0 it.0.1 it.1))
    stmt_blames point known in_loop (tree.Switch at it cs other) =
        let there : Point = past cx automata result point it in
        blames_both (part_blames point known it) (λ x e.
        blames_pair (cases_blame there known in_loop cs)
        (otherwise_blames (beyond there (objects_in_cases cs) (slots_in_cases cs)) known in_loop
        other))
        (λ x parts e e2. switch_by_blames at x parts.0 parts.1)
    stmt_blames point known in_loop (tree.Return at it) = returned_blames point known at it
    stmt_blames point known in_loop (tree.Exit at it) =
        blames_after (zero_blames point known at it) (λ x s. stood _)
    stmt_blames point known in_loop (tree.Sleep at it) =
        blames_after (zero_blames point known at it) (λ x s. stood _)
    stmt_blames point known in_loop (tree.Assert at it) =
        blames_after (value_blames point known at it) (λ x s. stood _)
    stmt_blames point known in_loop (tree.Break at) = loop_blames at in_loop code.Break
    stmt_blames point known in_loop (tree.Continue at) = loop_blames at in_loop code.Continue
    stmt_blames point known in_loop (tree.State at c name) =
        blames_after (perhaps_blames point known at c) (λ x e.
        blames_after (reached_by_blames automata at name.automaton name.state.bytes)
        (λ it e2. stood _))
    stmt_blames point known in_loop (tree.Local at it) =
        local_vars_blame cx at point known it.storage it.constant it.vars
    stmt_blames point known in_loop (tree.Constant at it) =
        local_constant_blames cx at point known it

    block_blames : (point : Point) → KnownAt point → (in_loop : Bool) (ss : tree.Stmts)
        → Blames (block cx automata result point in_loop ss)
    block_blames point known in_loop tree.no_stmts = stood _
    block_blames point known in_loop (tree.then_stmt s ss) =
        blames_both (stmt_blames point known in_loop s)
        (λ x e. block_blames (behind cx point s) ((known_behind point known in_loop s).of x e)
        in_loop ss)
        (λ x more e e2. stood _)

    otherwise_blames : (point : Point) → KnownAt point → (in_loop : Bool) (other : tree.MaybeStmt)
        → Blames (otherwise cx automata result point in_loop other)
    otherwise_blames point known in_loop tree.no_stmt = stood _
    otherwise_blames point known in_loop (tree.one_stmt s) =
        blames_after (stmt_blames point known in_loop s) (λ x e. stood _)

    cases_blame : (point : Point) → KnownAt point → (in_loop : Bool) (cs : tree.Cases)
        → Blames (cases cx automata result point in_loop cs)
    cases_blame point known in_loop tree.no_cases = stood _
    cases_blame point known in_loop (tree.then_case x xs) =
        blames_both (case_blames point known in_loop x)
        (λ it e. cases_blame (beyond point (objects_in_case x) (slots_in_case x)) known in_loop xs)
        (λ it more e e2. stood _)

    case_blames : (point : Point) → KnownAt point → (in_loop : Bool) (x : tree.Case)
        → Blames (one_case cx automata result point in_loop x)
    case_blames point known in_loop (tree.Values case_at ranges s) =
        blames_both (blames_each (ends cx point.scope) ranges (ends_blame point known))
        (λ x e. stmt_blames point known in_loop s) (λ x y e e2. stood _)

-- A statement that stands makes as many slots and objects as are counted in its tree: so the
-- counts before a statement are the numbers of slots and objects there.
use Rattle.std.proofs.Common.{◌≡◌, ◌+◌, ℕ, List, [], ◌∷◌, ◌++◌, Bool, true, false, Option, None}
use Rattle.std.proofs.Common.{Some, refl, arith, sym, ◌∙◌}
use Rattle.std.specs.Prelude.{length}
use Rattle.std.proofs.lemmas.List.{length-append}
use Rattle.std.proofs.lemmas.List.Sums.{sum_by-cons}
use Rattle.pawn_tree.specs.declared.name.At.{At}
use Rattle.pawn_tree.specs.declared.variable.Storage.{Storage}
use Rattle.pawn_tree.specs.declared.variable.Storage.TheVariants as storage
use Rattle.pawn_tree.specs.Expressions as e
use Rattle.pawn_tree.specs.Variables.{Dim, Init, Var, Value, Braces}
use Rattle.pawn_tree.specs.Statements as tree
use Rattle.pawn_tree.specs.Statements.{ConstantOf, First}
use Rattle.pawn_meaning.specs.Program as code
use Rattle.pawn_meaning.specs.Program.{Automaton, StaticObject, Slot}
use Rattle.names_rules.specs.Verdict.{Stands}
use Rattle.types_rules.specs.Rule.{each}
use Rattle.types_rules.specs.Typed.{Typed, cell}
use Rattle.types_rules.specs.Around.{Around}
use Rattle.types_rules.specs.Scope.{Scope}
use Rattle.types_rules.proofs.VerdictLaws.{Holds, stands_itself, breaks_holds, holds_after}
use Rattle.types_rules.proofs.VerdictLaws.{holds_both, holds_all, holds_also, holds_unless}
use Rattle.types_rules.specs.Literals.{literals}
use Rattle.types_rules.proofs.LiteralLaws.{Made, expr_made}
use Rattle.types_rules.specs.Constants as constants
use Rattle.types_rules.specs.Arrays.{array_value}
use Rattle.types_rules.specs.Cells.{LocalValue, local_value, static_value}
use Rattle.types_rules.specs.Counts.{slots_of_storage, literals_of_init, objects_by, objects_of_var}
use Rattle.types_rules.specs.Counts.{slots_of_vars, objects_of_vars, literals_of, slots_first}
use Rattle.types_rules.specs.Counts.{objects_first, slots_in, slots_in_all, slots_in_other}
use Rattle.types_rules.specs.Counts.{slots_in_cases, slots_in_case, objects_in, objects_in_all}
use Rattle.types_rules.specs.Counts.{objects_in_other, objects_in_cases, objects_in_case}
use Rattle.types_rules.specs.Points.{Point, beyond, inside, behind, behind_first, behind_var}
use Rattle.types_rules.specs.Points.{tag_of}
use Rattle.types_rules.specs.Stood.{Stood, stood_behind, nothing_stood}
use Rattle.types_rules.specs.Locals.{fresh_name, local_cell, local_by, array_by, locals, vars_parts}
use Rattle.types_rules.specs.Locals.{local_vars, local_constant}
use Rattle.types_rules.specs.States.{reached}
use Rattle.types_rules.specs.Switches.{labels, apart, ends}
use Rattle.types_rules.specs.Statements.{Used, Maybe, Other, Cased, CasePart, maybe_part, use_at}
use Rattle.types_rules.specs.Statements.{maybe_use, value, value_or_zero, perhaps, returned}
use Rattle.types_rules.specs.Statements.{first_part, first_done, for_by, cased, switch_by}
use Rattle.types_rules.specs.Statements.{in_a_loop, past, past_maybe, past_stmt, stmt, block}
use Rattle.types_rules.specs.Statements.{otherwise, cases, one_case}

-- so many slots and objects
pub record MadeStood (m n : ℕ) (x : Stood) : Type 0 where
  pub slots : length x.slots ≡ m
  pub objects : length x.objects ≡ n

sum_of : {A : Type 0} (xs ys : List A) (m n : ℕ) → length xs ≡ m → length ys ≡ n
    → length (xs ++ ys) ≡ m + n
sum_of xs ys m n p q = rw (length-append xs ys, p, q) refl

behind_made : (x y : Stood) (m n k l : ℕ) → MadeStood m n x → MadeStood k l y
    → MadeStood (m + k) (n + l) (stood_behind x y)
behind_made x y m n k l p q = record {
  slots = sum_of x.slots y.slots m k p.slots q.slots;
  objects = sum_of x.objects y.objects n l p.objects q.objects;
}

-- ---- variables

record ValueMade (n : ℕ) (it : LocalValue) : Type 0 where
  pub count : length it.literals ≡ n

value_made : (cx : Around) (scope : Scope) (before : ℕ) (at : At) (tag : ℕ) (init : Option Init)
    → Holds (ValueMade (literals_of_init init)) (local_value cx scope before at tag init)
value_made cx scope before at tag None = stands_itself _ _ (record { count = refl })
value_made cx scope before at tag (Some (Value it)) =
    holds_after (expr_made cx scope before it) (λ x p.
    holds_after (holds_all (cell at x)) (λ c t. stands_itself _ _ (record { count = p.count })))
value_made cx scope before at tag (Some (Braces braces xs goes_on)) = breaks_holds _ _

module _ (cx : Around) where
  cell_made : (point : Point) (at : At) (kind : Storage) (constant : Bool) (x : Var)
      → Holds (MadeStood (slots_of_storage kind) (objects_by kind [] x.init))
      (local_cell cx point at kind constant x)
  cell_made point at storage.New constant x =
      holds_after (value_made cx point.scope point.objects at (tag_of cx x.tag) x.init) (λ it p.
      stands_itself _ _ (record { slots = refl; objects = p.count }))
  cell_made point at storage.Stock constant x =
      holds_after (value_made cx point.scope point.objects at (tag_of cx x.tag) x.init) (λ it p.
      stands_itself _ _ (record { slots = refl; objects = p.count }))
  cell_made point at storage.Static constant x =
      holds_after (holds_all (static_value cx point.scope at (tag_of cx x.tag) x.init)) (λ it t.
      stands_itself _ _ (record { slots = refl; objects = refl }))

  array_made : (point : Point) (kind : Storage) (constant : Bool) (it : _)
      → MadeStood (slots_of_storage kind) 1 (array_by cx point kind constant it)
  array_made point storage.New constant it = record { slots = refl; objects = refl }
  array_made point storage.Stock constant it = record { slots = refl; objects = refl }
  array_made point storage.Static constant it = record { slots = refl; objects = refl }

  by_made : (point : Point) (at : At) (kind : Storage) (constant : Bool) (x : Var) (dims : List Dim)
      → Holds (MadeStood (slots_of_storage kind) (objects_by kind dims x.init))
      (local_by cx point at kind constant x dims)
  by_made point at kind constant x [] = cell_made point at kind constant x
  by_made point at kind constant x (dim ∷ dims) =
      holds_after (holds_all (array_value cx point.scope at (tag_of cx x.tag) dim dims x.init))
      (λ it t.
      stands_itself _ _ (array_made point kind constant it))

  vars_behind : (kind : Storage) (x : Var) (xs : List Var) (y more : Stood)
      → MadeStood (slots_of_storage kind + slots_of_vars kind xs)
      (objects_of_var kind x + objects_of_vars kind xs) (stood_behind y more)
      → MadeStood (slots_of_vars kind (x ∷ xs)) (objects_of_vars kind (x ∷ xs))
      (stood_behind y more)
  vars_behind kind x xs y more m = record {
    slots = m.slots ∙ sym (sum_by-cons (λ (it : Var). slots_of_storage kind) x xs);
    objects = m.objects ∙ sym (sum_by-cons (λ it. objects_of_var kind it) x xs);
  }

  locals_made : (point : Point) (at : At) (kind : Storage) (constant : Bool) (vars : List Var)
      → Holds (MadeStood (slots_of_vars kind vars) (objects_of_vars kind vars))
      (locals cx point at kind constant vars)
  unfolding locals
  locals_made point at kind constant [] =
      stands_itself _ nothing_stood (record { slots = refl; objects = refl })
  locals_made point at kind constant (x ∷ xs) =
      holds_both (holds_also (fresh_name point.scope at x.name.bytes)
      (by_made point at kind constant x x.dims))
      (locals_made (behind_var cx point at kind constant x) at kind constant xs) (λ y more p q.
      stands_itself _ _ (vars_behind kind x xs y more (behind_made y more _ _ _ _ p q)))

  vars_made : (point : Point) (at : At) (kind : Storage) (constant : Bool) (vars : List Var)
      → Holds (MadeStood (slots_of_vars kind vars) (objects_of_vars kind vars))
      (local_vars cx point at kind constant vars)
  vars_made point at kind constant vars =
      holds_unless (vars_parts cx point at kind constant vars)
      (locals_made point at kind constant vars)

  constant_made : (point : Point) (at : At) (it : ConstantOf)
      → Holds (MadeStood 0 0) (local_constant cx point at it)
  constant_made point at it =
      holds_also (fresh_name point.scope at it.name.bytes)
      (holds_after (holds_all (constants.constant cx point.scope at it.value)) (λ x t.
      stands_itself _ _ (record { slots = refl; objects = refl })))

-- ---- values in statements

record UsedMade (n : ℕ) (it : Used) : Type 0 where
  pub count : length it.objects ≡ n

record MaybeMade (n : ℕ) (it : Maybe) : Type 0 where
  pub count : length it.objects ≡ n

abbrev maybe_literals : Option Typed → List StaticObject
maybe_literals None = []
maybe_literals (Some x) = x.literals

record MaybeTyped (n : ℕ) (it : Option Typed) : Type 0 where
  pub count : length (maybe_literals it) ≡ n

-- what stands behind `else`, and cases before their values are looked at
record OtherMade (m n : ℕ) (it : Other) : Type 0 where
  pub stood : MadeStood m n it.stood

record CaseMade (m n : ℕ) (it : CasePart) : Type 0 where
  pub stood : MadeStood m n it.stood

data CasesMade : ℕ → ℕ → List CasePart → Type 0 where
  none_made : CasesMade 0 0 []
  one_more : {m n k l : ℕ} {it : CasePart} {more : List CasePart} → MadeStood m n it.stood
      → CasesMade k l more
      → CasesMade (m + k) (n + l) (it ∷ more)

record AllMade (m n : ℕ) (parts : List CasePart) : Type 0 where
  pub made : CasesMade m n parts

record CasedMade (m n : ℕ) (it : Cased) : Type 0 where
  pub stood : MadeStood m n it.stood

record StoodAndOther (k l m n : ℕ) (parts : Stood × Other) : Type 0 where
  pub first : MadeStood k l parts.0
  pub second : MadeStood m n parts.1.stood

record CasesAndOther (k l m n : ℕ) (parts : List CasePart × Other) : Type 0 where
  pub first : CasesMade k l parts.0
  pub second : MadeStood m n parts.1.stood

record TwoMaybe (m n : ℕ) (parts : Option Typed × Option Typed) : Type 0 where
  pub first : MaybeTyped m parts.0
  pub second : MaybeTyped n parts.1

record ForParts (j k m n : ℕ) (parts : (Option Typed × Option Typed) × Stood) : Type 0 where
  pub maybe : TwoMaybe j k parts.0
  pub body : MadeStood m n parts.1

module _ (cx : Around) (automata : List Automaton) (result : ℕ) where
  used_made : (at : At) (x : Typed) (n : ℕ) → Made n x
      → Holds (UsedMade n) (use_at cx automata result at x)
  used_made at x n p =
      holds_after (holds_all (cell at x)) (λ c t. stands_itself _ _ (record { count = p.count }))

  one_value : (point : Point) (at : At) (it : e.Expr)
      → Holds (UsedMade (literals it)) (value cx automata result point at it)
  one_value point at it =
      holds_after (expr_made cx point.scope point.objects it) (λ x p. used_made at x _ p)

  zero_or : (point : Point) (at : At) (it : Option e.Expr)
      → Holds (UsedMade (literals_of it)) (value_or_zero cx automata result point at it)
  zero_or point at None = stands_itself _ _ (record { count = refl })
  zero_or point at (Some it) = one_value point at it

  maybe_typed : (point : Point) (it : Option e.Expr)
      → Holds (MaybeTyped (literals_of it)) (maybe_part cx automata result point it)
  maybe_typed point None = stands_itself _ None (record { count = refl })
  maybe_typed point (Some it) =
      holds_after (expr_made cx point.scope point.objects it)
      (λ x p. stands_itself _ (Some x) (record { count = p.count }))

  maybe_used : (at : At) (it : Option Typed) (n : ℕ) → MaybeTyped n it
      → Holds (MaybeMade n) (maybe_use cx automata result at it)
  maybe_used at None n p = stands_itself _ _ (record { count = p.count })
  maybe_used at (Some x) n p =
      holds_after (used_made at x n (record { count = p.count }))
      (λ it q. stands_itself _ _ (record { count = q.count }))

  perhaps_made : (point : Point) (at : At) (it : Option e.Expr)
      → Holds (MaybeMade (literals_of it)) (perhaps cx automata result point at it)
  perhaps_made point at None = stands_itself _ _ (record { count = refl })
  perhaps_made point at (Some it) =
      holds_after (one_value point at it) (λ x p. stands_itself _ _ (record { count = p.count }))

  returned_made : (point : Point) (at : At) (it : Option e.Expr)
      → Holds (MadeStood 0 (literals_of it)) (returned cx automata result point at it)
  returned_made point at None = stands_itself _ _ (record { slots = refl; objects = refl })
  returned_made point at (Some it) =
      holds_after (one_value point at it)
      (λ x p. stands_itself _ _ (record { slots = refl; objects = p.count }))

  first_made : (point : Point) (at : At) (first : First)
      → Holds (MadeStood (slots_first first) (objects_first first))
      (first_done cx automata result point at first)
  first_made point at tree.Nothing = stands_itself _ _ (record { slots = refl; objects = refl })
  first_made point at (tree.New vars) = locals_made cx point at storage.New false vars
  first_made point at (tree.Value it) =
      holds_after (one_value point at it)
      (λ x p. stands_itself _ _ (record { slots = refl; objects = p.count }))

  loop_made : (b : Bool) (at : At) (s : code.Stmt) → Holds (MadeStood 0 0) (in_a_loop at b s)
  loop_made false at s = breaks_holds _ _
  loop_made true at s = stands_itself _ _ (record { slots = refl; objects = refl })

  for_made : (at : At) (x : Stood) (c step : Option Typed) (s : Stood) (h i j k m n : ℕ)
      → MadeStood h i x → MaybeTyped j c → MaybeTyped k step → MadeStood m n s
      → Holds (MadeStood (h + m) (i + (j + (k + n))))
      (for_by cx automata result at x c step s)
  for_made at x c step s h i j k m n f p q r =
      holds_both (maybe_used at c j p) (maybe_used at step k q) (λ c2 step2 p2 q2.
      stands_itself _ _ (record {
        slots = sum_of x.slots s.slots _ _ f.slots r.slots;
        objects =
            omega (
              arith,
              length-append x.objects ((c2.objects ++ step2.objects) ++ s.objects),
              length-append (c2.objects ++ step2.objects) s.objects,
              length-append c2.objects
                  step2.objects,
              f.objects,
              p2.count,
              q2.count,
              r.objects,
            );
      }))

  cased_made : (at : At) (tag : ℕ) (parts : List CasePart) (m n : ℕ) → CasesMade m n parts
      → Holds (CasedMade m n) (cased cx automata result at tag parts)
  unfolding cased
  cased_made at tag [] _ _ none_made =
      stands_itself _ _ (record { stood = record { slots = refl; objects = refl } })
  cased_made at tag (it ∷ more) _ _ (one_more p q) =
      holds_both (holds_all (labels cx at tag it.ends)) (cased_made at tag more _ _ q)
      (λ values rest t r.
      stands_itself _ _ (record {
        stood = behind_made _ rest.stood _ _ _ _
            (record { slots = p.slots; objects = p.objects }) r.stood;
      }))

  switch_made : (at : At) (x : Typed) (parts : List CasePart) (other : Other) (j k l m n : ℕ)
      → Made j x → CasesMade k l parts → MadeStood m n other.stood
      → Holds (MadeStood (k + m) (j + (l + n))) (switch_by cx automata result at x parts other)
  switch_made at x parts other j k l m n p q r =
      holds_both (used_made at x j p) (cased_made at x.tag parts k l q) (λ it cs p2 q2.
      holds_after (holds_all (apart at cs.ranges)) (λ ranges t.
      let both_stood = behind_made cs.stood other.stood _ _ _ _ q2.stood r in
      stands_itself _ _ (record {
        slots = both_stood.slots;
        objects = sum_of it.objects _ _ _ p2.count both_stood.objects;
      })))

  -- ---- all statements

  mutual
    pub stmt_made : (point : Point) (in_loop : Bool) (s : tree.Stmt)
        → Holds (MadeStood (slots_in s) (objects_in s)) (stmt cx automata result point in_loop s)
    stmt_made point in_loop (tree.Empty at) =
        stands_itself _ _ (record { slots = refl; objects = refl })
    stmt_made point in_loop (tree.Do at it) =
        holds_after (one_value point at it)
        (λ x p. stands_itself _ _ (record { slots = refl; objects = p.count }))
    stmt_made point in_loop (tree.Block at ss) =
        holds_after (block_made (inside point) in_loop ss)
        (λ x p. stands_itself _ _ (record { slots = p.slots; objects = p.objects }))
    stmt_made point in_loop (tree.If at c s other) =
        holds_both (expr_made cx point.scope point.objects c)
        (holds_both (stmt_made (past cx automata result point c) in_loop s)
        (other_made (past_stmt cx automata result (past cx automata result point c) s) in_loop
        other)
        (λ x y p q. stands_itself
        (StoodAndOther (slots_in s) (objects_in s) (slots_in_other other)
        (objects_in_other other)) (x, y) (record { first = p; second = q.stood })))
        (λ x parts p q. holds_after (used_made at x _ p) (λ it r.
        let m = behind_made parts.0 parts.1.stood _ _ _ _ q.first q.second in
        stands_itself _ _ (record {
          slots = m.slots;
          objects = sum_of it.objects _ _ _ r.count m.objects;
        })))
    stmt_made point in_loop (tree.While at c s) =
        holds_both (expr_made cx point.scope point.objects c)
        (stmt_made (past cx automata result point c) true s) (λ x y p q.
        holds_after (used_made at x _ p) (λ it r.
        stands_itself _ _ (record {
          slots = q.slots;
          objects = sum_of it.objects y.objects _ _ r.count q.objects;
        })))
    stmt_made point in_loop (tree.DoWhile at s c) =
        let there : Point = past_stmt cx automata result point s in
        holds_both (stmt_made point true s) (expr_made cx there.scope there.objects c) (λ x y p q.
        holds_after (used_made at y _ q) (λ it r.
        stands_itself _ _ (record {
          slots = omega (arith, p.slots, length-append x.slots []);
          objects = sum_of x.objects it.objects _ _ p.objects r.count;
        })))
    stmt_made point in_loop (tree.For at first c step s) =
        let inner : Point = behind_first cx (inside point) at first in
        let there : Point = past_maybe cx automata result inner c in
        holds_unless _ (holds_both (first_made (inside point) at first)
        (holds_both (holds_both (maybe_typed inner c) (maybe_typed there step)
        (λ x y p q. stands_itself (TwoMaybe (literals_of c) (literals_of step)) (x, y)
        (record { first = p; second = q })))
        (stmt_made (past_maybe cx automata result there step) true s)
        (λ x y p q. stands_itself
        (ForParts (literals_of c) (literals_of step) (slots_in s) (objects_in s)) (x, y)
        (record { maybe = p; body = q })))
        (λ x parts f q. for_made at x parts.0.0 parts.0.1 parts.1 _ _ _ _ _ _
        f q.maybe.first q.maybe.second q.body))
    stmt_made point in_loop (tree.Switch at it cs other) =
        let there : Point = past cx automata result point it in
        holds_both (expr_made cx point.scope point.objects it)
        (holds_both (cases_made there in_loop cs)
        (other_made (beyond there (objects_in_cases cs) (slots_in_cases cs)) in_loop other)
        (λ x y p q. stands_itself
        (CasesAndOther (slots_in_cases cs) (objects_in_cases cs) (slots_in_other other)
        (objects_in_other other)) (x, y) (record { first = p.made; second = q.stood })))
        (λ x parts p q. switch_made at x parts.0 parts.1 _ _ _ _ _ p q.first q.second)
    stmt_made point in_loop (tree.Return at it) = returned_made point at it
    stmt_made point in_loop (tree.Exit at it) =
        holds_after (zero_or point at it)
        (λ x p. stands_itself _ _ (record { slots = refl; objects = p.count }))
    stmt_made point in_loop (tree.Sleep at it) =
        holds_after (zero_or point at it)
        (λ x p. stands_itself _ _ (record { slots = refl; objects = p.count }))
    stmt_made point in_loop (tree.Assert at it) =
        holds_after (one_value point at it)
        (λ x p. stands_itself _ _ (record { slots = refl; objects = p.count }))
    stmt_made point in_loop (tree.Break at) = loop_made in_loop at code.Break
    stmt_made point in_loop (tree.Continue at) = loop_made in_loop at code.Continue
    stmt_made point in_loop (tree.State at c name) =
        holds_after (perhaps_made point at c) (λ x p.
        holds_after (holds_all (reached automata at name)) (λ it t.
        stands_itself _ _ (record { slots = refl; objects = p.count })))
    stmt_made point in_loop (tree.Local at it) =
        vars_made cx point at it.storage it.constant it.vars
    stmt_made point in_loop (tree.Constant at it) = constant_made cx point at it

    block_made : (point : Point) (in_loop : Bool) (ss : tree.Stmts)
        → Holds (MadeStood (slots_in_all ss) (objects_in_all ss))
        (block cx automata result point in_loop ss)
    block_made point in_loop tree.no_stmts =
        stands_itself _ _ (record { slots = refl; objects = refl })
    block_made point in_loop (tree.then_stmt s ss) =
        holds_both (stmt_made point in_loop s) (block_made (behind cx point s) in_loop ss)
        (λ x more p q.
        stands_itself _ _ (behind_made x more _ _ _ _ p q))

    other_made : (point : Point) (in_loop : Bool) (other : tree.MaybeStmt)
        → Holds (OtherMade (slots_in_other other) (objects_in_other other))
        (otherwise cx automata result point in_loop other)
    other_made point in_loop tree.no_stmt =
        stands_itself _ _ (record { stood = record { slots = refl; objects = refl } })
    other_made point in_loop (tree.one_stmt s) =
        holds_after (stmt_made point in_loop s) (λ x p. stands_itself _ _ (record { stood = p }))

    cases_made : (point : Point) (in_loop : Bool) (cs : tree.Cases)
        → Holds (AllMade (slots_in_cases cs) (objects_in_cases cs))
        (cases cx automata result point in_loop cs)
    cases_made point in_loop tree.no_cases = stands_itself _ [] (record { made = none_made })
    cases_made point in_loop (tree.then_case x xs) =
        holds_both (case_made point in_loop x)
        (cases_made (beyond point (objects_in_case x) (slots_in_case x)) in_loop xs) (λ it more p q.
        stands_itself _ (it ∷ more) (record { made = one_more p.stood q.made }))

    case_made : (point : Point) (in_loop : Bool) (x : tree.Case)
        → Holds (CaseMade (slots_in_case x) (objects_in_case x))
        (one_case cx automata result point in_loop x)
    case_made point in_loop (tree.Values case_at ranges s) =
        holds_both (holds_all (each (ends cx point.scope) ranges)) (stmt_made point in_loop s)
        (λ x y t p.
        stands_itself _ _ (record { stood = p }))

-- what the counts say of a statement that stands
pub stmt_counted : (cx : Around) (automata : List Automaton) (result : ℕ) (point : Point)
    (in_loop : Bool) (s : tree.Stmt) (x : Stood)
    → stmt cx automata result point in_loop s ≡ Stands x → (length x.slots ≡ slots_in s)
    × (length x.objects ≡ objects_in s)
stmt_counted cx automata result point in_loop s x h =
    let m = (stmt_made cx automata result point in_loop s).of x h in (m.slots, m.objects)

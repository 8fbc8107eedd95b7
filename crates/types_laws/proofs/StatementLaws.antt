-- A statement that stands is valid where it stands, by recursion on its tree.
use Rattle.std.proofs.Common.{◌≡◌, ◌+◌, ℕ, List, [], ◌∷◌, Bool, true, false, Option, None, Some}
use Rattle.std.proofs.Common.{refl, sym, ap, ◌∙◌, arith}
use Rattle.pawn_tree.specs.declared.name.At.{At}
use Rattle.pawn_tree.specs.declared.variable.Storage.TheVariants as storage
use Rattle.pawn_tree.specs.Expressions as e
use Rattle.pawn_tree.specs.Statements as tree
use Rattle.pawn_meaning.specs.Program as code
use Rattle.pawn_meaning.specs.Program.{Stmt, Automaton, StaticObject}
use Rattle.pawn_meaning.specs.ValidExprs.{IsValidExpr}
use Rattle.pawn_meaning.specs.ValidStmts.{slots_made, slots_made_by, all_slots_made, IsValidStmt}
use Rattle.types_rules.specs.Typed.{Typed}
use Rattle.types_rules.specs.Around.{Around}
use Rattle.types_rules.specs.Tests.{sent}
use Rattle.types_rules.proofs.VerdictLaws.{Holds, stands_itself, breaks_holds, holds_after}
use Rattle.types_rules.proofs.VerdictLaws.{holds_both, holds_all, holds_unless}
use Rattle.types_rules.specs.Literals.{literals}
use Rattle.types_rules.specs.Counts.{literals_of, slots_in, objects_in, slots_in_other}
use Rattle.types_rules.specs.Counts.{objects_in_other, slots_in_case, objects_in_case}
use Rattle.types_rules.specs.Counts.{slots_in_cases, objects_in_cases}
use Rattle.types_rules.specs.Points.{Point, beyond, inside, behind, behind_first}
use Rattle.types_rules.specs.Stood.{Stood, nothing_stood, stood_behind, stmts_in}
use Rattle.types_rules.specs.Switches.{apart}
use Rattle.types_rules.specs.Statements.{Used, Other, CasePart, do_rule, part, returned, first_done}
use Rattle.types_rules.specs.Statements.{for_by, switch_by, in_a_loop, past, past_maybe, past_stmt}
use Rattle.types_rules.specs.Statements.{stmt, block, otherwise, cases, one_case}
use Rattle.types_rules.proofs.StatementLaws.{MadeStood, stmt_made}
use Rattle.types_laws.specs.Known.{KnowsAround}
use Rattle.types_laws.specs.ValidExpressions.{ExpressionsAreValid}
use Rattle.types_laws.specs.Plain.{IsTag, HasTags}
use Rattle.pawn_cells.proofs.CellLaws.{small_cell}
use Rattle.types_laws.proofs.Facts.{holds_and}
use Rattle.types_laws.specs.WrittenStatements.{IsWrittenFirst, MayBeWritten, IsWrittenStmt}
use Rattle.types_laws.specs.WrittenStatements.{AreWrittenStmts, IsWrittenOther, AreWrittenCases}
use Rattle.types_laws.specs.WrittenStatements.{IsWrittenCase}
use Rattle.types_laws.specs.ValidStatements.{IsCalled, StatementsAreValid}
use Rattle.types_laws.proofs.ListPartLaws.{one_valid, one_made}
use Rattle.types_laws.proofs.SeenLaws.{seen_more}
use Rattle.types_laws.proofs.Expressions.{sent_valid}
use Rattle.types_laws.proofs.Bodies.{Place, scope_at, StandsSound}
use Rattle.types_laws.proofs.Variables.{nothing_sound, behind_sound, vars_holds, local_vars_holds}
use Rattle.types_laws.proofs.Variables.{constant_holds}
use Rattle.types_laws.proofs.StatementParts.{OneIn, SubIn, UsedFine, MaybeTyped, PartFine}
use Rattle.types_laws.proofs.StatementParts.{PartOk, CasesOk, CasesFine, part_fine, used_fine}
use Rattle.types_laws.proofs.StatementParts.{value_fine, zero_fine, perhaps_fine}
use Rattle.types_laws.proofs.StatementParts.{maybe_part_fine, maybe_use_fine, all_ends_plain}
use Rattle.types_laws.proofs.StatementParts.{cased_fine, sub_in, reached_sound}
use Rattle.types_laws.proofs.StatementForms.{OneSound, OtherFine, simple_one, block_one}
use Rattle.types_laws.proofs.StatementForms.{while_one, do_while_one, if_one, switch_one}
use Rattle.types_laws.proofs.StatementForms.{for_one}

module _ (law : ExpressionsAreValid) (place : Place) (cx : Around) (Calls : List ℕ → Type 0)
    (known : KnowsAround place.program cx) (tags : HasTags cx) (result : ℕ) where
  abbrev Automata : List Automaton
  Automata = place.program.automata

  abbrev One : Bool → Point → Stood → Type 0
  One in_loop point x =
      OneSound law place cx Calls known tags result in_loop point x.stmts x.slots x.objects

  -- what makes nothing for those behind it
  lift : (point : Point) (in_loop : Bool) (s : tree.Stmt) (x : Stood)
      → MadeStood (slots_in s) (objects_in s) x → One in_loop point x
      → StandsSound place cx Calls in_loop point (beyond point (objects_in s) (slots_in s)) x
  lift point in_loop s x counts p = record {
    sound = λ made here fits slots.
        let r : OneIn place made point.slots in_loop x.stmts x.slots x.objects =
        p.sound made here fits slots in
        record {
          valid = r.valid;
          all_made = r.all_made;
          slots = r.slots_good;
          objects = r.objects_good;
          behind = record {
            path =
                seen_more cx Calls (scope_at place made)
                (slots_made_by (stmts_in x.stmts)) point.scope
                here.path;
            low = omega (arith, here.low);
          };
          at_objects = ap (λ m. point.objects + m) (sym counts.objects);
          at_slots = ap (λ m. point.slots + m) (sym counts.slots);
        };
  }

  lifted : (point : Point) (in_loop : Bool) (s : tree.Stmt)
      → Holds (One in_loop point) (stmt cx Automata result point in_loop s)
      → Holds (StandsSound place cx Calls in_loop point (beyond point (objects_in s) (slots_in s)))
      (stmt cx Automata result point in_loop s)
  lifted point in_loop s h = record {
    of = λ x stands.
        lift point in_loop s x ((stmt_made cx Automata result point in_loop s).of x stands)
        (h.of x stands);
  }

  -- ---- statements without others in them

  -- by a value
  by_value : (in_loop : Bool) (point : Point) (n : ℕ) (c : Used) (s : Stmt)
      → UsedFine law place cx Calls known tags result point n c
      → slots_made s ≡ []
      → all_slots_made s ≡ []
      → ((made : List ℕ) → IsTag c.tag
      → IsValidExpr (scope_at place made) c.expr
      → IsValidStmt (scope_at place made) in_loop true s)
      → OneSound law place cx Calls known tags result in_loop point (s ∷ []) [] c.objects
  by_value in_loop point n c s u e f k =
      simple_one law place cx Calls known tags result in_loop point s c.objects e f (λ made here.
      let v = u.fine made here in (v.objects, λ fits. k made v.tag (v.valid fits)))

  returned_one : (point : Point) (in_loop : Bool) (at : At) (it : Option e.Expr)
      → MayBeWritten Calls it
      → Holds (One in_loop point) (returned cx Automata result point at it)
  returned_one point in_loop at None w =
      stands_itself _ _ (simple_one law place cx Calls known tags result in_loop point _ []
      refl refl
      (λ made here. (tt, λ fits. small_cell 0 (omega arith))))
  returned_one point in_loop at (Some it) w =
      holds_after (value_fine law place cx Calls known tags result Automata point at it w) (λ x u.
      stands_itself _ _ (by_value in_loop point (literals it) x
      (code.Return (sent cx (result ∷ []) x.tag x.at x.expr).code) u refl refl
      (λ made t v. sent_valid law (scope_at place made) cx Calls known tags (result ∷ []) x.tag x.at
      x.expr v)))

  loop_one : (point : Point) (in_loop : Bool) (at : At) (s : Stmt)
      → slots_made s ≡ []
      → all_slots_made s ≡ []
      → ((made : List ℕ)
      → IsValidStmt (scope_at place made) true true s)
      → Holds (One in_loop point) (in_a_loop at in_loop s)
  loop_one point false at s e f k = breaks_holds _ _
  loop_one point true at s e f k =
      stands_itself _ _ (simple_one law place cx Calls known tags result true point s [] e f
      (λ made here. (tt, λ fits. k made)))

  -- ---- what a `for` does first

  first_holds : (point : Point) (in_loop : Bool) (at : At) (first : tree.First)
      → IsWrittenFirst Calls first
      → Holds (StandsSound place cx Calls in_loop point (behind_first cx point at first))
      (first_done cx Automata result point at first)
  first_holds point in_loop at tree.Nothing w =
      stands_itself _ nothing_stood (nothing_sound law place cx Calls known tags in_loop point)
  first_holds point in_loop at (tree.New vars) w =
      vars_holds law place cx Calls known tags at in_loop point storage.New false vars w
  first_holds point in_loop at (tree.Value it) w =
      holds_after (value_fine law place cx Calls known tags result Automata point at it w) (λ x u.
      stands_itself _ (do_rule x) (first_value point in_loop at it x u))
    where
      first_value : (point : Point) (in_loop : Bool) (at : At) (it : e.Expr) (x : Used)
          → UsedFine law place cx Calls known tags result point (literals it) x
          → StandsSound place cx Calls in_loop point (beyond point (literals it) 0) (do_rule x)
      first_value point in_loop at it x u = record {
        sound = λ made here fits slots.
            let v = u.fine made here in
            (lift point in_loop (tree.Do at it) (do_rule x)
            (record { slots = refl; objects = v.count })
            (by_value in_loop point (literals it) x (code.Do x.expr) u refl refl
            (λ m t p. p))).sound
            made here fits slots;
      }

  -- ---- all statements

  pub record IfParts (point there : Point) (in_loop : Bool) (k m i j : ℕ) (to last : Point)
      (parts : Stood × Other) : Type 0 where
    pub first : StandsSound place cx Calls in_loop there to parts.0
    pub counts : MadeStood k m parts.0
    pub second : OtherFine law place cx Calls known tags result last in_loop i j parts.1

  pub record SwitchParts (there last : Point) (in_loop : Bool) (cs : tree.Cases) (i j : ℕ)
      (parts : List CasePart × Other) : Type 0 where
    pub first : CasesOk law place cx Calls known tags result there in_loop cs parts.0
    pub second : OtherFine law place cx Calls known tags result last in_loop i j parts.1

  pub record ForParts (inner then body to : Point) (c step : Option e.Expr)
      (parts : (Option Typed × Option Typed) × Stood) : Type 0 where
    pub first : MaybeTyped law place cx Calls known tags result inner c parts.0.0
    pub second : MaybeTyped law place cx Calls known tags result then step parts.0.1
    pub body_sound : StandsSound place cx Calls true body to parts.1

  pub record TwoMaybe (inner then : Point) (c step : Option e.Expr)
      (parts : Option Typed × Option Typed) : Type 0 where
    pub first : MaybeTyped law place cx Calls known tags result inner c parts.0
    pub second : MaybeTyped law place cx Calls known tags result then step parts.1

  pub record BlockSound (point : Point) (in_loop : Bool) (x : Stood) : Type 0 where
    pub to : Point
    pub sound : StandsSound place cx Calls in_loop point to x

  switch_holds : (in_loop : Bool) (point there last : Point) (at : At) (it : e.Expr)
      (cs : tree.Cases) (i j : ℕ) (x : Typed) (parts : List CasePart) (other : Other)
      → PartFine law place cx Calls known tags result point it x
      → CasesOk law place cx Calls known tags result there in_loop cs parts
      → OtherFine law place cx Calls known tags result last in_loop i j other
      → there ≡ beyond point (literals it) 0
      → last ≡ beyond there (objects_in_cases cs) (slots_in_cases cs)
      → Holds (One in_loop point) (switch_by cx Automata result at x parts other)
  switch_holds in_loop point there last at it cs i j x parts other p q r e e2 =
      holds_both (used_fine law place cx Calls known tags result Automata point at it x p)
      (cased_fine law place cx Calls known tags result Automata at x.tag there in_loop cs parts q)
      (λ c cased u v. holds_after (holds_all (apart at cased.ranges)) (λ ranges t.
      stands_itself _ _ (switch_one law place cx Calls known tags result in_loop point there last cs
      (literals it) i j c cased other u v r (ap (λ (z : Point). z.scope) e)
      (ap (λ (z : Point). z.objects) e)
      (ap (λ (z : Point). z.slots) e ∙ plus_nothing point.slots)
      (ap (λ (z : Point). z.scope) e2 ∙ ap (λ (z : Point). z.scope) e)
      (omega (
        arith,
        ap (λ (z : Point). z.objects) e2,
        ap (λ (z : Point). z.objects) e,
        v.counts.objects,
      ))
      (omega (
        arith,
        ap (λ (z : Point). z.slots) e2,
        ap (λ (z : Point). z.slots) e,
        v.counts.slots,
      )))))
    where
      plus_nothing : (m : ℕ) → m + 0 ≡ m
      plus_nothing m = omega arith

  for_holds : (in_loop : Bool) (point inner then body to : Point) (at : At) (c step : Option e.Expr)
      (first : Stood) (parts : (Option Typed × Option Typed) × Stood)
      → StandsSound place cx Calls in_loop (inside point) inner first
      → ForParts inner then body to c step parts
      → then ≡ beyond inner (literals_of c) 0 → body ≡ beyond then (literals_of step) 0
      → Holds (One in_loop point)
      (for_by cx Automata result at first parts.0.0 parts.0.1 parts.1)
  for_holds in_loop point inner then body to at c step first parts p q e e2 =
      holds_both
      (maybe_use_fine law place cx Calls known tags result Automata inner at c parts.0.0 q.first)
      (maybe_use_fine law place cx Calls known tags result Automata then at step parts.0.1 q.second)
      (λ x y u w. stands_itself _ _ (for_one law place cx Calls known tags result in_loop
      point inner
      then body to (literals_of c) (literals_of step) first x y parts.1 p u w q.body_sound
      (ap (λ (z : Point). z.scope) e) (ap (λ (z : Point). z.objects) e)
      (omega (arith, ap (λ (z : Point). z.slots) e))
      (ap (λ (z : Point). z.scope) e2 ∙ ap (λ (z : Point). z.scope) e)
      (omega (arith, ap (λ (z : Point). z.objects) e2, ap (λ (z : Point). z.objects) e))
      (omega (arith, ap (λ (z : Point). z.slots) e2, ap (λ (z : Point). z.slots) e))))

  mutual
    pub stmt_holds : (point : Point) (in_loop : Bool) (s : tree.Stmt) → IsWrittenStmt Calls s
        → Holds (StandsSound place cx Calls in_loop point (behind cx point s))
        (stmt cx Automata result point in_loop s)
    stmt_holds point in_loop (tree.Empty at) w =
        lifted point in_loop (tree.Empty at) (stands_itself _ _
        (simple_one law place cx Calls known tags result in_loop point code.Empty [] refl refl
        (λ made here. (tt, λ fits. tt))))
    stmt_holds point in_loop (tree.Do at it) w =
        lifted point in_loop (tree.Do at it)
        (holds_after (value_fine law place cx Calls known tags result Automata point at it w)
        (λ x u.
        stands_itself _ _ (by_value in_loop point (literals it) x (code.Do x.expr) u refl refl
        (λ made t p. p))))
    stmt_holds point in_loop (tree.Block at ss) w =
        lifted point in_loop (tree.Block at ss)
        (holds_after (block_holds (inside point) in_loop ss w) (λ x p.
        stands_itself _ _ (block_one law place cx Calls known tags result in_loop point p.to x
        p.sound)))
    stmt_holds point in_loop (tree.If at c s other) w =
        let there : Point = past cx Automata result point c in
        let last : Point = past_stmt cx Automata result there s in
        lifted point in_loop (tree.If at c s other)
        (holds_both (part_fine law place cx Calls known tags result Automata point c w.0)
        (holds_both (holds_and (stmt_holds there in_loop s w.1)
        (stmt_made cx Automata result there in_loop s))
        (other_holds last in_loop other w.2) (λ x y p q.
        stands_itself (IfParts point there in_loop (slots_in s) (objects_in s)
        (slots_in_other other)
        (objects_in_other other) (behind cx there s) last) (x, y)
        (record { first = p.0; counts = p.1; second = q })))
        (λ x parts p q.
        holds_after (used_fine law place cx Calls known tags result Automata point at c x p)
        (λ it u.
        stands_itself _ _ (if_one law place cx Calls known tags result in_loop point there
        (behind cx there s) last (slots_in s) (objects_in s) (literals c) (slots_in_other other)
        (objects_in_other other) it parts.0 parts.1 u q.first q.counts q.second refl refl
        (omega arith) refl refl (omega arith)))))
    stmt_holds point in_loop (tree.While at c s) w =
        let there : Point = past cx Automata result point c in
        lifted point in_loop (tree.While at c s)
        (holds_both (part_fine law place cx Calls known tags result Automata point c w.0)
        (stmt_holds there true s w.1) (λ x y p q.
        holds_after (used_fine law place cx Calls known tags result Automata point at c x p)
        (λ it u.
        stands_itself _ _ (while_one law place cx Calls known tags result in_loop point there
        (behind cx there s) (literals c) it y u q refl refl (omega arith)))))
    stmt_holds point in_loop (tree.DoWhile at s c) w =
        let there : Point = past_stmt cx Automata result point s in
        lifted point in_loop (tree.DoWhile at s c)
        (holds_both (holds_and (stmt_holds point true s w.0)
        (stmt_made cx Automata result point true s))
        (part_fine law place cx Calls known tags result Automata there c w.1) (λ x y p q.
        holds_after (used_fine law place cx Calls known tags result Automata there at c y q)
        (λ it u.
        stands_itself _ _ (do_while_one law place cx Calls known tags result in_loop point there
        (behind cx point s) (slots_in s) (objects_in s)
        (literals c) x it p.0 p.1 u refl refl refl))))
    stmt_holds point in_loop (tree.For at first c step s) w =
        let inner : Point = behind_first cx (inside point) at first in
        let then : Point = past_maybe cx Automata result inner c in
        let body : Point = past_maybe cx Automata result then step in
        lifted point in_loop (tree.For at first c step s)
        (holds_unless _ (holds_both (first_holds (inside point) in_loop at first w.0)
        (holds_both (holds_both
        (maybe_part_fine law place cx Calls known tags result Automata inner c w.1)
        (maybe_part_fine law place cx Calls known tags result Automata then step w.2)
        (λ x y p q. stands_itself (TwoMaybe inner then c step) (x, y)
        (record { first = p; second = q })))
        (stmt_holds body true s w.3)
        (λ x y p q. stands_itself (ForParts inner then body (behind cx body s) c step) (x, y)
        (record { first = p.first; second = p.second; body_sound = q })))
        (λ x parts p q. for_holds in_loop point inner
        then body (behind cx body s) at c step x parts p
        q refl refl)))
    stmt_holds point in_loop (tree.Switch at it cs other) w =
        let there : Point = past cx Automata result point it in
        let last : Point = beyond there (objects_in_cases cs) (slots_in_cases cs) in
        lifted point in_loop (tree.Switch at it cs other)
        (holds_both (part_fine law place cx Calls known tags result Automata point it w.0)
        (holds_both (cases_holds there in_loop cs w.1) (other_holds last in_loop other w.2)
        (λ x y p q. stands_itself (SwitchParts there last in_loop cs (slots_in_other other)
        (objects_in_other other)) (x, y) (record { first = p.ok; second = q })))
        (λ x parts p q. switch_holds in_loop point there last at it cs (slots_in_other other)
        (objects_in_other other) x parts.0 parts.1 p q.first q.second refl refl))
    stmt_holds point in_loop (tree.Return at it) w =
        lifted point in_loop (tree.Return at it) (returned_one point in_loop at it w)
    stmt_holds point in_loop (tree.Exit at it) w =
        lifted point in_loop (tree.Exit at it)
        (holds_after (zero_fine law place cx Calls known tags result Automata point at it w) (λ x u.
        stands_itself _ _ (by_value in_loop point (literals_of it) x (code.Exit x.expr x.tag) u refl
        refl (λ made t p. (p, t)))))
    stmt_holds point in_loop (tree.Sleep at it) w =
        lifted point in_loop (tree.Sleep at it)
        (holds_after (zero_fine law place cx Calls known tags result Automata point at it w) (λ x u.
        stands_itself _ _ (by_value in_loop point (literals_of it) x
        (code.Sleep x.expr x.tag) u refl
        refl (λ made t p. (p, t)))))
    stmt_holds point in_loop (tree.Assert at it) w =
        lifted point in_loop (tree.Assert at it)
        (holds_after (value_fine law place cx Calls known tags result Automata point at it w)
        (λ x u.
        stands_itself _ _ (by_value in_loop point (literals it) x (code.Assert x.expr) u refl refl
        (λ made t p. p))))
    stmt_holds point in_loop (tree.Break at) w =
        lifted point in_loop (tree.Break at)
        (loop_one point in_loop at code.Break refl refl (λ made. refl))
    stmt_holds point in_loop (tree.Continue at) w =
        lifted point in_loop (tree.Continue at)
        (loop_one point in_loop at code.Continue refl refl (λ made. refl))
    stmt_holds point in_loop (tree.State at c name) w =
        lifted point in_loop (tree.State at c name)
        (holds_after (perhaps_fine law place cx Calls known tags result Automata point at c w)
        (λ x u.
        holds_after (reached_sound (scope_at place []) at name.automaton name.state.bytes) (λ it r.
        stands_itself _ _ (simple_one law place cx Calls known tags result in_loop point
        (code.State it.automaton it.state x.expr) x.objects refl refl (λ made here.
        let v = u.fine made here in (
          v.objects,
          λ fits. (
            record {
              it = r.state.it;
              there = r.state.there;
              state_in = r.state.state_in;
            },
            v.valid fits,
          ),
        ))))))
    stmt_holds point in_loop (tree.Local at it) w =
        local_vars_holds law place cx Calls known tags at in_loop point it.storage it.constant
        it.vars w
    stmt_holds point in_loop (tree.Constant at it) w =
        constant_holds law place cx Calls known tags at in_loop point it w

    pub block_holds : (point : Point) (in_loop : Bool) (ss : tree.Stmts)
        → AreWrittenStmts Calls ss
        → Holds (BlockSound point in_loop) (block cx Automata result point in_loop ss)
    block_holds point in_loop tree.no_stmts w =
        stands_itself _ nothing_stood
        (record { to = point; sound = nothing_sound law place cx Calls known tags in_loop point })
    block_holds point in_loop (tree.then_stmt s ss) w =
        holds_both (stmt_holds point in_loop s w.0)
        (block_holds (behind cx point s) in_loop ss w.1) (λ x more p q.
        stands_itself _ (stood_behind x more) (record {
          to = q.to;
          sound =
              behind_sound law place cx Calls known tags in_loop point (behind cx point s) q.to x
              more p q.sound;
        }))

    other_holds : (point : Point) (in_loop : Bool) (other : tree.MaybeStmt)
        → IsWrittenOther Calls other
        → Holds (OtherFine law place cx Calls known tags result point in_loop (slots_in_other other)
        (objects_in_other other)) (otherwise cx Automata result point in_loop other)
    other_holds point in_loop tree.no_stmt w =
        stands_itself _ _ (record {
          counts = record { slots = refl; objects = refl };
          sound = λ made here fits slots. record {
            valid = tt;
            made_is = refl;
            slots = tt;
            objects = tt;
          };
        })
    other_holds point in_loop (tree.one_stmt s) w =
        holds_after (holds_and (stmt_holds point in_loop s w)
        (stmt_made cx Automata result point in_loop s))
        (λ x p. stands_itself _ _ (record {
          counts = p.1;
          sound = λ made here fits slots.
              let r : SubIn place made point.slots in_loop x =
              sub_in law place cx Calls known tags result in_loop point
              (behind cx point s) x p.0 made
              point.objects point.slots here.path here.low refl refl fits slots in
              record {
                valid = r.valid;
                made_is = r.made_is;
                slots = r.slots;
                objects = r.objects;
              };
        }))

    cases_holds : (point : Point) (in_loop : Bool) (cs : tree.Cases) → AreWrittenCases Calls cs
        → Holds (CasesFine law place cx Calls known tags result point in_loop cs)
        (cases cx Automata result point in_loop cs)
    cases_holds point in_loop tree.no_cases w = stands_itself _ [] (record { ok = tt })
    cases_holds point in_loop (tree.then_case x xs) w =
        holds_both (case_holds point in_loop x w.0)
        (cases_holds (beyond point (objects_in_case x) (slots_in_case x)) in_loop xs w.1)
        (λ it more p q. stands_itself _ (it ∷ more) (record { ok = (p, q.ok) }))

    case_holds : (point : Point) (in_loop : Bool) (x : tree.Case) → IsWrittenCase Calls x
        → Holds (PartOk law place cx Calls known tags result point in_loop x)
        (one_case cx Automata result point in_loop x)
    case_holds point in_loop (tree.Values case_at ranges s) w =
        holds_both (all_ends_plain law place cx Calls known tags result point ranges w.0)
        (holds_and (stmt_holds point in_loop s w.1) (stmt_made cx Automata result point in_loop s))
        (λ x y p q. stands_itself _ _ (record {
          ends = p;
          to = behind cx point s;
          stood = q.0;
          counts = q.1;
        }))

pub statements_valid : ExpressionsAreValid → StatementsAreValid
statements_valid law scope cx called result point in_loop s x site written stands part =
    let place : Place =
    record { program = scope.program; slots = scope.slots; params = scope.params } in
    let r =
    ((stmt_holds law place cx (IsCalled called) site.around site.tags result point in_loop s
    written).of x stands).sound
    scope.made (record { path = site.path; low = site.low }) part.objects part.slots in
    record {
      valid = one_valid scope in_loop x.stmts r.valid true;
      made = one_made x.stmts ∙ r.all_made;
      slots = r.slots;
      objects = r.objects;
    }

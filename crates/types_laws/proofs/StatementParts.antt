-- The parts of statements: values, cases, and what stands behind `else`.
use Rattle.std.proofs.Common.{◌≡◌, ◌+◌, ◌<◌, ◌≤◌, ℕ, ℤ, List, [], ◌∷◌, Bool, false, Option, None}
use Rattle.std.proofs.Common.{Some, refl, sym, ap, ◌∙◌, arith}
use Rattle.std.specs.Prelude.{length, slice_get, position}
use Rattle.std.specs.Str.{bytes_eq}
use Rattle.std.proofs.lemmas.List.{length-append}
use Rattle.pawn_cells.specs.Cells.{IsCell}
use Rattle.pawn_tree.specs.declared.name.At.{At}
use Rattle.pawn_tree.specs.declared.name.Name as n
use Rattle.pawn_tree.specs.Expressions as e
use Rattle.pawn_tree.specs.Statements as tree
use Rattle.pawn_meaning.specs.Program.{Stmt, Automaton, Slot, StaticObject}
use Rattle.pawn_meaning.specs.Scope as program
use Rattle.pawn_meaning.specs.Valid.{numbers_from}
use Rattle.pawn_meaning.specs.ValidExprs.{IsValidExpr, IsValidPerhaps}
use Rattle.pawn_meaning.specs.ValidStmts.{slots_made_by, all_slots_made, all_slots_made_else}
use Rattle.pawn_meaning.specs.ValidStmts.{all_slots_made_in, all_slots_made_by, IsStateOf}
use Rattle.pawn_meaning.specs.ValidStmts.{AreRanges, IsValidStmt, IsValidElse, AreValidCases}
use Rattle.pawn_meaning.specs.ValidStmts.{AreValidStmts}
use Rattle.types_rules.specs.Rule.{each}
use Rattle.types_rules.specs.Typed.{Typed}
use Rattle.types_rules.specs.Around.{Around}
use Rattle.types_rules.proofs.VerdictLaws.{Holds, stands_itself, breaks_holds, holds_after}
use Rattle.types_rules.proofs.VerdictLaws.{holds_both}
use Rattle.types_rules.specs.Literals.{literals}
use Rattle.types_rules.specs.Expressions.{expr}
use Rattle.types_rules.specs.Counts.{literals_of, slots_in_case, objects_in_case, slots_in_cases}
use Rattle.types_rules.specs.Counts.{objects_in_cases}
use Rattle.types_rules.specs.Points.{Point, beyond}
use Rattle.types_rules.specs.Stood.{Stood, stmts_in, one_of}
use Rattle.types_rules.specs.States.{Reached, automaton_named, state_in, state_of, reached_in}
use Rattle.types_rules.specs.States.{reached_by}
use Rattle.types_rules.specs.Switches.{Labels, Ends, last_part, ends, label_by, labels}
use Rattle.types_rules.specs.Statements.{Used, Maybe, absent, present, Other, Cased, CasePart}
use Rattle.types_rules.specs.Statements.{case_before, no_cased, part, maybe_part, use_at, maybe_use}
use Rattle.types_rules.specs.Statements.{value, value_or_zero, perhaps, cased}
use Rattle.types_rules.proofs.StatementLaws.{MadeStood}
use Rattle.types_laws.specs.Known.{KnowsAround}
use Rattle.types_laws.specs.ValidExpressions.{ExpressionsAreValid}
use Rattle.types_laws.specs.Objects.{Each, IsGoodObject}
use Rattle.types_laws.specs.Written.{IsAnyName, IsWritten}
use Rattle.types_laws.specs.Texts.{texts}
use Rattle.types_laws.specs.Plain.{IsTag, IsValue, HasTags}
use Rattle.pawn_cells.proofs.CellLaws.{small_cell}
use Rattle.types_laws.proofs.Facts.{each_append, each_all, position_within}
use Rattle.types_laws.proofs.ExpressionValues.{expr_plain}
use Rattle.types_laws.proofs.ArrayValues.{constant_rule_plain}
use Rattle.types_laws.specs.Sits.{Sits}
use Rattle.types_laws.specs.Seen.{IsSeenPath}
use Rattle.types_laws.specs.WrittenStatements.{MayBeConstant, IsWrittenRange, MayBeWritten}
use Rattle.types_laws.specs.ValidStatements.{IsGoodSlot}
use Rattle.types_laws.proofs.ListPartLaws.{sits_left, sits_right, sits_at}
use Rattle.types_laws.proofs.ListPartLaws.{numbers_joined, one_valid}
use Rattle.types_laws.proofs.ListPartLaws.{one_made}
use Rattle.types_laws.proofs.SeenLaws.{plain_path}
use Rattle.types_laws.proofs.Expressions.{Fine, CellOf, expr_fine, cell_valid, texts_count}
use Rattle.types_laws.proofs.Bodies.{Place, scope_at, Here, SoundStatements, StandsSound}

-- ---- states

pub record SoundState (scope : program.Scope) (it : Reached) : Type 0 where
  pub state : IsStateOf scope it.automaton it.state

module _ (scope : program.Scope) where
  state_in_sound : (at : At) (number : ℕ) (it : Automaton)
      → slice_get scope.program.automata number ≡ Some it → (state : Option ℕ)
      → ((i : ℕ) → state ≡ Some i → i < length it.states)
      → Holds (SoundState scope) (state_in at number state)
  state_in_sound at number it there None k = breaks_holds _ _
  state_in_sound at number it there (Some i) k =
      stands_itself _ _ (record { state = record { it = it; there = there; state_in = k i refl } })

  state_of_sound : (at : At) (number : ℕ) (it : Option Automaton) (state : List ℕ)
      → slice_get scope.program.automata number ≡ it
      → Holds (SoundState scope) (state_of at number it state)
  state_of_sound at number None state there = breaks_holds _ _
  state_of_sound at number (Some it) state there =
      state_in_sound at number it there (position (bytes_eq state) it.states)
      (λ i e. position_within (bytes_eq state) it.states i e)

  reached_in_sound : (at : At) (missing : ℕ) (number : Option ℕ) (state : List ℕ)
      → Holds (SoundState scope) (reached_in at missing scope.program.automata number state)
  reached_in_sound at missing None state = breaks_holds _ _
  reached_in_sound at missing (Some number) state =
      state_of_sound at number (slice_get scope.program.automata number) state refl

  pub reached_sound : (at : At) (name : Option n.Name) (state : List ℕ)
      → Holds (SoundState scope) (reached_by scope.program.automata at name state)
  reached_sound at None state =
      reached_in_sound at _ (automaton_named scope.program.automata []) state
  reached_sound at (Some name) state =
      reached_in_sound at _ (automaton_named scope.program.automata name.bytes) state

-- ---- one statement and its parts, by what they make

pub record OneIn (place : Place) (made : List ℕ) (first : ℕ) (in_loop : Bool) (stmts : List Stmt)
    (slots : List Slot) (objects : List StaticObject) : Type 0 where
  pub valid : AreValidStmts (scope_at place made) in_loop (stmts_in stmts)
  pub all_made : all_slots_made_by (stmts_in stmts) ≡ numbers_from first (length slots)
  pub slots_good : Each IsGoodSlot slots
  pub objects_good : Each IsGoodObject objects
  pub unmade : slots_made_by (stmts_in stmts) ≡ []

pub record SubIn (place : Place) (made : List ℕ) (first : ℕ) (in_loop : Bool)
    (x : Stood) : Type 0 where
  pub valid : IsValidStmt (scope_at place made) in_loop false (one_of x)
  pub made_is : all_slots_made (one_of x) ≡ numbers_from first (length x.slots)
  pub slots : Each IsGoodSlot x.slots
  pub objects : Each IsGoodObject x.objects

pub record OtherIn (place : Place) (made : List ℕ) (first : ℕ) (in_loop : Bool)
    (it : Other) : Type 0 where
  pub valid : IsValidElse (scope_at place made) in_loop it.other
  pub made_is : all_slots_made_else it.other ≡ numbers_from first (length it.stood.slots)
  pub slots : Each IsGoodSlot it.stood.slots
  pub objects : Each IsGoodObject it.stood.objects

pub record CasedIn (place : Place) (made : List ℕ) (first : ℕ) (in_loop : Bool)
    (it : Cased) : Type 0 where
  pub valid : AreValidCases (scope_at place made) in_loop it.cases
  pub made_is : all_slots_made_in it.cases ≡ numbers_from first (length it.stood.slots)
  pub slots : Each IsGoodSlot it.stood.slots
  pub objects : Each IsGoodObject it.stood.objects

pub record UsedIn (place : Place) (made : List ℕ) (before n : ℕ) (it : Used) : Type 0 where
  pub objects : Each IsGoodObject it.objects
  pub count : length it.objects ≡ n
  pub tag : IsTag it.tag
  pub valid : Sits place.program.objects before it.objects
      → IsValidExpr (scope_at place made) it.expr

pub record MaybeIn (place : Place) (made : List ℕ) (before n : ℕ) (it : Maybe) : Type 0 where
  pub objects : Each IsGoodObject it.objects
  pub count : length it.objects ≡ n
  pub valid : Sits place.program.objects before it.objects
      → IsValidPerhaps (scope_at place made) it.expr

module _ (law : ExpressionsAreValid) (place : Place) (cx : Around) (Calls : List ℕ → Type 0)
    (known : KnowsAround place.program cx) (tags : HasTags cx) (result : ℕ) where
  -- a sub statement at a place where so many objects and slots stand before it
  pub sub_in : (in_loop : Bool) (point to : Point) (x : Stood)
      → StandsSound place cx Calls in_loop point to x → (made : List ℕ) (o s : ℕ)
      → IsSeenPath (scope_at place made) cx Calls point.scope → place.params ≤ s
      → o ≡ point.objects → s ≡ point.slots → Sits place.program.objects o x.objects
      → Sits place.slots s x.slots → SubIn place made s in_loop x
  sub_in in_loop point to x p made o s path low eo es fits slots =
      let r : SoundStatements place cx Calls made point in_loop to x =
      p.sound made (record { path = path; low = omega (arith, low, es) })
      (sits_at place.program.objects o point.objects x.objects eo fits)
      (sits_at place.slots s point.slots x.slots es slots) in
      record {
        valid = one_valid (scope_at place made) in_loop x.stmts r.valid false;
        made_is = one_made x.stmts ∙ r.all_made
            ∙ ap (λ m. numbers_from m (length x.slots)) (sym es);
        slots = r.slots;
        objects = r.objects;
      }

  -- ---- values

  pub record PartFine (point : Point) (it : e.Expr) (x : Typed) : Type 0 where
    pub fine : (made : List ℕ) → Here place cx Calls made point
        → Fine (scope_at place made) point.objects (texts it) x

  pub record UsedFine (point : Point) (count : ℕ) (it : Used) : Type 0 where
    pub fine : (made : List ℕ) → Here place cx Calls made point
        → UsedIn place made point.objects count it

  pub record MaybeFine (point : Point) (count : ℕ) (it : Maybe) : Type 0 where
    pub fine : (made : List ℕ) → Here place cx Calls made point
        → MaybeIn place made point.objects count it

  abbrev pub MaybePart : Point → Option e.Expr → Option Typed → Type 0
  MaybePart point None None = Unit {0}
  MaybePart point None (Some x) = ⊥
  MaybePart point (Some it) None = ⊥
  MaybePart point (Some it) (Some x) = PartFine point it x

  pub record MaybeTyped (point : Point) (it : Option e.Expr) (x : Option Typed) : Type 0 where
    pub parts : MaybePart point it x

  module _ (automata : List Automaton) where
    pub part_fine : (point : Point) (it : e.Expr) → IsWritten Calls it
        → Holds (PartFine point it) (part cx automata result point it)
    part_fine point it w = record {
      of = λ x stands. record {
        fine = λ made here.
            (expr_fine law (scope_at place made) cx Calls known tags point.scope here.path
            point.objects it w).of x stands;
      };
    }

    pub used_fine : (point : Point) (at : At) (it : e.Expr) (x : Typed) → PartFine point it x
        → Holds (UsedFine point (literals it)) (use_at cx automata result at x)
    used_fine point at it x p =
        holds_after {P = λ c. (made : List ℕ)
        → CellOf (scope_at place made) x c}
        (record { of = λ c stands made. (cell_valid (scope_at place made) at x).of c stands })
        (λ c q. stands_itself _ _ (record {
          fine = λ made here.
              let f = p.fine made here in
              record {
                objects = f.plain.objects;
                count = ap length f.plain.literals ∙ texts_count it;
                tag = f.plain.tag;
                valid = λ fits. (q made).valid (f.valid fits);
              };
        }))

    pub value_fine : (point : Point) (at : At) (it : e.Expr) → IsWritten Calls it
        → Holds (UsedFine point (literals it)) (value cx automata result point at it)
    value_fine point at it w =
        holds_after (part_fine point it w) (λ x p. used_fine point at it x p)

    pub zero_fine : (point : Point) (at : At) (it : Option e.Expr) → MayBeWritten Calls it
        → Holds (UsedFine point (literals_of it)) (value_or_zero cx automata result point at it)
    zero_fine point at None w =
        stands_itself _ _ (record {
          fine = λ made here. record {
            objects = tt;
            count = refl;
            tag = omega arith;
            valid = λ fits. small_cell 0 (omega arith);
          };
        })
    zero_fine point at (Some it) w = value_fine point at it w

    present_fine : (point : Point) (count : ℕ) (x : Used) → UsedFine point count x
        → MaybeFine point count (present x)
    present_fine point count x p = record {
      fine = λ made here.
          let f = p.fine made here in
          record { objects = f.objects; count = f.count; valid = f.valid };
    }

    absent_fine : (point : Point) → MaybeFine point 0 absent
    absent_fine point =
        record { fine = λ made here. record { objects = tt; count = refl; valid = λ fits. tt } }

    pub perhaps_fine : (point : Point) (at : At) (it : Option e.Expr) → MayBeWritten Calls it
        → Holds (MaybeFine point (literals_of it)) (perhaps cx automata result point at it)
    perhaps_fine point at None w = stands_itself _ _ (absent_fine point)
    perhaps_fine point at (Some it) w =
        holds_after (value_fine point at it w)
        (λ x p. stands_itself _ _ (present_fine point (literals it) x p))

    pub maybe_part_fine : (point : Point) (it : Option e.Expr) → MayBeWritten Calls it
        → Holds (MaybeTyped point it) (maybe_part cx automata result point it)
    maybe_part_fine point None w = stands_itself _ None (record { parts = tt })
    maybe_part_fine point (Some it) w =
        holds_after (part_fine point it w)
        (λ x p. stands_itself _ (Some x) (record { parts = p }))

    pub maybe_use_fine : (point : Point) (at : At) (it : Option e.Expr) (x : Option Typed)
        → MaybeTyped point it x
        → Holds (MaybeFine point (literals_of it)) (maybe_use cx automata result at x)
    maybe_use_fine point at None None p = stands_itself _ _ (absent_fine point)
    maybe_use_fine point at None (Some x) p = absurd p.parts
    maybe_use_fine point at (Some it) None p = absurd p.parts
    maybe_use_fine point at (Some it) (Some x) p =
        holds_after (used_fine point at it x p.parts)
        (λ y q. stands_itself _ _ (present_fine point (literals it) y q))

  -- ---- cases

  abbrev pub LastPlain : Option Typed → Type 0
  LastPlain None = Unit {0}
  LastPlain (Some x) = IsValue x.value

  pub record EndPlain (it : Ends) : Type 0 where
    pub first : IsValue it.first.value
    pub last : LastPlain it.last

  pub record EndsPlain (point : Point) (all : List Ends) : Type 0 where
    pub plain : (made : List ℕ) → Here place cx Calls made point → Each EndPlain all

  pub record OneEnd (point : Point) (it : Ends) : Type 0 where
    pub plain : (made : List ℕ) → Here place cx Calls made point → EndPlain it

  pub record LastEnd (point : Point) (it : Option Typed) : Type 0 where
    pub plain : (made : List ℕ) → Here place cx Calls made point → LastPlain it

  pub record FirstEnd (point : Point) (x : Typed) : Type 0 where
    pub plain : (made : List ℕ) → Here place cx Calls made point → IsValue x.value

  end_value : (point : Point) (it : e.Expr) → IsWritten IsAnyName it
      → Holds (FirstEnd point) (expr cx point.scope 0 it)
  end_value point it w = record {
    of = λ x stands. record {
      plain = λ made here.
          ((expr_plain IsAnyName cx tags point.scope
          (plain_path cx Calls (scope_at place made) point.scope here.path) 0 it w).of x
          stands).value;
    };
  }

  last_value : (point : Point) (it : Option e.Expr) → MayBeConstant it
      → Holds (LastEnd point) (last_part cx point.scope it)
  last_value point None w = stands_itself _ None (record { plain = λ made here. tt })
  last_value point (Some it) w =
      holds_after (end_value point it w)
      (λ x p. stands_itself _ (Some x) (record { plain = p.plain }))

  ends_plain : (point : Point) (range : tree.Range) → IsWrittenRange range
      → Holds (OneEnd point) (ends cx point.scope range)
  ends_plain point range w =
      holds_both (end_value point range.first w.first) (last_value point range.last w.last)
      (λ x y p q. stands_itself _ _ (record {
        plain = λ made here. record { first = p.plain made here; last = q.plain made here };
      }))

  pub all_ends_plain : (point : Point) (ranges : List tree.Range) → Each IsWrittenRange ranges
      → Holds (EndsPlain point) (each (ends cx point.scope) ranges)
  unfolding each
  all_ends_plain point [] w = stands_itself _ [] (record { plain = λ made here. tt })
  all_ends_plain point (range ∷ more) w =
      holds_both (ends_plain point range w.0) (all_ends_plain point more w.1) (λ x xs p q.
      stands_itself _ (x ∷ xs)
      (record { plain = λ made here. (p.plain made here, q.plain made here) }))

  record RangesOk (it : Labels) : Type 0 where
    pub ranges : Each (λ (range : ℤ × ℤ). IsCell range.0 × IsCell range.1) it.ranges

  module _ (at : At) (tag : ℕ) where
    label_ok : (first : Typed) (last : Option Typed) → IsValue first.value → LastPlain last
        → Holds RangesOk (label_by cx at tag first last)
    label_ok first None h k =
        holds_after (constant_rule_plain at first h)
        (λ x p. stands_itself _ _ (record { ranges = ((p.value, p.value), tt) }))
    label_ok first (Some last) h k =
        holds_both (constant_rule_plain at first h) (constant_rule_plain at last k)
        (λ x y p q. stands_itself _ _ (record { ranges = ((p.value, q.value), tt) }))

    labels_ok : (all : List Ends) → Each EndPlain all → Holds RangesOk (labels cx at tag all)
    unfolding labels
    labels_ok [] h = stands_itself _ _ (record { ranges = tt })
    labels_ok (it ∷ more) h =
        holds_both (label_ok it.first it.last h.0.first h.0.last) (labels_ok more h.1) (λ x y p q.
        stands_itself _ _ (record {
          ranges =
              each_append (λ (range : ℤ × ℤ). IsCell range.0 × IsCell range.1) x.ranges y.ranges
              p.ranges q.ranges;
        }))

  pub record PartOk (point : Point) (in_loop : Bool) (x : tree.Case) (it : CasePart) : Type 0 where
    pub ends : EndsPlain point it.ends
    pub to : Point
    pub stood : StandsSound place cx Calls in_loop point to it.stood
    pub counts : MadeStood (slots_in_case x) (objects_in_case x) it.stood

  abbrev pub CasesOk : Point → Bool → tree.Cases → List CasePart → Type 0
  CasesOk point in_loop tree.no_cases [] = Unit {0}
  CasesOk point in_loop tree.no_cases (it ∷ more) = ⊥
  CasesOk point in_loop (tree.then_case x xs) [] = ⊥
  CasesOk point in_loop (tree.then_case x xs) (it ∷ more) =
      PartOk point in_loop x it
      × CasesOk (beyond point (objects_in_case x) (slots_in_case x)) in_loop xs more

  pub record CasesFine (point : Point) (in_loop : Bool) (cs : tree.Cases)
      (parts : List CasePart) : Type 0 where
    pub ok : CasesOk point in_loop cs parts

  pub record CasedFine (point : Point) (in_loop : Bool) (cs : tree.Cases)
      (it : Cased) : Type 0 where
    pub counts : MadeStood (slots_in_cases cs) (objects_in_cases cs) it.stood
    pub sound : (made : List ℕ) → Here place cx Calls made point
        → Sits place.program.objects point.objects it.stood.objects
        → Sits place.slots point.slots it.stood.slots
        → CasedIn place made point.slots in_loop it

  record LabelsFine (point : Point) (it : Labels) : Type 0 where
    pub ranges : (made : List ℕ) → Here place cx Calls made point → AreRanges it.ranges

  labels_fine : (at : At) (tag : ℕ) (point : Point) (all : List Ends) → EndsPlain point all
      → Holds (LabelsFine point) (labels cx at tag all)
  labels_fine at tag point all p = record {
    of = λ it stands. record {
      ranges = λ made here.
          each_all (λ (range : ℤ × ℤ). IsCell range.0 × IsCell range.1) it.ranges
          ((labels_ok at tag all (p.plain made here)).of it stands).ranges;
    };
  }

  -- a case before others
  case_fine : (point : Point) (in_loop : Bool) (x : tree.Case) (xs : tree.Cases) (it : CasePart)
      (values : Labels) (rest : Cased) → PartOk point in_loop x it → LabelsFine point values
      → CasedFine (beyond point (objects_in_case x) (slots_in_case x)) in_loop xs rest
      → CasedFine point in_loop (tree.then_case x xs) (case_before values it.stood rest)
  case_fine point in_loop x xs it values rest p l q = record {
    counts = record {
      slots =
          omega (
            arith,
            length-append it.stood.slots rest.stood.slots,
            p.counts.slots,
            q.counts.slots,
          );
      objects =
          omega (
            arith,
            length-append it.stood.objects rest.stood.objects,
            p.counts.objects,
            q.counts.objects,
          );
    };
    sound = λ made here fits slots.
        let a : SubIn place made point.slots in_loop it.stood =
        sub_in in_loop point p.to it.stood p.stood made point.objects point.slots here.path here.low
        refl refl
        (sits_left place.program.objects point.objects it.stood.objects rest.stood.objects fits)
        (sits_left place.slots point.slots it.stood.slots rest.stood.slots slots) in
        let there : Point = beyond point (objects_in_case x) (slots_in_case x) in
        let b : CasedIn place made there.slots in_loop rest =
        q.sound made (record { path = here.path; low = omega (arith, here.low) })
        (sits_at place.program.objects (point.objects + length it.stood.objects) there.objects
        rest.stood.objects (ap (λ m. point.objects + m) p.counts.objects)
        (sits_right place.program.objects point.objects it.stood.objects rest.stood.objects fits))
        (sits_at place.slots (point.slots + length it.stood.slots) there.slots rest.stood.slots
        (ap (λ m. point.slots + m) p.counts.slots)
        (sits_right place.slots point.slots it.stood.slots rest.stood.slots slots)) in
        record {
          valid = (l.ranges made here, a.valid, b.valid);
          made_is = numbers_joined _ _ point.slots (length it.stood.slots) (length rest.stood.slots)
              a.made_is
              (b.made_is ∙ ap (λ m. numbers_from m (length rest.stood.slots))
              (ap (λ m. point.slots + m) (sym p.counts.slots)))
              ∙ ap (λ m. numbers_from point.slots m)
              (sym (length-append it.stood.slots rest.stood.slots));
          slots = each_append IsGoodSlot it.stood.slots rest.stood.slots a.slots b.slots;
          objects =
              each_append IsGoodObject it.stood.objects rest.stood.objects a.objects b.objects;
        };
  }

  pub cased_fine : (automata : List Automaton) (at : At) (tag : ℕ) (point : Point) (in_loop : Bool)
      (cs : tree.Cases) (parts : List CasePart) → CasesOk point in_loop cs parts
      → Holds (CasedFine point in_loop cs) (cased cx automata result at tag parts)
  unfolding cased
  cased_fine automata at tag point in_loop tree.no_cases [] p =
      stands_itself _ no_cased (record {
        counts = record { slots = refl; objects = refl };
        sound = λ made here fits slots. record {
          valid = tt;
          made_is = refl;
          slots = tt;
          objects = tt;
        };
      })
  cased_fine automata at tag point in_loop tree.no_cases (it ∷ more) p = absurd p
  cased_fine automata at tag point in_loop (tree.then_case x xs) [] p = absurd p
  cased_fine automata at tag point in_loop (tree.then_case x xs) (it ∷ more) p =
      holds_both (labels_fine at tag point it.ends p.0.ends)
      (cased_fine automata at tag (beyond point (objects_in_case x) (slots_in_case x)) in_loop xs
      more p.1)
      (λ values rest l q.
      stands_itself _ _ (case_fine point in_loop x xs it values rest p.0 l q))

-- Assignments and copies that stand are valid.
use Rattle.std.proofs.Common.{◌≡◌, ◌≤◌, ℕ, List, [], ◌∷◌, Bool, true, false, Option, None, Some}
use Rattle.std.proofs.Common.{refl, ◌∙◌, ap, arith}
use Rattle.std.specs.Prelude.{IfSome, nat_eq, nat_le}
use Rattle.std.specs.List.{list_any}
use Rattle.std.proofs.lemmas.Bool.{eqb-true, leb-true}
use Rattle.pawn_token.specs.declared.sign.Sign.{Sign}
use Rattle.pawn_token.specs.declared.sign.Sign.TheVariants as sign
use Rattle.pawn_tree.specs.declared.name.At.{At}
use Rattle.pawn_cells.specs.declared.operator.Operator.{Operator}
use Rattle.pawn_tags.specs.Overloads.{function_of}
use Rattle.pawn_tags.specs.declared.op.Op.TheVariants as op
use Rattle.pawn_tags.specs.declared.operators.Choice.{Choice}
use Rattle.pawn_meaning.specs.Program.{Scalar, Array, Object, Expr}
use Rattle.pawn_meaning.specs.Program as code
use Rattle.pawn_meaning.specs.Scope.{Extent, extent, HasCells}
use Rattle.pawn_meaning.specs.Scope as program
use Rattle.pawn_meaning.specs.ValidExprs.{IsOperator, IsValidScalar, IsValidExpr}
use Rattle.names_rules.specs.Signs.{Between, Operates, Decides, Nothing}
use Rattle.names_rules.specs.Signs as signs
use Rattle.types_rules.specs.Typed.{Typed, Form, cell, line}
use Rattle.types_rules.specs.Typed as typed
use Rattle.types_rules.specs.Around.{Around, function_tag, first_tag}
use Rattle.types_rules.specs.Tests.{sent, sent_by, converter, converter_to}
use Rattle.types_rules.specs.Operators.{divides_by_zero, chosen}
use Rattle.types_rules.specs.Signs.{updater_of, updates_by}
use Rattle.types_rules.specs.Signs as typing_signs
use Rattle.types_rules.specs.Assignments.{unless_constant, assign_cell, known_by, known_line}
use Rattle.types_rules.specs.Assignments.{cells_or_broken, copied_cells, literal_cells, copy_from}
use Rattle.types_rules.specs.Assignments.{assign_to, set_rule, updated, update_rule, update_by}
use Rattle.types_rules.specs.Assignments.{assign_rule}
use Rattle.types_rules.proofs.VerdictLaws.{Holds, stands_itself, breaks_holds, holds_after}
use Rattle.types_rules.proofs.VerdictLaws.{holds_both}
use Rattle.types_laws.specs.Meant.{IsReached}
use Rattle.types_laws.specs.Known.{KnowsAround}
use Rattle.types_laws.specs.ValidExpressions.{IsValidForm}
use Rattle.types_laws.proofs.Facts.{if_holds}
use Rattle.types_laws.proofs.TestLaws.{unless_some}
use Rattle.types_laws.proofs.BasicLaws.{Sound, stands, cell_sound}
use Rattle.types_laws.proofs.OperatorLaws.{IsBinaryBetween, between_binary, chosen_takes}
use Rattle.types_laws.proofs.OperatorLaws.{target_sound}

-- ---- the cells of one dimension

abbrev make : Option ℕ → List ℕ → Extent
make first inner = record { first = first; inner = inner }

pub same_extent : (first other : Option ℕ) (inner more : List ℕ) → first ≡ other → inner ≡ more
    → make first inner ≡ make other more
same_extent first other inner more p q =
    ap (λ (it : Option ℕ). make it inner) p ∙ ap (λ (it : List ℕ). make other it) q

known_is : (first : Option ℕ) (inner : List ℕ) (size : ℕ) → known_by first inner ≡ Some size
    → (first ≡ Some size) × (inner ≡ [])
known_is None inner size e = absurd (let no : ⊥ = cc in no)
known_is (Some s) [] size e = (e, refl)
known_is (Some s) (next ∷ inner) size e = absurd (let no : ⊥ = cc in no)

line_is : (reach : Extent) (size : ℕ) → known_line reach ≡ Some size → reach ≡ line size
line_is reach size e =
    let parts = known_is reach.first reach.inner size e in
    same_extent reach.first (Some size) reach.inner [] parts.0 parts.1

-- so many cells are copied from one line to another
record Copied (to from : Option ℕ) (cells : ℕ) : Type 0 where
  pub target : ℕ
  pub target_is : to ≡ Some target
  pub into : cells ≤ target
  pub source : ℕ
  pub source_is : from ≡ Some source
  pub out_of : cells ≤ source

or_broken_holds : {P : ℕ → Type 0} (at : At) (b : Bool) (cells : ℕ) → (b ≡ true → P cells)
    → Holds P (cells_or_broken at b cells)
or_broken_holds at true cells h = stands_itself _ cells (h refl)
or_broken_holds at false cells h = breaks_holds _ _

copied_sound : (at : At) (to from : Option ℕ) → Holds (Copied to from) (copied_cells at to from)
copied_sound at None from = breaks_holds _ _
copied_sound at (Some to) None = breaks_holds _ _
copied_sound at (Some to) (Some from) =
    or_broken_holds at (nat_eq to from) from (λ e.
    let same : to ≡ from = eqb-true to from e in
    record {
      target = to;
      target_is = refl;
      into = omega (arith, same);
      source = from;
      source_is = refl;
      out_of = omega arith;
    })

literal_sound : (at : At) (to : Option ℕ) (from : ℕ)
    → Holds (Copied to (Some from)) (literal_cells at to from)
literal_sound at None from = breaks_holds _ _
literal_sound at (Some to) from =
    or_broken_holds at (nat_le from to) from (λ e.
    record {
      target = to;
      target_is = refl;
      into = leb-true from to e;
      source = from;
      source_is = refl;
      out_of = omega arith;
    })

-- ---- where user operators convert

module _ (scope : program.Scope) (cx : Around) (known : KnowsAround scope.program cx) where
  converter_takes : (from to f : ℕ) → converter cx from to ≡ Some f → IsOperator scope 1 f
  converter_takes from to f e =
      known.operators op.Assign from to f
      (unless_some (nat_eq from to) (function_of cx.operators op.Assign from to) f e)

  pub converter_to_takes : (formal : List ℕ) (actual f : ℕ) → converter_to cx formal actual ≡ Some f
      → IsOperator scope 1 f
  converter_to_takes formal actual f e =
      converter_takes actual (first_tag formal) f
      (unless_some (list_any (nat_eq actual) formal) (converter cx actual (first_tag formal)) f e)

  sent_by_valid : (formal : List ℕ) (actual : ℕ) (at : At) (e : Expr) (by : Option ℕ)
      → ((f : ℕ) → by ≡ Some f → IsOperator scope 1 f) → IsValidExpr scope e
      → IsValidExpr scope (sent_by cx formal actual at e by).code
  sent_by_valid formal actual at e None k p = p
  sent_by_valid formal actual at e (Some f) k p = (k f refl, p)

  pub sent_valid : (formal : List ℕ) (actual : ℕ) (at : At) (e : Expr) → IsValidExpr scope e
      → IsValidExpr scope (sent cx formal actual at e).code
  unfolding sent
  sent_valid formal actual at e p =
      sent_by_valid formal actual at e (converter_to cx formal actual)
      (converter_to_takes formal actual) p

  -- ---- `=`

  cell_assigned : (at : At) (x y : Typed) → Sound scope x → Sound scope y
      → Holds (Sound scope) (assign_cell cx at x y)
  cell_assigned at x y p q =
      holds_both (target_sound scope cx known at x p) (cell_sound scope at y q) (λ a e s t.
      stands scope _ (s.place, sent_valid (x.tag ∷ []) y.tag y.at e t.code))

  has_cells : (a : Array) (reach : Extent) (size cells : ℕ) → IsReached scope a reach
      → known_line reach ≡ Some size → cells ≤ size → HasCells cells (extent scope a)
  has_cells a reach size cells h e le =
      (size, h.reaches ∙ ap (λ (it : Extent). Some it) (line_is reach size e), le)

  copied_valid : (at : At) (x y : Typed) (to from : Array) (reach other : Extent) (cells : ℕ)
      → IsReached scope to reach → IsReached scope from other
      → Copied (known_line reach) (known_line other) cells
      → IsValidExpr scope (code.Copy to from cells)
  copied_valid at x y to from reach other cells h k it = (
    has_cells to reach it.target cells h it.target_is it.into,
    has_cells from other it.source cells k it.source_is it.out_of,
    h.array,
    k.array,
  )

  copy_sound : (at : At) (x y : Typed) (to : Array) (reach : Extent) (form : Form)
      → IsReached scope to reach → IsValidForm scope form
      → Holds (Sound scope) (copy_from cx at x y to reach form)
  copy_sound at x y to reach (typed.Value e) h k = breaks_holds _ _
  copy_sound at x y to reach (typed.Place a constant) h k = breaks_holds _ _
  copy_sound at x y to reach (typed.Whole from other constant) h k =
      holds_after (copied_sound at (known_line reach) (known_line other)) (λ cells it.
      stands scope _ (copied_valid at x y to from reach other cells h k it))
  copy_sound at x y to reach (typed.Literal object size) h k =
      holds_after (literal_sound at (known_line reach) size) (λ cells it.
      stands scope _ (copied_valid at x y to (Object object) reach (line size) cells h k it))

  record SoundTarget (a : Array) (reach : Extent) (to : Array) : Type 0 where
    pub reached : IsReached scope to reach

  array_target : (at : At) (constant : Bool) (a : Array) (reach : Extent) → IsReached scope a reach
      → Holds (SoundTarget a reach) (unless_constant at constant a)
  array_target at true a reach h = breaks_holds _ _
  array_target at false a reach h = stands_itself _ a (record { reached = h })

  set_sound : (at : At) (x y : Typed) (form : Form) → IsValidForm scope form → Sound scope x
      → Sound scope y → Holds (Sound scope) (assign_to cx at x y form)
  set_sound at x y (typed.Value e) h p q = cell_assigned at x y p q
  set_sound at x y (typed.Place a constant) h p q = cell_assigned at x y p q
  set_sound at x y (typed.Literal object cells) h p q = breaks_holds _ _
  set_sound at x y (typed.Whole a reach constant) h p q =
      holds_after (array_target at constant a reach h) (λ to it.
      copy_sound at x y to reach y.form it.reached q.form)

  -- ---- `op=`

  if_converter : (by : Option ℕ) → ((f : ℕ) → by ≡ Some f → IsOperator scope 1 f)
      → IfSome by (IsOperator scope 1)
  if_converter None k = tt
  if_converter (Some f) k = k f refl

  updated_sound : (at : At) (it : Operator) (x y : Typed) (a : Scalar) (e : Expr)
      (by : Option Choice) → ((c : Choice) → by ≡ Some c → IsOperator scope 2 c.function)
      → IsValidScalar scope a → IsValidExpr scope e
      → Holds (Sound scope) (updated cx at it x y a e by)
  updated_sound at it x y a e (Some by) k p q =
      stands scope _ (
        k by refl,
        if_converter (converter cx (function_tag cx by.function) x.tag)
            (converter_takes (function_tag cx by.function) x.tag),
        p,
        q,
      )
  updated_sound at it x y a e None k p q =
      if_holds (divides_by_zero it y.value) (breaks_holds _ _) (stands scope _ (p, q))

  update_sound : (at : At) (it : Between) (x y : Typed) → IsBinaryBetween it → Sound scope x
      → Sound scope y → Holds (Sound scope) (update_by cx at it x y)
  unfolding update_rule
  update_sound at (Operates it user) x y b p q =
      holds_both (target_sound scope cx known at x p) (cell_sound scope at y q) (λ a e s t.
      updated_sound at it x y a e (chosen cx user x.tag y.tag)
      (chosen_takes scope cx known user b x.tag y.tag) s.place t.code)
  update_sound at (Decides it) x y b p q = breaks_holds _ _
  update_sound at signs.Takes x y b p q = breaks_holds _ _
  update_sound at Nothing x y b p q = breaks_holds _ _

  updater_binary : (s : Option Sign) → IsBinaryBetween (typing_signs.operator_without s)
  updater_binary None = tt
  updater_binary (Some s) = between_binary s

  pub assign_sound : (at : At) (s : Sign) (x y : Typed) → Sound scope x → Sound scope y
      → Holds (Sound scope) (assign_rule cx at s x y)
  unfolding set_rule
  assign_sound at sign.Assign x y p q = set_sound at x y x.form p.form p q
  assign_sound at s x y p q =
      update_sound at (updater_of s) x y (updater_binary (updates_by s)) p q

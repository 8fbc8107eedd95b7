-- Operators on one and two operands that stand are valid.
use Rattle.std.proofs.Common.{◌≡◌, ◌⊎◌, inl, inr, ℕ, pos, negsuc, Bool, true, false, Option, None}
use Rattle.std.proofs.Common.{Some, refl, subst, ap}
use Rattle.std.specs.Prelude.{if◌then◌else◌, option_map, replicate}
use Rattle.std.specs.Option.{option_or}
use Rattle.pawn_token.specs.declared.sign.Sign.{Sign}
use Rattle.pawn_token.specs.declared.sign.Sign.TheVariants as sign
use Rattle.pawn_tree.specs.declared.name.At.{At}
use Rattle.pawn_cells.specs.declared.operator.Operator.{Operator}
use Rattle.pawn_cells.specs.declared.operator.Logical.{Logical}
use Rattle.pawn_cells.specs.declared.operator.Logical.TheVariants as logic
use Rattle.pawn_tags.specs.Tags.{untagged}
use Rattle.pawn_tags.specs.Overloads.{function_of, commutes, exact, exchanged, choice}
use Rattle.pawn_tags.specs.declared.op.Op.{Op}
use Rattle.pawn_tags.specs.declared.op.Op.TheVariants as op
use Rattle.pawn_tags.specs.declared.operators.Choice.{Choice}
use Rattle.pawn_meaning.specs.Program.{Scalar, Expr, ScalarSlot}
use Rattle.pawn_meaning.specs.Scope as program
use Rattle.pawn_meaning.specs.ValidExprs.{Takes, IsOperator, IsValidScalar, IsValidExpr}
use Rattle.names_rules.specs.Signs.{Between, Operates, Decides, Nothing, between_of}
use Rattle.names_rules.specs.Signs as signs
use Rattle.types_rules.specs.Typed.{Typed, Form, cell}
use Rattle.types_rules.specs.Typed as typed
use Rattle.types_rules.specs.Around.{Around}
use Rattle.types_rules.specs.Operators.{divides_by_zero, chosen, operate, operator_rule}
use Rattle.types_rules.specs.Operators.{logical_code, logical_rule, comma_rule, between_rule}
use Rattle.types_rules.specs.Operators.{chosen_for_one, operate_one, not_rule, negate_rule}
use Rattle.types_rules.specs.Operators.{invert_rule}
use Rattle.types_rules.specs.Prefixes.{prefix_rule, postfix_rule}
use Rattle.types_rules.specs.Assignments.{unless_constant, target_in, target, step_op, step_delta}
use Rattle.types_rules.specs.Assignments.{step_code, step_rule}
use Rattle.types_rules.proofs.VerdictLaws.{Holds, stands_itself, breaks_holds, holds_after}
use Rattle.types_rules.proofs.VerdictLaws.{holds_both}
use Rattle.types_laws.specs.Known.{operands, KnowsAround}
use Rattle.types_laws.specs.ValidExpressions.{IsValidForm}
use Rattle.types_laws.proofs.Facts.{if_holds}
use Rattle.types_laws.proofs.TestLaws.{when_some}
use Rattle.types_laws.proofs.BasicLaws.{Sound, stands, cell_sound}

-- ---- the user operator that is chosen

exact_of : (it : Option ℕ) (swapped : Bool) (by : Choice)
    → option_map (λ function. record { function = function; swapped = swapped }) it ≡ Some by
    → it ≡ Some by.function
exact_of None swapped by e = absurd (let no : ⊥ = cc in no)
exact_of (Some f) swapped by e =
    let it : Choice = record { function = f; swapped = swapped } in
    let same : it ≡ by = cc in ap (λ (x : Choice). Some x.function) same

either_of : (a b : Option Choice) (by : Choice) → option_or a b ≡ Some by
    → (a ≡ Some by) ⊎ (b ≡ Some by)
either_of None b by e = inr e
either_of (Some x) b by e = inl e

-- an operator that a program may define has two operands
pub record IsBinaryUser (user : Option Op) : Type 0 where
  pub two : (it : Op) → user ≡ Some it → operands it ≡ 2

some_binary : (it : Op) → operands it ≡ 2 → IsBinaryUser (Some it)
some_binary it e = record { two = λ other same. let eq : it ≡ other = cc in rw (← eq) e }

no_binary : IsBinaryUser None
no_binary = record { two = λ it same. absurd (let no : ⊥ = cc in no) }

abbrev pub IsBinaryBetween : Between → Type 0
IsBinaryBetween (Operates it user) = IsBinaryUser user
IsBinaryBetween (Decides it) = Unit {0}
IsBinaryBetween signs.Takes = Unit {0}
IsBinaryBetween Nothing = Unit {0}

pub between_binary : (s : Sign) → IsBinaryBetween (between_of s)
between_binary sign.Star = some_binary op.Mul refl
between_binary sign.Slash = some_binary op.Div refl
between_binary sign.Percent = some_binary op.Rem refl
between_binary sign.Plus = some_binary op.Add refl
between_binary sign.Minus = some_binary op.Sub refl
between_binary sign.ShiftLeft = no_binary
between_binary sign.ShiftRight = no_binary
between_binary sign.ShiftUnsigned = no_binary
between_binary sign.Ampersand = no_binary
between_binary sign.Caret = no_binary
between_binary sign.Bar = no_binary
between_binary sign.Equal = some_binary op.Eq refl
between_binary sign.NotEqual = some_binary op.Neq refl
between_binary _ = tt

pub record SoundPlace (scope : program.Scope) (p : Scalar) : Type 0 where
  pub place : IsValidScalar scope p

module _ (scope : program.Scope) (cx : Around) (known : KnowsAround scope.program cx) where
  pub choice_takes : (it : Op) (left right : ℕ) (by : Choice)
      → choice cx.operators it left right ≡ Some by
      → Takes scope.program by.function (replicate (operands it) ScalarSlot)
  choice_takes it left right by e =
      by_either (either_of (exact cx.operators it left right)
      (if commutes it then exchanged cx.operators it left right else None) by e)
    where
      by_either : (exact cx.operators it left right ≡ Some by)
          ⊎ ((if commutes it then exchanged cx.operators it left right else None) ≡ Some by)
          → Takes scope.program by.function (replicate (operands it) ScalarSlot)
      by_either (inl p) =
          known.operators it left right by.function
          (exact_of (function_of cx.operators it left right) false by p)
      by_either (inr p) =
          known.operators it right left by.function
          (exact_of (function_of cx.operators it right left) true by
          (when_some (commutes it) (exchanged cx.operators it left right) by p))

  pub chosen_takes : (user : Option Op) → IsBinaryUser user → (left right : ℕ) (by : Choice)
      → chosen cx user left right ≡ Some by → IsOperator scope 2 by.function
  chosen_takes None b left right by e = absurd (let no : ⊥ = cc in no)
  chosen_takes (Some it) b left right by e =
      subst (λ (n : ℕ). Takes scope.program by.function (replicate n ScalarSlot)) (b.two it refl)
      (choice_takes it left right by e)

  -- ---- two operands

  operate_sound : (at : At) (it : Operator) (x y : Typed) (l r : Expr) (by : Option Choice)
      → ((c : Choice) → by ≡ Some c → IsOperator scope 2 c.function)
      → IsValidExpr scope l → IsValidExpr scope r
      → Holds (Sound scope) (operate cx at it x y l r by)
  operate_sound at it x y l r None k p q =
      if_holds (divides_by_zero it y.value) (breaks_holds _ _) (stands scope _ (p, q))
  operate_sound at it x y l r (Some by) k p q = stands scope _ (k by refl, p, q)

  logical_valid : (it : Logical) (l r : Expr) → IsValidExpr scope l → IsValidExpr scope r
      → IsValidExpr scope (logical_code it l r)
  logical_valid logic.And l r p q = (p, q)
  logical_valid logic.Or l r p q = (p, q)

  pub between_sound : (at : At) (it : Between) (x y : Typed) → IsBinaryBetween it
      → Sound scope x → Sound scope y → Holds (Sound scope) (between_rule cx at it x y)
  unfolding operator_rule logical_rule comma_rule
  between_sound at (Operates it user) x y b p q =
      holds_both (cell_sound scope at x p) (cell_sound scope at y q) (λ l r s t.
      operate_sound at it x y l r (chosen cx user x.tag y.tag)
      (chosen_takes user b x.tag y.tag) s.code t.code)
  between_sound at (Decides it) x y b p q =
      holds_both (cell_sound scope at x p) (cell_sound scope at y q) (λ l r s t.
      stands scope _ (logical_valid it l r s.code t.code))
  between_sound at signs.Takes x y b p q =
      holds_both (cell_sound scope at x p) (cell_sound scope at y q) (λ l r s t.
      stands scope _ (s.code, t.code))
  between_sound at Nothing x y b p q = breaks_holds _ _

  -- ---- one operand

  one_valid : (at : At) (x : Typed) (e : Expr) (built : Typed) (by : Option Choice)
      → ((c : Choice) → by ≡ Some c → IsOperator scope 1 c.function) → IsValidExpr scope e
      → IsValidForm scope built.form → IsValidForm scope (operate_one cx at x e built by).form
  one_valid at x e built None k p q = q
  one_valid at x e built (Some by) k p q = (k by refl, p)

  unless_sound : (at : At) (constant : Bool) (p : Scalar) → IsValidScalar scope p
      → Holds (SoundPlace scope) (unless_constant at constant p)
  unless_sound at true p h = breaks_holds _ _
  unless_sound at false p h = stands_itself _ p (record { place = h })

  target_in_sound : (at : At) (form : Form) → IsValidForm scope form
      → Holds (SoundPlace scope) (target_in at form)
  target_in_sound at (typed.Value e) h = breaks_holds _ _
  target_in_sound at (typed.Place p constant) h = unless_sound at constant p h
  target_in_sound at (typed.Whole a reach constant) h = breaks_holds _ _
  target_in_sound at (typed.Literal object cells) h = breaks_holds _ _

  pub target_sound : (at : At) (x : Typed) → Sound scope x
      → Holds (SoundPlace scope) (target at x)
  target_sound at x p = target_in_sound at x.form p.form

  delta_is : (up : Bool) → (step_delta up ≡ pos 1) ⊎ (step_delta up ≡ negsuc 0)
  delta_is true = inl refl
  delta_is false = inr refl

  step_takes : (up : Bool) (tag : ℕ) (by : Choice) → chosen_for_one cx (step_op up) tag ≡ Some by
      → IsOperator scope 1 by.function
  step_takes true tag by e = choice_takes op.Inc tag untagged by e
  step_takes false tag by e = choice_takes op.Dec tag untagged by e

  step_valid : (up before : Bool) (p : Scalar) (by : Option Choice)
      → ((c : Choice) → by ≡ Some c → IsOperator scope 1 c.function) → IsValidScalar scope p
      → IsValidExpr scope (step_code up before p by)
  step_valid up before p None k h = (delta_is up, h)
  step_valid up before p (Some by) k h = (k by refl, h)

  step_sound : (at : At) (up before : Bool) (x : Typed) → Sound scope x
      → Holds (Sound scope) (step_rule cx at up before x)
  unfolding step_rule
  step_sound at up before x p =
      holds_after (target_sound at x p) (λ a t.
      stands scope _ (step_valid up before a (chosen_for_one cx (step_op up) x.tag)
      (step_takes up x.tag) t.place))

  pub prefix_sound : (at : At) (s : Sign) (x : Typed) → Sound scope x
      → Holds (Sound scope) (prefix_rule cx at s x)
  unfolding not_rule negate_rule invert_rule
  prefix_sound at sign.Exclamation x p =
      holds_after (cell_sound scope at x p) (λ e t.
      stands scope _ (one_valid at x e _ (chosen_for_one cx op.Not x.tag)
      (choice_takes op.Not x.tag untagged) t.code t.code))
  prefix_sound at sign.Minus x p =
      holds_after (cell_sound scope at x p) (λ e t.
      stands scope _ (one_valid at x e _ (chosen_for_one cx op.Neg x.tag)
      (choice_takes op.Neg x.tag untagged) t.code t.code))
  prefix_sound at sign.Tilde x p =
      holds_after (cell_sound scope at x p) (λ e t. stands scope _ t.code)
  prefix_sound at sign.Increment x p = step_sound at true true x p
  prefix_sound at sign.Decrement x p = step_sound at false true x p
  prefix_sound at _ x p = breaks_holds _ _

  pub postfix_sound : (at : At) (s : Sign) (x : Typed) → Sound scope x
      → Holds (Sound scope) (postfix_rule cx at s x)
  postfix_sound at sign.Increment x p = step_sound at true false x p
  postfix_sound at sign.Decrement x p = step_sound at false false x p
  postfix_sound at _ x p = breaks_holds _ _

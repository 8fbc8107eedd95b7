-- Which jumps each condition has, and a condition that is met in code.
use Rattle.std.proofs.Common.{◌≡◌, ◌*◌, ℕ, ℤ, pos, List, [], ◌∷◌, ◌++◌, Bool, true, false, Option}
use Rattle.std.proofs.Common.{None, Some, length, is_some, refl, sym, ap, ◌∙◌}
use Rattle.std.proofs.Common.{Result, Ok, Err, IfOk}
use Rattle.std.proofs.Common.{not as no}
use Rattle.pawn_cells.specs.declared.operator.Prefix.TheVariants as before
use Rattle.pawn_meaning.specs.Program.{Expr, Unary, And, Or, Absent}
use Rattle.pawn_meaning.specs.Scope.{Scope}
use Rattle.pawn_meaning.specs.Fold.{fold}
use Rattle.amx_ops.specs.declared.op.Op.TheVariants as op
use Rattle.gen_sim.specs.Items.{Item}
use Rattle.gen_sim.specs.SimpleCode.{taking, const_code}
use Rattle.gen_sim.specs.JumpCode.{jump_to}
use Rattle.gen_sim.specs.TestCode.{IsSet, test_op}
use Rattle.gen_laws.specs.ConditionCode.{prefix_items}
use Rattle.gen_laws.specs.BranchItems.{single_items, joint_items, by_operands, jump_items}
use Rattle.gen_laws.specs.BranchItems.{perhaps_jumps}
use Rattle.gen_expr.specs.Built.{with_items}
use Rattle.gen_stmt.specs.declared.draft.Draft.{Draft}
use Rattle.gen_stmt.specs.Grown.{Grown}
use Rattle.gen_stmt.proofs.GrownLaws.{plain_grown, grown_as, then_grown}

-- ---- which of them each condition has

pub jumps_as : {E : Type 0} (b : Draft) (r : Result Draft E) (items others : ℕ → List Item)
    → ((to : ℕ) → items to ≡ others to)
    → IfOk r (λ x. Grown b x (λ exits. items exits.broke))
    → IfOk r (λ x. Grown b x (λ exits. others exits.broke))
jumps_as b (Ok x) items others same g =
    grown_as b x (λ exits. items exits.broke) (λ exits. others exits.broke)
    (λ h exits. same exits.broke) g
jumps_as b (Err fault) items others same g = g

module _ (scope : Scope) (when : Bool) (to begin : ℕ) where
  pub folded_jumps : (e : Expr) → is_some (fold e) ≡ true
      → single_items scope when to begin e ≡ jump_items scope when to begin e
  folded_jumps (Unary o e) h = by (fold (Unary o e)) h
    where
      by : (k : Option ℤ) → is_some k ≡ true
          → single_items scope when to begin (Unary o e)
          ≡ prefix_items k o (jump_items scope (no when) to begin e)
          (single_items scope when to begin (Unary o e))
      by None g = cc
      by (Some v) g = refl
  folded_jumps (And l r) h = by (fold (And l r)) h
    where
      by : (k : Option ℤ) → is_some k ≡ true
          → single_items scope when to begin (And l r) ≡ by_operands k
          (joint_items false when to begin (λ t q. jump_items scope false t q l)
          (λ t q. jump_items scope when t q r)) (single_items scope when to begin (And l r))
      by None g = cc
      by (Some v) g = refl
  folded_jumps (Or l r) h = by (fold (Or l r)) h
    where
      by : (k : Option ℤ) → is_some k ≡ true
          → single_items scope when to begin (Or l r) ≡ by_operands k
          (joint_items true when to begin (λ t q. jump_items scope true t q l)
          (λ t q. jump_items scope when t q r)) (single_items scope when to begin (Or l r))
      by None g = cc
      by (Some v) g = refl
  folded_jumps e h = refl

  pub not_jumps : (e : Expr) → is_some (fold (Unary before.Not e)) ≡ false
      → jump_items scope (no when) to begin e
      ≡ jump_items scope when to begin (Unary before.Not e)
  not_jumps e h = by (fold (Unary before.Not e)) h
    where
      by : (k : Option ℤ) → is_some k ≡ false
          → jump_items scope (no when) to begin e
          ≡ prefix_items k before.Not (jump_items scope (no when) to begin e)
          (single_items scope when to begin (Unary before.Not e))
      by None g = refl
      by (Some v) g = cc

  pub and_jumps : (l r : Expr) → is_some (fold (And l r)) ≡ false
      → joint_items false when to begin (λ t q. jump_items scope false t q l)
      (λ t q. jump_items scope when t q r)
      ≡ jump_items scope when to begin (And l r)
  and_jumps l r h = by (fold (And l r)) h
    where
      by : (k : Option ℤ) → is_some k ≡ false
          → joint_items false when to begin (λ t q. jump_items scope false t q l)
          (λ t q. jump_items scope when t q r)
          ≡ by_operands k (joint_items false when to begin (λ t q. jump_items scope false t q l)
          (λ t q. jump_items scope when t q r)) (single_items scope when to begin (And l r))
      by None g = refl
      by (Some v) g = cc

  pub or_jumps : (l r : Expr) → is_some (fold (Or l r)) ≡ false
      → joint_items true when to begin (λ t q. jump_items scope true t q l)
      (λ t q. jump_items scope when t q r)
      ≡ jump_items scope when to begin (Or l r)
  or_jumps l r h = by (fold (Or l r)) h
    where
      by : (k : Option ℤ) → is_some k ≡ false
          → joint_items true when to begin (λ t q. jump_items scope true t q l)
          (λ t q. jump_items scope when t q r)
          ≡ by_operands k (joint_items true when to begin (λ t q. jump_items scope true t q l)
          (λ t q. jump_items scope when t q r)) (single_items scope when to begin (Or l r))
      by None g = refl
      by (Some v) g = cc

-- a condition that is met in code
module _ {E : Type 0} (scope : Scope) (when : Bool) (b : Draft) (e : Expr)
    (r : Result Draft E) where
  abbrev p : ℕ
  p = 4 * length b.code.code

  -- what was appended has its jumps
  abbrev Jumps : (ℕ → List Item) → Type 0
  Jumps items = IfOk r (λ x. Grown b x (λ exits. items exits.broke))

  pub folded_done : is_some (fold e) ≡ true → Jumps (λ to. single_items scope when to p e)
      → Jumps (λ to. jump_items scope when to p e)
  folded_done h g =
      jumps_as b r (λ to. single_items scope when to p e) (λ to. jump_items scope when to p e)
      (λ to. folded_jumps scope when to p e h) g

  pub not_done : (x : Expr) → e ≡ Unary before.Not x → is_some (fold e) ≡ false
      → Jumps (λ to. jump_items scope (no when) to p x)
      → Jumps (λ to. jump_items scope when to p e)
  not_done x is h g =
      jumps_as b r (λ to. jump_items scope (no when) to p x) (λ to. jump_items scope when to p e)
      (λ to. not_jumps scope when to p x (ap (λ z. is_some (fold z)) (sym is) ∙ h)
      ∙ ap (λ z. jump_items scope when to p z) (sym is)) g

  pub and_done : (x y : Expr) → e ≡ And x y → is_some (fold e) ≡ false
      → Jumps (λ to. joint_items false when to p (λ t q. jump_items scope false t q x)
      (λ t q. jump_items scope when t q y))
      → Jumps (λ to. jump_items scope when to p e)
  and_done x y is h g =
      jumps_as b r (λ to. joint_items false when to p (λ t q. jump_items scope false t q x)
      (λ t q. jump_items scope when t q y)) (λ to. jump_items scope when to p e)
      (λ to. and_jumps scope when to p x y (ap (λ z. is_some (fold z)) (sym is) ∙ h)
      ∙ ap (λ z. jump_items scope when to p z) (sym is)) g

  pub or_done : (x y : Expr) → e ≡ Or x y → is_some (fold e) ≡ false
      → Jumps (λ to. joint_items true when to p (λ t q. jump_items scope true t q x)
      (λ t q. jump_items scope when t q y))
      → Jumps (λ to. jump_items scope when to p e)
  or_done x y is h g =
      jumps_as b r (λ to. joint_items true when to p (λ t q. jump_items scope true t q x)
      (λ t q. jump_items scope when t q y)) (λ to. jump_items scope when to p e)
      (λ to. or_jumps scope when to p x y (ap (λ z. is_some (fold z)) (sym is) ∙ h)
      ∙ ap (λ z. jump_items scope when to p z) (sym is)) g

pub and_both : {E : Type 0} (scope : Scope) (when : Bool) (b : Draft) (e x y : Expr)
    (r : Result Draft E) → when ≡ false → e ≡ And x y → is_some (fold e) ≡ false
    → IfOk r (λ z. Grown b z (λ exits. joint_items when when exits.broke
    (4 * length b.code.code) (λ t q. jump_items scope when t q x)
    (λ t q. jump_items scope when t q y)))
    → IfOk r (λ z. Grown b z (λ exits. jump_items scope when exits.broke
    (4 * length b.code.code) e))
and_both scope false b e x y r w is h g = and_done scope false b e r x y is h g
and_both scope true b e x y r w is h g = cc

pub and_past : {E : Type 0} (scope : Scope) (when : Bool) (b : Draft) (e x y : Expr)
    (r : Result Draft E) → when ≡ true → e ≡ And x y → is_some (fold e) ≡ false
    → IfOk r (λ z. Grown b z (λ exits. joint_items (no when) when exits.broke
    (4 * length b.code.code) (λ t q. jump_items scope (no when) t q x)
    (λ t q. jump_items scope when t q y)))
    → IfOk r (λ z. Grown b z (λ exits. jump_items scope when exits.broke
    (4 * length b.code.code) e))
and_past scope true b e x y r w is h g = and_done scope true b e r x y is h g
and_past scope false b e x y r w is h g = cc

pub or_both : {E : Type 0} (scope : Scope) (when : Bool) (b : Draft) (e x y : Expr)
    (r : Result Draft E) → when ≡ true → e ≡ Or x y → is_some (fold e) ≡ false
    → IfOk r (λ z. Grown b z (λ exits. joint_items when when exits.broke
    (4 * length b.code.code) (λ t q. jump_items scope when t q x)
    (λ t q. jump_items scope when t q y)))
    → IfOk r (λ z. Grown b z (λ exits. jump_items scope when exits.broke
    (4 * length b.code.code) e))
or_both scope true b e x y r w is h g = or_done scope true b e r x y is h g
or_both scope false b e x y r w is h g = cc

pub or_past : {E : Type 0} (scope : Scope) (when : Bool) (b : Draft) (e x y : Expr)
    (r : Result Draft E) → when ≡ false → e ≡ Or x y → is_some (fold e) ≡ false
    → IfOk r (λ z. Grown b z (λ exits. joint_items (no when) when exits.broke
    (4 * length b.code.code) (λ t q. jump_items scope (no when) t q x)
    (λ t q. jump_items scope when t q y)))
    → IfOk r (λ z. Grown b z (λ exits. jump_items scope when exits.broke
    (4 * length b.code.code) e))
or_past scope false b e x y r w is h g = or_done scope false b e r x y is h g
or_past scope true b e x y r w is h g = cc

-- an absent one
pub absent_done : {E : Type 0} (scope : Scope) (b m : Draft) (r : Result Draft E)
    → m ≡ record { code = with_items (taking op.ConstPri (pos 1) ∷ []) b.code; holes = b.holes }
    → IfOk r (λ z. Grown m z (λ exits. jump_to (test_op IsSet) exits.broke ∷ []))
    → IfOk r (λ z. Grown b z (λ exits. perhaps_jumps scope true exits.broke
    (4 * length b.code.code) Absent))
absent_done scope b m (Ok z) em g =
    then_grown b m z (λ exits. const_code (pos 1))
    (λ exits. jump_to (test_op IsSet) exits.broke ∷ []) (plain_grown b m (const_code (pos 1)) em) g
absent_done scope b m (Err fault) em g = g

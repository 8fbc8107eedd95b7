-- The sizes behind the first, one by one.
use Rattle.std.proofs.Common.{◌≡◌, ◌<◌, ◌≤◌, ℕ, List, [], ◌∷◌, Option, None, Some, length, get_or}
use Rattle.std.proofs.Common.{map, refl, sym, ap, ◌∙◌, arith, append-nil}
use Rattle.std.proofs.lemmas.Bool.{le-leb, lt-leb}
use Rattle.std.proofs.lemmas.List.{length-map}
use Rattle.pawn_tree.specs.declared.name.At.{At}
use Rattle.pawn_tree.specs.declared.variable.Dim as held
use Rattle.pawn_tree.specs.Variables.{Dim}
use Rattle.pawn_tree.specs.View.{dim_view}
use Rattle.names_rules.specs.Verdict.{Verdict, Stands, Breaks, Fault, after, both}
use Rattle.types_rules.specs.declared.fault.TheConstants.{SIZES_DIFFER}
use Rattle.types_rules.specs.Rule.{broken}
use Rattle.types_rules.specs.Around.{Around}
use Rattle.types_rules.specs.Scope.{Scope}
use Rattle.types_rules.specs.Sizes.{Dimension, Inner, dimension, inner, dimensions, dimensions_of}
use Rattle.check_expressions.specs.Inner.{single, with_size}

-- beside a part that stands
beside : {A B C : Type 0} (v : Verdict A) (e : B) (rule : A → B → Verdict C)
    → both v (Stands e) rule ≡ after v (λ x. rule x e)
beside (Stands x) e rule = refl
beside (Breaks faults) e rule = ap (λ (all : List Fault). Breaks all) (append-nil faults)

-- the sizes behind the last one
abbrev none : Inner
none = record { sizes = []; warned = [] }

before_none : (at : At) (warned : List At) (size : Option ℕ)
    → with_size at warned size none ≡ single at warned size
before_none at warned None = refl
before_none at warned (Some size) =
    ap (λ (all : List At). Stands (record { sizes = size ∷ []; warned = all })) (append-nil warned)

with_none : (at : At) (w : Verdict Dimension)
    → after w (λ it. with_size at it.warned it.size none)
    ≡ after w (λ it. single at it.warned it.size)
with_none at (Stands it) = before_none at it.warned it.size
with_none at (Breaks faults) = refl

module _ (cx : Around) (scope : Scope) (at : At) where
  pub no_sizes : (dims : List held.Dim) → length dims ≡ 0
      → inner cx scope at (map dim_view dims) ≡ Stands (record { sizes = []; warned = [] })
  no_sizes [] empty = refl
  no_sizes (dim ∷ dims) empty = absurd (omega (arith, empty))

  pub one_size : (dims : List held.Dim) (dim : held.Dim) → length dims ≡ 1
      → dim ≡ get_or dims 0 dim → inner cx scope at (map dim_view dims)
      ≡ after (dimension cx scope at (dim_view dim)) (λ it. single at it.warned it.size)
  one_size [] dim one e = absurd (omega (arith, one))
  one_size (it ∷ []) dim one e =
      let P : held.Dim → Verdict Inner = λ (d : held.Dim).
      after (dimension cx scope at (dim_view d)) (λ x. single at x.warned x.size) in
      beside (dimension cx scope at (dim_view it)) none
      (λ x more. with_size at x.warned x.size more)
      ∙ with_none at (dimension cx scope at (dim_view it))
      ∙ ap P (sym e)
  one_size (it ∷ second ∷ dims) dim one e = absurd (omega (arith, one))

  pub two_sizes : (dims : List held.Dim) (first second : held.Dim) → length dims ≡ 2
      → first ≡ get_or dims 0 first → second ≡ get_or dims 1 second
      → inner cx scope at (map dim_view dims)
      ≡ both (dimension cx scope at (dim_view first))
      (after (dimension cx scope at (dim_view second)) (λ it. single at it.warned it.size))
      (λ it more. with_size at it.warned it.size more)
  two_sizes [] first second two e f = absurd (omega (arith, two))
  two_sizes (it ∷ []) first second two e f = absurd (omega (arith, two))
  two_sizes (it ∷ other ∷ []) first second two e f =
      ap (λ (w : Verdict Inner). both (dimension cx scope at (dim_view it)) w
      (λ x more. with_size at x.warned x.size more))
      (beside (dimension cx scope at (dim_view other)) none
      (λ x more. with_size at x.warned x.size more)
      ∙ with_none at (dimension cx scope at (dim_view other)))
      ∙ rw (e, f) refl
  two_sizes (it ∷ other ∷ third ∷ dims) first second two e f = absurd (omega (arith, two))

  pub few_dimensions : (dim : Dim) (dims : List held.Dim) → length dims ≤ 2
      → dimensions cx scope at dim (map dim_view dims)
      ≡ dimensions_of cx scope at dim (map dim_view dims)
  few_dimensions dim dims le =
      rw (length-map dims dim_view, le-leb (length dims) 2 le) refl

  pub many_dimensions : (dim : Dim) (dims : List held.Dim) → 2 < length dims
      → dimensions cx scope at dim (map dim_view dims) ≡ broken SIZES_DIFFER at
  many_dimensions dim dims lt =
      rw (length-map dims dim_view, lt-leb (length dims) 2 lt) refl

-- The first size by counts.
use Rattle.std.proofs.Common.{◌≡◌, ℕ, ℤ, Bool, List, [], ◌∷◌, length, map, Option, None, Some}
use Rattle.std.proofs.Common.{option_map, true, false, Result, refl, sym, ap, subst, ◌∙◌, arith}
use Rattle.pawn_arrays.specs.Sizes.{inner_sizes}
use Rattle.pawn_tree.specs.declared.name.At.{At}
use Rattle.pawn_tree.specs.declared.variable.Init as held
use Rattle.pawn_tree.specs.Expressions.{Expr}
use Rattle.pawn_tree.specs.Variables.{Init, Value, Braces, inits}
use Rattle.pawn_tree.specs.View.{init_view}
use Rattle.pawn_tree.proofs.ViewLaws.{braces_view}
use Rattle.names_rules.specs.Verdict.{Verdict, Stands, after}
use Rattle.types_rules.specs.Around.{Around}
use Rattle.types_rules.specs.Scope.{Scope}
use Rattle.types_rules.specs.Typed.{Typed}
use Rattle.types_rules.specs.Expressions.{expr}
use Rattle.types_rules.specs.FirstValues.{literal_in}
use Rattle.types_rules.specs.Arrays.{count, text_size, size_from}
use Rattle.check_nodes.specs.declared.fault.PartFault.{PartFault}
use Rattle.check_nodes.specs.PartAnswers.{PartAnswers}
use Rattle.check_expressions.specs.Counted.{counted, size_by, text_by}

-- a text, by its count of cells
pub size_by_text : (at : At) (second third : Option ℕ) (values : Option (List ℤ))
    → text_by at (inner_sizes second third) values ≡ size_by at second (option_map length values)
size_by_text at second third None = refl
size_by_text at None third (Some values) = refl
size_by_text at (Some size) third (Some values) = refl

pub text_size_is : (cx : Around) (scope : Scope) (at : At) (inner : List ℕ)
    (values : Option (List ℤ)) → text_size cx scope at inner values ≡ text_by at inner values
text_size_is cx scope at inner None = refl
text_size_is cx scope at [] (Some values) = refl
text_size_is cx scope at (size ∷ inner) (Some values) = refl

-- so many cells of a text
pub size_from_text : (cx : Around) (scope : Scope) (at : At) (inner : List ℕ) (e : Expr)
    (x : Typed) (result : Result ℕ PartFault) → expr cx scope 0 e ≡ Stands x
    → PartAnswers (λ (size : ℕ). size) (text_by at inner (literal_in x x.form)) result
    → PartAnswers (λ (size : ℕ). size) (size_from cx scope at inner (Value e)) result
size_from_text cx scope at inner e x result stands answered =
    let P : Verdict ℕ → Type 0 = λ w. PartAnswers (λ (size : ℕ). size) w result in
    subst P (sym (
    ap (λ (w : Verdict Typed). after w
    (λ (y : Typed). text_size cx scope at inner (literal_in y y.form)))
    stands
    ∙ text_size_is cx scope at inner (literal_in x x.form))) answered

-- ---- a list

held_count : (list : List held.Init) → count (inits (map init_view list)) ≡ length list
held_count [] = refl
held_count (x ∷ list) = let h = held_count list in omega (arith, h)

plain_list : (cx : Around) (scope : Scope) (at begin : At) (inner : List ℕ) (list : List held.Init)
    (goes_on : Bool) → size_from cx scope at inner
    (Braces begin (inits (map init_view list)) goes_on)
    ≡ counted at (length list) goes_on
plain_list cx scope at begin inner list true = refl
plain_list cx scope at begin inner list false = ap (λ (n : ℕ). counted at n false) (held_count list)

-- a list of so many values
pub size_from_list : (cx : Around) (scope : Scope) (at begin : At) (inner : List ℕ)
    (list : List held.Init) (goes_on : Bool)
    → size_from cx scope at inner (init_view (held.Braces begin list goes_on))
    ≡ counted at (length list) goes_on
size_from_list cx scope at begin inner list goes_on =
    ap (λ (it : Init). size_from cx scope at inner it) (braces_view begin list goes_on)
    ∙ plain_list cx scope at begin inner list goes_on

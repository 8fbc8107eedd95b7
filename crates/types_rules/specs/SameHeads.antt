-- When two heads are equal (Language Guide, "Functions", on forward declarations): in the tag of
-- the result, and in each parameter's name, `const`, `&`, tags, sizes and default.
use Rattle.std.specs.Prelude.{ℕ, List, [], ◌∷◌, Bool, true, false, ◌&&◌, nat_eq, Option, None, Some}
use Rattle.std.specs.Ordering.{int_eq}
use Rattle.std.specs.Str.{bytes_eq}
use Rattle.pawn_meaning.specs.Scope.{Extent}
use Rattle.types_rules.specs.Around.{Default, NoDefault, Always, SizeOf, TagOf, Param, Head}

-- whether both are so or neither is
abbrev pub same_truth : Bool → Bool → Bool
same_truth true b = b
same_truth false true = false
same_truth false false = true

-- of one kind and one value
abbrev pub same_default : Default → Default → Bool
same_default NoDefault NoDefault = true
same_default (Always v tag) (Always other other_tag) = int_eq v other
same_default (SizeOf i) (SizeOf j) = nat_eq i j
same_default (TagOf i) (TagOf j) = nat_eq i j
same_default _ _ = false

-- first sizes agree: both unknown, or the same number
abbrev pub same_first : Option ℕ → Option ℕ → Bool
same_first None None = true
same_first (Some m) (Some n) = nat_eq m n
same_first _ _ = false

-- both are no arrays, or arrays of the same sizes
abbrev pub same_extent : Option Extent → Option Extent → Bool
same_extent None None = true
same_extent (Some x) (Some y) = same_first x.first y.first && bytes_eq x.inner y.inner
same_extent _ _ = false

-- both take no further arguments, or further ones of the same tags
abbrev pub same_rest : Option (List ℕ) → Option (List ℕ) → Bool
same_rest None None = true
same_rest (Some x) (Some y) = bytes_eq x y
same_rest _ _ = false

-- two parameters agree in all that calls see of them
abbrev pub same_param : Param → Param → Bool
same_param x y =
    bytes_eq x.name y.name
    && (same_truth x.constant y.constant && (same_truth x.reference y.reference
    && (bytes_eq x.tags y.tags
    && (same_extent x.extent y.extent && same_default x.default y.default))))

-- as many parameters, each like the other's
abbrev pub same_params : List Param → List Param → Bool
same_params [] [] = true
same_params [] (y ∷ ys) = false
same_params (x ∷ xs) [] = false
same_params (x ∷ xs) (y ∷ ys) = same_param x y && same_params xs ys

-- heads with the tags of their results
abbrev pub same_head : ℕ → Head → ℕ → Head → Bool
same_head tag x other y =
    nat_eq tag other && (same_params x.params y.params && same_rest x.rest y.rest)

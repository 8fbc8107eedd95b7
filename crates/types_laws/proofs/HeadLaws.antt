-- Parameters that stand are good slots, and a body sees what their names mean.
use Rattle.std.proofs.Common.{◌≡◌, inl, ◌+◌, ◌<◌, ◌≤◌, ℕ, List, [], ◌∷◌, Bool, true, false, Option}
use Rattle.std.proofs.Common.{None, Some, refl, sym, ap, ◌∙◌, subst, arith}
use Rattle.std.specs.Prelude.{length, slice_get, is_some}
use Rattle.std.proofs.lemmas.List.{length-append}
use Rattle.pawn_tree.specs.declared.name.At.{At}
use Rattle.pawn_tree.specs.declared.name.Name as n
use Rattle.pawn_tree.specs.Expressions.{Expr}
use Rattle.pawn_tree.specs.Variables.{Dim}
use Rattle.pawn_tree.specs.Declarations as tree
use Rattle.pawn_meaning.specs.Program.{Slot}
use Rattle.pawn_meaning.specs.Scope.{Extent, param_extent}
use Rattle.pawn_meaning.specs.Scope as program
use Rattle.names_rules.specs.Verdict.{Verdict, Stands}
use Rattle.types_rules.specs.Around.{Around, first_tag}
use Rattle.types_rules.specs.Scope.{Scope, with_entries}
use Rattle.types_rules.proofs.VerdictLaws.{Holds, stands_itself, holds_after, holds_both, holds_all}
use Rattle.types_rules.proofs.VerdictLaws.{holds_also}
use Rattle.types_rules.specs.Sizes.{Dimensions}
use Rattle.types_rules.specs.Locals.{fresh_name}
use Rattle.types_rules.specs.ParamDefaults.{default_rule}
use Rattle.types_rules.specs.Params.{Headed, Reach, no_params, tag_numbers, reach_by, reach}
use Rattle.types_rules.specs.Params.{array_slot, cell_slot, array_param_means, cell_param_means}
use Rattle.types_rules.specs.Params.{param_entries, behind_params, no_default, no_reference}
use Rattle.types_rules.specs.Params.{param_of, param_rule, headed_behind, params}
use Rattle.types_rules.specs.Declarations.{param_count}
use Rattle.types_laws.specs.Meant.{AreCells}
use Rattle.types_laws.specs.Objects.{Each}
use Rattle.types_laws.specs.Written.{IsWrittenDim}
use Rattle.types_laws.specs.Plain.{IsTag, IsPlainPath, HasTags}
use Rattle.types_laws.proofs.Facts.{each_append, each_all}
use Rattle.types_laws.proofs.RuleValues.{tag_number_small}
use Rattle.types_laws.proofs.ArrayValues.{IsSize, GoodDimensions, GoodShape, each_at}
use Rattle.types_laws.proofs.ArrayValues.{shape_good, dimensions_good, within_most}
use Rattle.types_laws.specs.Sits.{Sits}
use Rattle.types_laws.specs.Seen.{IsSeen, IsSeenPath}
use Rattle.types_laws.specs.ValidStatements.{IsGoodSlot}
use Rattle.types_laws.proofs.ListPartLaws.{sits_left, sits_right, sits_at}
use Rattle.types_laws.proofs.SeenLaws.{seen_with, plain_path}
use Rattle.types_laws.specs.WrittenDeclarations.{IsOwnParam}

-- ---- arrays

pub record GoodReach (it : Reach) : Type 0 where
  pub slot : IsGoodSlot (array_slot it.extent it.extent.first)
  pub cells : AreCells it.extent
  pub seen : param_extent (Some (array_slot it.extent it.extent.first)) (is_some it.extent.first)
      ≡ Some it.extent

least_of : (sizes : List ℕ) → Each IsSize sizes → Each (λ size. 1 ≤ size) sizes
least_of [] h = tt
least_of (size ∷ more) h = (h.0.least, least_of more h.1)

module _ (cx : Around) (tags : HasTags cx) (path : Scope) (known : IsPlainPath path) (at : At) where
  reach_by_good : (it : Dimensions) (first : Option ℕ) → it.first ≡ first → GoodDimensions it
      → Holds GoodReach (reach_by at it first)
  reach_by_good it None e p =
      stands_itself _ _ (record {
        slot = record {
          valid = p.count;
          within = each_all (λ size. 1 ≤ size) it.inner (least_of it.inner p.inner);
        };
        cells = record {
          first = tt;
          inner = λ i size there. (each_at IsSize it.inner i size p.inner there).cell;
        };
        seen = refl;
      })
  reach_by_good it (Some first) e p =
      holds_after (within_most cx tags path known at first it.inner) (λ sizes q.
      let shape : GoodShape (first ∷ it.inner) =
      shape_good first it.inner (p.first first e) p.inner p.count q.most in
      stands_itself _ _ (record {
        slot = record { valid = shape.dims; within = shape.within };
        cells = shape.reach;
        seen = refl;
      }))

  pub reach_good : (dim : Dim) (dims : List Dim) → IsWrittenDim dim → Each IsWrittenDim dims
      → Holds GoodReach (reach cx path at dim dims)
  reach_good dim dims h hs =
      holds_after (dimensions_good cx tags path known at dim dims h hs)
      (λ it p. reach_by_good it it.first refl p)

-- ---- parameters

module _ (cx : Around) (tags : HasTags cx) (Calls : List ℕ → Type 0) (at : At) where
  mapped_tags : (names : List n.Name) → IsTag (first_tag (tag_numbers cx names))
  mapped_tags [] = omega arith
  mapped_tags (tag ∷ more) = tag_number_small cx tags tag.bytes

  -- parameters with these numbers, where they are the slots of a body
  pub record ParamsStand (scope : program.Scope) (path : Scope) (i : ℕ) (all : List tree.Param)
      (to : Scope) (h : Headed) : Type 0 where
    pub slots : Each IsGoodSlot h.slots
    pub count : length h.slots ≡ param_count all
    pub behind : IsSeenPath scope cx Calls to

  pub record AreParams (path : Scope) (i : ℕ) (all : List tree.Param) (to : Scope) (h : Headed)
      : Type 0 where
    pub stand : (scope : program.Scope) → IsSeenPath scope cx Calls path
        → Sits scope.slots i h.slots
        → i + length h.slots ≤ scope.params → ParamsStand scope path i all to h

  -- one cell
  cell_slot_good : (reference : Bool)
      → IsGoodSlot (cell_slot reference)
  cell_slot_good true = record { valid = tt; within = tt }
  cell_slot_good false = record { valid = tt; within = tt }

  cell_seen : (scope : program.Scope) (i tag : ℕ) (constant reference : Bool) (name : List ℕ)
      → IsTag tag → slice_get scope.slots i
      ≡ Some (cell_slot reference) → i < scope.params
      → IsSeen scope cx Calls name (cell_param_means i tag constant reference)
  cell_seen scope i tag constant true name t e lt = ((e, lt), t)
  cell_seen scope i tag constant false name t e lt = ((e, inl lt), t)

  -- an array
  array_means_seen : (scope : program.Scope) (i tag : ℕ) (constant : Bool) (name : List ℕ)
      (w : Verdict Reach) (it : Reach) → w ≡ Stands it → GoodReach it → IsTag tag
      → slice_get scope.slots i ≡ Some (array_slot it.extent it.extent.first) → i < scope.params
      → IsSeen scope cx Calls name (array_param_means i tag constant w)
  array_means_seen scope i tag constant name w it e p t there lt =
      subst (λ (v : Verdict Reach). IsSeen scope cx Calls name (array_param_means i tag constant v))
      (sym e) (
        (ap (λ (s : Option Slot). param_extent s (is_some it.extent.first)) there ∙ p.seen, lt),
        p.cells,
        t,
      )

  -- what one parameter is, with its entry behind it
  pub record IsParam (path : Scope) (i : ℕ) (param : tree.Param) (h : Headed) : Type 0 where
    pub stand : (scope : program.Scope) → IsSeenPath scope cx Calls path
        → Sits scope.slots i h.slots
        → i + length h.slots ≤ scope.params
        → ParamsStand scope path i (param ∷ [])
        (with_entries path (param_entries cx at path i param)) h

  plain_param : (path : Scope) (i : ℕ) (name : n.Name) (constant reference : Bool)
      (names : List n.Name) (dims : List Dim) (value : Option Expr) → Each IsWrittenDim dims
      → Holds (IsParam path i (tree.Plain constant reference names name dims value))
      (param_of cx at path name constant reference (tag_numbers cx names) dims value)
  plain_param path i name constant reference names [] value w =
      holds_after (holds_all (default_rule cx path at reference (tag_numbers cx names) value))
      (λ it t.
      stands_itself _ _ (record {
        stand = λ scope seen fits few. record {
          slots = (cell_slot_good reference, tt);
          count = refl;
          behind = seen_with cx Calls scope path _ seen
              (cell_seen scope i (first_tag (tag_numbers cx names)) constant reference name.bytes
              (mapped_tags names) fits.0 (omega (arith, few)));
        };
      }))
  plain_param path i name constant reference names (dim ∷ dims) value w =
      holds_also (no_reference cx at reference) (holds_also (no_default cx at value)
      (holds_after {P = λ it. (reach cx path at dim dims ≡ Stands it)
      × (IsPlainPath path → GoodReach it)}
      (record {
        of = λ it e. (
          e,
          λ known. (reach_good cx tags path known at dim dims w.0 w.1).of
              it e,
        );
      })
      (λ it p. stands_itself _ _ (record {
        stand = λ scope seen fits few.
            let good : GoodReach it = p.1 (plain_path cx Calls scope path seen) in
            record {
              slots = (good.slot, tt);
              count = refl;
              behind = seen_with cx Calls scope path _ seen
                  (array_means_seen scope i (first_tag (tag_numbers cx names)) constant name.bytes
                  (reach cx path at dim dims) it p.0 good (mapped_tags names) fits.0
                  (omega (arith, few)));
            };
      }))))

  one_param : (path : Scope) (i : ℕ) (param : tree.Param) → IsOwnParam param
      → Holds (IsParam path i param) (param_rule cx at path param)
  one_param path i (tree.Plain constant reference names name dims value) w =
      holds_also (fresh_name path at name.bytes)
      (plain_param path i name constant reference names dims value w.0)
  one_param path i (tree.Rest rest_at names) w = absurd w

  count_one : (param : tree.Param) → IsOwnParam param → param_count (param ∷ []) ≡ 1
  count_one (tree.Plain constant reference names name dims value) w = omega arith
  count_one (tree.Rest rest_at names) w = absurd w

  count_more : (param : tree.Param) (more : List tree.Param) → IsOwnParam param
      → param_count (param ∷ more) ≡ 1 + param_count more
  count_more (tree.Plain constant reference names name dims value) more w = refl
  count_more (tree.Rest rest_at names) more w = absurd w

  joined_params : (path to : Scope) (i : ℕ) (param : tree.Param) (more : List tree.Param)
      (x y : Headed) → IsOwnParam param → IsParam path i param x
      → AreParams (with_entries path (param_entries cx at path i param)) (i + 1) more to y
      → AreParams path i (param ∷ more) to (headed_behind cx at x y)
  joined_params path to i param more x y w p q = record {
    stand = λ scope seen fits few.
        let both = length-append x.slots y.slots in
        let a = p.stand scope seen (sits_left scope.slots i x.slots y.slots fits)
        (omega (arith, few, both)) in
        let one : length x.slots ≡ 1 = a.count ∙ count_one param w in
        let b = q.stand scope a.behind
        (sits_at scope.slots (i + length x.slots) (i + 1) y.slots (ap (λ m. i + m) one)
        (sits_right scope.slots i x.slots y.slots fits)) (omega (arith, few, both, one)) in
        record {
          slots = each_append IsGoodSlot x.slots y.slots a.slots b.slots;
          count = omega (arith, both, one, b.count, count_more param more w);
          behind = b.behind;
        };
  }

  pub params_stand : (path : Scope) (i : ℕ) (all : List tree.Param) → Each IsOwnParam all
      → Holds (AreParams path i all (behind_params cx at path i all)) (params cx at path i all)
  unfolding params behind_params
  params_stand path i [] w =
      stands_itself _ no_params (record {
        stand = λ scope seen fits few. record { slots = tt; count = refl; behind = seen };
      })
  params_stand path i (param ∷ more) w =
      holds_both (one_param path i param w.0)
      (params_stand (with_entries path (param_entries cx at path i param)) (i + 1) more w.1)
      (λ x y p q. stands_itself _ _
      (joined_params path
      (behind_params cx at (with_entries path (param_entries cx at path i param)) (i + 1) more) i
      param more x y w.0 p q))

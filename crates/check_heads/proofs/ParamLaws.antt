-- Parameters as a list whose elements are known to those behind them.
use Rattle.std.proofs.Common.{◌≡◌, ◌+◌, ℕ, List, [], ◌∷◌, ◌++◌, Option, None, Some, refl, ap}
use Rattle.std.proofs.Common.{append_assoc, append-nil, ◌∙◌}
use Rattle.pawn_tree.specs.declared.name.At.{At}
use Rattle.pawn_tree.specs.Declarations.{Param, Plain, Rest}
use Rattle.names_rules.specs.Verdict.{Verdict}
use Rattle.types_rules.specs.Around.{Around}
use Rattle.types_rules.specs.Scope.{Scope, with_entries}
use Rattle.types_rules.specs.VariableParts.{Judged, judged}
use Rattle.types_rules.specs.Params.{Headed, no_params, either, param_rule, param_entries, params}
use Rattle.types_rules.specs.Params.{params_parts, behind_params}
use Rattle.check_heads.specs.ParamParts.{headed_behind, param_part}
use Rattle.check_heads.specs.SoFar.{joined, judged_behind}
use Rattle.check_heads.proofs.FoldLaws.{Fold, IsFold, Joins}

-- ---- putting parts together

alone : (x : Judged) → judged ≡ x
alone judged = refl

pub judged_joins : Joins judged_behind
judged_joins = record { assoc = λ x y z. refl }

either_assoc : (x y z : Option (List ℕ))
    → either x (either y z) ≡ either (either x y) z
either_assoc None y z = refl
either_assoc (Some tags) y z = refl

pub headed_joins : Joins headed_behind
headed_joins = record {
  assoc = λ x y z. rw (
    append_assoc x.params y.params z.params,
    append_assoc x.slots y.slots z.slots,
    append_assoc x.warned y.warned z.warned,
    either_assoc x.rest y.rest z.rest,
  ) refl;
}

either_none : (rest : Option (List ℕ)) → either rest None ≡ rest
either_none None = refl
either_none (Some tags) = refl

none_behind : (x : Headed) → headed_behind x no_params ≡ x
none_behind x =
    rw (append-nil x.params, append-nil x.slots, append-nil x.warned, either_none x.rest) refl

-- ---- the two lists

-- where a parameter stands: the path before it, and its number
abbrev pub Spot : Type 0
Spot = Scope × ℕ

module _ (cx : Around) (at : At) where
  -- behind a parameter
  abbrev pub past : Spot → Param → Spot
  past spot param = (with_entries spot.0 (param_entries cx at spot.0 spot.1 param), spot.1 + 1)

  -- and it is reached by declaring the parameter
  pub spot_behind : (old : Scope) (n i : ℕ) (new : Scope) (param : Param) → n ≡ i
      → new ≡ with_entries old (param_entries cx at old n param)
      → (new, i + 1) ≡ past (old, i) param
  spot_behind old n i new param same behind =
      ap (λ (s : Scope). (s, i + 1))
      (behind ∙ ap (λ (m : ℕ). with_entries old (param_entries cx at old m param)) same)

  -- the expressions in parameters
  abbrev pub parts_fold : Fold Judged Spot Param Scope
  parts_fold = record {
    this = λ spot param. param_part cx spot.0 param;
    next = past;
    all = λ spot list. params_parts cx at spot.0 spot.1 list;
    out = λ spot. spot.0;
    end = λ spot list. behind_params cx at spot.0 spot.1 list;
    nothing = judged;
    behind = judged_behind;
  }

  part_more : (spot : Spot) (x : Param) (xs : List Param)
      → params_parts cx at spot.0 spot.1 (x ∷ xs)
      ≡ joined judged_behind (param_part cx spot.0 x)
      (params_parts cx at (past spot x).0 (past spot x).1 xs)
  unfolding params_parts
  part_more spot (Plain constant reference tags name dims value) xs = refl
  part_more spot (Rest rest_at tags) xs = refl

  pub parts_are : IsFold parts_fold
  unfolding params_parts behind_params
  parts_are = record {
    all_none = λ spot. refl;
    all_more = part_more;
    end_none = λ spot. refl;
    end_more = λ spot x xs. refl;
    before = λ x. alone x;
    beyond = λ x. alone x;
  }

  -- what parameters are
  abbrev pub params_fold : Fold Headed Spot Param Scope
  params_fold = record {
    this = λ spot param. param_rule cx at spot.0 param;
    next = past;
    all = λ spot list. params cx at spot.0 spot.1 list;
    out = λ spot. spot.0;
    end = λ spot list. behind_params cx at spot.0 spot.1 list;
    nothing = no_params;
    behind = headed_behind;
  }

  pub params_are : IsFold params_fold
  unfolding params behind_params
  params_are = record {
    all_none = λ spot. refl;
    all_more = λ spot x xs. refl;
    end_none = λ spot. refl;
    end_more = λ spot x xs. refl;
    before = λ x. refl;
    beyond = λ x. none_behind x;
  }

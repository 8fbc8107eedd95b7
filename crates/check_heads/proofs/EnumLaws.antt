-- Constants of an enumeration, each known to those behind it.
use Rattle.std.proofs.Common.{◌≡◌, ◌+◌, ◌<◌, ◌≤◌, ℕ, zero, suc, ℤ, List, [], ◌∷◌, ◌++◌, length}
use Rattle.std.proofs.Common.{drop, get_or, map, Option, None, Some, refl, sym, ap, ◌∙◌}
use Rattle.std.proofs.Common.{append_assoc, append-nil, arith}
use Rattle.std.proofs.lemmas.List.{drop_all}
use Rattle.pawn_tree.specs.declared.name.At.{At}
use Rattle.pawn_tree.specs.declared.declaration.Item as held
use Rattle.pawn_tree.specs.Expressions.{Expr}
use Rattle.pawn_tree.specs.Declarations.{Item}
use Rattle.pawn_tree.specs.View.{item_view}
use Rattle.names_rules.specs.Verdict.{Verdict}
use Rattle.types_rules.specs.Around.{Around}
use Rattle.types_rules.specs.VariableParts.{Judged, judged, maybe_judged, expr_part}
use Rattle.types_rules.specs.Enums.{Counted, behind_item, behind_items, item_rule, items_rule}
use Rattle.types_rules.specs.Enums.{items_parts}
use Rattle.check_nodes.proofs.ThreadLaws.{next}
use Rattle.check_nodes.specs.Scopes.{Blocks, without}
use Rattle.check_nodes.proofs.IndexLaws.{without_none, without_more}
use Rattle.check_heads.specs.SoFar.{joined, judged_behind}
use Rattle.check_heads.proofs.FoldLaws.{Fold, IsFold, Joins}
use Rattle.check_heads.specs.Counting.{item_warned, warned_behind}

-- ---- putting parts together

alone : (x : Judged) → judged ≡ x
alone judged = refl

pub warned_joins : Joins warned_behind
warned_joins = record { assoc = λ x y z. sym (append_assoc x y z) }

-- ---- the lists

module _ (cx : Around) (at : At) (tag : ℕ) where
  -- the expressions in constants
  abbrev pub parts_fold : Fold Judged Counted Item Counted
  parts_fold = record {
    this = λ done it. maybe_judged (expr_part cx done.scope) it.value;
    next = λ done it. behind_item cx at tag done it;
    all = λ done list. items_parts cx at tag done list;
    out = λ done. done;
    end = λ done list. behind_items cx at tag done list;
    nothing = judged;
    behind = judged_behind;
  }

  pub parts_are : IsFold parts_fold
  unfolding items_parts behind_items
  parts_are = record {
    all_none = λ done. refl;
    all_more = λ done x xs. refl;
    end_none = λ done. refl;
    end_more = λ done x xs. refl;
    before = λ x. alone x;
    beyond = λ x. alone x;
  }

  -- what constants warn of
  abbrev pub warned_fold : Fold (List At) Counted Item Counted
  warned_fold = record {
    this = λ done it. item_warned cx done.scope at it.value;
    next = λ done it. behind_item cx at tag done it;
    all = λ done list. items_rule cx at tag done list;
    out = λ done. done;
    end = λ done list. behind_items cx at tag done list;
    nothing = [];
    behind = warned_behind;
  }

  same_rule : (done : Counted) (value : Option Expr)
      → item_rule cx at tag done value ≡ item_warned cx done.scope at value
  same_rule done None = refl
  same_rule done (Some e) = refl

  warned_more : (done : Counted) (x : Item) (xs : List Item)
      → items_rule cx at tag done (x ∷ xs)
      ≡ joined warned_behind (item_warned cx done.scope at x.value)
      (items_rule cx at tag (behind_item cx at tag done x) xs)
  unfolding items_rule
  warned_more done x xs =
      ap (λ (w : Verdict (List At)). joined warned_behind w
      (items_rule cx at tag (behind_item cx at tag done x) xs)) (same_rule done x.value)

  pub warned_are : IsFold warned_fold
  unfolding items_rule behind_items
  warned_are = record {
    all_none = λ done. refl;
    all_more = warned_more;
    end_none = λ done. refl;
    end_more = λ done x xs. refl;
    before = λ xs. refl;
    beyond = λ xs. append-nil xs;
  }

  -- ---- the path alone

  module _ (begin : Counted) (list : List held.Item) where
    -- so many constants are declared
    pub record Declared (i : ℕ) (done : Counted) : Type 0 where
      pub same : behind_items cx at tag begin (map item_view list)
          ≡ behind_items cx at tag done (map item_view (drop i list))

    pub declared_more : (i : ℕ) (done now : Counted) (x : held.Item) → Declared i done
        → i < length list → x ≡ get_or list i x → now ≡ behind_item cx at tag done (item_view x)
        → Declared (i + 1) now
    unfolding behind_items
    declared_more i done now x so_far lt e is = record {
      same = so_far.same
          ∙ ap (λ (xs : List held.Item). behind_items cx at tag done (map item_view xs))
          (next list i x lt e)
          ∙ ap (λ (it : Counted). behind_items cx at tag it (map item_view (drop (i + 1) list)))
          (sym is);
    }

    pub declared_all : (i : ℕ) (done : Counted) → Declared i done → length list ≤ i
        → done ≡ behind_items cx at tag begin (map item_view list)
    unfolding behind_items
    declared_all i done so_far le =
        sym (so_far.same
        ∙ ap (λ (xs : List held.Item). behind_items cx at tag done (map item_view xs))
        (drop_all i list le))

-- ---- constants are forgotten again

pub without_again : (blocks : Blocks) (i : ℕ)
    → without i (without 1 blocks) ≡ without (i + 1) blocks
without_again blocks zero = sym (without_none (without 1 blocks))
without_again blocks (suc i) =
    let one : suc i ≡ i + 1 = omega arith in
    ap (λ (n : ℕ). without n (without 1 blocks)) one
    ∙ sym (without_more (without 1 blocks) i)
    ∙ ap (λ (it : Blocks). without 1 it) (without_again blocks i)
    ∙ without_more blocks (i + 1)
    ∙ ap (λ (n : ℕ). without (n + 1) blocks) (sym one)

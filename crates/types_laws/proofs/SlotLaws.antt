-- Heads that are equal have the same slots, and a function's slots are those of its head.
use Rattle.std.proofs.Common.{◌≡◌, ◌+◌, ℕ, List, [], ◌∷◌, ◌++◌, Bool, true, false, Option, None}
use Rattle.std.proofs.Common.{Some, refl, sym, ap, ap₂, ◌∙◌}
use Rattle.std.specs.Prelude.{map, nat_eq}
use Rattle.std.specs.Str.{bytes_eq}
use Rattle.std.proofs.lemmas.Bool.{eqb-true, and_parts}
use Rattle.std.proofs.lemmas.List.{map-append}
use Rattle.std.proofs.lemmas.Slice.Eq.{bytes_eq-Decides}
use Rattle.pawn_tree.specs.declared.name.At.{At}
use Rattle.pawn_tree.specs.declared.name.Name as n
use Rattle.pawn_tree.specs.Expressions.{Expr}
use Rattle.pawn_tree.specs.Variables.{Dim}
use Rattle.pawn_tree.specs.Declarations as tree
use Rattle.pawn_meaning.specs.Program.{Slot}
use Rattle.pawn_meaning.specs.Scope.{Extent}
use Rattle.types_rules.specs.Around.{Around, Param, Head}
use Rattle.types_rules.specs.Scope.{Scope, with_entries}
use Rattle.types_rules.proofs.VerdictLaws.{Holds, stands_itself, holds_after, holds_both, holds_all}
use Rattle.types_rules.proofs.VerdictLaws.{holds_also}
use Rattle.types_rules.specs.Locals.{fresh_name}
use Rattle.types_rules.specs.ParamDefaults.{default_rule}
use Rattle.types_rules.specs.Params as heads
use Rattle.types_rules.specs.Params.{Headed, no_params, tag_numbers, reach, param_entries}
use Rattle.types_rules.specs.Params.{no_default, no_reference, param_of, param_rule, either}
use Rattle.types_rules.specs.Params.{headed_behind, params}
use Rattle.types_rules.specs.SameHeads.{same_truth, same_first, same_extent}
use Rattle.types_rules.specs.SameHeads.{same_param, same_params}
use Rattle.types_rules.specs.SameHeads.{same_head}
use Rattle.types_laws.specs.Known.{array_slot, slot_by, slot_of}
use Rattle.types_laws.specs.Objects.{Each}
use Rattle.types_laws.specs.WrittenDeclarations.{IsOwnParam}

-- ---- equal heads

truth_same : (a b : Bool) → same_truth a b ≡ true → a ≡ b
truth_same true b e = sym e
truth_same false true e = absurd (let no : ⊥ = cc in no)
truth_same false false e = refl

first_same : (inner : List ℕ) (a b : Option ℕ) → same_first a b ≡ true
    → array_slot inner a ≡ array_slot inner b
first_same inner None None e = refl
first_same inner (Some m) (Some k) e = ap (λ z. array_slot inner (Some z)) (eqb-true m k e)
first_same inner None (Some k) e = absurd (let no : ⊥ = cc in no)
first_same inner (Some m) None e = absurd (let no : ⊥ = cc in no)

extent_same : (r : Bool) (a b : Option Extent) → same_extent a b ≡ true → slot_by r a ≡ slot_by r b
extent_same r None None e = refl
extent_same r (Some x) (Some y) e =
    let p = and_parts (same_first x.first y.first) (bytes_eq x.inner y.inner) e in
    first_same x.inner x.first y.first p.0
    ∙ ap (λ (l : List ℕ). array_slot l y.first) ((bytes_eq-Decides x.inner y.inner).0 p.1)
extent_same r None (Some y) e = absurd (let no : ⊥ = cc in no)
extent_same r (Some x) None e = absurd (let no : ⊥ = cc in no)

param_same : (x y : Param) → same_param x y ≡ true → slot_of x ≡ slot_of y
param_same x y e =
    let a = and_parts (bytes_eq x.name y.name) _ e in
    let b = and_parts (same_truth x.constant y.constant) _ a.1 in
    let c = and_parts (same_truth x.reference y.reference) _ b.1 in
    let d = and_parts (bytes_eq x.tags y.tags) _ c.1 in
    let f = and_parts (same_extent x.extent y.extent) _ d.1 in
    ap (λ (r : Bool). slot_by r x.extent) (truth_same x.reference y.reference c.0)
    ∙ extent_same y.reference x.extent y.extent f.0

params_same : (xs ys : List Param) → same_params xs ys ≡ true → map slot_of xs ≡ map slot_of ys
params_same [] [] e = refl
params_same [] (y ∷ ys) e = absurd (let no : ⊥ = cc in no)
params_same (x ∷ xs) [] e = absurd (let no : ⊥ = cc in no)
params_same (x ∷ xs) (y ∷ ys) e =
    let p = and_parts (same_param x y) (same_params xs ys) e in
    ap₂ (λ (s : Slot) (l : List Slot). s ∷ l) (param_same x y p.0) (params_same xs ys p.1)

pub head_slots_same : (tag : ℕ) (x : Head) (other : ℕ) (y : Head) → same_head tag x other y ≡ true
    → map slot_of x.params ≡ map slot_of y.params
head_slots_same tag x other y e =
    let p = and_parts (nat_eq tag other) _ e in
    params_same x.params y.params (and_parts (same_params x.params y.params) _ p.1).0

-- ---- the slots of a head

pub record OwnHead (h : Headed) : Type 0 where
  pub slots : h.slots ≡ map slot_of h.params
  pub rest : h.rest ≡ None

module _ (cx : Around) (at : At) where
  array_is : (reach : Extent) (first : Option ℕ)
      → heads.array_slot reach first ≡ array_slot reach.inner first
  array_is reach None = refl
  array_is reach (Some size) = refl

  plain_own : (path : Scope) (name : n.Name) (constant reference : Bool) (tags : List ℕ)
      (dims : List Dim) (value : Option Expr)
      → Holds OwnHead (param_of cx at path name constant reference tags dims value)
  plain_own path name constant reference tags [] value =
      holds_after (holds_all (default_rule cx path at reference tags value)) (λ it t.
      stands_itself _ _
      (record { slots = refl; rest = refl }))
  plain_own path name constant reference tags (dim ∷ dims) value =
      holds_also (no_reference cx at reference) (holds_also (no_default cx at value)
      (holds_after (holds_all (reach cx path at dim dims)) (λ it t.
      stands_itself _ _ (record {
        slots = ap (λ (s : Slot). s ∷ []) (array_is it.extent it.extent.first);
        rest = refl;
      }))))

  one_own : (path : Scope) (param : tree.Param) → IsOwnParam param
      → Holds OwnHead (param_rule cx at path param)
  one_own path (tree.Plain constant reference names name dims value) w =
      holds_also (fresh_name path at name.bytes)
      (plain_own path name constant reference (tag_numbers cx names) dims value)
  one_own path (tree.Rest rest_at names) w = absurd w

  neither_rest : (a b : Option (List ℕ)) → a ≡ None → b ≡ None → either a b ≡ None
  neither_rest None b e f = f
  neither_rest (Some tags) b e f = e

  pub params_own : (path : Scope) (i : ℕ) (all : List tree.Param) → Each IsOwnParam all
      → Holds OwnHead (params cx at path i all)
  unfolding params
  params_own path i [] w = stands_itself _ no_params (record { slots = refl; rest = refl })
  params_own path i (param ∷ more) w =
      holds_both (one_own path param w.0)
      (params_own (with_entries path (param_entries cx at path i param)) (i + 1) more w.1)
      (λ x y p q. stands_itself _ _ (record {
        slots = ap₂ (λ (l m : List Slot). l ++ m) p.slots q.slots
            ∙ sym (map-append slot_of x.params y.params);
        rest = neither_rest x.rest y.rest p.rest q.rest;
      }))

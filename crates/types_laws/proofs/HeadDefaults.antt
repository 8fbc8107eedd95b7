-- The defaults of heads are cells, and none is an array's; a head whose parameters all take plain
-- values has that many slots of one cell.
use Rattle.std.proofs.Common.{◌≡◌, ◌+◌, ℕ, zero, suc, List, [], ◌∷◌, ◌++◌, Bool, true, false}
use Rattle.std.proofs.Common.{Option, None, Some, refl, sym, ap, ap₂, ◌∙◌, subst}
use Rattle.std.specs.Prelude.{length, map, replicate, option_map}
use Rattle.std.specs.Option.{option_and_then}
use Rattle.std.proofs.lemmas.List.{map-append}
use Rattle.pawn_tree.specs.declared.name.At.{At}
use Rattle.pawn_tree.specs.declared.name.Name as n
use Rattle.pawn_tree.specs.declared.expression.SizeofOperand.{SizeofOperand}
use Rattle.pawn_tree.specs.declared.expression.SizeofOperand.TheVariants as sized
use Rattle.pawn_tree.specs.declared.expression.TagofOperand.{TagofOperand}
use Rattle.pawn_tree.specs.declared.expression.TagofOperand.TheVariants as tagged
use Rattle.pawn_tree.specs.Expressions.{Expr, Number, Text, Name, Paren, Sizeof, Tagof, Prefix}
use Rattle.pawn_tree.specs.Expressions.{Tagged, Postfix, Index, Character, Binary, Chain, Choice}
use Rattle.pawn_tree.specs.Expressions.{Assign, Call}
use Rattle.pawn_tree.specs.Variables.{Dim}
use Rattle.pawn_tree.specs.Declarations as tree
use Rattle.pawn_meaning.specs.Program.{Slot, ScalarSlot}
use Rattle.names_rules.specs.Verdict.{Verdict, Stands, Breaks}
use Rattle.names_rules.specs.Overloads.{plain_tag, plain_tags, with_tag}
use Rattle.types_rules.specs.Typed.{Typed}
use Rattle.types_rules.specs.Around.{Around, Default, SizeOf, TagOf, Param, Head}
use Rattle.types_rules.specs.Scope.{Scope, found, with_entries}
use Rattle.types_rules.proofs.VerdictLaws.{Holds, stands_itself, holds_after, holds_both, holds_all}
use Rattle.types_rules.proofs.VerdictLaws.{holds_also}
use Rattle.types_rules.specs.Locals.{fresh_name}
use Rattle.types_rules.specs.ParamDefaults.{Defaulted, param_meant, size_default, tag_default}
use Rattle.types_rules.specs.ParamDefaults.{computed, default_by, default_rule}
use Rattle.types_rules.specs.Params.{Headed, no_params, tag_numbers, reach, param_entries}
use Rattle.types_rules.specs.Params.{no_default, no_reference, param_of, param_rule, headed_behind}
use Rattle.types_rules.specs.Params.{params, head_of}
use Rattle.types_laws.specs.Known.{slot_of, IsDefault, HasDefaults}
use Rattle.types_laws.specs.Objects.{Each}
use Rattle.types_laws.specs.Written.{IsAnyName}
use Rattle.types_laws.specs.Plain.{IsValue, IsPlainPath, HasTags}
use Rattle.types_laws.proofs.Facts.{each_append}
use Rattle.types_laws.proofs.ExpressionValues.{expr_plain}
use Rattle.types_laws.proofs.ArrayValues.{constant_rule_plain, each_at}
use Rattle.types_laws.specs.WrittenStatements.{MayBeConstant}
use Rattle.types_laws.specs.WrittenDeclarations.{IsWrittenParam, IsOwnParam}
use Rattle.types_laws.proofs.PlainPaths.{entries_plain}

-- ---- defaults of one cell

-- what is computed from an argument has no value of its own
abbrev IsComputed : Option Default → Type 0
IsComputed None = Unit {0}
IsComputed (Some it) = IsDefault None it

size_computed : (i : Option ℕ) → IsComputed (option_map (λ i. SizeOf i) i)
size_computed None = tt
size_computed (Some i) = refl

tag_computed : (i : Option ℕ) → IsComputed (option_map (λ i. TagOf i) i)
tag_computed None = tt
tag_computed (Some i) = refl

size_default_computed : (path : Scope) (operand : SizeofOperand)
    → IsComputed (size_default path operand)
size_default_computed path (sized.Name name zero) =
    size_computed (option_and_then param_meant (found path name.bytes))
size_default_computed path (sized.Name name (suc brackets)) = tt
size_default_computed path (sized.Text text brackets) = tt

tag_default_computed : (path : Scope) (operand : TagofOperand)
    → IsComputed (tag_default path operand)
tag_default_computed path (tagged.Name name) =
    tag_computed (option_and_then param_meant (found path name.bytes))
tag_default_computed path (tagged.Tag name) = tt

computed_is : (path : Scope) (e : Expr) → IsComputed (computed path e)
computed_is path (Paren at e) = computed_is path e
computed_is path (Sizeof at operand) = size_default_computed path operand
computed_is path (Tagof at operand) = tag_default_computed path operand
computed_is path (Number at v) = tt
computed_is path (Text at bytes packed) = tt
computed_is path (Name at name) = tt
computed_is path (Prefix at sign e) = tt
computed_is path (Tagged at tag e) = tt
computed_is path (Postfix at sign e) = tt
computed_is path (Index at a i) = tt
computed_is path (Character at a i) = tt
computed_is path (Binary at sign l r) = tt
computed_is path (Chain at e links) = tt
computed_is path (Choice at c a b) = tt
computed_is path (Assign at sign l r) = tt
computed_is path (Call at name args bare) = tt

record CellDefault (it : Default) : Type 0 where
  pub is : IsDefault None it

default_fits : (at : At) (x : Typed) (o : Option Default) → IsValue x.value → IsComputed o
    → Holds CellDefault (default_by at x o)
default_fits at x None v h =
    holds_after (constant_rule_plain at x v)
    (λ it p. stands_itself _ _ (record { is = (refl, p.value) }))
default_fits at x (Some it) v h = stands_itself _ _ (record { is = h })

record FineDefaulted (it : Defaulted) : Type 0 where
  pub is : IsDefault None it.default

-- a head beside the parameters that it is of
pub record FineHead (all : List tree.Param) (h : Headed) : Type 0 where
  pub defaults : Each (λ (p : Param). IsDefault p.extent p.default) h.params
  pub plain : (names : List (List ℕ)) (plain : List ℕ) → plain_tags names all ≡ Some plain
      → map slot_of h.params ≡ replicate (length all) ScalarSlot

-- one parameter
record FineParam (param : tree.Param) (h : Headed) : Type 0 where
  pub defaults : Each (λ (p : Param). IsDefault p.extent p.default) h.params
  pub plain : (names : List (List ℕ)) (tag : ℕ) → plain_tag names param ≡ Some tag
      → map slot_of h.params ≡ ScalarSlot ∷ []

-- each parameter of several takes a plain value
record BothPlain (tag : Option ℕ) (more : Option (List ℕ)) : Type 0 where
  pub one : ℕ
  pub one_is : tag ≡ Some one
  pub others : List ℕ
  pub others_are : more ≡ Some others

both_plain : (tag : Option ℕ) (more : Option (List ℕ)) (all : List ℕ)
    → with_tag tag more ≡ Some all → BothPlain tag more
both_plain None more all e = absurd (let no : ⊥ = cc in no)
both_plain (Some tag) None all e = absurd (let no : ⊥ = cc in no)
both_plain (Some tag) (Some more) all e =
    record { one = tag; one_is = refl; others = more; others_are = refl }

module _ (cx : Around) (tags : HasTags cx) (at : At) where
  default_rule_fits : (path : Scope) → IsPlainPath path → (reference : Bool) (set : List ℕ)
      (value : Option Expr) → MayBeConstant value
      → Holds FineDefaulted (default_rule cx path at reference set value)
  default_rule_fits path known reference set None w = stands_itself _ _ (record { is = tt })
  default_rule_fits path known reference set (Some e) w =
      holds_after (expr_plain IsAnyName cx tags path known 0 e w) (λ x p.
      holds_after (default_fits at x (computed path e) p.value (computed_is path e)) (λ it q.
      stands_itself _ _ (record { is = q.is })))

  -- ---- parameters

  cell_fits : (constant reference : Bool) (names : List n.Name) (name : n.Name)
      (value : Option Expr) (path : Scope) → IsPlainPath path → MayBeConstant value
      → Holds (FineParam (tree.Plain constant reference names name [] value))
      (param_of cx at path name constant reference (tag_numbers cx names) [] value)
  cell_fits constant true names name value path known w =
      holds_after (default_rule_fits path known true (tag_numbers cx names) value w) (λ it p.
      stands_itself _ _ (record {
        defaults = (p.is, tt);
        plain = λ set tag e. absurd (let no : ⊥ = cc in no);
      }))
  cell_fits constant false names name value path known w =
      holds_after (default_rule_fits path known false (tag_numbers cx names) value w) (λ it p.
      stands_itself _ _ (record { defaults = (p.is, tt); plain = λ set tag e. refl }))

  array_no_plain : (constant reference : Bool) (names : List n.Name) (name : n.Name) (dim : Dim)
      (dims : List Dim) (value : Option Expr) (set : List (List ℕ)) (tag : ℕ)
      → plain_tag set (tree.Plain constant reference names name (dim ∷ dims) value) ≡ Some tag → ⊥
  array_no_plain constant true names name dim dims value set tag e = let no : ⊥ = cc in no
  array_no_plain constant false names name dim dims value set tag e = let no : ⊥ = cc in no

  param_fits : (constant reference : Bool) (names : List n.Name) (name : n.Name) (dims : List Dim)
      (value : Option Expr) (path : Scope) → IsPlainPath path → MayBeConstant value
      → Holds (FineParam (tree.Plain constant reference names name dims value))
      (param_of cx at path name constant reference (tag_numbers cx names) dims value)
  param_fits constant reference names name [] value path known w =
      cell_fits constant reference names name value path known w
  param_fits constant reference names name (dim ∷ dims) value path known w =
      holds_also (no_reference cx at reference) (holds_also (no_default cx at value)
      (holds_after (holds_all (reach cx path at dim dims)) (λ it t.
      stands_itself _ _ (record {
        defaults = (tt, tt);
        plain = λ set tag e.
            absurd (array_no_plain constant reference names name dim dims value set tag e);
      }))))

  one_fits : (param : tree.Param) (path : Scope) → IsPlainPath path → IsWrittenParam param
      → Holds (FineParam param) (param_rule cx at path param)
  one_fits (tree.Plain constant reference names name dims value) path known w =
      holds_also (fresh_name path at name.bytes)
      (param_fits constant reference names name dims value path known w.1)
  one_fits (tree.Rest rest_at names) path known w =
      stands_itself _ _ (record {
        defaults = tt;
        plain = λ set tag e. absurd (let no : ⊥ = cc in no);
      })

  joined_heads : (param : tree.Param) (more : List tree.Param) (x y : Headed) → FineParam param x
      → FineHead more y → FineHead (param ∷ more) (headed_behind cx at x y)
  joined_heads param more x y p q = record {
    defaults = each_append (λ (p : Param). IsDefault p.extent p.default) x.params y.params
        p.defaults q.defaults;
    plain = λ set all e.
        let both = both_plain (plain_tag set param) (plain_tags set more) all e in
        map-append slot_of x.params y.params
        ∙ ap₂ (λ (l m : List Slot). l ++ m) (p.plain set both.one both.one_is)
        (q.plain set both.others both.others_are);
  }

  pub params_fit : (path : Scope) → IsPlainPath path → (i : ℕ) (all : List tree.Param)
      → Each IsWrittenParam all → Holds (FineHead all) (params cx at path i all)
  unfolding params
  params_fit path known i [] w =
      stands_itself _ no_params (record { defaults = tt; plain = λ set all e. refl })
  params_fit path known i (param ∷ more) w =
      holds_both (one_fits param path known w.0)
      (params_fit (with_entries path (param_entries cx at path i param))
      (entries_plain cx tags at path i param w.0 known) (i + 1) more w.1)
      (λ x y p q. stands_itself _ _ (joined_heads param more x y p q))

-- ---- heads

pub head_defaults : (all : List tree.Param) (w : Verdict Headed) → Holds (FineHead all) w
    → (head : Head) → head_of w ≡ Some head → HasDefaults head
head_defaults all (Stands x) p head e =
    let same : record { params = x.params; rest = x.rest } ≡ head = cc in
    subst HasDefaults same (record {
      defaults = λ i param there.
          each_at (λ (p : Param). IsDefault p.extent p.default) x.params i param
          (p.of x refl).defaults there;
    })
head_defaults all (Breaks found) p head e = absurd (let no : ⊥ = cc in no)

pub head_plain : (all : List tree.Param) (w : Verdict Headed) → Holds (FineHead all) w
    → (head : Head) → head_of w ≡ Some head → (names : List (List ℕ)) (plain : List ℕ)
    → plain_tags names all ≡ Some plain
    → map slot_of head.params ≡ replicate (length all) ScalarSlot
head_plain all (Stands x) p head e names plain f =
    let same : record { params = x.params; rest = x.rest } ≡ head = cc in
    ap (λ (h : Head). map slot_of h.params) (sym same) ∙ (p.of x refl).plain names plain f
head_plain all (Breaks found) p head e names plain f = absurd (let no : ⊥ = cc in no)

-- a function's parameters are among those that a native may have
pub own_written : (all : List tree.Param) → Each IsOwnParam all → Each IsWrittenParam all
own_written [] w = tt
own_written (tree.Plain constant reference names name dims value ∷ more) w =
    (w.0, own_written more w.1)
own_written (tree.Rest at names ∷ more) w = absurd w.0

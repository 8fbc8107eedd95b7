-- Sizes, constants and heads that stand are the same whatever heads calls have, and so is what
-- stands behind declarations.
use Rattle.std.proofs.Common.{◌≡◌, inl, inr, ◌+◌, ℕ, ℤ, List, [], ◌∷◌, ◌++◌, Bool, true, false}
use Rattle.std.proofs.Common.{Option, None, Some, refl, sym, ap, ap₂, ◌∙◌, subst}
use Rattle.std.specs.Prelude.{if◌then◌else◌, length, nat_le}
use Rattle.pawn_tree.specs.declared.name.At.{At}
use Rattle.pawn_tree.specs.declared.name.Name as n
use Rattle.pawn_tree.specs.declared.variable.Storage.TheVariants as storage
use Rattle.pawn_tree.specs.Expressions as tree
use Rattle.pawn_tree.specs.Expressions.{Expr}
use Rattle.pawn_tree.specs.Variables.{Dim, Open, Cells, Chars, Init, Value, Braces, Var}
use Rattle.pawn_tree.specs.Declarations as decl
use Rattle.pawn_tree.specs.Declarations.{Decl, Variables, Constant, Enum, Native, Forward, Function}
use Rattle.pawn_tree.specs.Declarations.{Tree, Item}
use Rattle.pawn_tags.specs.Overloads.{Overloads}
use Rattle.pawn_meaning.specs.Program.{Array}
use Rattle.names_rules.specs.Verdict.{Verdict, Stands, Breaks, after}
use Rattle.types_rules.specs.Rule.{also}
use Rattle.types_rules.specs.Typed.{Typed, Form}
use Rattle.types_rules.specs.Typed as typed
use Rattle.types_rules.specs.Around.{Around, Callable, Default, Head, first_tag}
use Rattle.types_rules.specs.Scope.{Scope, Meaning, Entry, with_entries}
use Rattle.types_rules.specs.NamesAndNumbers.{tagof_rule}
use Rattle.types_rules.specs.Operators.{paren_rule}
use Rattle.types_rules.proofs.VerdictLaws.{Holds, stands_itself, breaks_holds, holds_after}
use Rattle.types_rules.proofs.VerdictLaws.{holds_both, holds_all, holds_also, holds_unless}
use Rattle.types_rules.specs.Expressions.{expr}
use Rattle.types_rules.specs.Constants as constants
use Rattle.types_rules.specs.Sizes.{dimension, inner, dimensions}
use Rattle.types_rules.specs.FirstValues.{literal_in}
use Rattle.types_rules.specs.Arrays.{Shaped, text_size, size_from, first_size, shaped}
use Rattle.types_rules.specs.Points.{Point, tag_of, array_place, array_means, constant_means}
use Rattle.types_rules.specs.Points.{var_by, behind_var, behind_vars, declared, beyond}
use Rattle.types_rules.specs.Counts.{objects_of_var, slots_of_storage}
use Rattle.types_rules.specs.Locals.{fresh_name, local_by}
use Rattle.types_rules.specs.ParamDefaults.{computed, default_by, default_rule}
use Rattle.types_rules.specs.Params.{Reach, Headed, tag_numbers, reach, array_param_means, param_by}
use Rattle.types_rules.specs.Params.{param_entries, no_default, no_reference, param_of, param_rule}
use Rattle.types_rules.specs.Params.{params, head_parts, head_rule, head_of}
use Rattle.types_rules.specs.Enums.{Counted, value_of, item_value, counted_behind, behind_item}
use Rattle.types_rules.specs.Enums.{behind_items, item_rule, items_rule, items_parts}
use Rattle.types_rules.specs.Enums.{nothing_counted, with_enum_name, behind_enum, enum_rule}
use Rattle.types_rules.specs.Paths.{behind_decl, heads_of, heads}
use Rattle.types_rules.specs.Sources.{Source, operators_from, functions_from, natives_from}
use Rattle.types_rules.specs.Sources.{natives_in}
use Rattle.types_rules.specs.Declarations.{shaped_key, native_name, function_key, function_with}
use Rattle.types_rules.specs.Declarations.{bare_head, globals, decl_rule, declarations}
use Rattle.types_laws.proofs.Facts.{holds_and, holds_as}
use Rattle.types_laws.specs.SameHeads.{AreThere, HeadsAreSame}
use Rattle.types_laws.proofs.ConstantRules.{Same, itself, after_is, both_is, same_after}
use Rattle.types_laws.proofs.ConstantRules.{same_both, HasValue, IsText, first, second}
use Rattle.types_laws.proofs.ConstantExpressions.{SameConst, expr_same}

same_if : {A : Type 0} (b : Bool) {v u : Verdict A} (w : Verdict A) → Same v u
    → Same (if b then v else w) (if b then u else w)
same_if true w h = h
same_if false w h = itself w

same_also : {A B : Type 0} (test : Verdict A) {v w : Verdict B} → Same v w
    → Same (also test v) (also test w)
same_also test h = same_after h (λ x. itself _)

constant_valued : (at : At) (x : Typed) (v : Option ℤ)
    → Holds (λ c. HasValue v) (constants.constant_by at x v)
constant_valued at x None = breaks_holds _ _
constant_valued at x (Some v) = stands_itself _ _ tt

rule_valued : (at : At) (x : Typed) → Holds (λ c. HasValue x.value) (constants.constant_rule at x)
unfolding constants.constant_rule
rule_valued at x = constant_valued at x x.value

module _ (names : List (List ℕ)) (operators : Overloads) (fs ns fs2 ns2 : List Callable) where
  abbrev A : Around
  A = first names operators fs ns fs2 ns2

  abbrev B : Around
  B = second names operators fs ns fs2 ns2

  module _ (path : Scope) (at : At) where
    constant_same : (e : Expr)
        → Same (constants.constant A path at e) (constants.constant B path at e)
    constant_same e =
        holds_after (expr_same names operators fs ns fs2 ns2 path 0 e) (λ x p.
        record {
          of = λ c s.
              after_is (expr B path 0 e) (constants.constant_rule at) x
              (p.same (inl ((rule_valued at x).of c s))) ∙ s;
        })

    -- ---- sizes

    dimension_same : (dim : Dim) → Same (dimension A path at dim) (dimension B path at dim)
    dimension_same Open = itself _
    dimension_same (Cells e) = same_after (constant_same e) (λ it. itself _)
    dimension_same (Chars e) = same_after (constant_same e) (λ it. itself _)

    inner_same : (dims : List Dim) → Same (inner A path at dims) (inner B path at dims)
    inner_same [] = itself _
    inner_same (dim ∷ dims) =
        same_both (dimension_same dim) (inner_same dims) (λ it more. itself _)

    dimensions_same : (dim : Dim) (dims : List Dim)
        → Same (dimensions A path at dim dims) (dimensions B path at dim dims)
    dimensions_same dim dims =
        same_if (nat_le (length dims) 2) _
        (same_both (dimension_same dim) (inner_same dims) (λ it more. itself _))

    text_needed : (x : Typed) (form : Form) (sizes : List ℕ)
        → Holds (λ size. IsText form) (text_size A path at sizes (literal_in x form))
    text_needed x (typed.Value e) sizes = breaks_holds _ _
    text_needed x (typed.Place p constant) sizes = breaks_holds _ _
    text_needed x (typed.Whole a extent constant) sizes = breaks_holds _ _
    text_needed x (typed.Literal object size) sizes = holds_all _

    size_from_same : (sizes : List ℕ) (init : Init)
        → Same (size_from A path at sizes init) (size_from B path at sizes init)
    size_from_same sizes (Value e) =
        holds_after (expr_same names operators fs ns fs2 ns2 path 0 e) (λ x p.
        record {
          of = λ size s.
              after_is (expr B path 0 e) _ x
              (p.same (inr ((text_needed x x.form sizes).of size s))) ∙ s;
        })
    size_from_same sizes (Braces braces xs true) = itself _
    size_from_same sizes (Braces braces xs false) = itself _

    first_size_same : (sizes : List ℕ) (size : Option ℕ) (init : Option Init)
        → Same (first_size A path at sizes size init) (first_size B path at sizes size init)
    first_size_same sizes (Some size) init = itself _
    first_size_same sizes None None = itself _
    first_size_same sizes None (Some init) = size_from_same sizes init

    shaped_same : (dim : Dim) (dims : List Dim) (init : Option Init)
        → Same (shaped A path at dim dims init) (shaped B path at dim dims init)
    shaped_same dim dims init =
        same_after (dimensions_same dim dims) (λ it.
        same_after (first_size_same it.inner it.first init) (λ size. itself _))

    reach_same : (dim : Dim) (dims : List Dim)
        → Same (reach A path at dim dims) (reach B path at dim dims)
    reach_same dim dims = same_after (dimensions_same dim dims) (λ it. itself _)

  -- ---- what declarations that stand mean

  array_means_same : {R : Type 0} (a : Array) (tag : ℕ) (constant : Bool) (w v : Verdict Shaped)
      (rule : Shaped → Verdict R) → Same w v
      → Holds (λ y. array_means a tag constant v ≡ array_means a tag constant w) (after w rule)
  array_means_same a tag constant (Stands it) v rule h = record {
    of = λ y e. ap (λ (z : Verdict Shaped). array_means a tag constant z) (h.of it refl);
  }
  array_means_same a tag constant (Breaks found) v rule h = breaks_holds _ _

  constant_means_same : {R : Type 0} (tag : ℕ) (w v : Verdict constants.Constant)
      (rule : constants.Constant → Verdict R) → Same w v
      → Holds (λ y. constant_means tag v ≡ constant_means tag w) (after w rule)
  constant_means_same tag (Stands it) v rule h = record {
    of = λ y e. ap (λ (z : Verdict constants.Constant). constant_means tag z) (h.of it refl);
  }
  constant_means_same tag (Breaks found) v rule h = breaks_holds _ _

  var_means_same : (point : Point) (at : At) (constant : Bool) (x : Var) (dims : List Dim)
      → Holds (λ y. var_by B point at storage.Static constant x dims
      ≡ var_by A point at storage.Static constant x dims)
      (local_by A point at storage.Static constant x dims)
  var_means_same point at constant x [] = record { of = λ y e. refl }
  var_means_same point at constant x (dim ∷ dims) =
      holds_after (array_means_same (array_place storage.Static point) (tag_of A x.tag) constant
      (shaped A point.scope at dim dims x.init) (shaped B point.scope at dim dims x.init) _
      (shaped_same point.scope at dim dims x.init))
      (λ it p. stands_itself _ _ p)

  var_behind_same : (point : Point) (at : At) (constant : Bool) (x : Var)
      → Holds (λ y. behind_var B point at storage.Static constant x
      ≡ behind_var A point at storage.Static constant x)
      (local_by A point at storage.Static constant x x.dims)
  var_behind_same point at constant x =
      holds_as (var_means_same point at constant x x.dims) (λ y p.
      ap (λ (m : Meaning). declared
      (beyond point (objects_of_var storage.Static x) (slots_of_storage storage.Static))
      (record { name = x.name.bytes; means = m } ∷ [])) p)

  globals_same : (source : Source) (point : Point) (at : At) (constant : Bool) (vars : List Var)
      → Holds (λ y. behind_vars B point at storage.Static constant vars
      ≡ behind_vars A point at storage.Static constant vars)
      (globals source A point at constant vars)
  unfolding globals behind_vars
  globals_same source point at constant [] = record { of = λ y e. refl }
  globals_same source point at constant (x ∷ xs) =
      holds_both (var_behind_same point at constant x)
      (globals_same source (behind_var A point at storage.Static constant x) at constant xs)
      (λ y more p q. stands_itself _ _
      (ap (λ (z : Point). behind_vars B z at storage.Static constant xs) p ∙ q))

  -- ---- enumerations

  module _ (at : At) (tag : ℕ) where
    value_same : {R : Type 0} (w v : Verdict constants.Constant)
        (rule : constants.Constant → Verdict R) → Same w v
        → Holds (λ y. value_of v ≡ value_of w) (after w rule)
    value_same (Stands it) v rule h =
        record { of = λ y e. ap (λ (z : Verdict constants.Constant). value_of z) (h.of it refl) }
    value_same (Breaks found) v rule h = breaks_holds _ _

    item_same : (done : Counted) (e : Option Expr)
        → Holds (λ y. item_value B at tag done e ≡ item_value A at tag done e)
        (item_rule A at tag done e)
    item_same done None = record { of = λ y e. refl }
    item_same done (Some e) =
        value_same (constants.constant A done.scope at e) (constants.constant B done.scope at e) _
        (constant_same done.scope at e)

    items_same : (done : Counted) (items : List Item)
        → Holds (λ y. behind_items B at tag done items ≡ behind_items A at tag done items)
        (items_rule A at tag done items)
    unfolding items_rule behind_items
    items_same done [] = record { of = λ y e. refl }
    items_same done (it ∷ more) =
        holds_both (item_same done it.value) (items_same (behind_item A at tag done it) more)
        (λ x y p q. stands_itself _ _
        (ap (λ (v : Option ℤ). behind_items B at tag
        (counted_behind A at tag done it.name.bytes v) more) p
        ∙ q))

    enum_same : (path : Scope) (name : Option n.Name) (items : List Item)
        → Holds (λ y. behind_enum B path at tag name items ≡ behind_enum A path at tag name items)
        (enum_rule A path at tag items)
    enum_same path name items =
        holds_unless (items_parts A at tag (nothing_counted path) items)
        (holds_as (items_same (nothing_counted path) items)
        (λ y p. ap (λ (done : Counted). with_enum_name name tag done) p))

  -- ---- heads

  module _ (at : At) where
    computed_same : (path : Scope) (e : Expr) (d : Default) → computed path e ≡ Some d
        → expr B path 0 e ≡ expr A path 0 e
    unfolding tagof_rule
    computed_same path (tree.Paren p e) d h =
        ap (λ v. after v (λ x. Stands (paren_rule p x)))
        (computed_same path e d h)
    computed_same path (tree.Sizeof p operand) d h = refl
    computed_same path (tree.Tagof p operand) d h = refl
    computed_same path _ d h = absurd (let no : ⊥ = cc in no)

    expr_there : (path : Scope) (e : Expr) (x : Typed) (it : Option Default) → computed path e ≡ it
        → expr A path 0 e ≡ Stands x → SameConst (expr B path 0 e) x
        → Holds (λ d. expr B path 0 e ≡ Stands x) (default_by at x it)
    expr_there path e x None h s p =
        holds_after (rule_valued at x) (λ c v. stands_itself _ _ (p.same (inl v)))
    expr_there path e x (Some d) h s p = stands_itself _ d (computed_same path e d h ∙ s)

    default_same : (path : Scope) (reference : Bool) (tags : List ℕ) (value : Option Expr)
        → Same (default_rule A path at reference tags value)
        (default_rule B path at reference tags value)
    default_same path reference tags None = itself _
    default_same path reference tags (Some e) =
        holds_after {P = λ x. (expr A path 0 e ≡ Stands x) × SameConst (expr B path 0 e) x}
        (holds_and (itself _) (expr_same names operators fs ns fs2 ns2 path 0 e)) (λ x p.
        holds_after {P = λ d. (default_by at x (computed path e) ≡ Stands d)
        × (expr B path 0 e ≡ Stands x)}
        (holds_and (itself _) (expr_there path e x (computed path e) refl p.0 p.1)) (λ d q.
        stands_itself _ _ (after_is (expr B path 0 e) _ x q.1
        ∙ after_is (default_by at x (computed path e)) _ d q.0)))

    param_of_same : (path : Scope) (name : n.Name) (constant reference : Bool) (tags : List ℕ)
        (dims : List Dim) (value : Option Expr)
        → Same (param_of A at path name constant reference tags dims value)
        (param_of B at path name constant reference tags dims value)
    param_of_same path name constant reference tags [] value =
        same_after (default_same path reference tags value) (λ it. itself _)
    param_of_same path name constant reference tags (dim ∷ dims) value =
        same_also (no_reference A at reference) (same_also (no_default A at value)
        (same_after (reach_same path at dim dims) (λ it. itself _)))

    param_same : (path : Scope) (param : decl.Param)
        → Same (param_rule A at path param) (param_rule B at path param)
    param_same path (decl.Plain constant reference tags name dims value) =
        same_also (fresh_name path at name.bytes)
        (param_of_same path name constant reference (tag_numbers A tags) dims value)
    param_same path (decl.Rest rest_at tags) = itself _

    -- what a parameter that stands means
    reach_means_same : {R : Type 0} (i tag : ℕ) (constant : Bool) (w v : Verdict Reach)
        (rule : Reach → Verdict R) → Same w v
        → Holds (λ y. array_param_means i tag constant v ≡ array_param_means i tag constant w)
        (after w rule)
    reach_means_same i tag constant (Stands it) v rule h = record {
      of = λ y e. ap (λ (z : Verdict Reach). array_param_means i tag constant z) (h.of it refl);
    }
    reach_means_same i tag constant (Breaks found) v rule h = breaks_holds _ _

    param_means_same : (path : Scope) (i : ℕ) (name : n.Name) (constant reference : Bool)
        (tags : List ℕ) (dims : List Dim) (value : Option Expr)
        → Holds (λ y. param_by B at path i constant reference (first_tag tags) dims
        ≡ param_by A at path i constant reference (first_tag tags) dims)
        (param_of A at path name constant reference tags dims value)
    param_means_same path i name constant reference tags [] value = record { of = λ y e. refl }
    param_means_same path i name constant reference tags (dim ∷ dims) value =
        holds_also (no_reference A at reference) (holds_also (no_default A at value)
        (reach_means_same i (first_tag tags) constant (reach A path at dim dims)
        (reach B path at dim dims) _ (reach_same path at dim dims)))

    entries_same : (path : Scope) (i : ℕ) (param : decl.Param)
        → Holds (λ y. param_entries B at path i param ≡ param_entries A at path i param)
        (param_rule A at path param)
    entries_same path i (decl.Plain constant reference tags name dims value) =
        holds_also (fresh_name path at name.bytes)
        (holds_as (param_means_same path i name constant reference (tag_numbers A tags) dims value)
        (λ y p. ap (λ (m : Meaning). record { name = name.bytes; means = m } ∷ []) p))
    entries_same path i (decl.Rest rest_at tags) = record { of = λ y e. refl }

    params_same : (path : Scope) (i : ℕ) (all : List decl.Param)
        → Same (params A at path i all) (params B at path i all)
    unfolding params
    params_same path i [] = itself _
    params_same path i (param ∷ more) =
        holds_both (holds_and (param_same path param) (entries_same path i param))
        (params_same (with_entries path (param_entries A at path i param)) (i + 1) more)
        (λ x y p q. stands_itself _ _
        (both_is (param_rule B at path param)
        (params B at (with_entries path (param_entries B at path i param)) (i + 1) more) _ x y p.0
        (ap (λ (entries : List Entry). params B at (with_entries path entries) (i + 1) more) p.1
        ∙ q)))

    head_same : (path : Scope) (head : decl.Head)
        → Same (head_rule A at path head) (head_rule B at path head)
    head_same path head = params_same ([] ∷ path) 0 head.params

  -- ---- declarations

  anything : {R : Type 0} {P : Type 0} {w : Verdict R} → P → Holds (λ d. P) w
  anything p = record { of = λ d e. p }

  record DeclSame (point : Point) (it : Decl) : Type 0 where
    pub heads_same : heads_of B point it ≡ heads_of A point it
    pub there : AreThere (heads_of A point it)
    pub behind : behind_decl B point it ≡ behind_decl A point it

  head_there : (w v : Verdict Headed) (h : Headed) → w ≡ Stands h → v ≡ Stands h
      → (head_of v ∷ [] ≡ head_of w ∷ []) × AreThere (head_of w ∷ [])
  head_there w v h e f = (
    ap (λ (z : Verdict Headed). head_of z ∷ []) (f ∙ sym e),
    subst (λ (z : Verdict Headed). AreThere (head_of z ∷ [])) (sym e) tt,
  )

  record HeadStands (path : Scope) (at : At) (head : decl.Head) : Type 0 where
    pub same : head_of (head_rule B at path head) ∷ [] ≡ head_of (head_rule A at path head) ∷ []
    pub there : AreThere (head_of (head_rule A at path head) ∷ [])

  head_stands : (path : Scope) (at : At) (head : decl.Head)
      → Holds (λ h. HeadStands path at head) (head_rule A at path head)
  head_stands path at head =
      holds_as (holds_and (itself _) (head_same at path head)) (λ h p.
      let both = head_there (head_rule A at path head) (head_rule B at path head) h p.0 p.1 in
      record { same = both.0; there = both.1 })

  module _ (source : Source) where
    bare_stands : (point : Point) (at : At) (head : decl.Head)
        → Holds (λ d. HeadStands point.scope at head) (bare_head source A point at head)
    bare_stands point at head =
        holds_unless (head_parts A at point.scope head)
        (holds_after (head_stands point.scope at head) (λ x p. stands_itself _ _ p))

    function_stands : (point : Point) (at : At) (of : decl.FunctionOf) (key : _)
        → Holds (λ d. HeadStands point.scope at of.head) (function_with source A point at of key)
    function_stands point at of key =
        holds_unless _ (holds_both (head_stands point.scope at of.head) (holds_all _)
        (λ h x p t. anything p))

    decl_same : (point : Point) (it : Decl)
        → Holds (λ d. DeclSame point it) (decl_rule source A point it)
    decl_same point (Variables at of) =
        holds_unless _ (holds_as (globals_same source point at of.constant of.vars)
        (λ d p. record { heads_same = refl; there = tt; behind = p }))
    decl_same point (Constant at of) =
        holds_as (constant_means_same (tag_of A of.tag)
        (constants.constant A point.scope at of.value)
        (constants.constant B point.scope at of.value) _ (constant_same point.scope at of.value))
        (λ d p. record {
          heads_same = refl;
          there = tt;
          behind =
              ap (λ (m : Meaning). declared point (record { name = of.name.bytes; means = m } ∷ []))
              p;
        })
    decl_same point (Enum at name items) =
        holds_after (enum_same at (tag_of A name) point.scope name items) (λ warned p.
        stands_itself _ _ (record {
          heads_same = refl;
          there = tt;
          behind = ap (λ (scope : Scope). record point { scope = scope }) p;
        }))
    decl_same point (Native at head) =
        holds_also (native_name at head.name) (holds_as (bare_stands point at head)
        (λ d p. record { heads_same = p.same; there = p.there; behind = refl }))
    decl_same point (Forward at is_public head) =
        holds_also (shaped_key at _) (holds_as (bare_stands point at head)
        (λ d p. record { heads_same = p.same; there = p.there; behind = refl }))
    decl_same point (Function at of) =
        holds_also (shaped_key at (function_key source A of))
        (holds_as (function_stands point at of (function_key source A of))
        (λ d p. record { heads_same = p.same; there = p.there; behind = refl }))

    there_append : (xs ys : List (Option Head)) → AreThere xs → AreThere ys → AreThere (xs ++ ys)
    there_append [] ys h k = k
    there_append (None ∷ more) ys h k = absurd h
    there_append (Some head ∷ more) ys h k = there_append more ys h k

    record TreeSame (point : Point) (tree : Tree) : Type 0 where
      pub same : heads B point tree ≡ heads A point tree
      pub there : AreThere (heads A point tree)

    tree_same : (point : Point) (tree : Tree)
        → Holds (λ d. TreeSame point tree) (declarations source A point tree)
    unfolding declarations heads
    tree_same point [] = stands_itself _ _ (record { same = refl; there = tt })
    tree_same point (it ∷ more) =
        holds_both (decl_same point it) (tree_same (behind_decl A point it) more) (λ x y p q.
        stands_itself _ _ (record {
          same = ap₂ (λ (l m : List (Option Head)). l ++ m) p.heads_same
              (ap (λ (z : Point). heads B z more) p.behind ∙ q.same);
          there = there_append (heads_of A point it) (heads A (behind_decl A point it) more) p.there
              q.there;
        }))

pub heads_same : HeadsAreSame
heads_same source all others point tree done e =
    let r = (tree_same source.tags (operators_from source 0 source.groups)
    (functions_from source 0 all source.groups) (natives_from source 0 (natives_in source all))
    (functions_from source 0 others source.groups)
    (natives_from source 0 (natives_in source others))
    source point tree).of done e in
    record { same = r.same; there = r.there }

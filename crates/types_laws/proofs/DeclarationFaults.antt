-- Declarations at the level of the file break only with a fault where nothing that a name means is
-- unknown; and behind one that stands nothing is.
use Rattle.std.proofs.Common.{◌≡◌, ◌+◌, ℕ, ℤ, pos, List, [], ◌∷◌, Bool, true, false, Option, None}
use Rattle.std.proofs.Common.{Some, refl, ap}
use Rattle.std.specs.Prelude.{option_map}
use Rattle.pawn_cells.specs.Cells.{add}
use Rattle.pawn_tree.specs.declared.name.At.{At}
use Rattle.pawn_tree.specs.declared.name.Name as n
use Rattle.pawn_tree.specs.declared.variable.Storage.TheVariants as storage
use Rattle.pawn_tree.specs.declared.declaration.HeadName.{HeadName}
use Rattle.pawn_tree.specs.declared.declaration.HeadName.TheVariants as called
use Rattle.pawn_tree.specs.Expressions.{Expr}
use Rattle.pawn_tree.specs.Variables.{Dim, Var}
use Rattle.pawn_tree.specs.Declarations as tree
use Rattle.pawn_tree.specs.Declarations.{Decl, Variables, Constant, Enum, Native, Forward, Function}
use Rattle.pawn_tree.specs.Declarations.{Tree, FunctionOf, Item}
use Rattle.names_rules.specs.Verdict.{Verdict, Stands, Breaks, after}
use Rattle.types_rules.specs.Typed.{Typed}
use Rattle.types_rules.specs.Around.{Around, Default}
use Rattle.types_rules.specs.Scope.{Scope, with_entries}
use Rattle.types_rules.proofs.VerdictLaws.{Holds, stands_itself, breaks_holds, holds_after}
use Rattle.types_rules.proofs.VerdictLaws.{holds_also, holds_unless}
use Rattle.types_rules.specs.Constants as constants
use Rattle.types_rules.specs.Sizes.{Dimensions}
use Rattle.types_rules.specs.Points.{Point, behind_var, behind_vars, tag_of}
use Rattle.types_rules.specs.Locals.{fresh_name}
use Rattle.types_rules.specs.ParamDefaults.{computed, default_by, default_rule}
use Rattle.types_rules.specs.Params.{Reach, reach_by, reach, array_param_means, cell_param_means}
use Rattle.types_rules.specs.Params.{param_by, param_entries, behind_params, no_default}
use Rattle.types_rules.specs.Params.{no_reference, param_of, param_rule, params, head_parts}
use Rattle.types_rules.specs.Params.{head_rule, in_body, tag_numbers}
use Rattle.types_rules.specs.Around.{first_tag}
use Rattle.types_rules.specs.Keys.{Key, Named, Operates, Enters, Misshapen}
use Rattle.types_rules.specs.Sources.{Source}
use Rattle.types_rules.specs.Enums.{Counted, value_of, entry, item_value, counted_behind}
use Rattle.types_rules.specs.Enums.{behind_item, behind_items, item_rule, items_rule, items_parts}
use Rattle.types_rules.specs.Enums.{nothing_counted, with_enum_name, behind_enum, enum_rule}
use Rattle.types_rules.specs.Paths.{behind_decl}
use Rattle.types_rules.specs.Declarations.{shaped_key, native_name, function_key, body_point}
use Rattle.types_rules.specs.Declarations.{function_with, bare_head, globals, decl_rule}
use Rattle.types_rules.specs.Declarations.{declarations}
use Rattle.types_laws.proofs.Blames.{Blames, stood, blamed, when, blames_after, blames_both}
use Rattle.types_laws.proofs.Blames.{blames_also, blames_unless}
use Rattle.types_laws.proofs.PathLaws.{AllMeant, meant_with, meant_same, meant_inside, holds_then}
use Rattle.types_laws.proofs.RuleFaults.{IsKnown}
use Rattle.types_laws.proofs.CallFaults.{expr_blames}
use Rattle.types_laws.proofs.ValueFaults.{constant_rule_blames, constant_blames, dimensions_blame}
use Rattle.types_laws.proofs.ValueFaults.{within_blames}
use Rattle.types_laws.proofs.StatementFaults.{KnownAt, fresh_blames, local_by_blames}
use Rattle.types_laws.proofs.StatementFaults.{known_behind_var, known_behind_constant}
use Rattle.types_laws.proofs.StatementFaults.{stmt_blames}

-- ---- enumerations

-- the value of the next constant is known
record KnownCount (done : Counted) : Type 0 where
  pub path : AllMeant IsKnown done.scope
  pub value : ℤ
  pub next : done.next ≡ Some value

record HasValue (it : Option ℤ) : Type 0 where
  pub value : ℤ
  pub is : it ≡ Some value

entry_known : (name : List ℕ) (tag : ℕ) (v : Option ℤ) → HasValue v
    → IsKnown (entry name tag v).means
entry_known name tag None h same = let no : ⊥ = cc in no
entry_known name tag (Some v) h same = let no : ⊥ = cc in no

module _ (cx : Around) (at : At) (tag : ℕ) where
  valued : {A : Type 0} (w : Verdict constants.Constant) (rule : constants.Constant → Verdict A)
      → Holds (λ y. HasValue (value_of w)) (after w rule)
  valued (Stands it) rule = record { of = λ y e. record { value = it.value; is = refl } }
  valued (Breaks found) rule = breaks_holds _ _

  item_valued : (done : Counted) → KnownCount done → (e : Option Expr)
      → Holds (λ y. HasValue (item_value cx at tag done e)) (item_rule cx at tag done e)
  item_valued done known None =
      record { of = λ y e. record { value = known.value; is = known.next } }
  item_valued done known (Some e) = valued (constants.constant cx done.scope at e) _

  counted_known : (done : Counted) (name : List ℕ) (v : Option ℤ) → KnownCount done → HasValue v
      → KnownCount (counted_behind cx at tag done name v)
  counted_known done name v known h = record {
    path = meant_with IsKnown done.scope (entry name tag v) known.path (entry_known name tag v h);
    value = add h.value (pos 1);
    next = ap (option_map (λ value. add value (pos 1))) h.is;
  }

  item_known : (done : Counted) → KnownCount done → (it : Item)
      → Holds (λ y. KnownCount (behind_item cx at tag done it)) (item_rule cx at tag done it.value)
  item_known done known it = record {
    of = λ y e.
        counted_known done it.name.bytes _ known ((item_valued done known it.value).of y e);
  }

  items_known : (done : Counted) → KnownCount done → (items : List Item)
      → Holds (λ y. KnownCount (behind_items cx at tag done items))
      (items_rule cx at tag done items)
  unfolding items_rule behind_items
  items_known done known [] = record { of = λ y e. known }
  items_known done known (it ∷ more) =
      holds_then (item_known done known it)
      (λ y p. items_known (behind_item cx at tag done it) p more)
      (λ x y p q. stands_itself _ _ q)

  item_blames : (done : Counted) → KnownCount done → (e : Option Expr)
      → Blames (item_rule cx at tag done e)
  item_blames done known None = stood _
  item_blames done known (Some e) =
      blames_after (constant_blames cx done.scope known.path at e) (λ it s. stood _)

  items_blame : (done : Counted) → KnownCount done → (items : List Item)
      → Blames (items_rule cx at tag done items)
  unfolding items_rule
  items_blame done known [] = stood _
  items_blame done known (it ∷ more) =
      blames_both (item_blames done known it.value)
      (λ x e. items_blame (behind_item cx at tag done it) ((item_known done known it).of x e) more)
      (λ x y e e2. stood _)

begun : (path : Scope) → AllMeant IsKnown path → KnownCount (nothing_counted path)
begun path known = record { path = known; value = pos 0; next = refl }

enum_blames : (cx : Around) (path : Scope) → AllMeant IsKnown path → (at : At) (tag : ℕ)
    (items : List Item) → Blames (enum_rule cx path at tag items)
enum_blames cx path known at tag items =
    blames_unless (items_parts cx at tag (nothing_counted path) items)
    (items_blame cx at tag (nothing_counted path) (begun path known) items)

named_known : (name : Option n.Name) (tag : ℕ) (done : Counted) → KnownCount done
    → AllMeant IsKnown (with_enum_name name tag done)
named_known None tag done known = known.path
named_known (Some name) tag done known =
    meant_with IsKnown done.scope (entry name.bytes tag done.next) known.path
    (entry_known name.bytes tag done.next (record { value = known.value; is = known.next }))

known_behind_enum : (cx : Around) (path : Scope) → AllMeant IsKnown path → (at : At) (tag : ℕ)
    (name : Option n.Name) (items : List Item)
    → Holds (λ y. AllMeant IsKnown (behind_enum cx path at tag name items))
    (enum_rule cx path at tag items)
known_behind_enum cx path known at tag name items =
    holds_unless (items_parts cx at tag (nothing_counted path) items) (record {
      of = λ y e.
          named_known name tag _
          ((items_known cx at tag (nothing_counted path) (begun path known) items).of y e);
    })

-- ---- heads

default_by_blames : (at : At) (x : Typed) (it : Option Default) → Blames (default_by at x it)
default_by_blames at x None = blames_after (constant_rule_blames at x) (λ c e. stood _)
default_by_blames at x (Some it) = stood _

reach_by_blames : (at : At) (it : Dimensions) (first : Option ℕ) → Blames (reach_by at it first)
reach_by_blames at it None = stood _
reach_by_blames at it (Some first) =
    blames_after (within_blames at (first ∷ it.inner)) (λ sizes e. stood _)

module _ (cx : Around) (at : At) where
  default_blames : (path : Scope) → AllMeant IsKnown path → (reference : Bool) (tags : List ℕ)
      (value : Option Expr) → Blames (default_rule cx path at reference tags value)
  default_blames path known reference tags None = stood _
  default_blames path known reference tags (Some e) =
      blames_after (expr_blames cx path known 0 e) (λ x s.
      blames_after (default_by_blames at x (computed path e)) (λ it t. stood _))

  reach_blames : (path : Scope) → AllMeant IsKnown path → (dim : Dim) (dims : List Dim)
      → Blames (reach cx path at dim dims)
  reach_blames path known dim dims =
      blames_after (dimensions_blame cx path known at dim dims)
      (λ it s. reach_by_blames at it it.first)

  no_default_blames : (value : Option Expr) → Blames (no_default cx at value)
  no_default_blames None = stood _
  no_default_blames (Some e) = blamed _ _

  no_reference_blames : (reference : Bool) → Blames (no_reference cx at reference)
  no_reference_blames true = blamed _ _
  no_reference_blames false = stood _

  param_of_blames : (path : Scope) → AllMeant IsKnown path → (name : n.Name)
      (constant reference : Bool) (tags : List ℕ) (dims : List Dim) (value : Option Expr)
      → Blames (param_of cx at path name constant reference tags dims value)
  param_of_blames path known name constant reference tags [] value =
      blames_after (default_blames path known reference tags value) (λ it s. stood _)
  param_of_blames path known name constant reference tags (dim ∷ dims) value =
      blames_also (no_reference_blames reference) (blames_also (no_default_blames value)
      (blames_after (reach_blames path known dim dims) (λ it s. stood _)))

  param_blames : (path : Scope) → AllMeant IsKnown path → (param : tree.Param)
      → Blames (param_rule cx at path param)
  param_blames path known (tree.Plain constant reference tags name dims value) =
      blames_also (fresh_blames path at name.bytes)
      (param_of_blames path known name constant reference (tag_numbers cx tags) dims value)
  param_blames path known (tree.Rest rest_at tags) = stood _

  -- what a parameter that stands means
  cell_param_known : (i tag : ℕ) (constant reference : Bool)
      → IsKnown (cell_param_means i tag constant reference)
  cell_param_known i tag constant true same = let no : ⊥ = cc in no
  cell_param_known i tag constant false same = let no : ⊥ = cc in no

  array_param_known : {A : Type 0} (i tag : ℕ) (constant : Bool) (w : Verdict Reach)
      (rule : Reach → Verdict A) → Holds (λ y. IsKnown (array_param_means i tag constant w))
      (after w rule)
  array_param_known i tag constant (Stands it) rule =
      record { of = λ y e same. let no : ⊥ = cc in no }
  array_param_known i tag constant (Breaks found) rule = breaks_holds _ _

  param_means_known : (path : Scope) (i : ℕ) (name : n.Name) (constant reference : Bool)
      (tags : List ℕ) (dims : List Dim) (value : Option Expr)
      → Holds (λ y. IsKnown (param_by cx at path i constant reference (first_tag tags) dims))
      (param_of cx at path name constant reference tags dims value)
  param_means_known path i name constant reference tags [] value =
      record { of = λ y e. cell_param_known i (first_tag tags) constant reference }
  param_means_known path i name constant reference tags (dim ∷ dims) value =
      holds_also (no_reference cx at reference) (holds_also (no_default cx at value)
      (array_param_known i (first_tag tags) constant (reach cx path at dim dims) _))

  known_behind_param : (path : Scope) → AllMeant IsKnown path → (i : ℕ) (param : tree.Param)
      → Holds (λ y. AllMeant IsKnown (with_entries path (param_entries cx at path i param)))
      (param_rule cx at path param)
  known_behind_param path known i (tree.Plain constant reference tags name dims value) =
      holds_also (fresh_name path at name.bytes) (record {
        of = λ y e.
            meant_with IsKnown path _ known
            ((param_means_known path i name constant reference (tag_numbers cx tags) dims
            value).of y e);
      })
  known_behind_param path known i (tree.Rest rest_at tags) =
      record { of = λ y e. meant_same IsKnown path known }

  params_blame : (path : Scope) → AllMeant IsKnown path → (i : ℕ) (all : List tree.Param)
      → Blames (params cx at path i all)
  unfolding params
  params_blame path known i [] = stood _
  params_blame path known i (param ∷ more) =
      blames_both (param_blames path known param)
      (λ x e. params_blame (with_entries path (param_entries cx at path i param))
      ((known_behind_param path known i param).of x e) (i + 1) more)
      (λ x y e e2. stood _)

  known_behind_params : (path : Scope) → AllMeant IsKnown path → (i : ℕ) (all : List tree.Param)
      → Holds (λ y. AllMeant IsKnown (behind_params cx at path i all)) (params cx at path i all)
  unfolding params behind_params
  known_behind_params path known i [] = record { of = λ y e. known }
  known_behind_params path known i (param ∷ more) =
      holds_then (known_behind_param path known i param)
      (λ x p. known_behind_params (with_entries path (param_entries cx at path i param)) p (i + 1)
      more)
      (λ x y p q. stands_itself _ _ q)

  head_blames : (path : Scope) → AllMeant IsKnown path → (head : tree.Head)
      → Blames (head_rule cx at path head)
  head_blames path known head =
      params_blame ([] ∷ path) (meant_inside IsKnown path known) 0 head.params

  known_in_body : (path : Scope) → AllMeant IsKnown path → (head : tree.Head)
      → Holds (λ y. AllMeant IsKnown (in_body cx at path head)) (head_rule cx at path head)
  known_in_body path known head =
      known_behind_params ([] ∷ path) (meant_inside IsKnown path known) 0 head.params

-- ---- declarations

key_blames : (at : At) (key : Key) → Blames (shaped_key at key)
key_blames at (Named name) = stood _
key_blames at (Operates it) = stood _
key_blames at (Enters name) = stood _
key_blames at Misshapen = blamed _ _

native_name_blames : (at : At) (name : HeadName) → Blames (native_name at name)
native_name_blames at (called.Name name) = stood _
native_name_blames at (called.Operator sign_at sign) = blamed _ _

module _ (source : Source) (cx : Around) where
  function_blames : (point : Point) → KnownAt point → (at : At) (it : FunctionOf) (key : Key)
      → Blames (function_with source cx point at it key)
  function_blames point known at it key =
      blames_unless _ (blames_both (head_blames cx at point.scope known it.head)
      (λ head e. stmt_blames cx source.automata (tag_of cx it.head.tag)
      (body_point source cx point at it)
      ((known_in_body cx at point.scope known it.head).of head e) false it.body)
      (λ head x e e2. when _ (stood _) (blamed _ _)))

  bare_head_blames : (point : Point) → KnownAt point → (at : At) (head : tree.Head)
      → Blames (bare_head source cx point at head)
  bare_head_blames point known at head =
      blames_unless (head_parts cx at point.scope head)
      (blames_after (head_blames cx at point.scope known head) (λ it e. stood _))

  globals_blame : (point : Point) → KnownAt point → (at : At) (constant : Bool) (vars : List Var)
      → Blames (globals source cx point at constant vars)
  unfolding globals
  globals_blame point known at constant [] = stood _
  globals_blame point known at constant (x ∷ xs) =
      blames_both (local_by_blames cx at point known storage.Static constant x x.dims)
      (λ y e. globals_blame (behind_var cx point at storage.Static constant x)
      ((known_behind_var cx at point known storage.Static constant x).of y e) at constant xs)
      (λ y more e e2. stood _)

  known_behind_globals : (point : Point) → KnownAt point → (at : At) (constant : Bool)
      (vars : List Var)
      → Holds (λ y. KnownAt (behind_vars cx point at storage.Static constant vars))
      (globals source cx point at constant vars)
  unfolding globals behind_vars
  known_behind_globals point known at constant [] = record { of = λ y e. known }
  known_behind_globals point known at constant (x ∷ xs) =
      holds_then (known_behind_var cx at point known storage.Static constant x)
      (λ y p. known_behind_globals (behind_var cx point at storage.Static constant x) p at
      constant xs)
      (λ y more p q. stands_itself _ _ q)

  decl_blames : (point : Point) → KnownAt point → (decl : Decl)
      → Blames (decl_rule source cx point decl)
  decl_blames point known (Variables at it) =
      blames_unless _ (globals_blame point known at it.constant it.vars)
  decl_blames point known (Constant at it) =
      blames_after (constant_blames cx point.scope known at it.value) (λ x e. stood _)
  decl_blames point known (Enum at name items) =
      blames_after (enum_blames cx point.scope known at (tag_of cx name) items)
      (λ warned e. stood _)
  decl_blames point known (Native at head) =
      blames_also (native_name_blames at head.name) (bare_head_blames point known at head)
  decl_blames point known (Forward at is_public head) =
      blames_also (key_blames at _) (bare_head_blames point known at head)
  decl_blames point known (Function at it) =
      blames_also (key_blames at (function_key source cx it))
      (function_blames point known at it (function_key source cx it))

  known_behind_decl : (point : Point) → KnownAt point → (decl : Decl)
      → Holds (λ y. KnownAt (behind_decl cx point decl)) (decl_rule source cx point decl)
  known_behind_decl point known (Variables at it) =
      holds_unless _ (known_behind_globals point known at it.constant it.vars)
  known_behind_decl point known (Constant at it) = known_behind_constant cx at point known it _
  known_behind_decl point known (Enum at name items) =
      holds_after (known_behind_enum cx point.scope known at (tag_of cx name) name items)
      (λ y p. stands_itself _ _ p)
  known_behind_decl point known (Native at head) = record { of = λ y e. known }
  known_behind_decl point known (Forward at is_public head) = record { of = λ y e. known }
  known_behind_decl point known (Function at it) = record { of = λ y e. known }

  pub declarations_blame : (point : Point) → KnownAt point → (tree : Tree)
      → Blames (declarations source cx point tree)
  unfolding declarations
  declarations_blame point known [] = stood _
  declarations_blame point known (decl ∷ more) =
      blames_both (decl_blames point known decl)
      (λ x e. declarations_blame (behind_decl cx point decl)
      ((known_behind_decl point known decl).of x e) more)
      (λ x y e e2. stood _)

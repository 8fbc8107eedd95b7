-- What names mean along declarations is plain: values and sizes are cells, and tags are numbers.
use Rattle.std.proofs.Common.{ℕ, ℤ, pos, List, [], ◌∷◌, Bool, true, false, Option, None, Some, refl}
use Rattle.std.proofs.Common.{arith}
use Rattle.std.specs.Prelude.{option_map}
use Rattle.pawn_cells.specs.Cells.{add}
use Rattle.pawn_tree.specs.declared.name.At.{At}
use Rattle.pawn_tree.specs.declared.name.Name as n
use Rattle.pawn_tree.specs.declared.variable.Storage.TheVariants as storage
use Rattle.pawn_tree.specs.Expressions.{Expr}
use Rattle.pawn_tree.specs.Variables.{Dim, Var}
use Rattle.pawn_tree.specs.Declarations as tree
use Rattle.pawn_tree.specs.Declarations.{Decl, Variables, Constant, Enum, Native, Forward, Function}
use Rattle.pawn_tree.specs.Declarations.{Item}
use Rattle.pawn_meaning.specs.Program.{Array}
use Rattle.names_rules.specs.Verdict.{Verdict, Stands, Breaks}
use Rattle.types_rules.specs.Around.{Around, first_tag}
use Rattle.types_rules.specs.Scope.{Scope, Entry, with_entries}
use Rattle.types_rules.proofs.VerdictLaws.{Holds}
use Rattle.types_rules.specs.Constants as constants
use Rattle.types_rules.specs.Arrays.{Shaped, shaped}
use Rattle.types_rules.specs.Points.{Point, tag_of, array_means, array_place, constant_means}
use Rattle.types_rules.specs.Points.{var_by, behind_var, behind_vars}
use Rattle.types_rules.specs.Params.{Reach, tag_numbers, reach, array_param_means, cell_param_means}
use Rattle.types_rules.specs.Params.{param_by, param_entries}
use Rattle.types_rules.specs.Enums.{Counted, value_of, means_value, item_value, behind_item}
use Rattle.types_rules.specs.Enums.{behind_items, nothing_counted, with_enum_name, behind_enum}
use Rattle.types_rules.specs.Paths.{behind_decl}
use Rattle.pawn_cells.proofs.CellLaws.{small_cell, wrap_cell}
use Rattle.types_laws.proofs.PathLaws.{meant_with, meant_same, meant_inside}
use Rattle.types_laws.specs.Objects.{Each}
use Rattle.types_laws.specs.Written.{IsAnyName, IsWrittenDim, IsWrittenInit, IsWrittenVar}
use Rattle.types_laws.specs.Plain.{IsTag, IsValue, IsPlainMeaning, IsPlainPath, HasTags}
use Rattle.types_laws.proofs.RuleValues.{tag_number_small}
use Rattle.types_laws.proofs.ArrayValues.{PlainConstant, constant_plain, GoodShaped}
use Rattle.types_laws.proofs.ArrayValues.{shaped_good}
use Rattle.types_laws.specs.WrittenStatements.{MayBeConstant}
use Rattle.types_laws.specs.WrittenDeclarations.{IsWrittenItem, IsWrittenParam, IsWrittenDecl}
use Rattle.types_laws.proofs.HeadLaws.{GoodReach, reach_good}

-- ---- one more name

pub plain_with : (path : Scope) (it : Entry) → IsPlainPath path → IsPlainMeaning it.means
    → IsPlainPath (with_entries path (it ∷ []))
plain_with path it h k =
    record { meant = (meant_with IsPlainMeaning path it (record { meant = h.meant }) k).meant }

pub plain_inside : (path : Scope) → IsPlainPath path → IsPlainPath ([] ∷ path)
plain_inside path h =
    record { meant = (meant_inside IsPlainMeaning path (record { meant = h.meant })).meant }

module _ (cx : Around) (tags : HasTags cx) where
  tag_fits : (tag : Option n.Name) → IsTag (tag_of cx tag)
  tag_fits None = omega arith
  tag_fits (Some tag) = tag_number_small cx tags tag.bytes

  -- ---- variables

  array_plain : (path : Scope) (known : IsPlainPath path) (at : At) (a : Array) (tag : ℕ)
      (constant : Bool) (w : Verdict Shaped) → IsTag tag
      → Holds (GoodShaped cx tags path known at) w → IsPlainMeaning (array_means a tag constant w)
  array_plain path known at a tag constant (Stands it) t h = ((h.of it refl).shape.reach, t)
  array_plain path known at a tag constant (Breaks found) t h = tt

  var_plain : (point : Point) (at : At) (constant : Bool) (x : Var) (dims : List Dim)
      → IsPlainPath point.scope → Each IsWrittenDim dims → IsWrittenInit IsAnyName x.init
      → IsPlainMeaning (var_by cx point at storage.Static constant x dims)
  var_plain point at constant x [] known h w = tag_fits x.tag
  var_plain point at constant x (dim ∷ dims) known h w =
      array_plain point.scope known at (array_place storage.Static point) (tag_of cx x.tag) constant
      (shaped cx point.scope at dim dims x.init) (tag_fits x.tag)
      (shaped_good cx tags point.scope known at IsAnyName dim dims x.init h.0 h.1 w)

  vars_plain : (point : Point) (at : At) (constant : Bool) (vars : List Var)
      → Each (IsWrittenVar IsAnyName) vars → IsPlainPath point.scope
      → IsPlainPath (behind_vars cx point at storage.Static constant vars).scope
  unfolding behind_vars
  vars_plain point at constant [] w known = known
  vars_plain point at constant (x ∷ xs) w known =
      vars_plain (behind_var cx point at storage.Static constant x) at constant xs w.1
      (plain_with point.scope _ known
      (var_plain point at constant x x.dims known w.0.dims w.0.init))

  -- ---- constants

  constant_fits : (tag : ℕ) (w : Verdict constants.Constant) → IsTag tag → Holds PlainConstant w
      → IsPlainMeaning (constant_means tag w)
  constant_fits tag (Stands c) t h = ((h.of c refl).value, t)
  constant_fits tag (Breaks found) t h = tt

  record PlainCount (done : Counted) : Type 0 where
    pub path : IsPlainPath done.scope
    pub next : IsValue done.next

  module _ (at : At) (tag : ℕ) (small : IsTag tag) where
    valued : (w : Verdict constants.Constant) → Holds PlainConstant w → IsValue (value_of w)
    valued (Stands c) h = (h.of c refl).value
    valued (Breaks found) h = tt

    value_plain : (v : Option ℤ) → IsValue v → IsPlainMeaning (means_value tag v)
    value_plain None h = tt
    value_plain (Some v) h = (h, small)

    next_value : (v : Option ℤ) → IsValue v → IsValue (option_map (λ value. add value (pos 1)) v)
    next_value None h = tt
    next_value (Some v) h = wrap_cell _

    item_fits : (done : Counted) (value : Option Expr) → PlainCount done → MayBeConstant value
        → IsValue (item_value cx at tag done value)
    item_fits done None known w = known.next
    item_fits done (Some e) known w =
        valued (constants.constant cx done.scope at e)
        (constant_plain cx tags done.scope known.path at IsAnyName e w)

    items_plain : (done : Counted) (items : List Item) → PlainCount done → Each IsWrittenItem items
        → PlainCount (behind_items cx at tag done items)
    unfolding behind_items
    items_plain done [] known w = known
    items_plain done (item ∷ more) known w =
        let v : IsValue (item_value cx at tag done item.value) =
        item_fits done item.value known w.0 in
        items_plain (behind_item cx at tag done item) more (record {
          path = plain_with done.scope _ known.path
              (value_plain (item_value cx at tag done item.value) v);
          next = next_value (item_value cx at tag done item.value) v;
        }) w.1

    named_plain : (name : Option n.Name) (done : Counted) → PlainCount done
        → IsPlainPath (with_enum_name name tag done)
    named_plain None done known = known.path
    named_plain (Some name) done known =
        plain_with done.scope _ known.path (value_plain done.next known.next)

    enum_plain : (path : Scope) (name : Option n.Name) (items : List Item) → IsPlainPath path
        → Each IsWrittenItem items → IsPlainPath (behind_enum cx path at tag name items)
    enum_plain path name items known w =
        named_plain name (behind_items cx at tag (nothing_counted path) items)
        (items_plain (nothing_counted path) items
        (record { path = known; next = small_cell 0 (omega arith) }) w)

  -- ---- declarations

  pub decl_plain : (point : Point) (decl : Decl) → IsWrittenDecl IsAnyName decl
      → IsPlainPath point.scope → IsPlainPath (behind_decl cx point decl).scope
  decl_plain point (Variables at of) w known = vars_plain point at of.constant of.vars w known
  decl_plain point (Constant at of) w known =
      plain_with point.scope _ known
      (constant_fits (tag_of cx of.tag) (constants.constant cx point.scope at of.value)
      (tag_fits of.tag) (constant_plain cx tags point.scope known at IsAnyName of.value w))
  decl_plain point (Enum at name items) w known =
      enum_plain at (tag_of cx name) (tag_fits name) point.scope name items known w
  decl_plain point (Native at head) w known = known
  decl_plain point (Forward at is_public head) w known = known
  decl_plain point (Function at of) w known = known

  -- ---- parameters

  first_fits : (names : List n.Name) → IsTag (first_tag (tag_numbers cx names))
  first_fits [] = omega arith
  first_fits (tag ∷ more) = tag_number_small cx tags tag.bytes

  cell_plain : (i tag : ℕ) (constant reference : Bool) → IsTag tag
      → IsPlainMeaning (cell_param_means i tag constant reference)
  cell_plain i tag constant true t = t
  cell_plain i tag constant false t = t

  reach_plain : (i tag : ℕ) (constant : Bool) (w : Verdict Reach) → IsTag tag
      → Holds GoodReach w → IsPlainMeaning (array_param_means i tag constant w)
  reach_plain i tag constant (Stands it) t h = ((h.of it refl).cells, t)
  reach_plain i tag constant (Breaks found) t h = tt

  param_plain : (at : At) (path : Scope) (i tag : ℕ) (constant reference : Bool) (dims : List Dim)
      → IsPlainPath path → IsTag tag → Each IsWrittenDim dims
      → IsPlainMeaning (param_by cx at path i constant reference tag dims)
  param_plain at path i tag constant reference [] known t w = cell_plain i tag constant reference t
  param_plain at path i tag constant reference (dim ∷ dims) known t w =
      reach_plain i tag constant (reach cx path at dim dims) t
      (reach_good cx tags path known at dim dims w.0 w.1)

  -- behind a parameter
  pub entries_plain : (at : At) (path : Scope) (i : ℕ) (param : tree.Param) → IsWrittenParam param
      → IsPlainPath path → IsPlainPath (with_entries path (param_entries cx at path i param))
  entries_plain at path i (tree.Plain constant reference names name dims value) w known =
      plain_with path _ known
      (param_plain at path i (first_tag (tag_numbers cx names)) constant reference dims known
      (first_fits names) w.0)
  entries_plain at path i (tree.Rest rest_at names) w known =
      record { meant = (meant_same IsPlainMeaning path (record { meant = known.meant })).meant }

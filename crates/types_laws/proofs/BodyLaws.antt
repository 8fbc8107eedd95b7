-- The objects and bodies of declarations that stand are valid and within the limits.
use Rattle.std.proofs.Common.{◌≡◌, ◌+◌, ◌-◌, ◌≤◌, ℕ, ℤ, pos, List, [], ◌∷◌, ◌++◌, Bool, false}
use Rattle.std.proofs.Common.{Option, None, Some, refl, sym, ap, ◌∙◌, subst, arith}
use Rattle.std.specs.Prelude.{length, nat_le, option_map, IsPermutation}
use Rattle.std.proofs.lemmas.Bool.{leb-true}
use Rattle.std.proofs.lemmas.List.{length-append, append-nil, take_at}
use Rattle.std.proofs.lemmas.List.Sorted.{IsPermutation-refl}
use Rattle.pawn_cells.specs.Cells.{add}
use Rattle.pawn_tree.specs.declared.name.At.{At}
use Rattle.pawn_tree.specs.declared.name.Name as n
use Rattle.pawn_tree.specs.declared.variable.Storage.TheVariants as storage
use Rattle.pawn_tree.specs.Expressions.{Expr}
use Rattle.pawn_tree.specs.Variables.{Dim, Var}
use Rattle.pawn_tree.specs.Statements.{ConstantOf}
use Rattle.pawn_tree.specs.Declarations as tree
use Rattle.pawn_tree.specs.Declarations.{Decl, Variables, Constant, Enum, Native, Forward, Function}
use Rattle.pawn_tree.specs.Declarations.{Tree, FunctionOf, Item}
use Rattle.pawn_meaning.specs.Program.{Scalar, Global, Own, Through, Element, Char, Array, Object}
use Rattle.pawn_meaning.specs.Program.{SlotArray, ParamArray, Row, From, Slot, Program, Automaton}
use Rattle.pawn_meaning.specs.Program.{Stmt}
use Rattle.pawn_meaning.specs.Scope.{Extent}
use Rattle.pawn_meaning.specs.Valid.{IsSlot, numbers_from}
use Rattle.pawn_meaning.specs.ValidStmts.{slots_made_by, all_slots_made, IsValidStmt}
use Rattle.pawn_meaning.specs.declared.program_limits.TheConstants.{LOCALS_LIMIT}
use Rattle.pawn_meaning.specs.Need.{locals}
use Rattle.pawn_meaning.specs.Limits.{IsWithinSlot}
use Rattle.names_rules.specs.Verdict.{Verdict, Stands, Breaks}
use Rattle.types_rules.specs.Around.{Around}
use Rattle.types_rules.specs.Scope.{Scope, Meaning, Entry, with_entries}
use Rattle.types_rules.specs.Scope as means
use Rattle.types_rules.proofs.VerdictLaws.{Holds, stands_itself, breaks_holds, holds_after}
use Rattle.types_rules.proofs.VerdictLaws.{holds_both, holds_all, holds_also, holds_unless}
use Rattle.types_rules.specs.Constants as constants
use Rattle.types_rules.specs.Arrays.{array_value}
use Rattle.types_rules.specs.Cells.{static_value}
use Rattle.types_rules.specs.Counts.{objects_in}
use Rattle.types_rules.specs.Points.{Point, beyond, tag_of, constant_means, behind_var, behind_vars}
use Rattle.types_rules.specs.Points.{behind_constant}
use Rattle.types_rules.specs.Stood.{Stood, Returned, stmts_in, one_of}
use Rattle.types_rules.specs.Locals.{local_by}
use Rattle.types_rules.specs.Statements.{stmt}
use Rattle.types_rules.proofs.StatementLaws.{stmt_made}
use Rattle.types_rules.specs.Params.{Headed, head_parts, head_rule, in_body}
use Rattle.types_rules.specs.Keys.{Key}
use Rattle.types_rules.specs.Enums.{Counted, value_of, means_value, item_value, behind_item}
use Rattle.types_rules.specs.Enums.{behind_items, nothing_counted, with_enum_name, behind_enum}
use Rattle.types_rules.specs.Enums.{enum_rule}
use Rattle.types_rules.specs.Sources.{Source}
use Rattle.types_rules.specs.Paths.{behind_decl}
use Rattle.types_rules.specs.Declarations.{Done, done_behind, nothing_done, warning, objects_done}
use Rattle.types_rules.specs.Declarations.{body_of, bodied, shaped_key, native_name, function_key}
use Rattle.types_rules.specs.Declarations.{body_point, function_with, bare_head, globals}
use Rattle.types_rules.specs.Declarations.{global_constant, decl_rule, declarations}
use Rattle.types_laws.specs.Known.{KnowsAround}
use Rattle.types_laws.specs.ValidExpressions.{ExpressionsAreValid}
use Rattle.types_laws.specs.Objects.{Each, IsGoodObject}
use Rattle.types_laws.specs.Written.{IsAnyName, IsWrittenVar}
use Rattle.types_laws.specs.Plain.{IsTag, IsValue, HasTags}
use Rattle.pawn_cells.proofs.CellLaws.{small_cell, wrap_cell}
use Rattle.types_laws.proofs.Facts.{holds_and, when_holds, each_append, each_all}
use Rattle.types_laws.proofs.ArrayValues.{PlainConstant, constant_plain}
use Rattle.types_laws.specs.Sits.{Sits}
use Rattle.types_laws.specs.Seen.{IsSeenPlace, IsSeenArray, IsSeen, IsSeenPath}
use Rattle.types_laws.specs.WrittenStatements.{IsConstant, MayBeConstant, IsWrittenStmt}
use Rattle.types_laws.specs.ValidStatements.{IsGoodSlot, IsCalled}
use Rattle.types_laws.proofs.ListPartLaws.{sits_left, sits_right, sits_at, sits_there}
use Rattle.types_laws.proofs.SeenLaws.{seen_with, seen_inside, plain_path}
use Rattle.types_laws.proofs.Bodies.{Place, scope_at, SoundStatements, StandsSound}
use Rattle.types_laws.proofs.Variables.{tag_small, static_holds}
use Rattle.types_laws.proofs.StatementParts.{SubIn, sub_in}
use Rattle.types_laws.proofs.StatementLaws.{stmt_holds}
use Rattle.types_laws.specs.WrittenDeclarations.{IsWrittenItem, IsOwnHead, IsWrittenDecl}
use Rattle.types_laws.specs.WrittenDeclarations.{IsWrittenTree}
use Rattle.types_laws.specs.ValidBodies.{file_scope, IsSoundBody, BodiesAreValid}
use Rattle.types_laws.proofs.HeadLaws.{AreParams, params_stand}

-- ---- the path of the file, in a body

abbrev pub body_place : Program → List Slot → ℕ → Place
body_place it slots params = record { program = it; slots = slots; params = params }

module _ (it : Program) (cx : Around) (Calls : List ℕ → Type 0) (slots : List Slot)
    (params : ℕ) where
  place_there : (p : Scalar) → IsSeenPlace (file_scope it) p
      → IsSeenPlace (scope_at (body_place it slots params) []) p
  place_there (Global o) h = h
  place_there (Own s) h = absurd (let e = h.0 in let no : ⊥ = cc in no)
  place_there (Through s) h = absurd (omega (arith, h.1))
  place_there (Element a i) h = absurd h
  place_there (Char a i) h = absurd h

  array_there : (reach : Extent) (a : Array) → IsSeenArray (file_scope it) reach a
      → IsSeenArray (scope_at (body_place it slots params) []) reach a
  array_there reach (Object o) h = h
  array_there reach (SlotArray s) h = absurd (let e = h.0 in let no : ⊥ = cc in no)
  array_there reach (ParamArray s known) h = absurd (omega (arith, h.1))
  array_there reach (Row a e) h = absurd h
  array_there reach (From a e) h = absurd h

  there : (name : List ℕ) (m : Meaning) → IsSeen (file_scope it) cx Calls name m
      → IsSeen (scope_at (body_place it slots params) []) cx Calls name m
  there name (means.Constant v tag) h = h
  there name (means.Variable p tag constant) h = (place_there p h.0, h.1)
  there name (means.Array a reach tag constant) h = (array_there reach a h.0, h.1, h.2)
  there name (means.Function f tag) h = h
  there name (means.Native n tag) h = (record { number_in = h.0.number_in }, h.1)
  there name (means.Entering tag) h = h
  there name means.Taken h = tt
  there name means.Unknown h = tt

  pub path_there : (path : Scope) → IsSeenPath (file_scope it) cx Calls path
      → IsSeenPath (scope_at (body_place it slots params) []) cx Calls path
  path_there path h = record { meant = λ name m e. there name m (h.meant name m e) }

-- ---- a variable of the file makes no statement and no slot

record IsBare (y : Stood) : Type 0 where
  pub stmts : y.stmts ≡ []
  pub slots : y.slots ≡ []

static_bare : (cx : Around) (point : Point) (at : At) (constant : Bool) (x : Var) (dims : List Dim)
    → Holds IsBare (local_by cx point at storage.Static constant x dims)
static_bare cx point at constant x [] =
    holds_after (holds_all (static_value cx point.scope at (tag_of cx x.tag) x.init)) (λ it t.
    stands_itself _ _ (record { stmts = refl; slots = refl }))
static_bare cx point at constant x (dim ∷ dims) =
    holds_after (holds_all (array_value cx point.scope at (tag_of cx x.tag) dim dims x.init))
    (λ it t.
    stands_itself _ _ (record { stmts = refl; slots = refl }))

-- ---- a body by its slots and statement

pub sits_last : {A : Type 0} (xs ys : List A) → Sits (xs ++ ys) (length xs) ys
sits_last xs ys =
    subst (λ (l : List _). Sits (xs ++ l) (length xs) ys) (append-nil ys) (sits_there xs ys [])

minus_first : (m n k : ℕ) → k ≡ m + n → k - m ≡ n
minus_first m n k e = omega (arith, e)

body_good : (it : Program) (own rest : List Slot) (s : Stmt) → Each IsGoodSlot own
    → Each IsGoodSlot rest → IsValidStmt (scope_at (body_place it (own ++ rest) (length own)) [])
    false false s
    → all_slots_made s ≡ numbers_from (length own) (length rest)
    → locals (own ++ rest) s ≤ LOCALS_LIMIT → (number : ℕ) (at : At) (returns : List Returned)
    → IsSoundBody it (record {
      number = number;
      at = at;
      params = own;
      body = record { slots = own ++ rest; stmt = s };
      returns = returns;
    })
body_good it own rest s p q valid made few number at returns = record {
  params = p;
  valid = record {
    slots =
        each_all IsSlot (own ++ rest) (valid_slots (own ++ rest)
        (each_append IsGoodSlot own rest p q));
    begins = take_at own rest (length own) refl;
    makes = subst (λ (l : List ℕ). IsPermutation (all_slots_made s) l)
        (made ∙ ap (λ m. numbers_from (length own) m)
        (sym (minus_first (length own) (length rest) (length (own ++ rest))
        (length-append own rest))))
        (IsPermutation-refl (all_slots_made s));
    stmt = valid;
  };
  within = record {
    slots = each_all IsWithinSlot (own ++ rest)
        (within_slots (own ++ rest) (each_append IsGoodSlot own rest p q));
    locals = few;
  };
}
  where
    valid_slots : (all : List Slot) → Each IsGoodSlot all → Each IsSlot all
    valid_slots [] h = tt
    valid_slots (x ∷ more) h = (h.0.valid, valid_slots more h.1)

    within_slots : (all : List Slot) → Each IsGoodSlot all → Each IsWithinSlot all
    within_slots [] h = tt
    within_slots (x ∷ more) h = (h.0.within, within_slots more h.1)

-- ---- declarations

pub record DeclIn (it : Program) (cx : Around) (Calls : List ℕ → Type 0) (point to : Point)
    (d : Done) : Type 0 where
  pub objects : Each IsGoodObject d.objects
  pub bodies : Each (IsSoundBody it) d.bodies
  pub path : IsSeenPath (file_scope it) cx Calls to.scope
  pub at_objects : to.objects ≡ point.objects + length d.objects

pub record DeclSound (it : Program) (cx : Around) (Calls : List ℕ → Type 0) (point to : Point)
    (d : Done) : Type 0 where
  pub sound : IsSeenPath (file_scope it) cx Calls point.scope
      → Sits it.objects point.objects d.objects → DeclIn it cx Calls point to d

module _ (law : ExpressionsAreValid) (it : Program) (cx : Around) (Calls : List ℕ → Type 0)
    (known : KnowsAround it cx) (tags : HasTags cx) where
  behind_done : (point mid to : Point) (x y : Done) → DeclSound it cx Calls point mid x
      → DeclSound it cx Calls mid to y → DeclSound it cx Calls point to (done_behind x y)
  behind_done point mid to x y p q = record {
    sound = λ seen fits.
        let a = p.sound seen (sits_left it.objects point.objects x.objects y.objects fits) in
        let b = q.sound a.path
        (sits_at it.objects (point.objects + length x.objects) mid.objects y.objects
        (sym a.at_objects) (sits_right it.objects point.objects x.objects y.objects fits)) in
        record {
          objects = each_append IsGoodObject x.objects y.objects a.objects b.objects;
          bodies = each_append (IsSoundBody it) x.bodies y.bodies a.bodies b.bodies;
          path = b.path;
          at_objects = omega (
            arith,
            a.at_objects,
            b.at_objects,
            length-append x.objects y.objects,
          );
        };
  }

  -- what adds nothing to a program
  only_path : (point to : Point) (warned : List At) → to.objects ≡ point.objects
      → (IsSeenPath (file_scope it) cx Calls point.scope
      → IsSeenPath (file_scope it) cx Calls to.scope)
      → DeclSound it cx Calls point to (warning warned)
  only_path point to warned e k = record {
    sound = λ seen fits. record {
      objects = tt;
      bodies = tt;
      path = k seen;
      at_objects = omega (arith, e);
    };
  }

  -- ---- variables

  file_place : Place
  file_place = record { program = it; slots = []; params = 0 }

  no_slots : (y : Stood) → IsBare y → (first : ℕ) → Sits [] first y.slots
  no_slots y bare first = subst (λ (l : List Slot). Sits [] first l) (sym bare.slots) tt

  global_sound : (point to : Point) (y : Stood) → IsBare y
      → StandsSound (body_place it [] 0) cx Calls false point to y
      → DeclSound it cx Calls point to (objects_done y)
  global_sound point to y bare p = record {
    sound = λ seen fits.
        let r : SoundStatements (body_place it [] 0) cx Calls [] point false to y =
        p.sound [] (record {
          path = path_there it cx Calls [] 0 point.scope seen;
          low = omega arith;
        })
        fits (no_slots y bare point.slots) in
        record {
          objects = r.objects;
          bodies = tt;
          path =
              subst (λ (l : List _). IsSeenPath
              (scope_at (body_place it [] 0) (slots_made_by (stmts_in l))) cx Calls to.scope)
              bare.stmts r.behind.path;
          at_objects = r.at_objects;
        };
  }

  module _ (source : Source) where
    globals_sound : (point : Point) (at : At) (constant : Bool) (vars : List Var)
        → Each (IsWrittenVar IsAnyName) vars
        → Holds (DeclSound it cx Calls point (behind_vars cx point at storage.Static constant vars))
        (globals source cx point at constant vars)
    unfolding globals behind_vars
    globals_sound point at constant [] w =
        stands_itself _ nothing_done (only_path point point [] refl (λ seen. seen))
    globals_sound point at constant (x ∷ xs) w =
        holds_both (holds_and (static_bare cx point at constant x x.dims)
        (static_holds law (body_place it [] 0) cx Calls known tags at false IsAnyName point
        constant x
        x.dims w.0.dims w.0.init))
        (globals_sound (behind_var cx point at storage.Static constant x) at constant xs w.1)
        (λ y more p q. stands_itself _ _
        (behind_done point (behind_var cx point at storage.Static constant x)
        (behind_vars cx (behind_var cx point at storage.Static constant x) at storage.Static
        constant xs)
        (objects_done y) more
        (global_sound point (behind_var cx point at storage.Static constant x) y p.0 p.1) q))

    -- ---- constants

    seen_constant : (name : List ℕ) (tag : ℕ) (w : Verdict constants.Constant)
        (c : constants.Constant) → w ≡ Stands c → PlainConstant c → IsTag tag
        → IsSeen (file_scope it) cx Calls name (constant_means tag w)
    seen_constant name tag w c e p t =
        subst (λ (v : Verdict constants.Constant).
        IsSeen (file_scope it) cx Calls name (constant_means tag v)) (sym e) (p.value, t)

    tag_fits : (tag : Option n.Name) → IsTag (tag_of cx tag)
    tag_fits tag = tag_small law (body_place it [] 0) cx Calls known tags tag

    constant_sound : (point : Point) (at : At) (of : ConstantOf)
        → IsConstant of.value
        → Holds (DeclSound it cx Calls point (behind_constant cx point at of))
        (global_constant source cx point at of)
    constant_sound point at of w =
        holds_after {P = λ c. constants.constant cx point.scope at of.value ≡ Stands c}
        (record { of = λ c e. e }) (λ c e. stands_itself _ _
        (only_path point (behind_constant cx point at of) _ refl (λ seen.
        seen_with cx Calls (file_scope it) point.scope _ seen
        (seen_constant of.name.bytes (tag_of cx of.tag)
        (constants.constant cx point.scope at of.value) c e
        ((constant_plain cx tags point.scope
        (plain_path cx Calls (file_scope it) point.scope seen) at IsAnyName of.value w).of c e)
        (tag_fits of.tag)))))

    -- ---- enumerations

    record SeenCount (done : Counted) : Type 0 where
      pub path : IsSeenPath (file_scope it) cx Calls done.scope
      pub next : IsValue done.next

    module _ (at : At) (tag : ℕ) (small : IsTag tag) where
      valued : (w : Verdict constants.Constant)
          → ((c : constants.Constant) → w ≡ Stands c → PlainConstant c) → IsValue (value_of w)
      valued (Stands c) k = (k c refl).value
      valued (Breaks found) k = tt

      entry_seen : (name : List ℕ) (v : Option ℤ) → IsValue v
          → IsSeen (file_scope it) cx Calls name (means_value tag v)
      entry_seen name None h = tt
      entry_seen name (Some v) h = (h, small)

      next_value : (v : Option ℤ) → IsValue v
          → IsValue (option_map (λ value. add value (pos 1)) v)
      next_value None h = tt
      next_value (Some v) h = wrap_cell _

      item_value_is : (done : Counted) (value : Option Expr) → SeenCount done → MayBeConstant value
          → IsValue (item_value cx at tag done value)
      item_value_is done None seen w = seen.next
      item_value_is done (Some e) seen w =
          valued (constants.constant cx done.scope at e) (λ c s.
          (constant_plain cx tags done.scope
          (plain_path cx Calls (file_scope it) done.scope seen.path) at IsAnyName e w).of c s)

      items_seen : (done : Counted) (items : List Item) → SeenCount done
          → Each IsWrittenItem items → SeenCount (behind_items cx at tag done items)
      unfolding behind_items
      items_seen done [] seen w = seen
      items_seen done (item ∷ more) seen w =
          let v : IsValue (item_value cx at tag done item.value) =
          item_value_is done item.value seen w.0 in
          items_seen (behind_item cx at tag done item) more (record {
            path = seen_with cx Calls (file_scope it) done.scope _ seen.path
                (entry_seen item.name.bytes (item_value cx at tag done item.value) v);
            next = next_value (item_value cx at tag done item.value) v;
          }) w.1

      named_seen : (name : Option n.Name) (done : Counted) → SeenCount done
          → IsSeenPath (file_scope it) cx Calls (with_enum_name name tag done)
      named_seen None done seen = seen.path
      named_seen (Some name) done seen =
          seen_with cx Calls (file_scope it) done.scope _ seen.path
          (entry_seen name.bytes done.next seen.next)

      enum_seen : (path : Scope) (name : Option n.Name) (items : List Item)
          → IsSeenPath (file_scope it) cx Calls path → Each IsWrittenItem items
          → IsSeenPath (file_scope it) cx Calls (behind_enum cx path at tag name items)
      enum_seen path name items seen w =
          named_seen name (behind_items cx at tag (nothing_counted path) items)
          (items_seen (nothing_counted path) items
          (record { path = seen; next = small_cell 0 (omega arith) }) w)

    -- ---- functions

    -- the statement of a body, whatever the slots of the body are
    record StoodAnywhere (point : Point) (at : At) (of : FunctionOf) (x : Stood) : Type 0 where
      pub counts : length x.objects ≡ objects_in of.body
      pub stood : (slots : List Slot) (params : ℕ) → (to : Point)
          × StandsSound (body_place it slots params) cx Calls false
          (body_point source cx point at of) to x

    stood_anywhere : source.automata ≡ it.automata → (point : Point) (at : At) (of : FunctionOf)
        → IsWrittenStmt Calls of.body
        → Holds (StoodAnywhere point at of)
        (stmt cx source.automata (tag_of cx of.head.tag)
        (body_point source cx point at of) false of.body)
    stood_anywhere e point at of w =
        subst (λ (automata : List Automaton). Holds (StoodAnywhere point at of)
        (stmt cx automata (tag_of cx of.head.tag) (body_point source cx point at of) false of.body))
        (sym e) (record {
          of = λ x stands. record {
            counts = ((stmt_made cx it.automata (tag_of cx of.head.tag)
                (body_point source cx point at of) false of.body).of x stands).objects;
            stood = λ slots params. (
              _,
              (stmt_holds law (body_place it slots params) cx Calls known tags
                  (tag_of cx of.head.tag)
                  (body_point source cx point at of) false of.body w).of x stands,
            );
          };
        })

    body_sound : (point : Point) (at : At) (of : FunctionOf) (head : Headed) (x : Stood)
        (number : ℕ) → AreParams cx tags Calls at ([] ∷ point.scope) 0 of.head.params
        (in_body cx at point.scope of.head) head → StoodAnywhere point at of x
        → locals (head.slots ++ x.slots) (one_of x) ≤ LOCALS_LIMIT
        → DeclSound it cx Calls point (beyond point (objects_in of.body) 0)
        (bodied number at head x)
    body_sound point at of head x number p q few = record {
      sound = λ seen fits.
          let slots : List Slot = head.slots ++ x.slots in
          let count : ℕ = length head.slots in
          let place : Place = body_place it slots count in
          let whole = q.stood slots count in
          let here = path_there it cx Calls slots count point.scope seen in
          let params = p.stand (scope_at place [])
          (seen_inside cx Calls (scope_at place []) point.scope here)
          (sits_there [] head.slots x.slots) (omega arith) in
          let from : Point = body_point source cx point at of in
          let r : SubIn place [] from.slots false x =
          sub_in law place cx Calls known tags
          (tag_of cx of.head.tag) false from whole.0 x whole.1 []
          point.objects from.slots params.behind (omega (arith, params.count)) refl refl fits
          (sits_at slots count from.slots x.slots params.count (sits_last head.slots x.slots)) in
          record {
            objects = r.objects;
            bodies = (
              body_good it head.slots x.slots (one_of x) params.slots r.slots r.valid
                  (r.made_is ∙ ap (λ m. numbers_from m (length x.slots)) (sym params.count)) few
                  number at
                  x.returns,
              tt,
            );
            path = seen;
            at_objects = ap (λ m. point.objects + m) (sym q.counts);
          };
    }

    function_sound : source.automata ≡ it.automata → (point : Point) (at : At) (of : FunctionOf)
        (key : Key) → IsOwnHead of.head → IsWrittenStmt Calls of.body
        → Holds (DeclSound it cx Calls point (beyond point (objects_in of.body) 0))
        (function_with source cx point at of key)
    function_sound e point at of key h w =
        holds_unless _ (holds_both
        (params_stand cx tags Calls at ([] ∷ point.scope) 0 of.head.params h)
        (stood_anywhere e point at of w) (λ head x p q.
        when_holds (nat_le (locals (body_of head x).slots (body_of head x).stmt) LOCALS_LIMIT)
        (λ few. stands_itself _ _ (body_sound point at of head x _ p q (leb-true _ _ few)))
        (breaks_holds _ _)))

    bare_sound : (point : Point) (at : At) (head : tree.Head)
        → Holds (DeclSound it cx Calls point point) (bare_head source cx point at head)
    bare_sound point at head =
        holds_unless (head_parts cx at point.scope head)
        (holds_after (holds_all (head_rule cx at point.scope head))
        (λ x t. stands_itself _ _ (only_path point point x.warned refl (λ seen. seen))))

    decl_sound : source.automata ≡ it.automata → (point : Point) (decl : Decl)
        → IsWrittenDecl Calls decl
        → Holds (DeclSound it cx Calls point (behind_decl cx point decl))
        (decl_rule source cx point decl)
    decl_sound e point (Variables at of) w =
        holds_unless _ (globals_sound point at of.constant of.vars w)
    decl_sound e point (Constant at of) w = constant_sound point at of w
    decl_sound e point (Enum at name items) w =
        holds_after (holds_all (enum_rule cx point.scope at (tag_of cx name) items)) (λ warned t.
        stands_itself _ _ (only_path point _ warned refl (λ seen.
        enum_seen at (tag_of cx name) (tag_fits name) point.scope name items seen w)))
    decl_sound e point (Native at head) w =
        holds_also (native_name at head.name) (bare_sound point at head)
    decl_sound e point (Forward at is_public head) w =
        holds_also (shaped_key at _) (bare_sound point at head)
    decl_sound e point (Function at of) w =
        holds_also (shaped_key at (function_key source cx of))
        (function_sound e point at of (function_key source cx of) w.0 w.1)

    -- behind all declarations, wherever that is
    record AllSound (point : Point) (d : Done) : Type 0 where
      pub to : Point
      pub sound : DeclSound it cx Calls point to d

    declarations_sound : source.automata ≡ it.automata → (point : Point) (tree : Tree)
        → IsWrittenTree Calls tree
        → Holds (AllSound point) (declarations source cx point tree)
    unfolding declarations
    declarations_sound e point [] w =
        stands_itself _ nothing_done
        (record { to = point; sound = only_path point point [] refl (λ seen. seen) })
    declarations_sound e point (decl ∷ more) w =
        holds_both (decl_sound e point decl w.0)
        (declarations_sound e (behind_decl cx point decl) more w.1) (λ x y p q.
        stands_itself _ (done_behind x y) (record {
          to = q.to;
          sound = behind_done point (behind_decl cx point decl) q.to x y p q.sound;
        }))

pub bodies_valid : ExpressionsAreValid → BodiesAreValid
bodies_valid law it cx called source point tree done site w stands fits =
    let all =
    (declarations_sound law it cx (IsCalled called) site.around site.tags source
    site.automata
    point tree w).of done stands in
    let r = all.sound.sound site.path fits in
    record { objects = r.objects; bodies = r.bodies }

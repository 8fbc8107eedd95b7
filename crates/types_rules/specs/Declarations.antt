-- What each declaration at the level of the file is (Language Guide, "Declarations", "Functions").
use Rattle.std.specs.Prelude.{ℕ, ◌+◌, List, [], ◌∷◌, ◌++◌, Bool, false, nat_le, if◌then◌else◌, None}
use Rattle.std.specs.Prelude.{unwrap_or}
use Rattle.pawn_tree.specs.declared.name.At.{At}
use Rattle.pawn_tree.specs.declared.variable.Storage.TheVariants as storage
use Rattle.pawn_tree.specs.Variables.{Var}
use Rattle.pawn_tree.specs.Statements.{ConstantOf}
use Rattle.pawn_tree.specs.Declarations as tree
use Rattle.pawn_tree.specs.Declarations.{Decl, Variables, Constant, Enum, Native, Forward, Function}
use Rattle.pawn_tree.specs.Declarations.{Tree, FunctionOf}
use Rattle.pawn_meaning.specs.Program.{Slot, StaticObject, Body}
use Rattle.pawn_meaning.specs.declared.program_limits.TheConstants.{LOCALS_LIMIT}
use Rattle.pawn_meaning.specs.Need.{locals}
use Rattle.names_rules.specs.Verdict.{Verdict, Stands, after, both}
use Rattle.types_rules.specs.declared.fault.TheConstants.{BAD_OPERATOR, LIMIT_ARRAY}
use Rattle.types_rules.specs.Rule.{broken, also, pair, unless_faults}
use Rattle.types_rules.specs.Around.{Around}
use Rattle.types_rules.specs.Constants as constants
use Rattle.types_rules.specs.Points.{Point, tag_of, behind_var}
use Rattle.types_rules.specs.Stood.{Stood, Returned, one_of}
use Rattle.types_rules.specs.Locals.{local_by, vars_parts}
use Rattle.types_rules.specs.Statements.{stmt}
use Rattle.types_rules.specs.Params.{Headed, head_parts, head_rule, in_body}
use Rattle.types_rules.specs.Keys.{Key, Named, Operates, Enters, Misshapen, key_of}
use Rattle.types_rules.specs.Groups.{number_of}
use Rattle.pawn_tree.specs.declared.declaration.HeadName.{HeadName}
use Rattle.pawn_tree.specs.declared.declaration.HeadName.TheVariants as called
use Rattle.types_rules.specs.Enums.{enum_rule}
use Rattle.types_rules.specs.Paths.{behind_decl}
use Rattle.types_rules.specs.Sources.{Source}

-- a body with the number of its function, where that begins, and its returns
pub record Bodied : Type 0 where
  pub number : ℕ
  pub at : At
  pub params : List Slot
  pub body : Body
  pub returns : List Returned

-- the objects that declarations make, their bodies, and what they warn of, all in token order
pub record Done : Type 0 where
  pub objects : List StaticObject
  pub bodies : List Bodied
  pub warned : List At

-- two declarations one behind the other
abbrev pub done_behind : Done → Done → Done
done_behind x y =
    record {
      objects = x.objects ++ y.objects;
      bodies = x.bodies ++ y.bodies;
      warned = x.warned
          ++ y.warned;
    }

-- what only warns
abbrev pub warning : List At → Done
warning warned = record { objects = []; bodies = []; warned = warned }

-- before any declaration
abbrev pub nothing_done : Done
nothing_done = warning []

-- variables of the file make objects, and no body
abbrev pub objects_done : Stood → Done
objects_done x = record { objects = x.objects; bodies = []; warned = x.warned }

-- ---- functions

-- how many slots the parameters take
abbrev pub param_count : List tree.Param → ℕ
param_count [] = 0
param_count (tree.Plain constant reference tags name dims value ∷ more) = 1 + param_count more
param_count (tree.Rest at tags ∷ more) = param_count more

-- an operator has a head that some operator may have
abbrev pub shaped_key : At → Key → Verdict Key
shaped_key at (Named name) = Stands (Named name)
shaped_key at (Operates it) = Stands (Operates it)
shaped_key at (Enters name) = Stands (Enters name)
shaped_key at Misshapen = broken BAD_OPERATOR at

-- a native is no operator
abbrev pub native_name : At → HeadName → Verdict HeadName
native_name at (called.Name name) = Stands (called.Name name)
native_name at (called.Operator sign_at sign) = broken BAD_OPERATOR at

-- the body of a function: the slots of its parameters first, then those of its locals
abbrev pub body_of : Headed → Stood → Body
body_of head x = record { slots = head.slots ++ x.slots; stmt = one_of x }

-- a function that stands, by its number, its head and its body
abbrev pub bodied : ℕ → At → Headed → Stood → Done
bodied number at head x = record {
  objects = x.objects;
  bodies =
      record {
        number = number;
        at = at;
        params = head.slots;
        body = body_of head x;
        returns =
            x.returns;
      } ∷ [];
  warned = head.warned ++ x.warned;
}

-- the locals of a body are within the limit
abbrev pub within_locals : At → Body → Done → Verdict Done
within_locals at body it =
    if nat_le (locals body.slots body.stmt) LOCALS_LIMIT then Stands it else broken LIMIT_ARRAY at

module _ (source : Source) (cx : Around) where
  -- by the head and the classifier behind it
  abbrev pub function_key : FunctionOf → Key
  function_key it = key_of source.tags source.fallback it.head it.states

  -- where the body of a function begins
  abbrev pub body_point : Point → At → FunctionOf → Point
  body_point point at it = record {
    scope = in_body cx at point.scope it.head;
    objects = point.objects;
    slots = param_count it.head.params;
  }

  -- a function with its body, judged where what stands in head and body has no fault
  abbrev pub function_by : Point → At → FunctionOf → Key → Verdict Stood → Verdict Done
  function_by point at it key body =
      unless_faults (pair (head_parts cx at point.scope it.head) body)
      (both (head_rule cx at point.scope it.head) body (λ head x.
      within_locals at (body_of head x)
      (bodied (unwrap_or (number_of source.groups key) 0) at head x)))

  -- a function by its key, whose body gives values of the tag in its head
  abbrev pub function_with : Point → At → FunctionOf → Key → Verdict Done
  function_with point at it key =
      function_by point at it key
      (stmt cx source.automata (tag_of cx it.head.tag) (body_point point at it) false it.body)

  -- a function whose head says an operator that may be defined
  abbrev pub function_rule : Point → At → FunctionOf → Verdict Done
  function_rule point at it =
      also (shaped_key at (function_key it)) (function_with point at it (function_key it))

  -- a head without a body
  abbrev pub bare_head : Point → At → tree.Head → Verdict Done
  bare_head point at head =
      unless_faults (head_parts cx at point.scope head)
      (after (head_rule cx at point.scope head) (λ it. Stands (warning it.warned)))

  -- a forward declaration, whose head is tested as a function's is
  abbrev pub forward_rule : Point → At → tree.Head → Verdict Done
  forward_rule point at head =
      also (shaped_key at (key_of source.tags source.fallback head None)) (bare_head point at head)

  -- the declaration of a native function
  abbrev pub native_rule : Point → At → tree.Head → Verdict Done
  native_rule point at head =
      also (native_name at head.name) (bare_head point at head)

  -- ---- variables and constants

  -- variables of the file, each known behind its own value
  unfoldable pub globals : Point → At → Bool → List Var → Verdict Done
  globals point at constant [] = Stands nothing_done
  globals point at constant (x ∷ xs) =
      both (local_by cx point at storage.Static constant x x.dims)
      (globals (behind_var cx point at storage.Static constant x) at constant xs)
      (λ y more. Stands (done_behind (objects_done y) more))

  -- a `const` of the file, whose value is a constant expression
  abbrev pub global_constant : Point → At → ConstantOf → Verdict Done
  global_constant point at it =
      after (constants.constant cx point.scope at it.value) (λ x.
      Stands (warning (constants.constant_warned cx (tag_of cx it.tag) x)))

  -- ---- all declarations

  -- any declaration at a point of the file
  abbrev pub decl_rule : Point → Decl → Verdict Done
  decl_rule point (Variables at it) =
      unless_faults (vars_parts cx point at storage.Static it.constant it.vars)
      (globals point at it.constant it.vars)
  decl_rule point (Constant at it) = global_constant point at it
  decl_rule point (Enum at name items) =
      after (enum_rule cx point.scope at (tag_of cx name) items) (λ warned. Stands (warning warned))
  decl_rule point (Native at head) = native_rule point at head
  decl_rule point (Forward at is_public head) = forward_rule point at head
  decl_rule point (Function at it) = function_rule point at it

  -- the declarations of a source, each behind those before it
  unfoldable pub declarations : Point → Tree → Verdict Done
  declarations point [] = Stands nothing_done
  declarations point (decl ∷ more) =
      both (decl_rule point decl) (declarations (behind_decl cx point decl) more)
      (λ x y. Stands (done_behind x y))

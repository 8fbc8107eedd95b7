-- The heads of a source in order: those of natives, forwards and bodies.
use Rattle.std.specs.Prelude.{ℕ, List, [], ◌∷◌, ◌++◌, Bool, true, false, if◌then◌else◌, Option}
use Rattle.std.specs.Prelude.{None}
use Rattle.pawn_token.specs.Signs.{sign_spelling}
use Rattle.std.specs.Prelude.{codes}
use Rattle.pawn_tree.specs.declared.name.At.{At}
use Rattle.pawn_tree.specs.declared.name.StateName.{StateName}
use Rattle.pawn_tree.specs.declared.declaration.HeadName.{HeadName}
use Rattle.pawn_tree.specs.declared.declaration.HeadName.TheVariants as called
use Rattle.pawn_tree.specs.Declarations.{Head, Variables, Constant, Enum, Native, Forward, Function}
use Rattle.pawn_tree.specs.Declarations.{Tree}
use Rattle.types_rules.specs.Keys.{Key, Enters, same_key, key_of}
use Rattle.types_rules.specs.Keys as key
use Rattle.types_rules.specs.Groups.{is_entry}

-- what a head declares: a native, a function that is defined elsewhere, or one with a body
pub data Role : Type 0 where
  IsNative : Role
  IsForward : Role
  IsBody : Role

-- a head, the classifier behind it, and whether it says that it is public
pub record Heading : Type 0 where
  pub at : At
  pub role : Role
  pub is_public : Bool
  pub head : Head
  pub states : Option (List StateName)

-- the heads of all declarations, in token order
abbrev pub headings : Tree → List Heading
headings [] = []
headings (Variables at it ∷ more) = headings more
headings (Constant at it ∷ more) = headings more
headings (Enum at name items ∷ more) = headings more
headings (Native at head ∷ more) =
    record { at = at; role = IsNative; is_public = false; head = head; states = None }
    ∷ headings more
headings (Forward at is_public head ∷ more) =
    record { at = at; role = IsForward; is_public = is_public; head = head; states = None }
    ∷ headings more
headings (Function at it ∷ more) =
    record { at = at; role = IsBody; is_public = it.is_public; head = it.head; states = it.states }
    ∷ headings more

-- the name of a function, as it is public under
abbrev pub public_name : HeadName → List ℕ
public_name (called.Name name) = name.bytes
public_name (called.Operator at sign) = codes "operator" ++ sign_spelling sign

-- ---- which function a head is of

-- the key is of an entry function of states
abbrev pub is_enters : Key → Bool
is_enters (Enters name) = true
is_enters (key.Named name) = false
is_enters (key.Operates it) = false
is_enters key.Misshapen = false

module _ (names : List (List ℕ)) (fallback : List ℕ) where
  -- the function that a head with its classifier is of
  abbrev pub heading_key : Heading → Key
  heading_key it = key_of names fallback it.head it.states

  -- a forward of `entry` is of every entry function
  abbrev pub forward_of : Key → Heading → Bool
  forward_of key it = if is_entry it.head.name then is_enters key else same_key key (heading_key it)

  -- a head is of a function by its role: that of a native is of none
  abbrev pub is_of : Key → Heading → Role → Bool
  is_of key it IsNative = false
  is_of key it IsForward = forward_of key it
  is_of key it IsBody = same_key key (heading_key it)

  -- a head of the source is one of this function
  abbrev pub belongs : Key → Heading → Bool
  belongs key it = is_of key it it.role

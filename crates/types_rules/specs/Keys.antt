-- Which function a head is of: one by its name, an operator by its sign and the tags of its
-- operands, the entry function of an automaton (Language Guide, "Functions", "User-defined
-- operators", "Automata").
use Rattle.std.specs.Prelude.{ℕ, List, [], ◌∷◌, codes, Bool, false, ◌&&◌, if◌then◌else◌, length}
use Rattle.std.specs.Prelude.{nat_eq, Option, None, Some}
use Rattle.std.specs.Str.{bytes_eq}
use Rattle.pawn_tree.specs.declared.name.StateName.{StateName}
use Rattle.pawn_tree.specs.declared.declaration.HeadName.{HeadName}
use Rattle.pawn_tree.specs.declared.declaration.HeadName.TheVariants as called
use Rattle.pawn_tree.specs.Declarations.{Head}
use Rattle.pawn_tags.specs.Tags.{untagged}
use Rattle.pawn_tags.specs.Overloads.{is_for}
use Rattle.pawn_tags.specs.declared.op.Op.{Op}
use Rattle.pawn_tags.specs.declared.op.Op.TheVariants as op
use Rattle.pawn_tags.specs.declared.op.Signature.{Signature}
use Rattle.names_rules.specs.Overloads.{op_of, tag_number, plain_tags}
use Rattle.types_rules.specs.Clauses.{clause}

-- what tells one function from others
pub data Key : Type 0 where
  Named : List ℕ → Key
  Operates : Signature → Key
  Enters : List ℕ → Key
  -- a head that no operator may have
  Misshapen : Key

-- ---- operators

-- one of its tags is another than `_`
abbrev pub signature_between : Op → ℕ → ℕ → Option Signature
signature_between it left right =
    if nat_eq left untagged && nat_eq right untagged then None
    else Some (record { op = it; left = left; right = right })

-- by the tags of the result and of the plain parameters
abbrev pub signature_of : Option Op → ℕ → Option (List ℕ) → Option Signature
signature_of (Some op.Assign) result (Some (value ∷ [])) = signature_between op.Assign value result
signature_of (Some it) result (Some (operand ∷ [])) = signature_between it operand untagged
signature_of (Some it) result (Some (left ∷ right ∷ [])) = signature_between it left right
signature_of _ result _ = None

-- an operator by what it may be defined for
abbrev pub operator_key : Option Signature → Key
operator_key None = Misshapen
operator_key (Some it) = Operates it

-- ---- entry functions

-- what a function is called that runs where an automaton enters a state
abbrev pub entry_name : List ℕ
entry_name = codes "entry"

-- the automaton that a body named `entry` names; a fallback is of the one that is given
abbrev pub entered_automaton : List ℕ → Option (List StateName) → List ℕ
entered_automaton fallback None = []
entered_automaton fallback (Some []) = fallback
entered_automaton fallback (Some (it ∷ more)) = (clause (it ∷ more)).automaton

-- a head with a name: an entry function of its automaton, else the function of that name
abbrev pub name_key : List ℕ → List ℕ → Option (List StateName) → Key
name_key fallback name states =
    if bytes_eq name entry_name then Enters (entered_automaton fallback states) else Named name

-- ---- all functions

-- with the names of tags, and the automaton of an entry function's fallback
abbrev pub key_by : List (List ℕ) → List ℕ → Head → Option (List StateName) → HeadName → Key
key_by names fallback head states (called.Name name) = name_key fallback name.bytes states
key_by names fallback head states (called.Operator at sign) =
    let it : Option Op = op_of sign (length head.params) in
    operator_key (signature_of it (tag_number names head.tag) (plain_tags names head.params))

-- which function a head is of, by the classifier behind it
abbrev pub key_of : List (List ℕ) → List ℕ → Head → Option (List StateName) → Key
key_of names fallback head states = key_by names fallback head states head.name

-- two keys are of one function; a head that no operator may have is like no other
abbrev pub same_key : Key → Key → Bool
same_key (Named x) (Named y) = bytes_eq x y
same_key (Operates x) (Operates y) = is_for x.op x.left x.right y
same_key (Enters x) (Enters y) = bytes_eq x y
same_key _ _ = false

-- What is known everywhere in a tree: its tags, the operators that it defines, its functions, and
-- the predefined constants.
use Rattle.std.specs.Prelude.{ℕ, Bool, true, false, ◌&&◌, if◌then◌else◌, List, [], ◌∷◌, Option}
use Rattle.std.specs.Prelude.{Some, None, option_map}
use Rattle.std.specs.Option.{option_or}
use Rattle.std.specs.List.{list_any}
use Rattle.std.specs.Str.{bytes_eq}
use Rattle.pawn_base.specs.Among.{with_name}
use Rattle.pawn_cells.specs.declared.constant.Constant.{Constant}
use Rattle.pawn_cells.specs.Constants.{predefined}
use Rattle.pawn_tags.specs.Tags.{first_names, untagged}
use Rattle.pawn_tags.specs.Overloads.{Overloads}
use Rattle.pawn_tree.specs.Declarations.{Tree}
use Rattle.names_rules.specs.Verdict.{Stands}
use Rattle.names_rules.specs.Mark.{Mark, Opens, Closes, Mentions, Uses, Declares}
use Rattle.names_rules.specs.TreeMarks.{tree_marks}
use Rattle.names_rules.specs.FileNames.{FileName, Role, Value, Native', Forward', Body, file_names}
use Rattle.names_rules.specs.Overloads.{tag_number, overloads_of}
use Rattle.names_rules.specs.Known as known
use Rattle.names_rules.specs.Known.{Known}

-- tags, operators and names that no place of the tree changes
pub record Around : Type 0 where
  pub tags : List (List ℕ)
  pub overloads : Overloads
  -- the names outside all functions, with the latest first
  pub names : List FileName

-- ---- tags

-- the tags in the order in which they are first mentioned, `_` and `bool` before all others
abbrev pub tags_of : List Mark → List (List ℕ)
tags_of [] = first_names
tags_of (Opens ∷ before) = tags_of before
tags_of (Closes ∷ before) = tags_of before
tags_of (Mentions tag ∷ before) = with_name (tags_of before) tag
tags_of (Uses use_here ∷ before) = tags_of before
tags_of (Declares it ∷ before) = tags_of before

-- the number of `bool`
abbrev pub truth_tag : ℕ
truth_tag = 1

-- ---- functions

-- a native or a body
abbrev pub is_defined : Role → Bool
is_defined Value = false
is_defined Native' = true
is_defined Forward' = false
is_defined (Body classified) = true

-- the name is a function's
abbrev pub is_function : Role → Bool
is_function Value = false
is_function Native' = true
is_function Forward' = true
is_function (Body classified) = true

-- some body, or a native, has the name
abbrev pub defines : List FileName → List ℕ → Bool
defines names name = list_any (λ x. is_defined x.role && bytes_eq x.name.bytes name) names

-- the first head of a name; the names stand with the latest first
abbrev pub first_head : List FileName → List ℕ → Option FileName
first_head [] name = None
first_head (x ∷ before) name =
    option_or (first_head before name)
    (if is_function x.role && bytes_eq x.name.bytes name then Some x else None)

-- a function is declared where it first stands; one that is only declared forward isn't
abbrev pub function_named : List FileName → List ℕ → Option FileName
function_named names name = if defines names name then first_head names name else None

-- what is known of a function: its token, and the tag of what it gives
abbrev pub function : List (List ℕ) → FileName → Known
function tags x = record {
  token = Some x.name.at.token;
  tag = tag_number tags x.tag;
  kind = known.Function;
}

-- ---- predefined constants

-- `bool` for a truth value, else none
abbrev pub constant_tag : Bool → ℕ
constant_tag is_bool = if is_bool then truth_tag else untagged

-- what is known of a predefined constant, which no token declares
abbrev pub constant : Constant → Known
constant x = record {
  token = None;
  tag = constant_tag x.is_bool;
  kind = known.Worth (Stands x.value);
}

-- ---- both

-- what a name means that no declaration before it in a block or outside all functions has
abbrev pub everywhere : Around → List ℕ → Option Known
everywhere around name =
    option_or (option_map (function around.tags) (function_named around.names name))
    (option_map constant (predefined name))

-- what is known everywhere in this tree
abbrev pub around_of : Tree → Around
around_of tree = record {
  tags = tags_of (tree_marks tree);
  overloads = overloads_of (tags_of (tree_marks tree)) tree [];
  names = file_names tree;
}

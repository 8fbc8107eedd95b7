-- The names outside all functions as code holds them: what stands under each.
use Rattle.std.specs.Prelude.{◌≡◌, ℕ, Bool, true, false, ◌||◌, if◌then◌else◌, List, Option, Some}
use Rattle.std.specs.Prelude.{None, option_map}
use Rattle.std.specs.Option.{option_or}
use Rattle.std.specs.Borrow.{Bor}
use Rattle.std.specs.Str.{bytes_eq}
use Rattle.std.specs.Map.{lookup}
use Rattle.names_rules.specs.FileNames as plain
use Rattle.names_rules.specs.FileNames.{FileName}
use Rattle.names_rules.specs.Around.{is_defined, is_function, first_head, defines}
use Rattle.names_rules.specs.Overloads.{tag_number}
use Rattle.names_rules.specs.Taken.{is_alone, is_single, is_taken, is_taken_by}
use Rattle.names_sight.specs.declared.outside.FirstHead.{FirstHead}
use Rattle.names_sight.specs.declared.outside.Role.{Role}
use Rattle.names_sight.specs.declared.outside.Role.TheVariants as role
use Rattle.names_sight.specs.declared.outside.Seen.{Seen}

-- for each name what has been declared under it
abbrev pub Table : Type 0
Table = List (Bor (List ℕ) × Seen)

-- what stands under a name
abbrev pub seen_in : Table → List ℕ → Option Seen
seen_in table name = lookup (λ key. bytes_eq name key.now) table

-- the first head of a name that is a function's with a body, or a native's
abbrev pub head_in : Option Seen → Option FirstHead
head_in None = None
head_in (Some seen) = if seen.defined then seen.head else None

-- the head of the function of a name: a body or a native has to stand there
abbrev pub function_in : Table → List ℕ → Option FirstHead
function_in table name = head_in (seen_in table name)

-- what a name outside functions stands for
abbrev pub role_view : Role → plain.Role
role_view role.Value = plain.Value
role_view role.Native = plain.Native'
role_view role.Forward = plain.Forward'
role_view (role.Body classified) = plain.Body classified

-- ---- what is to stand under a name

-- the number of the tag that is written before a name
abbrev pub tag_of : List (List ℕ) → FileName → ℕ
tag_of tags x = tag_number tags x.tag

-- the token and the tag of a function's name
abbrev pub head_of : List (List ℕ) → Option FileName → Option FirstHead
head_of tags x = option_map (λ x. record { token = x.name.at.token; tag = tag_number tags x.tag }) x

-- what these declarations make of a name
abbrev pub seen_of : List (List ℕ) → List FileName → List ℕ → Option Seen
seen_of tags names name =
    if is_taken names name then Some (record {
      alone = is_taken_by is_alone names name;
      plain = is_taken_by is_single names name;
      defined = defines names name;
      head = head_of tags (first_head names name);
    })
    else None

-- the table holds these names
pub record Holds (tags : List (List ℕ)) (names : List FileName) (table : Table) : Type 0 where
  pub seen : (name : List ℕ) → seen_in table name ≡ seen_of tags names name

-- ---- one more

-- whether it may not stand with those that are seen
abbrev pub clash_seen : plain.Role → Seen → Bool
clash_seen plain.Value seen = true
clash_seen plain.Native' seen = true
clash_seen plain.Forward' seen = seen.alone
clash_seen (plain.Body true) seen = seen.alone
clash_seen (plain.Body false) seen = seen.alone || seen.plain

-- under a name that isn't declared
abbrev pub nothing_seen : Seen
nothing_seen = record { alone = false; plain = false; defined = false; head = None }

-- those that are seen, with one more that has this head if it is a function
abbrev pub with_role : Seen → plain.Role → FirstHead → Seen
with_role seen role head = record {
  alone = is_alone role || seen.alone;
  plain = is_single role || seen.plain;
  defined = is_defined role || seen.defined;
  head = option_or seen.head (if is_function role then Some head else None);
}

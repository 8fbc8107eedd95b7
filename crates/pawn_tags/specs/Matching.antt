-- Whether a value of one tag may stand where another tag is wanted (Language Guide, "Tag names",
-- on strong and weak tags), by rows: one for the formal tag `_`, one for each other formal tag.
use Rattle.std.specs.Prelude.{ℕ, List, Bool, true, false, nat_eq, if◌then◌else◌}
use Rattle.std.specs.List.{list_any}
use Rattle.pawn_tags.specs.Tags.{untagged, is_strong}

-- what the actual tag is, seen from the formal one
pub data Actual : Type 0 where
  Same : Actual
  Untagged : Actual
  OtherWeak : Actual
  OtherStrong : Actual

-- two tags compared: the names of all tags tell which are strong
abbrev pub actual_of : List (List ℕ) → ℕ → ℕ → Actual
actual_of names formal actual =
    if nat_eq formal actual then Same
    else (if nat_eq actual untagged then Untagged
    else (if is_strong names actual then OtherStrong else OtherWeak))

-- the row of `_`
abbrev pub untagged_takes : Actual → Bool
untagged_takes Same = true
untagged_takes Untagged = true
untagged_takes OtherWeak = true
untagged_takes OtherStrong = false

-- the row of another tag
abbrev pub tag_takes : Actual → Bool
tag_takes Same = true
tag_takes Untagged = false
tag_takes OtherWeak = false
tag_takes OtherStrong = false

-- a value of one tag may stand where another tag is wanted, without a warning
abbrev pub takes : List (List ℕ) → ℕ → ℕ → Bool
takes names formal actual =
    if nat_eq formal untagged then untagged_takes (actual_of names formal actual)
    else tag_takes (actual_of names formal actual)

-- a set of tags takes what one of its tags takes
abbrev pub matches : List (List ℕ) → List ℕ → ℕ → Bool
matches names formal actual = list_any (λ tag. takes names tag actual) formal

-- What is shown of a slot, where it has an argument.
use Rattle.std.specs.Prelude.{ℕ, Option, None, Some}
use Rattle.check_calls.specs.declared.filling.Filled.{Filled}
use Rattle.check_calls.specs.declared.filling.Filled.TheVariants.{Argument, Default}
use Rattle.check_calls.specs.declared.defaults.Shown.{Shown}

-- the size and the tag of an argument, for defaults by `sizeof` and `tagof`
abbrev pub shown_in : Option Filled → Option Shown
shown_in None = None
shown_in (Some (Argument it)) = Some (record { size = it.size; tag = it.tag })
shown_in (Some Default) = None

-- the size of what a parameter got: without an argument 1
abbrev pub size_shown : Option (Option Shown) → ℕ
size_shown None = 1
size_shown (Some None) = 1
size_shown (Some (Some it)) = it.size

-- its tag: without an argument the parameter's own
abbrev pub tag_shown : ℕ → Option (Option Shown) → ℕ
tag_shown own None = own
tag_shown own (Some None) = own
tag_shown own (Some (Some it)) = it.tag

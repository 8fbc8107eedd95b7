-- What a name outside all functions is taken by, which tells whether one more of it may stand.
use Rattle.std.specs.Prelude.{ℕ, Bool, true, false, not, ◌&&◌, ◌||◌, List}
use Rattle.std.specs.List.{list_any}
use Rattle.std.specs.Str.{bytes_eq}
use Rattle.names_rules.specs.FileNames.{FileName, Role, Value, Native', Forward', Body}

-- a value or a native, which stands alone
abbrev pub is_alone : Role → Bool
is_alone Value = true
is_alone Native' = true
is_alone Forward' = false
is_alone (Body classified) = false

-- a body without a classifier
abbrev pub is_single : Role → Bool
is_single Value = false
is_single Native' = false
is_single Forward' = false
is_single (Body classified) = not classified

-- something has the name
abbrev pub is_taken : List FileName → List ℕ → Bool
is_taken before name = list_any (λ x. bytes_eq name x.name.bytes) before

-- something of a kind has it
abbrev pub is_taken_by : (Role → Bool) → List FileName → List ℕ → Bool
is_taken_by kind before name = list_any (λ x. bytes_eq name x.name.bytes && kind x.role) before

-- whether one more clashes
abbrev pub clashes : List FileName → FileName → Role → Bool
clashes before x Value = is_taken before x.name.bytes
clashes before x Native' = is_taken before x.name.bytes
clashes before x Forward' = is_taken_by is_alone before x.name.bytes
clashes before x (Body true) = is_taken_by is_alone before x.name.bytes
clashes before x (Body false) =
    is_taken_by is_alone before x.name.bytes || is_taken_by is_single before x.name.bytes

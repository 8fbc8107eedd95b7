-- The marks of parts one behind another, and of a part that may be left out.
use Rattle.std.specs.Prelude.{List, [], ◌∷◌, Option, Some, None}
use Rattle.names_rules.specs.Mark.{Mark}

-- of these parts in order
abbrev pub all_marks : {A : Type 0} → (A → List Mark → List Mark) → List A → List Mark → List Mark
all_marks marks [] before = before
all_marks marks (x ∷ xs) before = all_marks marks xs (marks x before)

-- none where the part is left out
abbrev pub maybe_marks : {A : Type 0} → (A → List Mark → List Mark) → Option A → List Mark
    → List Mark
maybe_marks marks None before = before
maybe_marks marks (Some x) before = marks x before

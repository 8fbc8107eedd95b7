-- Names of records (Implementer's Guide, "File format"): each ends before a zero byte, and names may
-- share bytes.
use Rattle.std.specs.Prelude.{ℕ, zero, suc, List, [], ◌∷◌, Option, None, Some, drop}

-- the bytes before the first zero
abbrev pub name_from : List ℕ → List ℕ
name_from [] = []
name_from (zero ∷ bytes) = []
name_from (suc byte ∷ bytes) = suc byte ∷ name_from bytes

-- a name in bytes: all of them, or those from a place on up to a zero
abbrev pub name_in : List ℕ → Option ℕ → List ℕ
name_in text None = text
name_in text (Some start) = name_from (drop start text)

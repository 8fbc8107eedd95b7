-- Lines without their blanks, and the word in front (Language Guide, "General syntax").
use Rattle.std.specs.Prelude.{ℕ, ◌-◌, List, length, take}
use Rattle.std.specs.List.{suffix_len}
use Rattle.pawn_token.specs.declared.class.Class.TheVariants as class
use Rattle.pawn_token.specs.Class as bytes_of
use Rattle.pawn_token.specs.Class.{is_in}
-- without the blanks in front
pub use Rattle.pawn_token.specs.Kinds.{past_blanks}

-- without the blanks at the end
abbrev pub without_end : List ℕ → List ℕ
without_end bytes = take (length bytes - suffix_len (is_in class.Blank) bytes) bytes

-- without the blanks at both ends
abbrev pub trimmed : List ℕ → List ℕ
trimmed bytes = without_end (past_blanks bytes)

-- the word in front: letters, digits, `_` and `@`
abbrev pub front_word : List ℕ → List ℕ
front_word bytes = bytes_of.run class.NameByte bytes

-- what stands behind that word
abbrev pub behind_word : List ℕ → List ℕ
behind_word bytes = bytes_of.after class.NameByte bytes

-- Directives: a line whose first byte behind blanks is `#` (Language Guide, "Directives").
use Rattle.std.specs.Prelude.{ℕ, codes, Option, Some, None, List, [], ◌∷◌, if◌then◌else◌, ◌==◌}
use Rattle.std.specs.Str.{bytes_eq}
use Rattle.pawn_pre.specs.declared.directive.Word.{Word}
use Rattle.pawn_pre.specs.declared.directive.Word.TheVariants as word
use Rattle.pawn_pre.specs.declared.directive.Setting.{Setting}
use Rattle.pawn_pre.specs.declared.directive.Setting.TheVariants as setting
use Rattle.pawn_pre.specs.Blanks.{past_blanks, front_word, behind_word}

-- a word in front, and the bytes behind it
pub record Directive : Type 0 where
  pub word : Word
  pub rest : List ℕ

-- the directive of a word
abbrev pub word_named : List ℕ → Word
word_named name =
    if bytes_eq name (codes "define") then word.Define
    else (if bytes_eq name (codes "undef") then word.Undef
    else (if bytes_eq name (codes "if") then word.If
    else (if bytes_eq name (codes "elseif") then word.ElseIf
    else (if bytes_eq name (codes "else") then word.Else
    else (if bytes_eq name (codes "endif") then word.Endif
    else (if bytes_eq name (codes "include") then word.Include
    else (if bytes_eq name (codes "tryinclude") then word.TryInclude
    else (if bytes_eq name (codes "error") then word.Error
    else (if bytes_eq name (codes "assert") then word.Assert
    else (if bytes_eq name (codes "endinput") then word.Endinput
    else (if bytes_eq name (codes "pragma") then word.Pragma else word.Unknown)))))))))))

-- the word in front, and what stands behind it
abbrev pub worded : List ℕ → Directive
worded bytes = record { word = word_named (front_word bytes); rest = behind_word bytes }

-- behind blanks a `#` begins a directive
abbrev pub behind_hash : List ℕ → Option Directive
behind_hash [] = None
behind_hash (b ∷ rest) = if b == 35 then Some (worded (past_blanks rest)) else None

-- the directive that a line is
abbrev pub directive : List ℕ → Option Directive
directive line = behind_hash (past_blanks line)

-- the word behind `#pragma`
pub record Pragma : Type 0 where
  pub setting : Setting
  pub rest : List ℕ

-- what the word of a `#pragma` sets
abbrev pub setting_named : List ℕ → Setting
setting_named name =
    if bytes_eq name (codes "semicolon") then setting.Semicolon
    else (if bytes_eq name (codes "pack") then setting.Pack
    else (if bytes_eq name (codes "ctrlchar") then setting.Control
    else (if bytes_eq name (codes "dynamic") then setting.Dynamic else setting.Other)))

-- the word in front, and what stands behind it
abbrev pub pragma : List ℕ → Pragma
pragma rest =
    let bytes = past_blanks rest in
    record { setting = setting_named (front_word bytes); rest = behind_word bytes }

-- a byte between `'` and `'`
abbrev pub quoted_byte : List ℕ → Option ℕ
quoted_byte [] = None
quoted_byte (a ∷ []) = None
quoted_byte (a ∷ b ∷ []) = None
quoted_byte (a ∷ b ∷ c ∷ rest) = if a == 39 then (if c == 39 then Some b else None) else None

-- `defined NAME` in a condition is replaced by `1` or `0` (Language Guide, "Directives", on `#if`).
use Rattle.std.specs.Prelude.{ℕ, zero, suc, ◌-◌, ◌==◌, codes, is_some, Option, Some, None}
use Rattle.std.specs.Prelude.{List, [], ◌∷◌, length, Bool, if◌then◌else◌}
use Rattle.std.specs.Str.{bytes_eq}
use Rattle.std.specs.FinMap.{get}
use Rattle.pawn_pre.specs.declared.quote.Quote.{Quote}
use Rattle.pawn_token.specs.declared.class.Class.TheVariants as class
use Rattle.pawn_token.specs.Class.{is_in}
use Rattle.pawn_pre.specs.Blanks.{past_blanks, front_word, behind_word}
use Rattle.pawn_pre.specs.Quote.{quote_after}
use Rattle.pawn_pre.specs.Table.{Rules}
use Rattle.pawn_pre.specs.Define as define
use Rattle.pawn_pre.specs.Substitution.{begins_whole_name}

-- a name that is asked for, and the bytes behind it
pub record Asked : Type 0 where
  pub name : List ℕ
  pub rest : List ℕ

-- such a name and bytes
abbrev pub asked : List ℕ → List ℕ → Asked
asked name rest = record { name = name; rest = rest }

-- a name in front
abbrev pub bare : List ℕ → Option Asked
bare bytes =
    if define.begins_name bytes then Some (asked (front_word bytes) (behind_word bytes)) else None

-- a name behind which `)` has to stand
abbrev pub closed_by : List ℕ → List ℕ → Option Asked
closed_by name [] = None
closed_by name (b ∷ rest) = if b == 41 then Some (asked name rest) else None

-- the same, behind blanks
abbrev pub closed : Option Asked → Option Asked
closed None = None
closed (Some a) = closed_by a.name (past_blanks a.rest)

-- in one pair of parentheses or in none
abbrev pub asked_by : List ℕ → Option Asked
asked_by [] = bare []
asked_by (b ∷ rest) = if b == 40 then closed (bare (past_blanks rest)) else bare (b ∷ rest)

-- what stands behind the word, behind blanks
abbrev pub asked_behind : List ℕ → Option Asked
asked_behind bytes = asked_by (past_blanks bytes)

-- `defined` and a name
abbrev pub defined_at : List ℕ → Option Asked
defined_at bytes =
    if bytes_eq (front_word bytes) (codes "defined") then asked_behind (behind_word bytes) else None

-- `1` or `0`
abbrev pub digit : Rules → List ℕ → ℕ
digit rules name = if is_some (get rules name) then 49 else 48

-- a byte of the text, or the digit in the place of `defined` and its name
abbrev pub answer_then : Rules → ℕ → List ℕ → Option Asked → (ℕ → List ℕ) → List ℕ
answer_then rules b rest None go_on = b ∷ go_on 0
answer_then rules b rest (Some a) go_on =
    digit rules a.name ∷ go_on (length rest - length a.rest)

-- one pass outside literals; the first few bytes may belong to one that was replaced
unfoldable pub answered : Rules → ℕ → Quote → Bool → ℕ → List ℕ → List ℕ
answered rules control quote joined left [] = []
answered rules control quote joined (suc left) (b ∷ rest) =
    answered rules control (quote_after control quote b) (is_in class.NameByte b) left rest
answered rules control quote joined zero (b ∷ rest) =
    answer_then rules b rest
    (if begins_whole_name quote joined b then defined_at (b ∷ rest) else None)
    (λ left. answered rules control (quote_after control quote b)
    (is_in class.NameByte b) left rest)

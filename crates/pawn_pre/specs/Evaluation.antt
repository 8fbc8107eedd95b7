-- The value of a condition under definitions: each `defined NAME` is replaced, the text is
-- expanded, and what is then there is read as an expression (Language Guide, "Directives", on
-- `#if`).
use Rattle.std.specs.Prelude.{ℕ, ℤ, Option, Some, None, Result, Ok, Err, List, length, false}
use Rattle.std.specs.Prelude.{if◌then◌else◌}
use Rattle.pawn_pre.specs.declared.quote.Quote.TheVariants.{Outside}
use Rattle.pawn_pre.specs.Table.{Rules}
use Rattle.pawn_pre.specs.Defined.{answered}
use Rattle.pawn_pre.specs.Substitution.{is_long, expanded}

-- what follows a value, or its fault
abbrev pub proceed : {A B : Type 0} → Result A ℕ → (A → Result B ℕ) → Result B ℕ
proceed (Ok a) go_on = go_on a
proceed (Err kind) go_on = Err kind

-- what there is, or a fault
abbrev pub or_fault : {A : Type 0} → ℕ → Option A → Result A ℕ
or_fault kind None = Err kind
or_fault kind (Some a) = Ok a

-- what each text comes to under a control character
abbrev pub Value : Type 0
Value = ℕ → List ℕ → Option ℤ

-- fault 11 where no expression with a value stands
abbrev pub number : Value → Rules → ℕ → List ℕ → Result ℤ ℕ
number value rules control bytes =
    proceed (expanded rules control bytes) (λ line. or_fault 11 (value control line))

-- the length counts before `defined` is replaced, too
abbrev pub condition : Value → Rules → ℕ → List ℕ → Result ℤ ℕ
condition value rules control bytes =
    if is_long (length bytes) then Err 9
    else number value rules control (answered rules control Outside false 0 bytes)

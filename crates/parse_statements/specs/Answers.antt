-- What the code gives, seen as what the definitions give.
use Rattle.std.specs.Prelude.{◌≡◌, ℕ, suc, ◌≤◌, ◌<◌, true, false, List, length, Option, Some, None}
use Rattle.std.specs.Prelude.{Result, Ok, Err, nat_le}
use Rattle.pawn_token.specs.declared.sign.Sign.{Sign}
use Rattle.pawn_lex.specs.declared.token.Token.{Token}
use Rattle.std.specs.declared.boxed.Box.{Box}
use Rattle.std.specs.declared.alloc.Global.{Global}
use Rattle.pawn_tree.specs.Expressions.{Arg, Link}
use Rattle.pawn_tree.specs.View.{expr_view, arg_view, link_view}
use Rattle.pawn_tree.specs.declared.expression.Arg as held_arg
use Rattle.pawn_tree.specs.declared.expression.Link as held_link
use Rattle.tree_rules.specs.declared.word.Word.{Word}
use Rattle.tree_rules.specs.declared.word.Word.TheVariants as w
use Rattle.tree_rules.specs.Tokens.{sees}
use Rattle.tree_rules.specs.Readers as plain
use Rattle.tree_rules.specs.ReadExpressions.{Parsed}
use Rattle.parse_statements.specs.declared.part.Part as held_part
use Rattle.parse_statements.specs.declared.part.Got as held
use Rattle.parse_statements.specs.declared.read_fault.ReadFault.{ReadFault}
use Rattle.parse_statements.specs.declared.read_fault.ReadFault.TheVariants.{Syntax, Memory}

-- The answer is what the definition gives on these tokens, as the view has it, and `Syntax` where
-- that is none. Want of memory says nothing.
abbrev pub Answers : {A B : Type 0} → List Token → (A → B) → Option B → Result A ReadFault → Type 0
Answers ts view outcome (Ok x) = outcome ≡ Some (view x)
Answers ts view outcome (Err (Syntax at)) = (outcome ≡ None) × (at ≤ length ts)
Answers ts view outcome (Err Memory) = Unit

-- an expression without its box
abbrev pub part_view : held_part.Part → Parsed
part_view x =
    record { tree = expr_view x.tree.value; level = x.level; height = x.height; stop = x.stop }

-- what was read, as the view has it
abbrev pub got_view : {A B : Type 0} → (A → B) → held.Got A → plain.Got B
got_view view x = record { tree = view x.tree; height = x.height; stop = x.stop }

-- what was read, where its view is itself
abbrev pub as_is : {A : Type 0} → held.Got A → plain.Got A
as_is = got_view (λ x. x)

-- an argument, or a comparison, without its box
abbrev pub arg_view_in : Box held_arg.Arg Global → Arg
arg_view_in b = arg_view b.value

-- a comparison of a chain in its box
abbrev pub link_view_in : Box held_link.Link Global → Link
link_view_in b = link_view b.value

-- the token behind a sign, or `Syntax` where that doesn't stand there
abbrev pub Expects : List Token → Sign → ℕ → Result ℕ ReadFault → Type 0
Expects ts c i (Ok j) = (sees ts c i ≡ true) × (j ≡ suc i) × (j ≤ length ts)
Expects ts c i (Err (Syntax at)) = (sees ts c i ≡ false) × (at ≤ length ts)
Expects ts c i (Err Memory) = ⊥

-- the height of a node above so many levels, at most d, or `Syntax` at one of n tokens
abbrev pub Rises : (n d under : ℕ) → Result ℕ ReadFault → Type 0
Rises n d under (Ok height) = (nat_le under d ≡ true) × (height ≡ suc under)
Rises n d under (Err (Syntax at)) = (nat_le under d ≡ false) × (at ≤ n)
Rises n d under (Err Memory) = ⊥

-- `Syntax` at one of n tokens, or behind the last one
abbrev pub IsStuck : ℕ → ReadFault → Type 0
IsStuck n (Syntax at) = at ≤ n
IsStuck n Memory = ⊥

-- what isn't absent stands before the end
abbrev pub IsInside : ℕ → ℕ → Word → Type 0
IsInside n i w.Absent = Unit
IsInside n i _ = i < n

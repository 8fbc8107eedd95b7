-- The parser of expressions, as definitions.
use Rattle.std.specs.Prelude.{ℕ, zero, suc, ◌-◌, max, Bool, true, false, not, ◌&&◌, nat_le, nat_lt}
use Rattle.std.specs.Prelude.{if◌then◌else◌, List, [], ◌∷◌, ◌++◌, length, Option, Some, None}
use denote.Enum.Bare.{sameb}
use Rattle.pawn_token.specs.declared.sign.Sign.{Sign}
use Rattle.pawn_token.specs.declared.sign.Sign.TheVariants as sign
use Rattle.pawn_token.specs.declared.key.Key.TheVariants as key
use Rattle.pawn_token.specs.contracts.sign.Sign as signs
use Rattle.pawn_lex.specs.declared.token.Token.{Token}
use Rattle.pawn_tree.specs.Expressions.{Expr, Arg, Link, args, links}
use Rattle.pawn_tree.specs.Expressions as e
use Rattle.pawn_tree.specs.declared.expression.SizeofOperand.{SizeofOperand}
use Rattle.pawn_tree.specs.declared.expression.SizeofOperand.TheVariants as sizeof_operand
use Rattle.pawn_tree.specs.declared.expression.TagofOperand.{TagofOperand}
use Rattle.pawn_tree.specs.declared.expression.TagofOperand.TheVariants as tagof_operand
use Rattle.tree_rules.specs.declared.word.Word.{Word}
use Rattle.tree_rules.specs.declared.word.Word.TheVariants as w
use Rattle.tree_rules.specs.declared.joint.Joint.{Joint}
use Rattle.tree_rules.specs.declared.joint.Joint.TheVariants as joint
use Rattle.tree_rules.specs.Tokens.{word, sees, spelling, is_packed, value, at, name_at, text_at}
use Rattle.tree_rules.specs.Tokens.{is_first, is_name, is_blank_word, is_tag}
use Rattle.tree_rules.specs.Levels.{joint_of, is_prefix, binds, calls, compares}
use Rattle.tree_rules.specs.Expressions.{behind_brackets}
use Rattle.tree_rules.specs.Readers.{Got, got, Reader, ◌>>=◌, guard, many}

-- an expression that was read: the tree, its level, its height, and the token behind it
pub record Parsed : Type 0 where
  pub tree : Expr
  pub level : ℕ
  pub height : ℕ
  pub stop : ℕ

-- an expression with its level and its height, up to a token
abbrev pub part : Expr → ℕ → ℕ → ℕ → Parsed
part x p h j = record { tree = x; level = p; height = h; stop = j }

-- a node of a level, if no more than d levels stand below it
abbrev pub operation : ℕ → Expr → ℕ → ℕ → ℕ → Option Parsed
operation d x level under stop = guard (nat_le under d) (Some (part x level (suc under) stop))

-- a parser of expressions: whether tags may stand, the level, from
abbrev pub Sub : Type 0
Sub = Bool → ℕ → ℕ → Option Parsed

-- how many `[]` stand there, two at most
abbrev pub pair : List Token → ℕ → Bool
pair ts i = sees ts sign.OpenBracket i && sees ts sign.CloseBracket (suc i)

-- the number of `[]` that `sizeof` takes along
unfoldable pub pairs : List Token → ℕ → ℕ
pairs ts i = if pair ts i then (if pair ts (suc (suc i)) then 2 else 1) else 0

-- what `sizeof` takes, by what token stands there
abbrev pub sizeof_by : List Token → ℕ → Word → Option (Got SizeofOperand)
sizeof_by ts i w.Name = Some
    (got (sizeof_operand.Name (name_at ts i) (pairs ts (suc i))) 0
    (behind_brackets (pairs ts (suc i)) (suc i)))
sizeof_by ts i w.Text = Some
    (got (sizeof_operand.Text (text_at ts i) (pairs ts (suc i))) 0
    (behind_brackets (pairs ts (suc i)) (suc i)))
sizeof_by ts i _ = None

-- what `sizeof` takes
unfoldable pub sizeof_of : List Token → Reader SizeofOperand
sizeof_of ts i = sizeof_by ts i (word ts i)

-- what `tagof` takes
unfoldable pub tagof_of : List Token → Bool → Reader TagofOperand
tagof_of ts tags i =
    if tags && is_tag ts i then Some (got (tagof_operand.Tag (name_at ts i)) 0 (suc (suc i)))
    else guard (is_name (word ts i)) (Some (got (tagof_operand.Name (name_at ts i)) 0 (suc i)))

module _ (ts : List Token) (sub : Sub) where
  -- an expression in parentheses
  unfoldable pub paren : ℕ → ℕ → Option Parsed
  paren d i = sub true 15 (suc i) >>= (λ x.
      guard (sees ts sign.CloseParenthesis x.stop)
      (operation d (e.Paren (at ts i) x.tree) 1 x.height (suc x.stop)))

  -- `sizeof` with its operand
  unfoldable pub sizeof : ℕ → ℕ → Option Parsed
  sizeof d i =
      if sees ts sign.OpenParenthesis (suc i)
      then (sizeof_of ts (suc (suc i)) >>= (λ x.
      guard (sees ts sign.CloseParenthesis x.stop)
      (Some (part (e.Sizeof (at ts i) x.tree) 2 1 (suc x.stop)))))
      else (sizeof_of ts (suc i) >>= (λ x. Some (part (e.Sizeof (at ts i) x.tree) 2 1 x.stop)))

  -- `tagof` with its operand
  unfoldable pub tagof : ℕ → Bool → ℕ → Option Parsed
  tagof d tags i =
      if sees ts sign.OpenParenthesis (suc i)
      then (tagof_of ts true (suc (suc i)) >>= (λ x.
      guard (sees ts sign.CloseParenthesis x.stop)
      (Some (part (e.Tagof (at ts i) x.tree) 2 1 (suc x.stop)))))
      else (tagof_of ts tags (suc i) >>= (λ x. Some (part (e.Tagof (at ts i) x.tree) 2 1 x.stop)))

  -- a sign before its operand
  unfoldable pub prefix : ℕ → Bool → ℕ → Sign → Option Parsed
  prefix d tags i c = sub tags 2 (suc i) >>= (λ x.
      operation d (e.Prefix (at ts i) c x.tree) 2 x.height x.stop)

  -- a tag before its operand
  unfoldable pub tagged : ℕ → Bool → ℕ → Option Parsed
  tagged d tags i = sub tags 2 (suc (suc i)) >>= (λ x.
      operation d (e.Tagged (at ts i) (spelling ts i) x.tree) 2 x.height x.stop)

  -- ---- arguments

  -- an argument by its place
  unfoldable pub value_arg : Reader Arg
  value_arg i =
      if is_blank_word (word ts i) && not (is_tag ts i) then Some
      (got (e.Default (at ts i)) 0 (suc i))
      else (sub true 14 i >>= (λ x. Some (got (e.Value x.tree) x.height x.stop)))

  -- an argument by its name
  unfoldable pub named_arg : Reader Arg
  named_arg i = guard (is_name (word ts (suc i))) (guard (sees ts sign.Assign (suc (suc i)))
      (sub true 14 (suc (suc (suc i))) >>= (λ x.
      Some (got (e.Named (name_at ts (suc i)) x.tree) x.height x.stop))))

  -- behind a named one, or not
  unfoldable pub arg : Bool → Reader Arg
  arg named i = if sees ts sign.Dot i then named_arg i else guard (not named) (value_arg i)

  -- arguments behind others, in so many turns
  unfoldable pub more_args : ℕ → Bool → List Arg → ℕ → ℕ → Option (Got (List Arg))
  more_args zero named done h i = None
  more_args (suc n) named done h i =
      if sees ts sign.Comma i
      then (arg named (suc i) >>= (λ x.
      more_args n (sees ts sign.Dot (suc i)) (done ++ x.tree ∷ []) (max h x.height) x.stop))
      else Some (got done h i)

  -- the arguments of a call, up to its closing parenthesis
  unfoldable pub call_args : Reader (List Arg)
  call_args i =
      if sees ts sign.CloseParenthesis i then Some (got [] 0 i)
      else (arg false i >>= (λ x.
      more_args (suc (length ts)) (sees ts sign.Dot i) (x.tree ∷ []) x.height x.stop))

  -- a call
  unfoldable pub call : ℕ → ℕ → Option Parsed
  call d i = call_args (suc (suc i)) >>= (λ xs. guard (sees ts sign.CloseParenthesis xs.stop)
      (operation d (e.Call (at ts i) (spelling ts i) (args xs.tree) false) 1 xs.height
      (suc xs.stop)))

  -- ---- operands

  -- what begins with a name
  unfoldable pub named : ℕ → Bool → ℕ → Option Parsed
  named d tags i =
      if tags && is_tag ts i then tagged d tags i
      else (if calls ts (suc i) then call d i else Some
      (part (e.Name (at ts i) (spelling ts i)) 1 1 (suc i)))

  -- what begins with a sign
  unfoldable pub signed : ℕ → Bool → ℕ → Sign → Option Parsed
  signed d tags i c = if is_prefix c then prefix d tags i c else guard
      (sameb signs.the_type sign.OpenParenthesis c) (paren d i)

  -- an operand, by its first token
  unfoldable pub operand_by : ℕ → Bool → ℕ → Word → Option Parsed
  operand_by d tags i w.Number = Some (part (e.Number (at ts i) (value ts i)) 1 1 (suc i))
  operand_by d tags i w.Text = Some
      (part (e.Text (at ts i) (spelling ts i) (is_packed ts i)) 1 1 (suc i))
  operand_by d tags i w.Name = named d tags i
  operand_by d tags i w.Blank = guard (tags && is_tag ts i) (tagged d tags i)
  operand_by d tags i (w.Key key.Sizeof) = sizeof d i
  operand_by d tags i (w.Key key.Tagof) = tagof d tags i
  operand_by d tags i (w.Sign c) = signed d tags i c
  operand_by d tags i _ = None

  -- ---- operators behind what was read

  -- `++` or `--` behind what was read
  unfoldable pub postfix : ℕ → ℕ → Sign → Parsed → Option Parsed
  postfix d i c t = guard (nat_le t.level 1)
      (operation d (e.Postfix (at ts i) c t.tree) 1 t.height (suc t.stop))

  -- `[e]` behind it
  unfoldable pub index : ℕ → ℕ → Parsed → Option Parsed
  index d i t = guard (not (is_first ts t.stop) && nat_le t.level 1)
      (sub true 15 (suc t.stop) >>= (λ y.
      guard (sees ts sign.CloseBracket y.stop)
      (operation d (e.Index (at ts i) t.tree y.tree) 1 (max t.height y.height) (suc y.stop))))

  -- `{e}` behind it
  unfoldable pub character : ℕ → ℕ → Parsed → Option Parsed
  character d i t = guard (nat_le t.level 1) (sub true 15 (suc t.stop) >>= (λ y.
      guard (sees ts sign.CloseBrace y.stop)
      (operation d (e.Character (at ts i) t.tree y.tree) 1 (max t.height y.height)
      (suc y.stop))))

  -- an operator that groups to the left, and its right operand
  unfoldable pub binary : ℕ → Bool → ℕ → ℕ → Sign → Parsed → Option Parsed
  binary d tags i p c t = guard (nat_le t.level p) (sub tags (p - 1) (suc t.stop) >>= (λ y.
      operation d (e.Binary (at ts i) c t.tree y.tree) p (max t.height y.height) y.stop))

  -- a comparison and its right operand, by what token stands there
  unfoldable pub link_by : Bool → ℕ → Word → Option (Got Link)
  link_by tags i (w.Sign c) = sub tags 8 (suc i) >>= (λ x.
      Some (got (e.Compare c x.tree) x.height x.stop))
  link_by tags i _ = None

  -- a comparison and its right operand
  unfoldable pub link : Bool → Reader Link
  link tags i = link_by tags i (word ts i)

  -- a chain of comparisons
  unfoldable pub chain : ℕ → Bool → ℕ → Parsed → Option Parsed
  chain d tags i t = guard (nat_le t.level 8) (link tags t.stop >>= (λ l.
      many (compares ts) (link tags) (suc (length ts)) (l.tree ∷ []) l.height l.stop >>= (λ ls.
      operation d (e.Chain (at ts i) t.tree (links ls.tree)) 9 (max t.height ls.height) ls.stop)))

  -- `?` with its two values
  unfoldable pub choice : ℕ → Bool → ℕ → Parsed → Option Parsed
  choice d tags i t = guard (nat_le t.level 12) (sub false 13 (suc t.stop) >>= (λ x.
      guard (sees ts sign.Colon x.stop) (sub tags 13 (suc x.stop) >>= (λ y.
      operation d (e.Choice (at ts i) t.tree x.tree y.tree) 13
      (max t.height (max x.height y.height)) y.stop))))

  -- an assignment
  unfoldable pub assign : ℕ → Bool → ℕ → Sign → Parsed → Option Parsed
  assign d tags i c t = guard (nat_le t.level 1) (sub tags 14 (suc t.stop) >>= (λ y.
      operation d (e.Assign (at ts i) c t.tree y.tree) 14 (max t.height y.height) y.stop))

  -- what was read with the operator behind it, by how that continues it
  unfoldable pub grow_by : ℕ → Bool → ℕ → Parsed → Sign → Joint → Option Parsed
  grow_by d tags i t c (joint.Left p) = binary d tags i p c t
  grow_by d tags i t c joint.Compare = chain d tags i t
  grow_by d tags i t c joint.Question = choice d tags i t
  grow_by d tags i t c joint.Assign = assign d tags i c t
  grow_by d tags i t c joint.Step = postfix d i c t
  grow_by d tags i t c joint.Bracket = index d i t
  grow_by d tags i t c joint.Brace = character d i t
  grow_by d tags i t c _ = None

  -- what was read with the token behind it
  unfoldable pub grow : ℕ → Bool → ℕ → Parsed → Word → Option Parsed
  grow d tags i t (w.Sign c) = grow_by d tags i t c (joint_of c)
  grow d tags i t _ = None

  -- what was read with all operators up to a level, in so many turns
  unfoldable pub climb : ℕ → Bool → ℕ → ℕ → ℕ → Parsed → Option Parsed
  climb d tags level i zero t = None
  climb d tags level i (suc n) t =
      if nat_lt level (binds ts tags t.stop) then Some t else
      (grow d tags i t (word ts t.stop) >>= climb d tags level i n)

  -- an expression up to a level
  unfoldable pub whole : ℕ → Bool → ℕ → ℕ → Option Parsed
  whole d tags level i = operand_by d tags i (word ts i) >>= climb d tags level i (suc d)

-- expressions of height d at most
unfoldable pub expr : List Token → ℕ → Sub
expr ts zero = λ tags level i. None
expr ts (suc d) = whole ts (expr ts d) d

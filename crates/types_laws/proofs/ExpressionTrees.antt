-- Expressions that tokens spell are as a source has them.
use Rattle.std.proofs.Common.{◌≡◌, ◌+◌, ◌<◌, ◌≤◌, ◌^◌, ℕ, pos, List, [], ◌∷◌, Bool, true, false}
use Rattle.std.proofs.Common.{Option, None, Some, refl, arith}
use Rattle.std.specs.Prelude.{length, map, slice_get}
use Rattle.std.proofs.lemmas.List.{length-append, length-map}
use Rattle.pawn_cells.specs.Cells.{IsCell}
use Rattle.pawn_token.specs.declared.kind.TokenKind.{TokenKind}
use Rattle.pawn_token.specs.declared.kind.TokenKind.TheVariants as kind
use Rattle.pawn_lex.specs.declared.token.Token.{Token}
use Rattle.pawn_tree.specs.declared.expression.SizeofOperand.{SizeofOperand}
use Rattle.pawn_tree.specs.Expressions.{Expr, Arg, Link, args, links}
use Rattle.tree_rules.specs.Tokens.{value_of, value_at, value, spelling_of, spelling_at, spelling}
use Rattle.tree_rules.specs.Tokens.{is_packed}
use Rattle.tree_rules.specs.Expressions as g
use Rattle.tree_rules.specs.Expressions.{IsSizeof, IsExpr, IsLink, AreLinks, IsValue, IsNamed}
use Rattle.tree_rules.specs.Expressions.{AreArgs, AreMore, Whole}
use Rattle.types_rules.specs.Texts.{packed_cells, text_cells}
use Rattle.types_laws.specs.Placed.{IsShort}
use Rattle.types_laws.specs.Written.{IsAnyName, IsWritten, AreWrittenLinks, IsWrittenLink}
use Rattle.types_laws.specs.Written.{AreWrittenArgs, IsWrittenArg}
use Rattle.pawn_cells.proofs.CellLaws.{small_cell}
use Rattle.types_laws.specs.WrittenTrees.{IsSmallText, IsSmallKind, AreSmallTokens}

-- ---- what tokens hold

kind_value : (it : TokenKind) → IsSmallKind it → IsCell (value_of it)
kind_value (kind.Name bytes) h = small_cell 0 (omega arith)
kind_value (kind.Key k) h = small_cell 0 (omega arith)
kind_value (kind.Number v) h = h
kind_value (kind.Text bytes packed) h = small_cell 0 (omega arith)
kind_value (kind.Sign s) h = small_cell 0 (omega arith)

no_text : IsSmallText []
no_text = record { bytes_are = tt; short = omega arith }

kind_text : (it : TokenKind) → IsSmallKind it → IsSmallText (spelling_of it)
kind_text (kind.Name bytes) h = h
kind_text (kind.Key k) h = no_text
kind_text (kind.Number v) h = no_text
kind_text (kind.Text bytes packed) h = h
kind_text (kind.Sign s) h = no_text

value_small : (it : Option Token) → ((token : Token) → it ≡ Some token → IsSmallKind token.kind)
    → IsCell (value_at it)
value_small None k = small_cell 0 (omega arith)
value_small (Some token) k = kind_value token.kind (k token refl)

text_small : (it : Option Token) → ((token : Token) → it ≡ Some token → IsSmallKind token.kind)
    → IsSmallText (spelling_at it)
text_small None k = no_text
text_small (Some token) k = kind_text token.kind (k token refl)

packed_count : (bytes : List ℕ) → length (packed_cells bytes) ≤ length bytes + 1
unfolding packed_cells
packed_count [] = omega arith
packed_count (a ∷ []) = omega arith
packed_count (a ∷ b ∷ []) = omega arith
packed_count (a ∷ b ∷ c ∷ []) = omega arith
packed_count (a ∷ b ∷ c ∷ d ∷ more) = omega (arith, packed_count more)

cells_count : (packed : Bool) (bytes : List ℕ) → length bytes < 2 ^ 30
    → IsCell (pos (length (text_cells packed bytes)))
cells_count true bytes h = small_cell _ (omega (arith, h, packed_count bytes))
cells_count false bytes h =
    small_cell _ (omega (
      arith,
      h,
      length-append (map pos bytes) (pos 0 ∷ []),
      length-map bytes pos,
    ))

module _ (ts : List Token) (small : AreSmallTokens ts) where
  value_is : (i : ℕ) → IsCell (value ts i)
  unfolding value
  value_is i = value_small (slice_get ts i) (small.small i)

  text_is : (i : ℕ) → IsSmallText (spelling ts i)
  unfolding spelling
  text_is i = text_small (slice_get ts i) (small.small i)

  sizeof_is : {x : SizeofOperand} {i j : ℕ} → IsSizeof ts x i j → IsShort x
  sizeof_is (g.sizeof_name a b c) = tt
  sizeof_is (g.sizeof_text {i = i} a b c) =
      cells_count (is_packed ts i) (spelling ts i) (text_is i).short

  -- ---- expressions

  mutual
    pub expr_written : {b : Bool} {s h i j : ℕ} {x : Expr} → IsExpr ts b s h x i j
        → IsWritten IsAnyName x
    expr_written (g.number {i = i} a) = value_is i
    expr_written (g.text {i = i} a) = (text_is i).bytes_are
    expr_written (g.name a) = tt
    expr_written (g.paren a p c d) = expr_written p
    expr_written (g.call a c p d) = (tt, args_written p)
    expr_written (g.index p a c d q f k) = (expr_written p, expr_written q)
    expr_written (g.character p a c d q f k) = (expr_written p, expr_written q)
    expr_written (g.postfix p a c d f) = expr_written p
    expr_written (g.prefix a c p d) = expr_written p
    expr_written (g.tagged a p c) = expr_written p
    expr_written (g.sizeof a p) = sizeof_is p
    expr_written (g.sizeof_in a c p d) = sizeof_is p
    expr_written (g.tagof a p) = tt
    expr_written (g.tagof_in a c p d) = tt
    expr_written (g.binary p a c d q f) = (expr_written p, expr_written q)
    expr_written (g.chain p a q r) =
        (λ same. let no : ⊥ = cc in no, expr_written p, (link_written q, links_written r))
    expr_written (g.choice p a c q d f r k) = (expr_written p, expr_written q, expr_written r)
    expr_written (g.assign p a c d q f) = (expr_written p, expr_written q)

    link_written : {b : Bool} {h i j : ℕ} {l : Link} → IsLink ts b h l i j
        → IsWrittenLink IsAnyName l
    link_written (g.link a c p d f) = expr_written p

    links_written : {b : Bool} {h i j : ℕ} {ls : List Link} → AreLinks ts b h ls i j
        → AreWrittenLinks IsAnyName (links ls)
    links_written (g.no_links a) = tt
    links_written (g.one_link a p q) = (link_written p, links_written q)

    pub value_written : {h i j : ℕ} {x : Arg} → IsValue ts h x i j → IsWrittenArg IsAnyName x
    value_written (g.value_arg p a c) = expr_written p
    value_written (g.default_arg a c) = tt

    named_written : {h i j : ℕ} {x : Arg} → IsNamed ts h x i j → IsWrittenArg IsAnyName x
    named_written (g.named_arg a c d p f k) = expr_written p

    args_written : {h i j : ℕ} {xs : List Arg} → AreArgs ts h xs i j
        → AreWrittenArgs IsAnyName (args xs)
    args_written (g.no_args a) = tt
    args_written (g.first_value p q) = (value_written p, more_written q)
    args_written (g.first_named p q) = (named_written p, more_written q)

    pub more_written : {named : Bool} {h i j : ℕ} {xs : List Arg} → AreMore ts named h xs i j
        → AreWrittenArgs IsAnyName (args xs)
    more_written (g.no_more_args a) = tt
    more_written (g.more_value a p q) = (value_written p, more_written q)
    more_written (g.more_named a p q) = (named_written p, more_written q)

  pub whole_written : {tags : Bool} {level h i j : ℕ} {x : Expr} → Whole ts tags level h x i j
      → IsWritten IsAnyName x
  whole_written p = expr_written p.is_expr

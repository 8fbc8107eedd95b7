-- What a look at a token gives.
use Rattle.std.proofs.Common.{◌≡◌, ℕ, ◌≤◌, ◌<◌, List, length, get_or, refl, ap}
use Rattle.std.proofs.lemmas.Option.{slice_get_read, slice_get_past}
use Rattle.pawn_lex.specs.declared.token.Token.{Token}
use Rattle.tree_rules.specs.declared.word.Word.TheVariants as w
use Rattle.tree_rules.specs.Tokens.{word, word_at, word_of}

pub word_absent : (ts : List Token) (i : ℕ) → length ts ≤ i → word ts i ≡ w.Absent
unfolding word
word_absent ts i past = ap word_at (slice_get_past ts i past)

pub word_there : (ts : List Token) (i : ℕ) (t : Token) → t ≡ get_or ts i t → i < length ts
    → word ts i ≡ word_of t.kind
unfolding word
word_there ts i t e l = ap word_at (slice_get_read ts (length ts) i t refl l e)

-- What the grammar asks of a token, by its number.
use Rattle.std.specs.Prelude.{ℕ, suc, ◌==◌, ℤ, pos, Bool, true, false, ◌&&◌, if◌then◌else◌, List}
use Rattle.std.specs.Prelude.{[], ◌∷◌, Option, Some, None, slice_get}
use denote.Enum.Bare.{sameb}
use Rattle.pawn_cells.specs.declared.place.Place.{Place}
use Rattle.pawn_token.specs.declared.sign.Sign.{Sign}
use Rattle.pawn_token.specs.declared.sign.Sign.TheVariants as sign
use Rattle.pawn_token.specs.declared.key.Key.{Key}
use Rattle.pawn_token.specs.contracts.sign.Sign as signs
use Rattle.pawn_token.specs.contracts.key.Key as keys
use Rattle.pawn_token.specs.declared.kind.TokenKind.{TokenKind}
use Rattle.pawn_token.specs.declared.kind.TokenKind.TheVariants as kind
use Rattle.pawn_lex.specs.declared.token.Token.{Token}
use Rattle.pawn_tree.specs.declared.name.At.{At}
use Rattle.pawn_tree.specs.declared.name.Name.{Name}
use Rattle.pawn_tree.specs.declared.name.Text as t
use Rattle.tree_rules.specs.declared.word.Word.{Word}
use Rattle.tree_rules.specs.declared.word.Word.TheVariants as w

-- the bytes of `_`
abbrev pub is_blank : List ℕ → Bool
is_blank (byte ∷ []) = byte == 95
is_blank _ = false

-- what a token is, from its kind
abbrev pub word_of : TokenKind → Word
word_of (kind.Name bytes) = if is_blank bytes then w.Blank else w.Name
word_of (kind.Key k) = w.Key k
word_of (kind.Number v) = w.Number
word_of (kind.Text bytes packed) = w.Text
word_of (kind.Sign s) = w.Sign s

-- and from the token, if there is one
abbrev pub word_at : Option Token → Word
word_at None = w.Absent
word_at (Some token) = word_of token.kind

-- what token i is
unfoldable pub word : List Token → ℕ → Word
word ts i = word_at (slice_get ts i)

-- the bytes of a kind
abbrev pub spelling_of : TokenKind → List ℕ
spelling_of (kind.Name bytes) = bytes
spelling_of (kind.Text bytes packed) = bytes
spelling_of _ = []

-- and of a token, if there is one
abbrev pub spelling_at : Option Token → List ℕ
spelling_at None = []
spelling_at (Some token) = spelling_of token.kind

-- the bytes of a name or a text
unfoldable pub spelling : List Token → ℕ → List ℕ
spelling ts i = spelling_at (slice_get ts i)

-- whether a kind is a packed text
abbrev pub packed_of : TokenKind → Bool
packed_of (kind.Text bytes packed) = packed
packed_of _ = false

-- and whether a token is, if there is one
abbrev pub packed_at : Option Token → Bool
packed_at None = false
packed_at (Some token) = packed_of token.kind

-- whether a text is packed
unfoldable pub is_packed : List Token → ℕ → Bool
is_packed ts i = packed_at (slice_get ts i)

-- the value of a kind
abbrev pub value_of : TokenKind → ℤ
value_of (kind.Number v) = v
value_of _ = pos 0

-- and of a token, if there is one
abbrev pub value_at : Option Token → ℤ
value_at None = pos 0
value_at (Some token) = value_of token.kind

-- the value of a number
unfoldable pub value : List Token → ℕ → ℤ
value ts i = value_at (slice_get ts i)

-- the place of a token, if there is one
abbrev pub place_at : Option Token → Place
place_at None = record { file = 0; line = 0 }
place_at (Some token) = token.place

-- the token's number and its place
unfoldable pub at : List Token → ℕ → At
at ts i = record { token = i; place = place_at (slice_get ts i) }

-- token i as a name
abbrev pub name_at : List Token → ℕ → Name
name_at ts i = record { at = at ts i; bytes = spelling ts i }

-- token i as a text
abbrev pub text_at : List Token → ℕ → t.Text
text_at ts i = record { at = at ts i; bytes = spelling ts i; packed = is_packed ts i }

-- whether a token is the first on its line, if there is one
abbrev pub first_at : Option Token → Bool
first_at None = true
first_at (Some token) = token.first

-- whether it is the first on its line; what stands behind the last token is
unfoldable pub is_first : List Token → ℕ → Bool
is_first ts i = first_at (slice_get ts i)

-- whether a token touches the one before it, if there is one
abbrev pub touches_at : Option Token → Bool
touches_at None = false
touches_at (Some token) = token.touches

-- and token i
unfoldable pub touches : List Token → ℕ → Bool
touches ts i = touches_at (slice_get ts i)

-- whether a token is strict, if there is one
abbrev pub strict_at : Option Token → Bool
strict_at None = false
strict_at (Some token) = token.strict

-- whether each statement needs its semicolon there
unfoldable pub is_strict : List Token → ℕ → Bool
is_strict ts i = strict_at (slice_get ts i)

-- whether a word is this sign
abbrev pub is_sign : Sign → Word → Bool
is_sign c (w.Sign s) = sameb signs.the_type c s
is_sign c _ = false

-- whether this sign stands there
unfoldable pub sees : List Token → Sign → ℕ → Bool
sees ts c i = is_sign c (word ts i)

-- whether a word is this key word
abbrev pub is_key : Key → Word → Bool
is_key k (w.Key found) = sameb keys.the_type k found
is_key k _ = false

-- whether this key word stands there
unfoldable pub sees_key : List Token → Key → ℕ → Bool
sees_key ts k i = is_key k (word ts i)

-- the token behind a sign, or a key word, where that stands there
unfoldable pub behind_sign : List Token → Sign → ℕ → ℕ
behind_sign ts c i = if sees ts c i then suc i else i

-- the token behind a key word, where that stands there
unfoldable pub behind_key : List Token → Key → ℕ → ℕ
behind_key ts k i = if sees_key ts k i then suc i else i

-- a name other than `_`
abbrev pub is_name : Word → Bool
is_name w.Name = true
is_name _ = false

-- `_`
abbrev pub is_blank_word : Word → Bool
is_blank_word w.Blank = true
is_blank_word _ = false

-- a name, or `_`
abbrev pub is_label : Word → Bool
is_label w.Name = true
is_label w.Blank = true
is_label _ = false

-- a name or `_` that a touching colon makes a tag
unfoldable pub is_tag : List Token → ℕ → Bool
is_tag ts i = is_label (word ts i) && (sees ts sign.Colon (suc i) && touches ts (suc i))

-- the tag that stands there, if one does, and the token behind it
unfoldable pub tag_at : List Token → ℕ → Option Name
tag_at ts i = if is_tag ts i then Some (name_at ts i) else None

-- the token behind the tag
unfoldable pub behind_tag : List Token → ℕ → ℕ
behind_tag ts i = if is_tag ts i then suc (suc i) else i

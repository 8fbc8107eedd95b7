-- The key words, which the Pawn Language Guide calls reserved: how each is spelled.
use Rattle.std.specs.Prelude.{ℕ, List, [], ◌∷◌, Option, find, codes}
use Rattle.std.specs.Str.{bytes_eq}
use Rattle.pawn_token.specs.declared.key.Key.{Key}
use Rattle.pawn_token.specs.declared.key.Key.TheVariants as key

-- the bytes of a key word
unfoldable pub key_spelling : Key → List ℕ
key_spelling key.Assert = codes "assert"
key_spelling key.Break = codes "break"
key_spelling key.Case = codes "case"
key_spelling key.Char = codes "char"
key_spelling key.Const = codes "const"
key_spelling key.Continue = codes "continue"
key_spelling key.Default = codes "default"
key_spelling key.Defined = codes "defined"
key_spelling key.Do = codes "do"
key_spelling key.Else = codes "else"
key_spelling key.Enum = codes "enum"
key_spelling key.Exit = codes "exit"
key_spelling key.For = codes "for"
key_spelling key.Forward = codes "forward"
key_spelling key.Goto = codes "goto"
key_spelling key.If = codes "if"
key_spelling key.Native = codes "native"
key_spelling key.New = codes "new"
key_spelling key.Operator = codes "operator"
key_spelling key.Public = codes "public"
key_spelling key.Return = codes "return"
key_spelling key.Sizeof = codes "sizeof"
key_spelling key.Sleep = codes "sleep"
key_spelling key.State = codes "state"
key_spelling key.Static = codes "static"
key_spelling key.Stock = codes "stock"
key_spelling key.Switch = codes "switch"
key_spelling key.Tagof = codes "tagof"
key_spelling key.While = codes "while"

-- all of them
abbrev pub keys : List Key
keys = key.Assert ∷ key.Break ∷ key.Case ∷ key.Char ∷ key.Const ∷ key.Continue ∷ key.Default
    ∷ key.Defined ∷ key.Do ∷ key.Else ∷ key.Enum ∷ key.Exit ∷ key.For ∷ key.Forward ∷ key.Goto
    ∷ key.If ∷ key.Native ∷ key.New ∷ key.Operator ∷ key.Public ∷ key.Return ∷ key.Sizeof
    ∷ key.Sleep ∷ key.State ∷ key.Static ∷ key.Stock ∷ key.Switch ∷ key.Tagof ∷ key.While ∷ []

-- the key word that is spelled so, if there is one
unfoldable pub key_of : List ℕ → Option Key
key_of word = find (λ key. bytes_eq (key_spelling key) word) keys

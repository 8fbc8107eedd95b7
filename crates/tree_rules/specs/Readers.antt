-- The parts of the parser, as definitions: what each reads from a token on, or none.
use Rattle.std.specs.Prelude.{ℕ, zero, suc, max, Bool, nat_le, if◌then◌else◌, List, [], ◌∷◌, ◌++◌}
use Rattle.std.specs.Prelude.{length, Option, Some, None}
use Rattle.pawn_token.specs.declared.sign.Sign.{Sign}
use Rattle.pawn_token.specs.declared.sign.Sign.TheVariants as sign
use Rattle.pawn_lex.specs.declared.token.Token.{Token}
use Rattle.tree_rules.specs.Tokens.{sees}

-- what was read, its height, and the token behind it
pub record Got (A : Type 0) : Type 0 where
  pub tree : A
  pub height : ℕ
  pub stop : ℕ

-- a part with its height, up to a token
abbrev pub got : {A : Type 0} → A → ℕ → ℕ → Got A
got x h j = record { tree = x; height = h; stop = j }

-- what stands from a token on
abbrev pub Reader : Type 0 → Type 0
Reader A = ℕ → Option (Got A)

infixl 10 ◌>>=◌
-- the one behind the other: None as soon as one of them is
abbrev pub ◌>>=◌ : {A B : Type 0} → Option A → (A → Option B) → Option B
None >>= f = None
(Some x) >>= f = f x

-- only where a test holds
abbrev pub guard : {A : Type 0} → Bool → Option A → Option A
guard b x = if b then x else None

-- a node, if no more than d levels stand below it
abbrev pub node : {A : Type 0} → ℕ → A → ℕ → ℕ → Option (Got A)
node d x under stop = guard (nat_le under d) (Some (got x (suc under) stop))

-- parts as long as `more` says that one begins, behind those that were read
unfoldable pub many : {A : Type 0} → (ℕ → Bool) → Reader A → ℕ → List A → ℕ → ℕ
    → Option (Got (List A))
many more read zero done h i = None
many more read (suc n) done h i =
    if more i then (read i >>= (λ x.
    many more read n (done ++ x.tree ∷ []) (max h x.height) x.stop)) else Some (got done h i)

-- a part behind a sign of one token
abbrev pub behind : {A : Type 0} → Reader A → Reader A
behind read i = read (suc i)

module _ {A : Type 0} (ts : List Token) where
  -- a first part, and others behind it
  abbrev pub several : (ℕ → Bool) → Reader A → Reader A → Reader (List A)
  several more first others i = first i >>= (λ x.
      many more others (suc (length ts)) (x.tree ∷ []) x.height x.stop)

  -- one part or more, with commas between them
  abbrev pub listed : Reader A → Reader (List A)
  listed read = several (sees ts sign.Comma) read (behind read)

  -- parts with commas between them up to a sign, or none
  abbrev pub up_to : Sign → Reader A → Reader (List A)
  up_to c read i =
      if sees ts c i then Some (got [] 0 i) else (listed read i >>= (λ xs.
      guard (sees ts c xs.stop) (Some xs)))

  -- a sign with a part behind it, or nothing where that sign doesn't stand
  abbrev pub led : Sign → Reader A → Reader (Option A)
  led c read i = if sees ts c i then (read (suc i) >>= (λ x.
      Some (got (Some x.tree) x.height x.stop))) else Some (got None 0 i)

-- How many bytes the tokens before one have, and the names that they are.
use Rattle.std.proofs.Common.{◌≡◌, ◌+◌, ◌≤◌, ◌<◌, ◌≢◌, ℕ, zero, suc, List, [], ◌∷◌, ◌++◌, true}
use Rattle.std.proofs.Common.{Option, None, Some, refl, ap, ◌∙◌, arith}
use Rattle.std.specs.Prelude.{length, slice_get, sum_by, All}
use Rattle.std.proofs.lemmas.List.Elements.{All-weaker}
use Rattle.std.proofs.lemmas.List.Sums.{sum_by-cons}
use Rattle.pawn_token.specs.declared.kind.TokenKind.{TokenKind}
use Rattle.pawn_token.specs.declared.kind.TokenKind.TheVariants as kind
use Rattle.pawn_token.specs.Sizes as spelled
use Rattle.pawn_token.specs.Sizes.{IsNameOrOther}
use Rattle.pawn_lex.specs.declared.token.Token.{Token}
use Rattle.tree_rules.specs.Tokens.{word_of, word_at, word, spelling_of, spelling_at, spelling}
use Rattle.tree_rules.specs.Tokens.{is_label}
use Rattle.pawn_meaning.specs.ProgramNames.{IsName}
use Rattle.types_laws.specs.TokenSizes.{token_size}
use Rattle.types_laws.specs.Objects.{Each}
use Rattle.types_laws.proofs.Facts.{all_each}
use Rattle.types_laws.proofs.ArrayValues.{each_at}

abbrev pub size_at : Option Token → ℕ
size_at None = 0
size_at (Some token) = token_size token.kind

-- the bytes of the tokens before one
abbrev pub upto : List Token → ℕ → ℕ
upto [] m = 0
upto (token ∷ more) zero = 0
upto (token ∷ more) (suc m) = token_size token.kind + upto more m

pub upto_more : (ts : List Token) (m k : ℕ) → m ≤ k → upto ts m ≤ upto ts k
upto_more [] m k le = omega arith
upto_more (token ∷ more) zero k le = omega arith
upto_more (token ∷ more) (suc m) zero le = absurd (omega (arith, le))
upto_more (token ∷ more) (suc m) (suc k) le = omega (arith, upto_more more m k (omega (arith, le)))

pub upto_step : (ts : List Token) (i : ℕ) → upto ts (suc i) ≡ upto ts i + size_at (slice_get ts i)
upto_step [] i = omega arith
upto_step (token ∷ []) zero = omega arith
upto_step (token ∷ second ∷ more) zero = omega arith
upto_step (token ∷ more) (suc i) = omega (arith, upto_step more i)

pub upto_all : (ts : List Token) (m : ℕ)
    → upto ts m ≤ sum_by (λ (token : Token). token_size token.kind) ts
upto_all [] m = omega arith
upto_all (token ∷ more) zero = omega arith
upto_all (token ∷ more) (suc m) =
    omega (arith, upto_all more m, sum_by-cons (λ (t : Token). token_size t.kind) token more)

-- ---- names

pub name_of_token : (name : List ℕ) → spelled.IsName name → IsName name
name_of_token name h = record {
  no_zero =
      All-weaker (λ byte. 0 < byte) (λ byte. byte ≢ 0) (λ byte lt e. omega (arith, lt, e)) name
      h.nonzero;
  least = h.some;
  most = omega (arith, h.short);
}

-- a token that is a label is a name, and has the bytes of it
pub record IsLabelled (token : Option Token) : Type 0 where
  pub size : length (spelling_at token) ≡ size_at token
  pub name : IsName (spelling_at token)

labelled_kind : (it : Option Token) (token : Token) (k : TokenKind) → it ≡ Some token
    → token.kind ≡ k → IsNameOrOther k → is_label (word_of k) ≡ true
    → (length (spelling_of k) ≡ token_size k) × IsName (spelling_of k)
labelled_kind it token (kind.Name bytes) e d h l = (refl, name_of_token bytes h)
labelled_kind it token (kind.Key k) e d h l = absurd (let never : ⊥ = cc in never)
labelled_kind it token (kind.Number v) e d h l = absurd (let never : ⊥ = cc in never)
labelled_kind it token (kind.Text bytes packed) e d h l = absurd (let never : ⊥ = cc in never)
labelled_kind it token (kind.Sign s) e d h l = absurd (let never : ⊥ = cc in never)

labelled_at : (ts : List Token) → Each (λ (token : Token). IsNameOrOther token.kind) ts → (i : ℕ)
    → (it : Option Token) → slice_get ts i ≡ it → is_label (word_at it) ≡ true → IsLabelled it
labelled_at ts named i None e l = absurd (let never : ⊥ = cc in never)
labelled_at ts named i (Some token) e l =
    let h = each_at (λ (t : Token). IsNameOrOther t.kind) ts i token named e in
    let r = labelled_kind (Some token) token token.kind refl refl h l in
    record { size = r.0; name = r.1 }

pub labelled : (ts : List Token) → All (λ (token : Token). IsNameOrOther token.kind) ts → (i : ℕ)
    → is_label (word ts i) ≡ true → IsLabelled (slice_get ts i)
unfolding word
labelled ts named i l =
    labelled_at ts (all_each (λ (t : Token). IsNameOrOther t.kind) ts named) i
    (slice_get ts i) refl l

pub label_size : (ts : List Token) → All (λ (token : Token). IsNameOrOther token.kind) ts → (i : ℕ)
    → is_label (word ts i) ≡ true → length (spelling ts i) ≡ size_at (slice_get ts i)
unfolding spelling
label_size ts named i l = (labelled ts named i l).size

pub label_name : (ts : List Token) → All (λ (token : Token). IsNameOrOther token.kind) ts → (i : ℕ)
    → is_label (word ts i) ≡ true → IsName (spelling ts i)
unfolding spelling
label_name ts named i l = (labelled ts named i l).name

-- ---- the bytes of names together

abbrev pub sizes : List (List ℕ) → ℕ
sizes [] = 0
sizes (name ∷ more) = length name + sizes more

pub sizes_append : (xs ys : List (List ℕ)) → sizes (xs ++ ys) ≡ sizes xs + sizes ys
sizes_append [] ys = omega arith
sizes_append (x ∷ xs) ys = omega (arith, sizes_append xs ys)

pub sizes_sum : (xs : List (List ℕ)) → sum_by (λ name. length name) xs ≡ sizes xs
sizes_sum [] = refl
sizes_sum (x ∷ xs) = sum_by-cons (λ name. length name) x xs ∙ ap (λ n. length x + n) (sizes_sum xs)

-- What a token is, and what follows from it.
use Rattle.std.proofs.Common.{◌≡◌, ◌≢◌, ℕ, suc, ◌≤◌, ◌<◌, Bool, true, false, ◌&&◌, ◌||◌, ◌==◌, ◌⊎◌}
use Rattle.std.proofs.Common.{inl, inr, List, length, Option, Some, None, refl, sym, ◌∙◌, ap, subst}
use Rattle.std.proofs.Common.{arith}
use Rattle.std.specs.Prelude.{slice_get, if◌then◌else◌}
use Rattle.std.proofs.lemmas.Bool.Decides.{nat_tests}
use denote.Enum.Bare.{same_true, true_same}
use Rattle.std.proofs.lemmas.Option.{slice_get_within}
use Rattle.pawn_token.specs.declared.sign.Sign.{Sign}
use Rattle.pawn_token.specs.declared.sign.Sign.TheVariants as sign
use Rattle.pawn_token.specs.declared.key.Key.{Key}
use Rattle.pawn_token.specs.contracts.sign.Sign as signs
use Rattle.pawn_token.specs.contracts.key.Key as keys
use Rattle.pawn_lex.specs.declared.token.Token.{Token}
use Rattle.tree_rules.specs.declared.word.Word.{Word}
use Rattle.tree_rules.specs.declared.word.Word.TheVariants as w
use Rattle.tree_rules.specs.declared.joint.Joint.{Joint}
use Rattle.tree_rules.specs.declared.joint.Joint.TheVariants as joint
use Rattle.tree_rules.specs.Tokens.{word, word_at, is_sign, sees, is_key, sees_key, is_first}
use Rattle.tree_rules.specs.Tokens.{is_name, is_label, is_tag, touches}
use Rattle.tree_rules.specs.Levels.{joint_of, joint_at, level_of, binds}
use Rattle.tree_rules.specs.Ends.{ending}
use Rattle.tree_rules.proofs.Steps.{none_some, some_inj, false_true}

-- ---- signs and key words

pub sign_true : (c : Sign) (v : Word) → is_sign c v ≡ true → v ≡ w.Sign c
sign_true c (w.Sign s) e = ap (λ k. w.Sign k) (sym (same_true signs.the_type tt c s e))
sign_true c _ e = absurd (false_true e)

pub sees_true : (ts : List Token) (c : Sign) (i : ℕ) → sees ts c i ≡ true → word ts i ≡ w.Sign c
unfolding sees
sees_true ts c i e = sign_true c (word ts i) e

pub same_sign : (c : Sign) → is_sign c (w.Sign c) ≡ true
same_sign c = true_same signs.the_type c c refl

pub true_sees : (ts : List Token) (c : Sign) (i : ℕ) → word ts i ≡ w.Sign c → sees ts c i ≡ true
unfolding sees
true_sees ts c i e = ap (is_sign c) e ∙ same_sign c

pub sees_other : (ts : List Token) (c : Sign) (i : ℕ) (v : Word) → word ts i ≡ v
    → is_sign c v ≡ false → sees ts c i ≡ false
unfolding sees
sees_other ts c i v e f = ap (is_sign c) e ∙ f

pub key_true : (k : Key) (v : Word) → is_key k v ≡ true → v ≡ w.Key k
key_true k (w.Key s) e = ap (λ c. w.Key c) (sym (same_true keys.the_type tt k s e))
key_true k _ e = absurd (false_true e)

pub sees_key_true : (ts : List Token) (k : Key) (i : ℕ) → sees_key ts k i ≡ true
    → word ts i ≡ w.Key k
unfolding sees_key
sees_key_true ts k i e = key_true k (word ts i) e

pub same_key : (k : Key) → is_key k (w.Key k) ≡ true
same_key k = true_same keys.the_type k k refl

pub true_sees_key : (ts : List Token) (k : Key) (i : ℕ) → word ts i ≡ w.Key k
    → sees_key ts k i ≡ true
unfolding sees_key
true_sees_key ts k i e = ap (is_key k) e ∙ same_key k

pub sees_other_key : (ts : List Token) (k : Key) (i : ℕ) (v : Word) → word ts i ≡ v
    → is_key k v ≡ false → sees_key ts k i ≡ false
unfolding sees_key
sees_other_key ts k i v e f = ap (is_key k) e ∙ f

-- ---- names

name_by : (v : Word) → is_name v ≡ true → v ≡ w.Name
name_by w.Name e = refl
name_by _ e = absurd (false_true e)

pub name_true : (ts : List Token) (i : ℕ) → is_name (word ts i) ≡ true → word ts i ≡ w.Name
name_true ts i e = name_by (word ts i) e

pub label_cases : (v : Word) → is_label v ≡ true → (v ≡ w.Name) ⊎ (v ≡ w.Blank)
label_cases w.Name e = inl refl
label_cases w.Blank e = inr refl
label_cases _ e = absurd (false_true e)

pub label_no_sign : (c : Sign) (v : Word) → is_label v ≡ true → is_sign c v ≡ false
label_no_sign c w.Name e = refl
label_no_sign c w.Blank e = refl
label_no_sign c _ e = absurd (false_true e)

pub label_no_key : (k : Key) (v : Word) → is_label v ≡ true → is_key k v ≡ false
label_no_key k w.Name e = refl
label_no_key k w.Blank e = refl
label_no_key k _ e = absurd (false_true e)

and_true : (a b : Bool) → (a && b) ≡ true → a ≡ true
and_true true b e = refl
and_true false b e = absurd (false_true e)

pub tag_label : (ts : List Token) (i : ℕ) → is_tag ts i ≡ true → is_label (word ts i) ≡ true
unfolding is_tag
tag_label ts i e = and_true _ _ e

no_tag_by : (b first l t : Bool) (v : Word) → 1 ≤ level_of b first (joint_at v)
    → (b && (l && (is_sign sign.Colon v && t))) ≡ false
no_tag_by false first l t v low = refl
no_tag_by true first false t v low = refl
no_tag_by true first true t (w.Sign sign.Colon) low = absurd (omega arith)
no_tag_by true first true t _ low = refl

-- a name whose next token an expression may have behind it is no tag
pub no_tag : (ts : List Token) (b : Bool) (i : ℕ) → 1 ≤ binds ts b (suc i)
    → (b && is_tag ts i) ≡ false
unfolding binds is_tag sees
no_tag ts b i low =
    no_tag_by b (is_first ts (suc i)) (is_label (word ts i)) (touches ts (suc i))
    (word ts (suc i)) low

no_tag_word_by : (b l s t : Bool) → s ≡ false → (b && (l && (s && t))) ≡ false
no_tag_word_by false l s t e = refl
no_tag_word_by true false s t e = refl
no_tag_word_by true true false t e = refl
no_tag_word_by true true true t e = absurd (false_true (sym e))

pub no_tag_word : (ts : List Token) (b : Bool) (i : ℕ) (v : Word) → word ts (suc i) ≡ v
    → is_sign sign.Colon v ≡ false → (b && is_tag ts i) ≡ false
unfolding is_tag
no_tag_word ts b i v e f = no_tag_word_by b _ _ _ (sees_other ts sign.Colon (suc i) v e f)

-- ---- levels

pub binds_at : (ts : List Token) (b : Bool) (i : ℕ) (v : Word) → word ts i ≡ v
    → binds ts b i ≡ level_of b (is_first ts i) (joint_at v)
unfolding binds
binds_at ts b i v e = ap (λ x. level_of b (is_first ts i) (joint_at x)) e

pub binds_joint : (ts : List Token) (b : Bool) (i : ℕ) (c : Sign) (j : Joint) → word ts i ≡ w.Sign c
    → joint_of c ≡ j → binds ts b i ≡ level_of b (is_first ts i) j
binds_joint ts b i c j e f = binds_at ts b i _ e ∙ ap (level_of b (is_first ts i)) f

-- the levels of operators that group to the left
pub record IsLeft (p : ℕ) : Type 0 where
  pub least : 3 ≤ p
  pub most : p ≤ 15
  pub no_choice : p ≢ 13
  pub no_assign : p ≢ 14

is_left : (p : ℕ) → 3 ≤ p → p ≤ 12 → IsLeft p
is_left p l m =
    record { least = l; most = omega arith; no_choice = omega arith; no_assign = omega arith }

abbrev left_of : Joint → ℕ
left_of (joint.Left p) = p
left_of _ = 3

left_by : (c : Sign) → IsLeft (left_of (joint_of c))
left_by sign.Comma =
    record {
      least = omega arith;
      most = omega arith;
      no_choice = omega arith;
      no_assign = omega arith;
    }
left_by sign.Star = is_left 3 (omega arith) (omega arith)
left_by sign.Slash = is_left 3 (omega arith) (omega arith)
left_by sign.Percent = is_left 3 (omega arith) (omega arith)
left_by sign.Plus = is_left 4 (omega arith) (omega arith)
left_by sign.Minus = is_left 4 (omega arith) (omega arith)
left_by sign.ShiftLeft = is_left 5 (omega arith) (omega arith)
left_by sign.ShiftRight = is_left 5 (omega arith) (omega arith)
left_by sign.ShiftUnsigned = is_left 5 (omega arith) (omega arith)
left_by sign.Ampersand = is_left 6 (omega arith) (omega arith)
left_by sign.Caret = is_left 7 (omega arith) (omega arith)
left_by sign.Bar = is_left 8 (omega arith) (omega arith)
left_by sign.Equal = is_left 10 (omega arith) (omega arith)
left_by sign.NotEqual = is_left 10 (omega arith) (omega arith)
left_by sign.LogicalAnd = is_left 11 (omega arith) (omega arith)
left_by sign.LogicalOr = is_left 12 (omega arith) (omega arith)
left_by _ = is_left 3 (omega arith) (omega arith)

pub left_level : (c : Sign) (p : ℕ) → joint_of c ≡ joint.Left p → IsLeft p
left_level c p e = subst IsLeft (ap left_of e) (left_by c)

-- the least level that may stand behind an expression of a level
abbrev pub edge : ℕ → ℕ
edge p = if p == 2 || (p == 13 || p == 14) then suc p else p

pub edge_next : (p : ℕ) → edge p ≤ suc p
edge_next p = grind (arith, nat_tests)

pub edge_left : (s p : ℕ) → IsLeft p → s ≤ p → edge s ≤ p
edge_left s p l u =
    let a = l.least in let b = l.most in
    let c = l.no_choice in let d = l.no_assign in grind (arith, nat_tests)

pub edge_over : (s p : ℕ) → s ≤ p → edge s ≤ suc p
edge_over s p u = grind (arith, nat_tests)

pub edge_postfix : (s : ℕ) → s ≤ 1 → edge s ≤ 1
edge_postfix s u = grind (arith, nat_tests)

-- ---- where a token is

abbrev pub is_real : Word → Bool
is_real w.Absent = false
is_real _ = true

inside_by : (ts : List Token) (i : ℕ) (o : Option Token) → slice_get ts i ≡ o
    → is_real (word_at o) ≡ true → i < length ts
inside_by ts i None e real = absurd (false_true real)
inside_by ts i (Some token) e real = slice_get_within ts i token e

pub inside : (ts : List Token) (i : ℕ) → is_real (word ts i) ≡ true → i < length ts
unfolding word
inside ts i real = inside_by ts i (slice_get ts i) refl real

pub there : (ts : List Token) (i : ℕ) (v : Word) → word ts i ≡ v → is_real v ≡ true → i < length ts
there ts i v e real = inside ts i (ap is_real e ∙ real)

-- ---- ends

ending_by : (ts : List Token) (i k : ℕ) (semi over : Bool)
    → (if semi then Some (suc i) else (if over then Some i else None)) ≡ Some k → i ≤ k
ending_by ts i k true over e = let p = some_inj _ _ e in omega arith
ending_by ts i k false true e = let p = some_inj _ _ e in omega arith
ending_by ts i k false false e = absurd (none_some e)

pub ending_on : (ts : List Token) (i k : ℕ) → ending ts i ≡ Some k → i ≤ k
unfolding ending
ending_on ts i k e = ending_by ts i k _ _ e

pub equal_is : (a b : ℕ) → (a == b) ≡ true → a ≡ b
equal_is a b e = grind (arith, nat_tests)

pub is_equal : (a b : ℕ) → a ≡ b → (a == b) ≡ true
is_equal a b e = grind (arith, nat_tests)

pub below_apart : (a b : ℕ) → a < b → (a == b) ≡ false
below_apart a b l = grind (arith, nat_tests)

-- The tags that a tree mentions, and the names of its heads, have no more bytes than its tokens.
use Rattle.std.proofs.Common.{◌≡◌, ◌+◌, ◌≤◌, ℕ, suc, List, [], ◌∷◌, Bool, true, false, Option, None}
use Rattle.std.proofs.Common.{Some, refl, ap, arith}
use Rattle.std.specs.Prelude.{if◌then◌else◌, length, slice_get, codes, All}
use Rattle.std.proofs.lemmas.List.{length-append}
use Rattle.pawn_cells.specs.declared.place.Place.{Place}
use Rattle.pawn_token.specs.declared.sign.Sign.{Sign}
use Rattle.pawn_token.specs.declared.key.Key.{Key}
use Rattle.pawn_token.specs.declared.key.Key.TheVariants as key
use Rattle.pawn_token.specs.Keys.{key_spelling}
use Rattle.pawn_token.specs.Signs.{sign_spelling}
use Rattle.pawn_token.specs.declared.kind.TokenKind.{TokenKind}
use Rattle.pawn_token.specs.declared.kind.TokenKind.TheVariants as kind
use Rattle.pawn_token.specs.Sizes.{IsNameOrOther}
use Rattle.pawn_lex.specs.declared.token.Token.{Token}
use Rattle.pawn_tree.specs.declared.name.At.{At}
use Rattle.pawn_tree.specs.declared.declaration.HeadName.{HeadName}
use Rattle.pawn_tree.specs.Declarations.{Head, Decl, Variables, Constant, Enum, Native, Forward}
use Rattle.pawn_tree.specs.Declarations.{Function, Tree}
use Rattle.tree_rules.specs.declared.word.Word.{Word}
use Rattle.tree_rules.specs.declared.word.Word.TheVariants as w
use Rattle.tree_rules.specs.Tokens.{at, is_blank, word_of, word_at, word, spelling, is_label}
use Rattle.tree_rules.specs.Tokens.{behind_key}
use Rattle.tree_rules.specs.Lists.{Many, no_more, one_more}
use Rattle.tree_rules.specs.Declarations.{IsHeadName, name_of, operator_of, IsHead, head_of}
use Rattle.tree_rules.specs.Declarations.{IsDecl, variables_decl, constant_decl, enum_decl}
use Rattle.tree_rules.specs.Declarations.{native_decl, forward_decl, function_decl}
use Rattle.tree_rules.specs.Spells.{Spells}
use Rattle.names_rules.specs.Mark.{Mark, Opens, Closes, Mentions, Uses, Declares}
use Rattle.names_rules.specs.Lists.{all_marks}
use Rattle.names_rules.specs.ExpressionMarks.{occurs}
use Rattle.names_rules.specs.TreeMarks.{head_marks, decl_marks, tree_marks}
use Rattle.pawn_meaning.specs.ProgramNames.{IsName}
use Rattle.types_rules.specs.Headings.{public_name}
use Rattle.types_laws.proofs.Grows.{Grows, Spans, up_to_orders, key_on, maybe_tag_rises, end_on}
use Rattle.types_laws.proofs.Nodes.{param_rises, variables_rise, stmt_rises, modifiers_go}
use Rattle.types_laws.proofs.Nodes.{classifier_goes}
use Rattle.types_laws.proofs.TreeRises.{Keeps, keeps_spans}
use Rattle.types_laws.specs.Objects.{Each}
use Rattle.types_laws.specs.TokenSizes.{token_size}
use Rattle.types_laws.proofs.Sizes.{size_at, upto, upto_more, upto_step, label_size, label_name}
use Rattle.types_laws.proofs.HeadNames.{operator_name}

-- ---- tags that are mentioned

abbrev pub mention_size : List Mark → ℕ
mention_size [] = 0
mention_size (Opens ∷ before) = mention_size before
mention_size (Closes ∷ before) = mention_size before
mention_size (Mentions tag ∷ before) = length tag + mention_size before
mention_size (Uses it ∷ before) = mention_size before
mention_size (Declares it ∷ before) = mention_size before

abbrev pub AreNamed : List Mark → Type 0
AreNamed [] = Unit {0}
AreNamed (Opens ∷ before) = AreNamed before
AreNamed (Closes ∷ before) = AreNamed before
AreNamed (Mentions tag ∷ before) = IsName tag × AreNamed before
AreNamed (Uses it ∷ before) = AreNamed before
AreNamed (Declares it ∷ before) = AreNamed before

-- ---- names of heads

abbrev pub own_size : Decl → ℕ
own_size (Variables at it) = 0
own_size (Constant at it) = 0
own_size (Enum at name items) = 0
own_size (Native at head) = length (public_name head.name)
own_size (Forward at is_public head) = length (public_name head.name)
own_size (Function at it) = length (public_name it.head.name)

abbrev pub own_sizes : Tree → ℕ
own_sizes [] = 0
own_sizes (x ∷ xs) = own_size x + own_sizes xs

abbrev pub IsNamedHead : Head → Type 0
IsNamedHead head = IsName (public_name head.name)

abbrev pub IsNamedDecl : Decl → Type 0
IsNamedDecl (Variables at it) = Unit {0}
IsNamedDecl (Constant at it) = Unit {0}
IsNamedDecl (Enum at name items) = Unit {0}
IsNamedDecl (Native at head) = IsNamedHead head
IsNamedDecl (Forward at is_public head) = IsNamedHead head
IsNamedDecl (Function at it) = IsNamedHead it.head

label_of_name : (it : Word) → it ≡ w.Name → is_label it ≡ true
label_of_name it e = ap is_label e

-- ---- the count

-- tags of marks, and so many bytes besides, have no more bytes than the tokens before one
pub record Counts (ts : List Token) (base : ℕ) (marks : List Mark) (m : ℕ) : Type 0 where
  pub fits : mention_size marks + base ≤ upto ts m
  pub named : AreNamed marks

module _ (ts : List Token) (named : All (λ (token : Token). IsNameOrOther token.kind) ts) where
  counts_on : (base : ℕ) {marks : List Mark} {m k : ℕ} → Counts ts base marks m → m ≤ k
      → Counts ts base marks k
  counts_on base {m = m} {k = k} r le =
      record { fits = omega (arith, r.fits, upto_more ts m k le); named = r.named }

  counts_mention : (base : ℕ) {marks : List Mark} {i : ℕ} → is_label (word ts i) ≡ true
      → Counts ts base marks i → Counts ts base (Mentions (spelling ts i) ∷ marks) (suc i)
  counts_mention base {i = i} l r = record {
    fits = omega (arith, r.fits, upto_step ts i, label_size ts named i l);
    named = (label_name ts named i l, r.named);
  }

  counts_occur : (base : ℕ) (name : List ℕ) (node : At) {marks : List Mark} {i : ℕ}
      → Counts ts base marks i → Counts ts base (occurs name (at ts i) node ∷ marks) (suc i)
  counts_occur base name node {i = i} r =
      record { fits = omega (arith, r.fits, upto_more ts i (suc i) (omega arith)); named = r.named }

  counts_grow : (base : ℕ) → Grows ts (Counts ts base)
  counts_grow base = record {
    on = counts_on base;
    mention = counts_mention base;
    occur = counts_occur base;
  }

  counts_keep : (base : ℕ) → Keeps (Counts ts base)
  counts_keep base = record {
    opens = λ r. record { fits = r.fits; named = r.named };
    closes = λ r. record { fits = r.fits; named = r.named };
    declares = λ it r. record { fits = r.fits; named = r.named };
  }

  counts_span : (base : ℕ) → Spans ts (Counts ts base)
  counts_span base = keeps_spans ts (counts_grow base) (counts_keep base)

  counts_as : {base other : ℕ} {marks : List Mark} {m : ℕ} → base ≡ other → Counts ts base marks m
      → Counts ts other marks m
  counts_as e r = record { fits = omega (arith, r.fits, e); named = r.named }

  -- ---- heads

  no_key : (b : Bool) (k : Key) → (if b then w.Blank else w.Name) ≡ w.Key k → ⊥
  no_key true k e = cc
  no_key false k e = cc

  no_sign : (b : Bool) (c : Sign) → (if b then w.Blank else w.Name) ≡ w.Sign c → ⊥
  no_sign true c e = cc
  no_sign false c e = cc

  key_kind : (it : TokenKind) (k : Key) → word_of it ≡ w.Key k
      → token_size it ≡ length (key_spelling k)
  key_kind (kind.Name bytes) k e = absurd (no_key (is_blank bytes) k e)
  key_kind (kind.Key x) k e = let same : x ≡ k = cc in ap (λ z. length (key_spelling z)) same
  key_kind (kind.Number v) k e = absurd (let never : ⊥ = cc in never)
  key_kind (kind.Text bytes packed) k e = absurd (let never : ⊥ = cc in never)
  key_kind (kind.Sign s) k e = absurd (let never : ⊥ = cc in never)

  sign_kind : (it : TokenKind) (c : Sign) → word_of it ≡ w.Sign c
      → token_size it ≡ length (sign_spelling c)
  sign_kind (kind.Name bytes) c e = absurd (no_sign (is_blank bytes) c e)
  sign_kind (kind.Key x) c e = absurd (let never : ⊥ = cc in never)
  sign_kind (kind.Number v) c e = absurd (let never : ⊥ = cc in never)
  sign_kind (kind.Text bytes packed) c e = absurd (let never : ⊥ = cc in never)
  sign_kind (kind.Sign s) c e = let same : s ≡ c = cc in ap (λ z. length (sign_spelling z)) same

  key_at : (it : Option Token) (k : Key) → word_at it ≡ w.Key k
      → size_at it ≡ length (key_spelling k)
  key_at None k e = absurd (let never : ⊥ = cc in never)
  key_at (Some token) k e = key_kind token.kind k e

  sign_at : (it : Option Token) (c : Sign) → word_at it ≡ w.Sign c
      → size_at it ≡ length (sign_spelling c)
  sign_at None c e = absurd (let never : ⊥ = cc in never)
  sign_at (Some token) c e = sign_kind token.kind c e

  key_size : (i : ℕ) (k : Key) → word ts i ≡ w.Key k
      → size_at (slice_get ts i) ≡ length (key_spelling k)
  unfolding word
  key_size i k e = key_at (slice_get ts i) k e

  sign_size : (i : ℕ) (c : Sign) → word ts i ≡ w.Sign c
      → size_at (slice_get ts i) ≡ length (sign_spelling c)
  unfolding word
  sign_size i c e = sign_at (slice_get ts i) c e

  operator_size : length (key_spelling key.Operator) ≡ length (codes "operator")
  unfolding key_spelling
  operator_size = refl

  head_name_counts : {i j : ℕ} {name : HeadName} (base : ℕ) {marks : List Mark}
      → IsHeadName ts name i j → Counts ts base marks i
      → Counts ts (base + length (public_name name)) marks j
  head_name_counts base (name_of {i = i} e) r = record {
    fits = omega (
      arith,
      r.fits,
      upto_step ts i,
      label_size ts named i (label_of_name (word ts i) e),
    );
    named = r.named;
  }
  head_name_counts base (operator_of {i = i} {c = c} e d) r = record {
    fits = omega (
      arith,
      r.fits,
      upto_step ts i,
      upto_step ts (suc i),
      key_size i key.Operator e,
      sign_size (suc i) c d,
      operator_size,
      length-append (codes "operator") (sign_spelling c),
    );
    named = r.named;
  }

  head_counts : (place : Place) {native : Bool} {h i j : ℕ} {x : Head} (base : ℕ)
      → IsHead ts native h x i j → (before : List Mark) → Counts ts base before i
      → Counts ts (base + length (public_name x.name)) (head_marks place x before) j
  head_counts place {i = i} base (head_of {name = name} c c2 ps) before r =
      let all = base + length (public_name name) in
      let here = head_name_counts base c (maybe_tag_rises (counts_grow base) i r) in
      counts_on all (up_to_orders (counts_grow all)
      (record { orders = param_rises ts (counts_grow all) (counts_span all) place }) ps _
      ((counts_span all).opens (counts_on all here (omega arith)))) (omega arith)

  none_besides : (base : ℕ) → base ≡ base + 0
  none_besides base = omega arith

  decl_counts : {h i j : ℕ} {x : Decl} (base : ℕ) → IsDecl ts h x i j → (before : List Mark)
      → Counts ts base before i → Counts ts (base + own_size x) (decl_marks x before) j
  decl_counts {i = i} base (variables_decl c s f v) before r =
      counts_as (none_besides base)
      (variables_rise ts (counts_grow base) (counts_span base) (at ts i).place true v before
      (counts_on base r (omega arith)))
  decl_counts {i = i} base (constant_decl c x) before r =
      counts_as (none_besides base)
      ((counts_span base).constant (at ts i).place true x before (counts_on base r (omega arith)))
  decl_counts {i = i} base (enum_decl c x) before r =
      counts_as (none_besides base)
      ((counts_span base).enum (at ts i).place x before (counts_on base r (omega arith)))
  decl_counts {i = i} base (native_decl {x = x} c p e) before r =
      let all = base + length (public_name x.name) in
      end_on (counts_grow all) ((counts_span all).closes
      (head_counts (at ts i).place base p before (counts_on base r (omega arith)))) e
  decl_counts {i = i} base (forward_decl {x = x} c p e) before r =
      let all = base + length (public_name x.name) in
      let a : suc i ≤ behind_key ts key.Public (suc i) = key_on ts key.Public (suc i) in
      end_on (counts_grow all) ((counts_span all).closes
      (head_counts (at ts i).place base p before (counts_on base r (omega arith)))) e
  decl_counts {i = i} base (function_decl {x = x} m p c s) before r =
      let all = base + length (public_name x.name) in
      let a = modifiers_go ts (counts_grow base) (counts_span base) m in
      let b = classifier_goes ts (counts_grow base) (counts_span base) c in
      (counts_span all).closes (stmt_rises ts (counts_grow all) (counts_span all) s _
      (counts_on all (head_counts (at ts i).place base p before (counts_on base r a)) b))

  many_counts : {more : ℕ → Bool} {h i j : ℕ} {xs : List Decl} (base : ℕ)
      → Many more (IsDecl ts) h xs i j → (before : List Mark) → Counts ts base before i
      → Counts ts (base + own_sizes xs) (all_marks decl_marks xs before) j
  many_counts base (no_more f) before r = counts_as (none_besides base) r
  many_counts base (one_more {x = x} {xs = xs} t p m) before r =
      counts_as (plus base (own_size x) (own_sizes xs))
      (many_counts (base + own_size x) m (decl_marks x before) (decl_counts base p before r))
    where
      plus : (a b c : ℕ) → a + b + c ≡ a + (b + c)
      plus a b c = omega arith

  pub tree_counts : (tree : Tree) → Spells ts tree
      → Counts ts (own_sizes tree) (tree_marks tree) (length ts)
  tree_counts tree spells =
      counts_as (nothing (own_sizes tree)) (many_counts 0 spells.decls []
      (record { fits = omega arith; named = tt }))
    where
      nothing : (n : ℕ) → 0 + n ≡ n
      nothing n = omega arith

  -- ---- names of heads are names

  head_name_named : {i j : ℕ} {name : HeadName} → IsHeadName ts name i j → IsName (public_name name)
  head_name_named (name_of {i = i} e) = label_name ts named i (label_of_name (word ts i) e)
  head_name_named (operator_of {c = c} e d) = operator_name c

  head_named : {native : Bool} {h i j : ℕ} {x : Head} → IsHead ts native h x i j → IsNamedHead x
  head_named (head_of c c2 ps) = head_name_named c

  decl_named : {h i j : ℕ} {x : Decl} → IsDecl ts h x i j → IsNamedDecl x
  decl_named (variables_decl c s f v) = tt
  decl_named (constant_decl c x) = tt
  decl_named (enum_decl c x) = tt
  decl_named (native_decl c p e) = head_named p
  decl_named (forward_decl c p e) = head_named p
  decl_named (function_decl m p c s) = head_named p

  many_named : {more : ℕ → Bool} {h i j : ℕ} {xs : List Decl} → Many more (IsDecl ts) h xs i j
      → Each IsNamedDecl xs
  many_named (no_more f) = tt
  many_named (one_more t p m) = (decl_named p, many_named m)

  pub tree_named : (tree : Tree) → Spells ts tree → Each IsNamedDecl tree
  tree_named tree spells = many_named spells.decls

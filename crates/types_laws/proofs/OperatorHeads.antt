-- An operator that a head may have takes as many plain parameters as its sign has operands.
use Rattle.std.proofs.Common.{◌≡◌, ℕ, List, [], ◌∷◌, Bool, true, false, Option, None, Some, refl}
use Rattle.std.proofs.Common.{sym, ap, ◌∙◌}
use Rattle.std.specs.Prelude.{if◌then◌else◌, ◌&&◌, length, nat_eq}
use Rattle.std.specs.Str.{bytes_eq}
use Rattle.std.proofs.lemmas.Bool.{eqb-true}
use Rattle.pawn_token.specs.declared.sign.Sign.{Sign}
use Rattle.pawn_token.specs.declared.sign.Sign.TheVariants as sign
use Rattle.pawn_tree.specs.declared.name.StateName.{StateName}
use Rattle.pawn_tree.specs.declared.declaration.HeadName.{HeadName}
use Rattle.pawn_tree.specs.declared.declaration.HeadName.TheVariants as called
use Rattle.pawn_tree.specs.Declarations.{Head}
use Rattle.pawn_tags.specs.Tags.{untagged}
use Rattle.pawn_tags.specs.declared.op.Op.{Op}
use Rattle.pawn_tags.specs.declared.op.Op.TheVariants as op
use Rattle.pawn_tags.specs.declared.op.Signature.{Signature}
use Rattle.pawn_tags.proofs.OverloadLaws.{only_for}
use Rattle.names_rules.specs.Overloads.{op_of, tag_number, plain_tags}
use Rattle.types_rules.specs.Keys.{Key, Named, Operates, Enters, Misshapen, signature_between}
use Rattle.types_rules.specs.Keys.{signature_of, operator_key, entered_automaton, entry_name}
use Rattle.types_rules.specs.Keys.{key_by, same_key}
use Rattle.types_laws.specs.Known.{operands}

-- ---- the operator of a signature

-- the right one of its tags where it has one operand
abbrev right_of : Op → ℕ → ℕ
right_of op.Assign result = result
right_of _ result = untagged

-- a signature by the tags of its parameters
abbrev signed : Op → ℕ → Option (List ℕ) → Option Signature
signed it right None = None
signed it right (Some []) = None
signed it right (Some (operand ∷ [])) = signature_between it operand right
signed it right (Some (left ∷ other ∷ [])) = signature_between it left other
signed it right (Some (left ∷ other ∷ third ∷ more)) = None

signed_is : (it : Op) (result : ℕ) (tags : Option (List ℕ))
    → signature_of (Some it) result tags ≡ signed it (right_of it result) tags
signed_is op.Add result tags = refl
signed_is op.Sub result tags = refl
signed_is op.Mul result tags = refl
signed_is op.Div result tags = refl
signed_is op.Rem result tags = refl
signed_is op.Inc result tags = refl
signed_is op.Dec result tags = refl
signed_is op.Eq result tags = refl
signed_is op.Neq result tags = refl
signed_is op.Less result tags = refl
signed_is op.Greater result tags = refl
signed_is op.LessEq result tags = refl
signed_is op.GreaterEq result tags = refl
signed_is op.Not result tags = refl
signed_is op.Neg result tags = refl
signed_is op.Assign result tags = refl

pub some_is : {A : Type 0} (x y : A) → Some x ≡ Some y → x ≡ y
some_is x y e = cc

chosen : (b : Bool) (it : Op) (left right : ℕ) (found : Signature)
    → (if b then None else Some (record { op = it; left = left; right = right })) ≡ Some found
    → found.op ≡ it
chosen true it left right found e = absurd (let no : ⊥ = cc in no)
chosen false it left right found e =
    ap (λ (s : Signature). s.op) (sym (some_is _ found e))

between_op : (it : Op) (left right : ℕ) (found : Signature)
    → signature_between it left right ≡ Some found → found.op ≡ it
between_op it left right found e =
    chosen (nat_eq left untagged && nat_eq right untagged) it left right found e

-- what a signature that is there says
record IsSigned (it : Op) (tags : Option (List ℕ)) (found : Signature) : Type 0 where
  pub op_is : found.op ≡ it
  pub plain : List ℕ
  pub tags_are : tags ≡ Some plain

signed_there : (it : Op) (right : ℕ) (tags : Option (List ℕ)) (found : Signature)
    → signed it right tags ≡ Some found → IsSigned it tags found
signed_there it right None found e = absurd (let no : ⊥ = cc in no)
signed_there it right (Some []) found e = absurd (let no : ⊥ = cc in no)
signed_there it right (Some (x ∷ [])) found e =
    record { op_is = between_op it x right found e; plain = x ∷ []; tags_are = refl }
signed_there it right (Some (x ∷ y ∷ [])) found e =
    record { op_is = between_op it x y found e; plain = x ∷ y ∷ []; tags_are = refl }
signed_there it right (Some (x ∷ y ∷ z ∷ more)) found e = absurd (let no : ⊥ = cc in no)

-- ---- how many operands a sign has

counted : (b : Bool) (n k : ℕ) (x it : Op) → nat_eq n k ≡ b → operands x ≡ k
    → (if b then Some x else None) ≡ Some it → n ≡ operands it
counted true n k x it e o s =
    eqb-true n k e ∙ sym o ∙ ap operands (some_is x it s)
counted false n k x it e o s = absurd (let no : ⊥ = cc in no)

minus_by : (b c : Bool) (n : ℕ) (it : Op) → nat_eq n 2 ≡ b → nat_eq n 1 ≡ c
    → (if b then Some op.Sub else (if c then Some op.Neg else None)) ≡ Some it
    → n ≡ operands it
minus_by true c n it e f s = counted true n 2 op.Sub it e refl s
minus_by false c n it e f s = counted c n 1 op.Neg it f refl s

op_counts : (s : Sign) (n : ℕ) (it : Op) → op_of s n ≡ Some it → n ≡ operands it
op_counts sign.ShiftUnsignedAssign n it e = absurd (let no : ⊥ = cc in no)
op_counts sign.ShiftUnsigned n it e = absurd (let no : ⊥ = cc in no)
op_counts sign.ShiftRightAssign n it e = absurd (let no : ⊥ = cc in no)
op_counts sign.ShiftLeftAssign n it e = absurd (let no : ⊥ = cc in no)
op_counts sign.Ellipsis n it e = absurd (let no : ⊥ = cc in no)
op_counts sign.ShiftRight n it e = absurd (let no : ⊥ = cc in no)
op_counts sign.ShiftLeft n it e = absurd (let no : ⊥ = cc in no)
op_counts sign.GreaterEqual n it e = counted (nat_eq n 2) n 2 op.GreaterEq it refl refl e
op_counts sign.LessEqual n it e = counted (nat_eq n 2) n 2 op.LessEq it refl refl e
op_counts sign.Equal n it e = counted (nat_eq n 2) n 2 op.Eq it refl refl e
op_counts sign.NotEqual n it e = counted (nat_eq n 2) n 2 op.Neq it refl refl e
op_counts sign.LogicalAnd n it e = absurd (let no : ⊥ = cc in no)
op_counts sign.LogicalOr n it e = absurd (let no : ⊥ = cc in no)
op_counts sign.AddAssign n it e = absurd (let no : ⊥ = cc in no)
op_counts sign.SubtractAssign n it e = absurd (let no : ⊥ = cc in no)
op_counts sign.MultiplyAssign n it e = absurd (let no : ⊥ = cc in no)
op_counts sign.DivideAssign n it e = absurd (let no : ⊥ = cc in no)
op_counts sign.RemainderAssign n it e = absurd (let no : ⊥ = cc in no)
op_counts sign.AndAssign n it e = absurd (let no : ⊥ = cc in no)
op_counts sign.OrAssign n it e = absurd (let no : ⊥ = cc in no)
op_counts sign.XorAssign n it e = absurd (let no : ⊥ = cc in no)
op_counts sign.Increment n it e = counted (nat_eq n 1) n 1 op.Inc it refl refl e
op_counts sign.Decrement n it e = counted (nat_eq n 1) n 1 op.Dec it refl refl e
op_counts sign.DotDot n it e = absurd (let no : ⊥ = cc in no)
op_counts sign.OpenParenthesis n it e = absurd (let no : ⊥ = cc in no)
op_counts sign.CloseParenthesis n it e = absurd (let no : ⊥ = cc in no)
op_counts sign.OpenBracket n it e = absurd (let no : ⊥ = cc in no)
op_counts sign.CloseBracket n it e = absurd (let no : ⊥ = cc in no)
op_counts sign.OpenBrace n it e = absurd (let no : ⊥ = cc in no)
op_counts sign.CloseBrace n it e = absurd (let no : ⊥ = cc in no)
op_counts sign.Semicolon n it e = absurd (let no : ⊥ = cc in no)
op_counts sign.Comma n it e = absurd (let no : ⊥ = cc in no)
op_counts sign.Dot n it e = absurd (let no : ⊥ = cc in no)
op_counts sign.Colon n it e = absurd (let no : ⊥ = cc in no)
op_counts sign.Question n it e = absurd (let no : ⊥ = cc in no)
op_counts sign.Assign n it e = counted (nat_eq n 1) n 1 op.Assign it refl refl e
op_counts sign.Less n it e = counted (nat_eq n 2) n 2 op.Less it refl refl e
op_counts sign.Greater n it e = counted (nat_eq n 2) n 2 op.Greater it refl refl e
op_counts sign.Plus n it e = counted (nat_eq n 2) n 2 op.Add it refl refl e
op_counts sign.Minus n it e = minus_by (nat_eq n 2) (nat_eq n 1) n it refl refl e
op_counts sign.Star n it e = counted (nat_eq n 2) n 2 op.Mul it refl refl e
op_counts sign.Slash n it e = counted (nat_eq n 2) n 2 op.Div it refl refl e
op_counts sign.Percent n it e = counted (nat_eq n 2) n 2 op.Rem it refl refl e
op_counts sign.Ampersand n it e = absurd (let no : ⊥ = cc in no)
op_counts sign.Bar n it e = absurd (let no : ⊥ = cc in no)
op_counts sign.Caret n it e = absurd (let no : ⊥ = cc in no)
op_counts sign.Exclamation n it e = counted (nat_eq n 1) n 1 op.Not it refl refl e
op_counts sign.Tilde n it e = absurd (let no : ⊥ = cc in no)

-- ---- the head of an operator

-- what the head of a function with a signature is
pub record IsOperatorHead (names : List (List ℕ)) (head : Head) (it : Signature) : Type 0 where
  pub count : length head.params ≡ operands it.op
  pub plain : List ℕ
  pub tags_are : plain_tags names head.params ≡ Some plain

operates_is : (o : Option Signature) (it : Signature) → operator_key o ≡ Operates it → o ≡ Some it
operates_is None it e = absurd (let no : ⊥ = cc in no)
operates_is (Some x) it e = let same : x ≡ it = cc in ap Some same

no_name : (b : Bool) (x y : List ℕ) (it : Signature)
    → (if b then Enters x else Named y) ≡ Operates it → ⊥
no_name true x y it e = let no : ⊥ = cc in no
no_name false x y it e = let no : ⊥ = cc in no

head_by : (names : List (List ℕ)) (head : Head) (it : Signature) (s : Sign) (o : Option Op)
    → op_of s (length head.params) ≡ o
    → signature_of o (tag_number names head.tag) (plain_tags names head.params) ≡ Some it
    → IsOperatorHead names head it
head_by names head it s None f e = absurd (let no : ⊥ = cc in no)
head_by names head it s (Some x) f e =
    let r = signed_there x (right_of x (tag_number names head.tag)) (plain_tags names head.params)
    it
    (sym (signed_is x (tag_number names head.tag) (plain_tags names head.params)) ∙ e) in
    record {
      count = op_counts s (length head.params) x f ∙ ap operands (sym r.op_is);
      plain = r.plain;
      tags_are = r.tags_are;
    }

pub operator_head : (names : List (List ℕ)) (fallback : List ℕ) (head : Head)
    (states : Option (List StateName)) (name : HeadName) (it : Signature)
    → key_by names fallback head states name ≡ Operates it → IsOperatorHead names head it
operator_head names fallback head states (called.Name name) it e =
    absurd
    (no_name (bytes_eq name.bytes entry_name) (entered_automaton fallback states) name.bytes it e)
operator_head names fallback head states (called.Operator at s) it e =
    head_by names head it s (op_of s (length head.params)) refl (operates_is _ it e)

-- a key that is the same as an operator's is it
pub same_operates : (it : Signature) (key : Key) → same_key (Operates it) key ≡ true
    → key ≡ Operates it
same_operates it (Named name) e = absurd (let no : ⊥ = cc in no)
same_operates it (Operates x) e =
    ap (λ (s : Signature). Operates s) (sym (only_for it.op it.left it.right x e))
same_operates it (Enters name) e = absurd (let no : ⊥ = cc in no)
same_operates it Misshapen e = absurd (let no : ⊥ = cc in no)

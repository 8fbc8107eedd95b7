-- Nested trees and the trees of the grammar: a row of nested comparisons is one chain.
use Rattle.std.proofs.Common.{◌≡◌, ◌≤◌, ◌-◌, ℕ, ℤ, Bool, true, false, ◌&&◌, Option, Some, None}
use Rattle.std.proofs.Common.{List, [], ◌∷◌, ◌++◌, map, refl, sym, ap, ◌∙◌, append_assoc, arith}
use Rattle.std.proofs.lemmas.List.{map-append}
use Rattle.pawn_cells.specs.declared.operator.Comparison.{Comparison}
use Rattle.pawn_cells.specs.declared.operator.Logical.{Logical}
use Rattle.pawn_cells.specs.declared.operator.Logical.TheVariants as logic
use Rattle.pawn_cells.specs.declared.operator.Operator.{Operator}
use Rattle.pawn_cells.specs.declared.operator.Operator.TheVariants as between
use Rattle.pawn_cells.specs.declared.operator.Prefix.{Prefix}
use Rattle.pawn_cells.specs.declared.operator.Prefix.TheVariants as prefix
use Rattle.pawn_cells.specs.Operators as operators
use Rattle.pawn_cells.specs.Cells.{truth}
use Rattle.pawn_cells.specs.Operators.{chain, chain_holds, compare}
use Rattle.pawn_token.specs.declared.kind.TokenKind.{TokenKind}
use Rattle.pawn_token.specs.declared.kind.TokenKind.TheVariants as kind
use Rattle.pawn_token.specs.declared.sign.Sign.TheVariants as sign
use Rattle.pawn_pre.specs.declared.part.Infix.{Infix}
use Rattle.pawn_pre.specs.declared.part.Infix.TheVariants.{Cells, Compare}
use Rattle.pawn_pre.specs.declared.part.Infix.TheVariants as joint
use Rattle.pawn_pre.specs.declared.part.Part.{Part}
use Rattle.pawn_pre.specs.declared.part.Part.TheVariants as part
use Rattle.pawn_pre.specs.declared.reading.Reading.{Reading}
use Rattle.pawn_pre.specs.Expression.{Expr, Links, Number, Group, Unary, Binary, Logic, Chain}
use Rattle.pawn_pre.specs.Expression.{Choice, First, Then, prefix_sign, operator_sign}
use Rattle.pawn_pre.specs.Expression.{comparison_sign, logical_sign, spell, spell_links, Fits}
use Rattle.pawn_pre.specs.Expression.{FitLinks, on_one, on_two, chosen, Linked, with_link}
use Rattle.pawn_pre.specs.Expression.{chained, value, values}
use Rattle.pawn_pre.specs.Nested.{Nested, level, prefix_part, parts, Nests, plain, holds_of}
use Rattle.pawn_pre.specs.Nested.{all_hold, compared, applied, reading}
use Rattle.pawn_pre.specs.Nested as n

-- the token of a part
abbrev pub word : Part → TokenKind
word (part.Value v) = kind.Number v
word (part.Two (Cells op)) = kind.Sign (operator_sign op)
word (part.Two (Compare c)) = kind.Sign (comparison_sign c)
word (part.Two (joint.Logic op)) = kind.Sign (logical_sign op)
word part.Not = kind.Sign sign.Exclamation
word part.Invert = kind.Sign sign.Tilde
word part.Question = kind.Sign sign.Question
word part.Colon = kind.Sign sign.Colon
word part.Open = kind.Sign sign.OpenParenthesis
word part.Close = kind.Sign sign.CloseParenthesis

-- a chain nested to the left
abbrev mutual
  pub nest : Expr → Nested
  nest (Number v) = n.Number v
  nest (Group e) = n.Group (nest e)
  nest (Unary op a) = n.Before op (nest a)
  nest (Binary op a b) = n.Two (Cells op) (nest a) (nest b)
  nest (Logic op a b) = n.Two (joint.Logic op) (nest a) (nest b)
  nest (Chain a links) = nest_links (nest a) links
  nest (Choice c a b) = n.Choice (nest c) (nest a) (nest b)

  pub nest_links : Nested → Links → Nested
  nest_links first (First c x) = n.Two (Compare c) first (nest x)
  nest_links first (Then links c x) = n.Two (Compare c) (nest_links first links) (nest x)

prefix_word : (op : Prefix) → word (prefix_part op) ≡ kind.Sign (prefix_sign op)
prefix_word prefix.Not = refl
prefix_word prefix.Invert = refl
prefix_word prefix.Negate = refl

joined : (xs ys : List Part) (x : Part) (us vs : List TokenKind) → map word xs ≡ us
    → map word ys ≡ vs → map word (xs ++ (x ∷ ys)) ≡ us ++ (word x ∷ vs)
joined xs ys x us vs e f =
    map-append word xs (x ∷ ys) ∙ ap (λ ks. ks ++ (word x ∷ map word ys)) e
    ∙ ap (λ ks. us ++ (word x ∷ ks)) f

-- spelled alike
mutual
  unfolding spell parts

  pub spelled : (e : Expr) → map word (parts (nest e)) ≡ spell e
  spelled (Number v) = refl
  spelled (Group e) =
      ap (λ ks. kind.Sign sign.OpenParenthesis ∷ ks)
      (joined (parts (nest e)) [] part.Close (spell e) [] (spelled e) refl)
  spelled (Unary op a) =
      ap (λ k. k ∷ map word (parts (nest a))) (prefix_word op)
      ∙ ap (λ ks. kind.Sign (prefix_sign op) ∷ ks) (spelled a)
  spelled (Binary op a b) =
      joined (parts (nest a)) (parts (nest b)) (part.Two (Cells op)) (spell a) (spell b) (spelled a)
      (spelled b)
  spelled (Logic op a b) =
      joined (parts (nest a)) (parts (nest b)) (part.Two (joint.Logic op)) (spell a) (spell b)
      (spelled a) (spelled b)
  spelled (Chain a links) = links_spelled (nest a) links (spell a) (spelled a)
  spelled (Choice c a b) =
      joined (parts (nest c)) (parts (nest a) ++ (part.Colon ∷ parts (nest b))) part.Question
      (spell c) (spell a ++ (kind.Sign sign.Colon ∷ spell b))
      (spelled c) (joined (parts (nest a)) (parts (nest b)) part.Colon (spell a) (spell b)
      (spelled a) (spelled b))

  links_spelled : (first : Nested) (links : Links) (us : List TokenKind)
      → map word (parts first) ≡ us
      → map word (parts (nest_links first links)) ≡ us ++ spell_links links
  links_spelled first (First c x) us e =
      joined (parts first) (parts (nest x)) (part.Two (Compare c)) us (spell x) e (spelled x)
  links_spelled first (Then links c x) us e =
      joined (parts (nest_links first links)) (parts (nest x)) (part.Two (Compare c))
      (us ++ spell_links links) (spell x)
      (links_spelled first links us e) (spelled x)
      ∙ append_assoc us (spell_links links) (kind.Sign (comparison_sign c) ∷ spell x)

nests_more : (k m : ℕ) (e : Nested) → k ≤ m → Nests k e → Nests m e
unfolding Nests
nests_more k m (n.Number v) h nests = tt
nests_more k m (n.Group e) h nests = nests
nests_more k m (n.Before op a) h nests = (omega (arith, h, nests.0), nests.1)
nests_more k m (n.Two op a b) h nests = (omega (arith, h, nests.0), nests.1, nests.2)
nests_more k m (n.Choice c a b) h nests = (omega (arith, h, nests.0), nests.1, nests.2, nests.3)

-- on the same levels
mutual
  unfolding Fits Nests

  pub nests : (e : Expr) (k : ℕ) → Fits k e → Nests k (nest e)
  nests (Number v) k fits = tt
  nests (Group e) k fits = nests e 13 fits
  nests (Unary op a) k fits = (fits.0, nests a 2 fits.1)
  nests (Binary op a b) k fits =
      (fits.0, nests a (operators.level op) fits.1, nests b (operators.level op - 1) fits.2)
  nests (Logic op a b) k fits = (
    fits.0,
    nests a (operators.logical_level op) fits.1,
    nests b (operators.logical_level op - 1) fits.2,
  )
  nests (Chain a links) k fits = nest_links_nests (nest a) links k fits.0 (nests a 8 fits.1) fits.2
  nests (Choice c a b) k fits = (fits.0, nests c 12 fits.1, nests a 13 fits.2, nests b 13 fits.3)

  nest_links_nests : (first : Nested) (links : Links) (k : ℕ) → 9 ≤ k → Nests 8 first
      → FitLinks links → Nests k (nest_links first links)
  nest_links_nests first (First c x) k h begins fits =
      (h, nests_more 8 9 first (omega arith) begins, nests x 8 fits)
  nest_links_nests first (Then links c x) k h begins fits =
      (h, nest_links_nests first links 9 (omega arith) begins fits.0, nests x 8 fits.1)

-- ---- values

IsPlain : Reading → Type 0
IsPlain r = (r.holds ≡ true) × (r.last ≡ r.value)

-- no comparison is open where none stands
plain_read : (e : Nested) → Nests 8 e → IsPlain (reading e)
unfolding IsPlain Nests reading applied
plain_read (n.Number v) nests = (refl, refl)
plain_read (n.Group e) nests = (refl, refl)
plain_read (n.Before op a) nests = (refl, refl)
plain_read (n.Two (Cells op) a b) nests = (refl, refl)
plain_read (n.Two (Compare c) a b) nests = absurd (omega (arith, nests.0))
plain_read (n.Two (joint.Logic op) a b) nests = (refl, refl)
plain_read (n.Choice c a b) nests = (refl, refl)

and_true : (a : Bool) → a ≡ (a && true)
and_true true = refl
and_true false = refl

and_assoc : (a b c : Bool) → (a && (b && c)) ≡ ((a && b) && c)
and_assoc true b c = refl
and_assoc false b c = refl

-- the operand that the next link takes up
abbrev last_of : ℤ → List (Comparison × ℤ) → ℤ
last_of first [] = first
last_of first (link ∷ links) = last_of link.1 links

chain_more : (first : ℤ) (links : List (Comparison × ℤ)) (c : Comparison) (x : ℤ)
    → chain_holds first (links ++ (c, x) ∷ [])
    ≡ (chain_holds first links && compare c (last_of first links) x)
unfolding chain_holds
chain_more first [] c x = sym (and_true (compare c first x))
chain_more first (link ∷ links) c x =
    ap (λ t. compare link.0 first link.1 && t) (chain_more link.1 links c x)
    ∙ and_assoc (compare link.0 first link.1) (chain_holds link.1 links)
    (compare c (last_of link.1 links) x)

-- a reading is that of a chain
IsLinked : Option ℤ → Linked → Reading → Type 0
IsLinked None links r = r.value ≡ None
IsLinked (Some first) None r = r.value ≡ None
IsLinked (Some first) (Some links) r =
    (r.value ≡ Some (chain first links)) × (r.holds ≡ chain_holds first links)
    × (r.last ≡ Some (last_of first links))

abbrev on_readings : Bool → Option ℤ → Option ℤ → Option ℤ
on_readings t a b = on_two (λ x y. Some (truth t)) a b

link_first : (a b : Reading) (c : Comparison) (first x : Option ℤ) → IsPlain a → a.value ≡ first
    → b.value ≡ x
    → IsLinked first (with_link (Some []) c x) (compared c a b)
unfolding IsPlain IsLinked chain_holds
link_first a b c None x is e f = ap (λ v. on_readings (all_hold c a b) v b.value) e
link_first a b c (Some first) None is e f =
    ap (λ v. on_readings (all_hold c a b) v b.value) e
    ∙ ap (λ v. on_readings (all_hold c a b) (Some first) v) f
link_first a b c (Some first) (Some x) is e f =
    let all : all_hold c a b ≡ (compare c first x && true) =
    ap (λ t. t && holds_of c a.last b.value) is.0 ∙ ap (λ v. holds_of c v b.value) (is.1 ∙ e)
    ∙ ap (λ v. holds_of c (Some first) v) f ∙ and_true (compare c first x) in (
      ap (λ v. on_readings (all_hold c a b) v b.value) e
          ∙ ap (λ v. on_readings (all_hold c a b) (Some first) v) f
          ∙ ap (λ t. Some (truth t)) all,
      all,
      f,
    )

link_next : (a b : Reading) (c : Comparison) (first : Option ℤ) (links : Linked) (x : Option ℤ)
    → IsLinked first links a → b.value ≡ x
    → IsLinked first (with_link links c x) (compared c a b)
unfolding IsLinked
link_next a b c None links x is f = ap (λ v. on_readings (all_hold c a b) v b.value) is
link_next a b c (Some first) None x is f = ap (λ v. on_readings (all_hold c a b) v b.value) is
link_next a b c (Some first) (Some links) None is f =
    ap (λ v. on_readings (all_hold c a b) v b.value) is.0
    ∙ ap (λ v. on_readings (all_hold c a b) (Some (chain first links)) v) f
link_next a b c (Some first) (Some links) (Some x) is f =
    let all : all_hold c a b ≡ chain_holds first (links ++ (c, x) ∷ []) =
    ap (λ t. t && holds_of c a.last b.value) is.1
    ∙ ap (λ v. chain_holds first links && holds_of c v b.value) is.2
    ∙ ap (λ v. chain_holds first links && holds_of c (Some (last_of first links)) v) f
    ∙ sym (chain_more first links c x) in (
      ap (λ v. on_readings (all_hold c a b) v b.value) is.0
          ∙ ap (λ v. on_readings (all_hold c a b) (Some (chain first links)) v) f
          ∙ ap (λ t. Some (truth t)) all,
      all,
      f ∙ ap (λ v. Some v) (sym (last_more first links c x)),
    )
  where
    last_more : (first : ℤ) (links : List (Comparison × ℤ)) (c : Comparison) (x : ℤ)
        → last_of first (links ++ (c, x) ∷ []) ≡ x
    last_more first [] c x = refl
    last_more first (link ∷ links) c x = last_more link.1 links c x

chain_value : (first : Option ℤ) (links : Linked) (r : Reading) → IsLinked first links r
    → chained first links ≡ r.value
unfolding IsLinked
chain_value None links r is = sym is
chain_value (Some first) None r is = sym is
chain_value (Some first) (Some links) r is = sym is.0

-- of the same value
mutual
  unfolding Fits value values reading applied

  pub valued : (e : Expr) (k : ℕ) → Fits k e → value e ≡ (reading (nest e)).value
  valued (Number v) k fits = refl
  valued (Group e) k fits = valued e 13 fits
  valued (Unary op a) k fits = ap (on_one (operators.prefix op)) (valued a 2 fits.1)
  valued (Binary op a b) k fits =
      ap (λ v. on_two (operators.binary op) v (value b)) (valued a (operators.level op) fits.1)
      ∙ ap (λ v. on_two (operators.binary op) (reading (nest a)).value v)
      (valued b (operators.level op - 1) fits.2)
  valued (Logic op a b) k fits =
      ap (λ v. on_two (λ x y. Some (operators.logical op x y)) v (value b))
      (valued a (operators.logical_level op) fits.1)
      ∙ ap (λ v. on_two (λ x y. Some (operators.logical op x y)) (reading (nest a)).value v)
      (valued b (operators.logical_level op - 1) fits.2)
  valued (Chain a links) k fits =
      chain_value (value a) (values links) (reading (nest_links (nest a) links))
      (linked (nest a) links (value a) (plain_read (nest a) (nests a 8 fits.1))
      (sym (valued a 8 fits.1)) fits.2)
  valued (Choice c a b) k fits =
      ap (λ v. chosen v (value a) (value b)) (valued c 12 fits.1)
      ∙ ap (λ v. chosen (reading (nest c)).value v (value b)) (valued a 13 fits.2)
      ∙ ap (λ v. chosen (reading (nest c)).value (reading (nest a)).value v) (valued b 13 fits.3)

  linked : (first : Nested) (links : Links) (v : Option ℤ) → IsPlain (reading first)
      → (reading first).value ≡ v → FitLinks links
      → IsLinked v (values links) (reading (nest_links first links))
  linked first (First c x) v is e fits =
      link_first (reading first) (reading (nest x)) c v (value x) is e (sym (valued x 8 fits))
  linked first (Then links c x) v is e fits =
      link_next (reading (nest_links first links)) (reading (nest x)) c v (values links) (value x)
      (linked first links v is e fits.0) (sym (valued x 8 fits.1))

-- ---- back

-- one more link
abbrev linked_to : Expr → Comparison → Expr → Expr
linked_to (Chain a links) c x = Chain a (Then links c x)
linked_to (Number v) c x = Chain (Number v) (First c x)
linked_to (Group e) c x = Chain (Group e) (First c x)
linked_to (Unary op a) c x = Chain (Unary op a) (First c x)
linked_to (Binary op a b) c x = Chain (Binary op a b) (First c x)
linked_to (Logic op a b) c x = Chain (Logic op a b) (First c x)
linked_to (Choice d a b) c x = Chain (Choice d a b) (First c x)

-- rows of comparisons as chains
abbrev pub regroup : Nested → Expr
regroup (n.Number v) = Number v
regroup (n.Group e) = Group (regroup e)
regroup (n.Before op a) = Unary op (regroup a)
regroup (n.Two (Cells op) a b) = Binary op (regroup a) (regroup b)
regroup (n.Two (Compare c) a b) = linked_to (regroup a) c (regroup b)
regroup (n.Two (joint.Logic op) a b) = Logic op (regroup a) (regroup b)
regroup (n.Choice c a b) = Choice (regroup c) (regroup a) (regroup b)

linked_nests : (e : Expr) (c : Comparison) (x : Expr)
    → nest (linked_to e c x) ≡ n.Two (Compare c) (nest e) (nest x)
linked_nests (Chain a links) c x = refl
linked_nests (Number v) c x = refl
linked_nests (Group e) c x = refl
linked_nests (Unary op a) c x = refl
linked_nests (Binary op a b) c x = refl
linked_nests (Logic op a b) c x = refl
linked_nests (Choice d a b) c x = refl

both_same : (op : Infix) (a b c d : Nested) → a ≡ c → b ≡ d → n.Two op a b ≡ n.Two op c d
both_same op a b c d e f = ap (λ x. n.Two op x b) e ∙ ap (λ x. n.Two op c x) f

pub regroup_nests : (e : Nested) → nest (regroup e) ≡ e
regroup_nests (n.Number v) = refl
regroup_nests (n.Group e) = ap n.Group (regroup_nests e)
regroup_nests (n.Before op a) = ap (n.Before op) (regroup_nests a)
regroup_nests (n.Two (Cells op) a b) =
    both_same (Cells op) _ _ a b (regroup_nests a) (regroup_nests b)
regroup_nests (n.Two (Compare c) a b) =
    linked_nests (regroup a) c (regroup b)
    ∙ both_same (Compare c) _ _ a b (regroup_nests a) (regroup_nests b)
regroup_nests (n.Two (joint.Logic op) a b) =
    both_same (joint.Logic op) _ _ a b (regroup_nests a) (regroup_nests b)
regroup_nests (n.Choice c a b) =
    ap (λ x. n.Choice x (nest (regroup a)) (nest (regroup b))) (regroup_nests c)
    ∙ ap (λ x. n.Choice c x (nest (regroup b))) (regroup_nests a)
    ∙ ap (λ x. n.Choice c a x) (regroup_nests b)

-- no operator but a comparison has the level of comparisons
not_nine : (op : Operator) → operators.level op ≤ 9 → operators.level op ≤ 8
not_nine between.Multiply h = omega arith
not_nine between.Divide h = omega arith
not_nine between.Remainder h = omega arith
not_nine between.Add h = omega arith
not_nine between.Subtract h = omega arith
not_nine between.ShiftLeft h = omega arith
not_nine between.ShiftRight h = omega arith
not_nine between.ShiftUnsigned h = omega arith
not_nine between.And h = omega arith
not_nine between.Xor h = omega arith
not_nine between.Or h = omega arith
not_nine between.Equal h = absurd (omega (arith, h))
not_nine between.NotEqual h = absurd (omega (arith, h))

over_nine : {A : Type 0} (op : Logical) → operators.logical_level op ≤ 9 → A
over_nine logic.And h = absurd (omega (arith, h))
over_nine logic.Or h = absurd (omega (arith, h))

linked_fits : (e : Expr) (c : Comparison) (x : Expr) (k : ℕ) → 9 ≤ k → Fits 9 e → Fits 8 x
    → Fits k (linked_to e c x)
unfolding Fits
linked_fits (Chain a links) c x k h fits next = (h, fits.1, (fits.2, next))
linked_fits (Number v) c x k h fits next = (h, tt, next)
linked_fits (Group e) c x k h fits next = (h, fits, next)
linked_fits (Unary op a) c x k h fits next = (h, (omega arith, fits.1), next)
linked_fits (Binary op a b) c x k h fits next = (h, (not_nine op fits.0, fits.1, fits.2), next)
linked_fits (Logic op a b) c x k h fits next = over_nine op fits.0
linked_fits (Choice d a b) c x k h fits next = absurd (omega (arith, fits.0))

pub regroup_fits : (e : Nested) (k : ℕ) → Nests k e → Fits k (regroup e)
unfolding Fits Nests
regroup_fits (n.Number v) k nests = tt
regroup_fits (n.Group e) k nests = regroup_fits e 13 nests
regroup_fits (n.Before op a) k nests = (nests.0, regroup_fits a 2 nests.1)
regroup_fits (n.Two (Cells op) a b) k nests = (
  nests.0,
  regroup_fits a (operators.level op) nests.1,
  regroup_fits b (operators.level op - 1) nests.2,
)
regroup_fits (n.Two (Compare c) a b) k nests =
    linked_fits (regroup a) c (regroup b) k nests.0 (regroup_fits a 9 nests.1)
    (regroup_fits b 8 nests.2)
regroup_fits (n.Two (joint.Logic op) a b) k nests = (
  nests.0,
  regroup_fits a (operators.logical_level op) nests.1,
  regroup_fits b (operators.logical_level op - 1) nests.2,
)
regroup_fits (n.Choice c a b) k nests =
    (nests.0, regroup_fits c 12 nests.1, regroup_fits a 13 nests.2, regroup_fits b 13 nests.3)

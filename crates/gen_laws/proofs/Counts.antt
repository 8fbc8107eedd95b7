-- How many cells a node's own items take.
use Rattle.std.proofs.Common.{◌≡◌, ◌+◌, ◌≤◌, ℕ, zero, suc, ℤ, pos, negsuc, neg_ℤ, refl, List, []}
use Rattle.std.proofs.Common.{◌∷◌, ◌++◌}
use Rattle.std.proofs.Common.{Option, None}
use Rattle.std.proofs.Common.{Some, Bool, true, false, length, arith, is_some}
use Rattle.pawn_cells.specs.declared.operator.Prefix.{Prefix}
use Rattle.pawn_cells.specs.declared.operator.Prefix.TheVariants as before
use Rattle.pawn_cells.specs.declared.operator.Operator.{Operator}
use Rattle.pawn_cells.specs.declared.operator.Operator.TheVariants as between
use Rattle.pawn_cells.specs.declared.operator.Comparison.{Comparison}
use Rattle.pawn_cells.specs.declared.operator.Comparison.TheVariants as comparison
use Rattle.pawn_meaning.specs.Program.{Scalar, Global, Own, Through, Element, Char, Expr, Read}
use Rattle.pawn_meaning.specs.Program.{Array, Object, SlotArray, ParamArray, Row, From}
use Rattle.pawn_meaning.specs.Scope.{Scope, extent}
use Rattle.pawn_meaning.specs.Fold.{fold}
use Rattle.pawn_meaning.specs.Weight.{part}
use Rattle.amx_ops.specs.declared.op.Op.{Op}
use Rattle.amx_ops.specs.declared.op.Op.TheVariants as op
use Rattle.gen_sim.specs.Items.{Item, item_cells}
use Rattle.gen_sim.proofs.ItemLaws.{count-append}
use Rattle.gen_sim.specs.SimpleCode.{alone, taking, prefix_op, operator_code, waiting_code}
use Rattle.gen_sim.specs.SimpleCode.{both_code, const_code, alt_code, folded}
use Rattle.gen_sim.specs.AccessCode.{load_code, store_code, changed_code, stepped_code, turned_code}
use Rattle.gen_sim.specs.AccessCode.{address_code, fetch_code}
use Rattle.gen_sim.specs.DirectCode.{Direct, constant_index, element_of, direct_of, direct_load}
use Rattle.gen_sim.specs.DirectCode.{direct_store}
use Rattle.gen_sim.specs.DirectCode.{stepped_back, read_by, step_by, direct_effect}
use Rattle.gen_sim.specs.OperandCode.{Right, Known, Placed, Waiting, right_by, read_place, right_of}
use Rattle.gen_sim.specs.OperandCode.{loaded_code, known_code, operate_by, bring_code}
use Rattle.gen_sim.specs.JumpCode.{jump_to, end_at, choice_code}
use Rattle.gen_sim.specs.BaseCode.{Base, base_of, base_item, indexed_code}
use Rattle.gen_sim.specs.IndexCode.{bounds_code, in_characters, element_code, character_code}
use Rattle.gen_sim.specs.CallCode.{two_code, convert_code, give_back_code}
use Rattle.gen_sim.specs.ChainCode.{link_code, last_link_code, middle_link_code}
use Rattle.gen_sim.specs.ChainCode.{loaded_compare, compare_by, last_link_by}

abbrev pub count : List Item → ℕ
count items = length (item_cells items)

-- ---- own items

pub prefix_count : (o : Prefix) → count (alone (prefix_op o) ∷ []) ≤ 1
prefix_count before.Not = omega arith
prefix_count before.Invert = omega arith
prefix_count before.Negate = omega arith

pub operator_count : (o : Operator) → count (operator_code o) ≤ 2
operator_count between.Multiply = omega arith
operator_count between.Divide = omega arith
operator_count between.Remainder = omega arith
operator_count between.Add = omega arith
operator_count between.Subtract = omega arith
operator_count between.ShiftLeft = omega arith
operator_count between.ShiftRight = omega arith
operator_count between.ShiftUnsigned = omega arith
operator_count between.And = omega arith
operator_count between.Xor = omega arith
operator_count between.Or = omega arith
operator_count between.Equal = omega arith
operator_count between.NotEqual = omega arith

pub load_count : (s : Scalar) → count (load_code s) ≤ 2
load_count (Global o) = omega arith
load_count (Own s) = omega arith
load_count (Through s) = omega arith
load_count (Element a e) = omega arith
load_count (Char a e) = omega arith

pub address_count : (s : Scalar) → count (address_code s) ≤ 1
address_count (Global o) = omega arith
address_count (Own s) = omega arith
address_count (Through s) = omega arith
address_count (Element a e) = omega arith
address_count (Char a e) = omega arith

pub fetch_count : (s : Scalar) → count (fetch_code s) ≤ 3
fetch_count (Global o) = omega arith
fetch_count (Own s) = omega arith
fetch_count (Through s) = omega arith
fetch_count (Element a e) = omega arith
fetch_count (Char a e) = omega arith

pub store_count : (s : Scalar) → count (store_code s) ≤ 2
store_count (Global o) = omega arith
store_count (Own s) = omega arith
store_count (Through s) = omega arith
store_count (Element a e) = omega arith
store_count (Char a e) = omega arith

pub changed_count : (s : Scalar) (change : List Item)
    → count (changed_code s change) ≤ count change + 8
changed_count s change =
    let last = alone op.PopAlt ∷ store_code s in
    omega (
      arith,
      count-append (load_code s) (alone op.Xchg ∷ (change ++ last)),
      count-append change last,
      load_count s,
      store_count s,
    )

pub stepped_count : (s : Scalar) (delta : ℤ) (prefix : Bool)
    → count (stepped_code s delta prefix) ≤ 6
stepped_count s delta true = omega (arith, store_count s)
stepped_count s delta false =
    omega (arith, store_count s, count-append (store_code s) (alone op.PopPri ∷ []))

pub turned_count : (s : Scalar) (change : List Item) (prefix : Bool)
    → count (turned_code s change prefix) ≤ count change + 6
turned_count s change true =
    omega (arith, store_count s, count-append change (alone op.PopAlt ∷ store_code s))
turned_count s change false =
    let last = store_code s ++ alone op.PopPri ∷ [] in
    omega (
      arith,
      store_count s,
      count-append change (alone op.PopAlt ∷ last),
      count-append (store_code s) (alone op.PopPri ∷ []),
    )

pub bounds_count : (size : Option ℕ) → count (bounds_code size) ≤ 4
bounds_count None = omega arith
bounds_count (Some zero) = omega arith
bounds_count (Some (suc n)) = omega arith

pub two_count : (f : ℕ) (swapped : Bool) → count (two_code f swapped) ≤ 6
two_count f true = omega arith
two_count f false = omega arith

pub convert_count : (f : Option ℕ) → count (convert_code f) ≤ 5
convert_count None = omega arith
convert_count (Some f) = omega arith

pub give_back_count : (n : ℕ) → count (give_back_code n) ≤ 2
give_back_count zero = omega arith
give_back_count (suc n) = omega arith

pub link_count : (o : Comparison) (f : Option ℕ) (swapped : Bool)
    → count (link_code o f swapped) ≤ 6
link_count comparison.Less None swapped = omega arith
link_count comparison.LessEqual None swapped = omega arith
link_count comparison.Greater None swapped = omega arith
link_count comparison.GreaterEqual None swapped = omega arith
link_count comparison.Less (Some f) swapped = two_count f swapped
link_count comparison.LessEqual (Some f) swapped = two_count f swapped
link_count comparison.Greater (Some f) swapped = two_count f swapped
link_count comparison.GreaterEqual (Some f) swapped = two_count f swapped

-- ---- shapes

pub waiting_count : (first second tail : List Item)
    → count (waiting_code first second tail) ≡ count first + 1 + count second + count tail
waiting_count first second tail =
    omega (
      arith,
      count-append first (alone op.PushPri ∷ (second ++ tail)),
      count-append second tail,
    )

pub both_count : (first second last : List Item)
    → count (both_code first second last) ≡ count first + count second + count last + 2
both_count first second last = omega (arith, waiting_count first second (alone op.PopAlt ∷ last))

pub choice_count : (p : ℕ) (first second : List Item)
    → count (choice_code p first second) ≡ count first + count second + 4
choice_count p first second =
    omega (arith, count-append first (jump_to op.Jump (end_at p first second) ∷ second))

pub last_link_count : (operand link : List Item)
    → count (last_link_code operand link) ≡ count operand + count link + 2
last_link_count operand link = omega (arith, count-append operand (alone op.PopAlt ∷ link))

pub middle_link_count : (fail : ℕ) (operand link others : List Item)
    → count (middle_link_code fail operand link others)
    ≡ count operand + count link + count others + 6
middle_link_count fail operand link others =
    let tested = jump_to op.Jzer fail ∷ alone op.PopPri ∷ others in
    omega (
      arith,
      count-append operand (alone op.PopAlt ∷ alone op.PushPri ∷ (link ++ tested)),
      count-append link tested,
    )

-- ---- an array and an index

-- what sets ALT takes two cells
abbrev pub IsTwo : Option Base → Type 0
IsTwo None = Unit {0}
IsTwo (Some b) = count (taking b.sets b.operand ∷ []) ≡ 2

pub base_two : (scope : Scope) (a : Array) → IsTwo (base_of scope a)
base_two scope (Object o) = refl
base_two scope (SlotArray s) = refl
base_two scope (ParamArray s known) = refl
base_two scope (Row a e) = tt
base_two scope (From a e) = tt

base_count : (base : Option Base) → IsTwo base → count (base_item base ∷ []) ≤ 2
base_count None h = omega arith
base_count (Some b) h = omega (arith, h)

indexed_count : (base : Option Base) (array index tail : List Item)
    → count (indexed_code base array index tail) ≤ count array + 1 + count index + count tail
indexed_count None array index tail = omega (arith, waiting_count array index tail)
indexed_count (Some b) array index tail = omega (arith, count-append index tail)

pub element_count : (base : Option Base) → IsTwo base → (size : Option ℕ) (array index : List Item)
    → count (element_code base size array index) ≤ count array + count index + 7
element_count base h size array index =
    omega (
      arith,
      indexed_count base array index (bounds_code size ++ base_item base ∷ []),
      count-append (bounds_code size) (base_item base ∷ []),
      bounds_count size,
      base_count base h,
    )

pub character_count : (base : Option Base) → IsTwo base → (size : Option ℕ)
    (array index : List Item)
    → count (character_code base size array index) ≤ count array + count index + 9
character_count base h size array index =
    let last = taking op.AlignPri (pos 1) ∷ base_item base ∷ [] in
    omega (
      arith,
      indexed_count base array index (bounds_code (in_characters size) ++ last),
      count-append (bounds_code (in_characters size)) last,
      count-append (taking op.AlignPri (pos 1) ∷ []) (base_item base ∷ []),
      bounds_count (in_characters size),
      base_count base h,
    )

-- ---- by a place's own instruction, or by its address

-- its instructions take two cells
abbrev pub AreTwo : Option Direct → Type 0
AreTwo None = Unit {0}
AreTwo (Some d) =
    (count (direct_load d) ≡ 2) × (count (taking d.loads_alt d.operand ∷ []) ≡ 2)
    × (count (direct_store d) ≡ 2)

element_two : (scope : Scope) (a : Array) (i : Option ℕ) → AreTwo (element_of scope a i)
element_two scope a None = tt
element_two scope (Object o) (Some i) = (refl, refl, refl)
element_two scope (SlotArray s) (Some i) = (refl, refl, refl)
element_two scope (ParamArray s known) (Some i) = tt
element_two scope (Row b index) (Some i) = tt
element_two scope (From b index) (Some i) = tt

pub direct_two : (scope : Scope) (p : Scalar) → AreTwo (direct_of scope p)
direct_two scope (Global o) = (refl, refl, refl)
direct_two scope (Own s) = (refl, refl, refl)
direct_two scope (Through s) = (refl, refl, refl)
direct_two scope (Element a e) = element_two scope a (constant_index (extent scope a) (fold e))
direct_two scope (Char a e) = tt

pub read_count : (o : Option Direct) → AreTwo o → (p : Scalar) (index : List Item)
    → count (read_by o p index) ≤ count index + 3
read_count None h p index = omega (arith, count-append index (fetch_code p), fetch_count p)
read_count (Some d) h p index = omega (arith, h.0)

stepped_back_count : (d : Direct) → AreTwo (Some d) → (delta : ℤ) (prefix : Bool)
    → count (stepped_back d delta prefix) ≤ 4
stepped_back_count d h delta true = omega (arith, h.2)
stepped_back_count d h delta false =
    omega (arith, h.2, count-append (direct_store d) (taking op.AddC (neg_ℤ delta) ∷ []))

pub step_count : (o : Option Direct) → AreTwo o → (p : Scalar) (delta : ℤ) (prefix : Bool)
    (place : List Item) → count (step_by o p delta prefix place) ≤ count place + 9
step_count None h p delta prefix place =
    let last = stepped_code p delta prefix in
    omega (
      arith,
      count-append place (alone op.MoveAlt ∷ (load_code p ++ last)),
      count-append (load_code p) last,
      load_count p,
      stepped_count p delta prefix,
    )
step_count (Some d) h p delta prefix place =
    omega (
      arith,
      count-append (direct_load d) (taking op.AddC delta ∷ stepped_back d delta prefix),
      stepped_back_count d h delta prefix,
      h.0,
    )

-- ---- steps whose value isn't used

-- what adds 1, or takes 1 away, takes two cells
abbrev pub AreAddTwo : Direct → Option (Op × Op) → Type 0
AreAddTwo d None = Unit {0}
AreAddTwo d (Some ops) =
    (count (taking ops.0 d.operand ∷ []) ≡ 2) × (count (taking ops.1 d.operand ∷ []) ≡ 2)

abbrev pub AreEffectTwo : Option Direct → Type 0
AreEffectTwo None = Unit {0}
AreEffectTwo (Some d) = AreAddTwo d d.adds

element_effect_two : (scope : Scope) (a : Array) (i : Option ℕ)
    → AreEffectTwo (element_of scope a i)
element_effect_two scope a None = tt
element_effect_two scope (Object o) (Some i) = (refl, refl)
element_effect_two scope (SlotArray s) (Some i) = (refl, refl)
element_effect_two scope (ParamArray s known) (Some i) = tt
element_effect_two scope (Row b index) (Some i) = tt
element_effect_two scope (From b index) (Some i) = tt

pub effect_two : (scope : Scope) (p : Scalar) → AreEffectTwo (direct_of scope p)
effect_two scope (Global o) = (refl, refl)
effect_two scope (Own s) = (refl, refl)
effect_two scope (Through s) = tt
effect_two scope (Element a e) =
    element_effect_two scope a (constant_index (extent scope a) (fold e))
effect_two scope (Char a e) = tt

pub direct_effect_count : (d : Direct) → AreTwo (Some d) → (ops : Option (Op × Op)) → AreAddTwo d ops
    → (delta : ℤ) → count (direct_effect d ops delta) ≤ 6
direct_effect_count d h None k delta =
    omega (arith, h.0, h.2, count-append (direct_load d) (taking op.AddC delta ∷ direct_store d))
direct_effect_count d h (Some ops) k (pos n) = omega (arith, k.0)
direct_effect_count d h (Some ops) k (negsuc n) = omega (arith, k.1)

-- ---- operators, by how their right operand comes

pub loaded_count : (o : Operator) → count (loaded_code o) ≤ 2
loaded_count between.Multiply = omega arith
loaded_count between.Divide = omega arith
loaded_count between.Remainder = omega arith
loaded_count between.Add = omega arith
loaded_count between.Subtract = omega arith
loaded_count between.ShiftLeft = omega arith
loaded_count between.ShiftRight = omega arith
loaded_count between.ShiftUnsigned = omega arith
loaded_count between.And = omega arith
loaded_count between.Xor = omega arith
loaded_count between.Or = omega arith
loaded_count between.Equal = omega arith
loaded_count between.NotEqual = omega arith

pub const_count : (v : ℤ) → count (const_code v) ≤ 2
const_count (pos zero) = omega arith
const_count (pos (suc n)) = omega arith
const_count (negsuc n) = omega arith

alt_count : (v : ℤ) → count (alt_code v) ≤ 2
alt_count (pos zero) = omega arith
alt_count (pos (suc n)) = omega arith
alt_count (negsuc n) = omega arith

to_alt_count : (o : Operator) (v : ℤ) → count (alt_code v ++ loaded_code o) ≤ 4
to_alt_count o v =
    omega (arith, count-append (alt_code v) (loaded_code o), alt_count v, loaded_count o)

pub known_count : (o : Operator) (v : ℤ) → count (known_code o v) ≤ 4
known_count between.Multiply v = omega arith
known_count between.Divide v = to_alt_count between.Divide v
known_count between.Remainder v = to_alt_count between.Remainder v
known_count between.Add v = omega arith
known_count between.Subtract v = omega arith
known_count between.ShiftLeft v = omega arith
known_count between.ShiftRight v = to_alt_count between.ShiftRight v
known_count between.ShiftUnsigned v = omega arith
known_count between.And v = to_alt_count between.And v
known_count between.Xor v = to_alt_count between.Xor v
known_count between.Or v = to_alt_count between.Or v
known_count between.Equal v = omega arith
known_count between.NotEqual v = to_alt_count between.NotEqual v

-- what loads a place takes two cells
abbrev pub IsRightTwo : Right → Type 0
IsRightTwo (Known v) = Unit {0}
IsRightTwo (Placed d) = count (taking d.loads_alt d.operand ∷ []) ≡ 2
IsRightTwo Waiting = Unit {0}

right_by_two : (k : Option ℤ) (o : Option Direct) → AreTwo o → IsRightTwo (right_by k o)
right_by_two (Some v) o h = tt
right_by_two None (Some d) h = h.1
right_by_two None None h = tt

pub read_two : (scope : Scope) (e : Expr) → AreTwo (read_place scope e)
read_two scope (Read p) = direct_two scope p
read_two scope e = tt

pub right_two : (scope : Scope) (e : Expr) → IsRightTwo (right_of scope e)
right_two scope e = right_by_two (fold e) (read_place scope e) (read_two scope e)

pub operate_count : (o : Operator) (how : Right) → IsRightTwo how → (right : List Item)
    → count (operate_by o how right) ≤ count right + 4
operate_count o (Known v) h right = omega (arith, known_count o v)
operate_count o (Placed d) h right =
    omega (
      arith,
      h,
      count-append (taking d.loads_alt d.operand ∷ []) (loaded_code o),
      loaded_count o,
    )
operate_count o Waiting h right =
    omega (arith, count-append right (alone op.PopAlt ∷ operator_code o), operator_count o)

-- ---- a constant in the place of what folds

pub folded_count : (k : Option ℤ) (items : List Item) (weight : ℕ) → count items + 20 ≤ weight
    → count (folded k items) + 20 ≤ part (is_some k) weight
folded_count None items weight h = h
folded_count (Some v) items weight h = omega (arith, const_count v)

-- ---- a last link, by how its right operand comes

pub bring_count : (how : Right) → IsRightTwo how → (right : List Item)
    → count (bring_code how right) ≤ count right + 2
bring_count (Known v) h right = omega arith
bring_count (Placed d) h right = omega (arith, h)
bring_count Waiting h right = omega (arith, count-append right (alone op.PopAlt ∷ []))

loaded_compare_count : (o : Comparison) → count (alone (loaded_compare o) ∷ []) ≤ 1
loaded_compare_count comparison.Less = omega arith
loaded_compare_count comparison.LessEqual = omega arith
loaded_compare_count comparison.Greater = omega arith
loaded_compare_count comparison.GreaterEqual = omega arith

compare_count : (how : Right) (o : Comparison) → count (alone (compare_by how o) ∷ []) ≤ 6
compare_count (Known v) o = omega (arith, loaded_compare_count o)
compare_count (Placed d) o = omega (arith, loaded_compare_count o)
compare_count Waiting o = link_count o None false

pub last_by_count : (o : Comparison) (f : Option ℕ) (swapped : Bool) (how : Right)
    → IsRightTwo how → (operand : List Item)
    → count (last_link_by o f swapped how operand) ≤ count operand + 8
last_by_count o None swapped how h operand =
    omega (
      arith,
      count-append (bring_code how operand) (alone (compare_by how o) ∷ []),
      bring_count how h operand,
      compare_count how o,
    )
last_by_count o (Some f) swapped how h operand =
    omega (arith, last_link_count operand (two_code f swapped), two_count f swapped)

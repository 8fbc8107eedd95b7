-- Single items that are fine, and the node's own ones.
use Rattle.std.proofs.Common.{◌≡◌, ◌≢◌, ◌*◌, ◌%◌, ◌<◌, ℕ, zero, suc, ℤ, pos, neg_ℤ, List, [], ◌∷◌}
use Rattle.std.proofs.Common.{◌++◌, Option, None, Some, Bool, true, false, ◌==◌, nat_lt, refl, sym}
use Rattle.std.proofs.Common.{ap, ◌∙◌, arith, eq-eqb, lt-ltb}
use Rattle.std.proofs.lemmas.Int.{ints}
use Rattle.pawn_cells.specs.declared.operator.Prefix.{Prefix}
use Rattle.pawn_cells.specs.declared.operator.Prefix.TheVariants as before
use Rattle.pawn_cells.specs.declared.operator.Operator.{Operator}
use Rattle.pawn_cells.specs.declared.operator.Operator.TheVariants as between
use Rattle.pawn_cells.specs.declared.operator.Comparison.{Comparison}
use Rattle.pawn_cells.specs.declared.operator.Comparison.TheVariants as comparison
use Rattle.pawn_cells.specs.Cells.{bits_of}
use Rattle.pawn_meaning.specs.Program.{Scalar, Global, Through, Element, Char}
use Rattle.pawn_meaning.specs.Program as node
use Rattle.amx_ops.specs.declared.op.Op.{Op}
use Rattle.amx_ops.specs.declared.op.Op.TheVariants as op
use Rattle.amx_ops.specs.declared.table.Operand.TheVariants as operand
use Rattle.amx_ops.specs.Table.{operand_of}
use Rattle.gen_sim.specs.Items.{Item}
use Rattle.gen_sim.specs.SimpleCode.{alone, taking, prefix_op, operator_code}
use Rattle.gen_sim.specs.AccessCode.{load_code, store_code, changed_code, stepped_code, turned_code}
use Rattle.gen_sim.specs.AccessCode.{address_code, fetch_code}
use Rattle.gen_sim.specs.JumpCode.{jump_to}
use Rattle.gen_sim.specs.IndexCode.{bounds_code}
use Rattle.gen_sim.specs.CallCode.{one_code, two_code, convert_code, give_back_code}
use Rattle.gen_sim.specs.ChainCode.{link_code}
use Rattle.gen_laws.specs.Fine.{IsFine, AreFine}
use Rattle.gen_laws.proofs.FineLaws.{fine_both, Nowhere}

-- ---- by the kind of operand

-- the one call
abbrev pub is_call : Op → Bool
is_call op.Call = true
is_call operation = false

no_call : (o : Op) → is_call o ≡ false → o ≢ op.Call
no_call o h e = clash (sym (ap is_call e) ∙ h)
  where
    clash : true ≡ false → ⊥
    clash z = cc

module _ (natives : ℕ) (T : ℕ → Type 0) where
  pub alone_fine : (o : Op) → operand_of o ≡ operand.Nothing → is_call o ≡ false
      → IsFine natives T (alone o)
  alone_fine o k c = rw k ((refl, refl), no_call o c, λ at. refl, tt)

  pub any_fine : (o : Op) (v : ℤ) → operand_of o ≡ operand.AnyCell → is_call o ≡ false
      → IsFine natives T (taking o v)
  any_fine o v k c = rw k ((tt, refl), no_call o c, λ at. refl, tt)

  pub byte_fine : (o : Op) → operand_of o ≡ operand.ByteCount → is_call o ≡ false
      → IsFine natives T (taking o (pos 1))
  byte_fine o k c = rw k ((tt, refl), no_call o c, λ at. refl, tt)

  pub multiple_fine : (o : Op) (v : ℤ) → operand_of o ≡ operand.Multiple → is_call o ≡ false
      → bits_of v % 4 ≡ 0 → IsFine natives T (taking o v)
  multiple_fine o v k c h =
      let e : (bits_of v % 4 == 0) ≡ true = eq-eqb _ _ h in
      rw k ((tt, refl), no_call o c, λ at. rw e refl, tt)

  pub length_fine : (o : Op) (n : ℕ) → operand_of o ≡ operand.Length → is_call o ≡ false
      → IsFine natives T (taking o (pos n))
  length_fine o n k c = rw k ((tt, refl), no_call o c, λ at. refl, tt)

  pub native_fine : (o : Op) (n : ℕ) → operand_of o ≡ operand.NativeNumber → is_call o ≡ false
      → n < natives → IsFine natives T (taking o (pos n))
  native_fine o n k c h =
      let e : nat_lt n natives ≡ true = lt-ltb _ _ h in
      rw k ((tt, refl), no_call o c, λ at. rw e refl, tt)

  pub target_fine : (o : Op) (to : ℕ) → operand_of o ≡ operand.Target → is_call o ≡ false → T to
      → IsFine natives T (jump_to o to)
  target_fine o to k c h = rw k ((tt, refl), no_call o c, λ at. refl, (to, refl, h))

  -- the usual ones
  pub push_pri : IsFine natives T (alone op.PushPri)
  push_pri = alone_fine op.PushPri refl refl

  pub push_alt : IsFine natives T (alone op.PushAlt)
  push_alt = alone_fine op.PushAlt refl refl

  pub pop_pri : IsFine natives T (alone op.PopPri)
  pop_pri = alone_fine op.PopPri refl refl

  pub pop_alt : IsFine natives T (alone op.PopAlt)
  pop_alt = alone_fine op.PopAlt refl refl

  pub exchanges : IsFine natives T (alone op.Xchg)
  exchanges = alone_fine op.Xchg refl refl

pub multiple_up : (n : ℕ) → bits_of (pos (4 * n)) % 4 ≡ 0
multiple_up n = omega arith

multiple_down : (m n : ℕ) → m ≡ 4 * n → bits_of (neg_ℤ (pos m)) % 4 ≡ 0
multiple_down zero n e = omega (arith, ints)
multiple_down (suc m) n e = omega (arith, ints, e)

-- ---- the nodes' own items

module _ (natives : ℕ) where
  abbrev pub Own : List Item → Type 0
  Own items = AreFine natives Nowhere items

  own_alone : (o : Op) → operand_of o ≡ operand.Nothing → is_call o ≡ false → Own (alone o ∷ [])
  own_alone o k c = (alone_fine natives Nowhere o k c, tt)

  pub prefix_fine : (o : Prefix) → Own (alone (prefix_op o) ∷ [])
  prefix_fine before.Not = own_alone op.Not refl refl
  prefix_fine before.Invert = own_alone op.Invert refl refl
  prefix_fine before.Negate = own_alone op.Neg refl refl

  pub operator_fine : (o : Operator) → Own (operator_code o)
  operator_fine between.Multiply = own_alone op.Smul refl refl
  operator_fine between.Divide = own_alone op.SdivAlt refl refl
  operator_fine between.Remainder =
      (alone_fine natives Nowhere op.SdivAlt refl refl, own_alone op.MovePri refl refl)
  operator_fine between.Add = own_alone op.Add refl refl
  operator_fine between.Subtract = own_alone op.SubAlt refl refl
  operator_fine between.ShiftLeft = (exchanges natives Nowhere, own_alone op.Shl refl refl)
  operator_fine between.ShiftRight = (exchanges natives Nowhere, own_alone op.Sshr refl refl)
  operator_fine between.ShiftUnsigned = (exchanges natives Nowhere, own_alone op.Shr refl refl)
  operator_fine between.And = own_alone op.And refl refl
  operator_fine between.Xor = own_alone op.Xor refl refl
  operator_fine between.Or = own_alone op.Or refl refl
  operator_fine between.Equal = own_alone op.Eq refl refl
  operator_fine between.NotEqual = own_alone op.Neq refl refl

  pub load_fine : (s : Scalar) → Own (load_code s)
  load_fine (Global o) = own_alone op.LoadI refl refl
  load_fine (node.Own s) = own_alone op.LoadI refl refl
  load_fine (Through s) = own_alone op.LoadI refl refl
  load_fine (Element a e) = own_alone op.LoadI refl refl
  load_fine (Char a e) = (byte_fine natives Nowhere op.LodbI refl refl, tt)

  pub address_fine : (s : Scalar) → Own (address_code s)
  address_fine (Global o) = tt
  address_fine (node.Own s) = tt
  address_fine (Through s) = tt
  address_fine (Element a e) = own_alone op.Idxaddr refl refl
  address_fine (Char a e) = own_alone op.Add refl refl

  pub fetch_fine : (s : Scalar) → Own (fetch_code s)
  fetch_fine (Global o) = own_alone op.LoadI refl refl
  fetch_fine (node.Own s) = own_alone op.LoadI refl refl
  fetch_fine (Through s) = own_alone op.LoadI refl refl
  fetch_fine (Element a e) = own_alone op.Lidx refl refl
  fetch_fine (Char a e) = (
    alone_fine natives Nowhere op.Add refl refl,
    (byte_fine natives Nowhere op.LodbI refl refl, tt),
  )

  pub store_fine : (s : Scalar) → Own (store_code s)
  store_fine (Global o) = own_alone op.StorI refl refl
  store_fine (node.Own s) = own_alone op.StorI refl refl
  store_fine (Through s) = own_alone op.StorI refl refl
  store_fine (Element a e) = own_alone op.StorI refl refl
  store_fine (Char a e) = (byte_fine natives Nowhere op.StrbI refl refl, tt)

  pub changed_fine : (s : Scalar) (change : List Item) → Own change → Own (changed_code s change)
  changed_fine s change h =
      let last = alone op.PopAlt ∷ store_code s in
      let made : Own (alone op.Xchg ∷ (change ++ last)) = (
        exchanges natives Nowhere,
        fine_both natives Nowhere change last h
            (pop_alt natives Nowhere, store_fine s),
      ) in
      let loaded =
      fine_both natives Nowhere (load_code s) (alone op.Xchg ∷ (change ++ last))
      (load_fine s) made in
      (push_alt natives Nowhere, (exchanges natives Nowhere, loaded))

  stored_fine : (s : Scalar) → Own (store_code s ++ alone op.PopPri ∷ [])
  stored_fine s =
      fine_both natives Nowhere (store_code s) (alone op.PopPri ∷ []) (store_fine s)
      (pop_pri natives Nowhere, tt)

  pub stepped_fine : (s : Scalar) (delta : ℤ) (prefix : Bool) → Own (stepped_code s delta prefix)
  stepped_fine s delta true = (any_fine natives Nowhere op.AddC delta refl refl, store_fine s)
  stepped_fine s delta false =
      (push_pri natives Nowhere, (any_fine natives Nowhere op.AddC delta refl refl, stored_fine s))

  pub turned_fine : (s : Scalar) (change : List Item) (prefix : Bool) → Own change
      → Own (turned_code s change prefix)
  turned_fine s change true h = (
    push_alt natives Nowhere,
    fine_both natives Nowhere change (alone op.PopAlt ∷ store_code s) h
        (pop_alt natives Nowhere, store_fine s),
  )
  turned_fine s change false h =
      let made =
      fine_both natives Nowhere change
      (alone op.PopAlt ∷ (store_code s ++ alone op.PopPri ∷ [])) h
      (pop_alt natives Nowhere, stored_fine s) in
      (push_pri natives Nowhere, (push_alt natives Nowhere, made))

  pub bounds_fine : (size : Option ℕ) → Own (bounds_code size)
  bounds_fine None = tt
  bounds_fine (Some zero) = (
    any_fine natives Nowhere op.ConstPri (pos 1) refl refl,
    (any_fine natives Nowhere op.Bounds (pos 0) refl refl, tt),
  )
  bounds_fine (Some (suc n)) = (any_fine natives Nowhere op.Bounds (pos n) refl refl, tt)

  pub one_fine : (f : ℕ) → Own (one_code f)
  one_fine f =
      (push_pri natives Nowhere, (any_fine natives Nowhere op.PushC (pos 4) refl refl, (tt, tt)))

  pub two_fine : (f : ℕ) (swapped : Bool) → Own (two_code f swapped)
  two_fine f true = (
    push_alt natives Nowhere,
    (
      push_pri natives Nowhere,
      (any_fine natives Nowhere op.PushC (pos 8) refl refl, (tt, tt)),
    ),
  )
  two_fine f false = (
    push_pri natives Nowhere,
    (
      push_alt natives Nowhere,
      (any_fine natives Nowhere op.PushC (pos 8) refl refl, (tt, tt)),
    ),
  )

  pub convert_fine : (f : Option ℕ) → Own (convert_code f)
  convert_fine None = tt
  convert_fine (Some f) = one_fine f

  pub give_back_fine : (n : ℕ) → Own (give_back_code n)
  give_back_fine zero = tt
  give_back_fine (suc n) = (
    multiple_fine natives Nowhere op.Heap (neg_ℤ (pos (4 * suc n))) refl refl
        (multiple_down (4 * suc n) (suc n) refl),
    tt,
  )

  pub link_fine : (o : Comparison) (f : Option ℕ) (swapped : Bool) → Own (link_code o f swapped)
  link_fine comparison.Less None swapped = own_alone op.Sgrtr refl refl
  link_fine comparison.LessEqual None swapped = own_alone op.Sgeq refl refl
  link_fine comparison.Greater None swapped = own_alone op.Sless refl refl
  link_fine comparison.GreaterEqual None swapped = own_alone op.Sleq refl refl
  link_fine comparison.Less (Some f) swapped = two_fine f swapped
  link_fine comparison.LessEqual (Some f) swapped = two_fine f swapped
  link_fine comparison.Greater (Some f) swapped = two_fine f swapped
  link_fine comparison.GreaterEqual (Some f) swapped = two_fine f swapped

-- The calls in the nodes' own items, and in items one behind another.
use Rattle.std.proofs.Common.{ℕ, zero, suc, ℤ, pos, negsuc, List, [], ◌∷◌, ◌++◌, Option, None, Some}
use Rattle.std.proofs.Common.{Bool}
use Rattle.std.proofs.Common.{true, false}
use Rattle.std.specs.Prelude.{IfSome}
use Rattle.pawn_cells.specs.declared.operator.Operator.{Operator}
use Rattle.pawn_cells.specs.declared.operator.Operator.TheVariants as between
use Rattle.pawn_cells.specs.declared.operator.Comparison.{Comparison}
use Rattle.pawn_meaning.specs.Program.{Scalar, Global, Own, Through, Element, Char, Slot, Links}
use Rattle.pawn_meaning.specs.Program.{no_links, then_link}
use Rattle.amx_ops.specs.declared.op.Op.{Op}
use Rattle.amx_ops.specs.declared.op.Op.TheVariants as op
use Rattle.gen_sim.specs.Items.{Item, Plain, CallOf}
use Rattle.gen_sim.specs.SimpleCode.{alone, operator_code, const_code, alt_code, folded}
use Rattle.gen_sim.specs.SimpleCode.{waiting_code}
use Rattle.gen_sim.specs.AccessCode.{load_code, store_code, changed_code, stepped_code, turned_code}
use Rattle.gen_sim.specs.AccessCode.{address_code, fetch_code}
use Rattle.gen_sim.specs.DirectCode.{Direct, direct_load, direct_store, direct_changed}
use Rattle.gen_sim.specs.DirectCode.{stepped_back, read_by, step_by, direct_effect}
use Rattle.gen_sim.specs.ChangeCode.{quiet_assign, assign_by, leaves_alt}
use Rattle.gen_sim.specs.OperandCode.{placed_code}
use Rattle.gen_sim.specs.ChangeCode.{pushed_update}
use Rattle.gen_sim.specs.ChangeCode.{known_update, update_by}
use Rattle.gen_sim.specs.DirectCode.{effect_there, effect_by}
use Rattle.gen_sim.specs.OperandCode.{Right, Known, Placed, Waiting, loaded_code, known_code}
use Rattle.gen_sim.specs.OperandCode.{operate_by, bring_code}
use Rattle.gen_sim.specs.JumpCode.{jump_to, end_at, choice_code}
use Rattle.gen_sim.specs.IndexCode.{bounds_code}
use Rattle.gen_sim.specs.CallCode.{two_code, convert_code, give_back_code}
use Rattle.gen_sim.specs.ChainCode.{link_code, compare_by, last_link_by, chain_end_code}
use Rattle.gen_laws.specs.ExprCode.{link_with, linked_with}
use Rattle.gen_sim.specs.FlowCode.{leave_code}
use Rattle.gen_laws.specs.Called.{AreCalled}

module _ (C : ℕ → Type 0) where
  pub both_called : (is js : List Item) → AreCalled C is → AreCalled C js → AreCalled C (is ++ js)
  both_called [] js h g = g
  both_called (Plain it ∷ is) js h g = both_called is js h g
  both_called (CallOf f ∷ is) js h g = (h.0, both_called is js h.1 g)

  pub waiting_called : (first second tail : List Item) → AreCalled C first → AreCalled C second
      → AreCalled C tail → AreCalled C (waiting_code first second tail)
  waiting_called first second tail h g k =
      both_called first (alone op.PushPri ∷ (second ++ tail)) h (both_called second tail g k)

  pub choice_called : (p : ℕ) (first second : List Item) → AreCalled C first → AreCalled C second
      → AreCalled C (choice_code p first second)
  choice_called p first second h g =
      both_called first (jump_to op.Jump (end_at p first second) ∷ second) h g

  -- ---- without a call

  pub operator_called : (o : Operator) → AreCalled C (operator_code o)
  operator_called between.Multiply = tt
  operator_called between.Divide = tt
  operator_called between.Remainder = tt
  operator_called between.Add = tt
  operator_called between.Subtract = tt
  operator_called between.ShiftLeft = tt
  operator_called between.ShiftRight = tt
  operator_called between.ShiftUnsigned = tt
  operator_called between.And = tt
  operator_called between.Xor = tt
  operator_called between.Or = tt
  operator_called between.Equal = tt
  operator_called between.NotEqual = tt

  pub load_called : (s : Scalar) → AreCalled C (load_code s)
  load_called (Global o) = tt
  load_called (Own s) = tt
  load_called (Through s) = tt
  load_called (Element a e) = tt
  load_called (Char a e) = tt

  pub store_called : (s : Scalar) → AreCalled C (store_code s)
  store_called (Global o) = tt
  store_called (Own s) = tt
  store_called (Through s) = tt
  store_called (Element a e) = tt
  store_called (Char a e) = tt

  pub address_called : (s : Scalar) → AreCalled C (address_code s)
  address_called (Global o) = tt
  address_called (Own s) = tt
  address_called (Through s) = tt
  address_called (Element a e) = tt
  address_called (Char a e) = tt

  fetch_called : (s : Scalar) → AreCalled C (fetch_code s)
  fetch_called (Global o) = tt
  fetch_called (Own s) = tt
  fetch_called (Through s) = tt
  fetch_called (Element a e) = tt
  fetch_called (Char a e) = tt

  pub read_called : (o : Option Direct) (p : Scalar) (index : List Item) → AreCalled C index
      → AreCalled C (read_by o p index)
  read_called None p index h = both_called index (fetch_code p) h (fetch_called p)
  read_called (Some d) p index h = tt

  direct_effect_called : (d : Direct) (ops : Option (Op × Op)) (delta : ℤ)
      → AreCalled C (direct_effect d ops delta)
  direct_effect_called d None delta = tt
  direct_effect_called d (Some ops) (pos n) = tt
  direct_effect_called d (Some ops) (negsuc n) = tt

  loaded_called : (o : Operator) → AreCalled C (loaded_code o)
  loaded_called between.Multiply = tt
  loaded_called between.Divide = tt
  loaded_called between.Remainder = tt
  loaded_called between.Add = tt
  loaded_called between.Subtract = tt
  loaded_called between.ShiftLeft = tt
  loaded_called between.ShiftRight = tt
  loaded_called between.ShiftUnsigned = tt
  loaded_called between.And = tt
  loaded_called between.Xor = tt
  loaded_called between.Or = tt
  loaded_called between.Equal = tt
  loaded_called between.NotEqual = tt

  pub const_called : (v : ℤ) → AreCalled C (const_code v)
  const_called (pos zero) = tt
  const_called (pos (suc n)) = tt
  const_called (negsuc n) = tt

  alt_called : (v : ℤ) → AreCalled C (alt_code v)
  alt_called (pos zero) = tt
  alt_called (pos (suc n)) = tt
  alt_called (negsuc n) = tt

  to_alt_called : (o : Operator) (v : ℤ) → AreCalled C (alt_code v ++ loaded_code o)
  to_alt_called o v = both_called (alt_code v) (loaded_code o) (alt_called v) (loaded_called o)

  known_called : (o : Operator) (v : ℤ) → AreCalled C (known_code o v)
  known_called between.Multiply v = tt
  known_called between.Divide v = to_alt_called between.Divide v
  known_called between.Remainder v = to_alt_called between.Remainder v
  known_called between.Add v = tt
  known_called between.Subtract v = tt
  known_called between.ShiftLeft v = tt
  known_called between.ShiftRight v = to_alt_called between.ShiftRight v
  known_called between.ShiftUnsigned v = tt
  known_called between.And v = to_alt_called between.And v
  known_called between.Xor v = to_alt_called between.Xor v
  known_called between.Or v = to_alt_called between.Or v
  known_called between.Equal v = tt
  known_called between.NotEqual v = to_alt_called between.NotEqual v

  pub operate_called : (o : Operator) (how : Right) (right : List Item) → AreCalled C right
      → AreCalled C (operate_by o how right)
  operate_called o (Known v) right h = known_called o v
  operate_called o (Placed d) right h = loaded_called o
  operate_called o Waiting right h =
      both_called right (alone op.PopAlt ∷ operator_code o) h (operator_called o)

  pub folded_called : (k : Option ℤ) (items : List Item) → AreCalled C items
      → AreCalled C (folded k items)
  folded_called None items h = h
  folded_called (Some v) items h = const_called v

  pub bounds_called : (size : Option ℕ) → AreCalled C (bounds_code size)
  bounds_called None = tt
  bounds_called (Some zero) = tt
  bounds_called (Some (suc n)) = tt

  pub give_back_called : (n : ℕ) → AreCalled C (give_back_code n)
  give_back_called zero = tt
  give_back_called (suc n) = tt

  pub leave_called : (slots : List Slot) (made : List ℕ) → AreCalled C (leave_code slots made)
  leave_called slots [] = tt
  leave_called slots (s ∷ made) = tt

  pub changed_called : (s : Scalar) (change : List Item) → AreCalled C change
      → AreCalled C (changed_code s change)
  changed_called s change h =
      let last = alone op.PopAlt ∷ store_code s in
      both_called (load_code s) (alone op.Xchg ∷ (change ++ last)) (load_called s)
      (both_called change last h (store_called s))

  pub stepped_called : (s : Scalar) (delta : ℤ) (prefix : Bool)
      → AreCalled C (stepped_code s delta prefix)
  stepped_called s delta true = store_called s
  stepped_called s delta false =
      both_called (store_code s) (alone op.PopPri ∷ []) (store_called s) tt

  pub turned_called : (s : Scalar) (change : List Item) (prefix : Bool) → AreCalled C change
      → AreCalled C (turned_code s change prefix)
  turned_called s change true h =
      both_called change (alone op.PopAlt ∷ store_code s) h (store_called s)
  turned_called s change false h =
      both_called change (alone op.PopAlt ∷ (store_code s ++ alone op.PopPri ∷ [])) h
      (both_called (store_code s) (alone op.PopPri ∷ []) (store_called s) tt)

  stepped_back_called : (d : Direct) (delta : ℤ) (prefix : Bool)
      → AreCalled C (stepped_back d delta prefix)
  stepped_back_called d delta true = tt
  stepped_back_called d delta false = tt

  pub step_called : (o : Option Direct) (p : Scalar) (delta : ℤ) (prefix : Bool)
      (place : List Item) → AreCalled C place → AreCalled C (step_by o p delta prefix place)
  step_called None p delta prefix place h =
      both_called place (alone op.MoveAlt ∷ (load_code p ++ stepped_code p delta prefix)) h
      (both_called (load_code p) (stepped_code p delta prefix) (load_called p)
      (stepped_called p delta prefix))
  step_called (Some d) p delta prefix place h = stepped_back_called d delta prefix

  -- ---- assignments, updates and steps, by how place and value come

  quiet_assign_called : (p : Scalar) (place load : List Item) → AreCalled C place → AreCalled C load
      → AreCalled C (quiet_assign p place load)
  quiet_assign_called p place load h g =
      both_called place (alone op.MoveAlt ∷ (load ++ store_code p)) h
      (both_called load (store_code p) g (store_called p))

  pub assign_called : (o : Option Direct) (how : Right) (p : Scalar) (place items : List Item)
      → AreCalled C place → AreCalled C items → AreCalled C (assign_by o how p place items)
  assign_called None (Known v) p place items h g =
      quiet_assign_called p place (const_code v) h (const_called v)
  assign_called None (Placed d) p place items h g = quiet_assign_called p place (direct_load d) h tt
  assign_called None Waiting p place items h g =
      waiting_called place items (alone op.PopAlt ∷ store_code p) h g (store_called p)
  assign_called (Some d) how p place items h g = both_called items (direct_store d) g tt

  popped_called : (p : Scalar) (change : List Item) → AreCalled C change
      → AreCalled C (load_code p ++ (change ++ (alone op.PopAlt ∷ store_code p)))
  popped_called p change h =
      both_called (load_code p) (change ++ (alone op.PopAlt ∷ store_code p)) (load_called p)
      (both_called change (alone op.PopAlt ∷ store_code p) h (store_called p))

  pushed_called : (p : Scalar) (place change : List Item) → AreCalled C place → AreCalled C change
      → AreCalled C (pushed_update p place change)
  pushed_called p place change h g =
      both_called place
      (alone op.PushPri ∷ (load_code p ++ (change ++ (alone op.PopAlt ∷ store_code p)))) h
      (popped_called p change g)

  known_update_called : (b : Bool) (p : Scalar) (place change : List Item) → AreCalled C place
      → AreCalled C change → AreCalled C (known_update b p place change)
  known_update_called true p place change h g =
      both_called place (alone op.MoveAlt ∷ (load_code p ++ (change ++ store_code p))) h
      (both_called (load_code p) (change ++ store_code p) (load_called p)
      (both_called change (store_code p) g (store_called p)))
  known_update_called false p place change h g = pushed_called p place change h g

  pub update_called : (o : Option Direct) (how : Right) (p : Scalar) (f : Operator)
      (place items : List Item) → AreCalled C place → AreCalled C items
      → AreCalled C (update_by o how p f place items)
  update_called None (Known v) p f place items h g =
      known_update_called (leaves_alt f) p place (known_code f v) h (known_called f v)
  update_called None (Placed d) p f place items h g =
      pushed_called p place (placed_code f d) h (loaded_called f)
  update_called None Waiting p f place items h g =
      waiting_called place items (alone op.PopAlt ∷ alone op.PushAlt ∷ alone op.Xchg
      ∷ (load_code p ++ (loaded_code f ++ (alone op.PopAlt ∷ store_code p)))) h g
      (popped_called p (loaded_code f) (loaded_called f))
  update_called (Some d) (Known v) p f place items h g =
      both_called (known_code f v) (direct_store d) (known_called f v) tt
  update_called (Some d) (Placed k) p f place items h g =
      both_called (loaded_code f) (direct_store d) (loaded_called f) tt
  update_called (Some d) Waiting p f place items h g =
      both_called items (direct_changed d (operator_code f)) g
      (both_called (operator_code f) (direct_store d) (operator_called f) tt)

  effect_there_called : (p : Scalar) (delta : ℤ) (place : List Item) → AreCalled C place
      → AreCalled C (effect_there p delta place)
  effect_there_called (Char a e) delta place h = step_called None (Char a e) delta true place h
  effect_there_called (Global o) (pos n) place h = both_called place (alone op.IncI ∷ []) h tt
  effect_there_called (Global o) (negsuc n) place h = both_called place (alone op.DecI ∷ []) h tt
  effect_there_called (Own s) (pos n) place h = both_called place (alone op.IncI ∷ []) h tt
  effect_there_called (Own s) (negsuc n) place h = both_called place (alone op.DecI ∷ []) h tt
  effect_there_called (Through s) (pos n) place h = both_called place (alone op.IncI ∷ []) h tt
  effect_there_called (Through s) (negsuc n) place h = both_called place (alone op.DecI ∷ []) h tt
  effect_there_called (Element a e) (pos n) place h = both_called place (alone op.IncI ∷ []) h tt
  effect_there_called (Element a e) (negsuc n) place h = both_called place (alone op.DecI ∷ []) h tt

  pub effect_by_called : (o : Option Direct) (p : Scalar) (delta : ℤ) (place : List Item)
      → AreCalled C place → AreCalled C (effect_by o p delta place)
  effect_by_called None p delta place h = effect_there_called p delta place h
  effect_by_called (Some d) p delta place h = direct_effect_called d d.adds delta

  -- ---- with one

  pub two_called : (f : ℕ) (swapped : Bool) → C f → AreCalled C (two_code f swapped)
  two_called f true h = (h, tt)
  two_called f false h = (h, tt)

  pub convert_called : (f : Option ℕ) → IfSome f C → AreCalled C (convert_code f)
  convert_called None h = tt
  convert_called (Some f) h = (h, tt)

  pub link_called : (o : Comparison) (f : Option ℕ) (swapped : Bool) → IfSome f C
      → AreCalled C (link_code o f swapped)
  link_called o None swapped h = tt
  link_called o (Some f) swapped h = two_called f swapped h

  pub bring_called : (how : Right) (right : List Item) → AreCalled C right
      → AreCalled C (bring_code how right)
  bring_called (Known v) right h = tt
  bring_called (Placed d) right h = tt
  bring_called Waiting right h = both_called right (alone op.PopAlt ∷ []) h tt

  last_by_called : (o : Comparison) (f : Option ℕ) (swapped : Bool) (how : Right)
      (operand : List Item) → AreCalled C operand → IfSome f C
      → AreCalled C (last_link_by o f swapped how operand)
  last_by_called o None swapped how operand h g =
      both_called (bring_code how operand) (alone (compare_by how o) ∷ [])
      (bring_called how operand h) tt
  last_by_called o (Some f) swapped how operand h g =
      both_called operand (alone op.PopAlt ∷ two_code f swapped) h (two_called f swapped g)

  pub link_with_called : (fail : ℕ) (o : Comparison) (f : Option ℕ) (swapped : Bool) (how : Right)
      (operand : List Item) (links : Links) (others : List Item)
      → AreCalled C operand → IfSome f C → AreCalled C others
      → AreCalled C (link_with fail o f swapped how operand links others)
  link_with_called fail o f swapped how operand no_links others h g k =
      last_by_called o f swapped how operand h g
  link_with_called fail o f swapped how operand (then_link o2 e2 f2 swapped2 links) others h g k =
      let link = link_code o f swapped in
      let tested = jump_to op.Jzer fail ∷ alone op.PopPri ∷ others in
      both_called operand (alone op.PopAlt ∷ alone op.PushPri ∷ (link ++ tested)) h
      (both_called link tested (link_called o f swapped g) k)

  pub linked_called : (q : ℕ) (links : Links) (items : List Item) → AreCalled C items
      → AreCalled C (linked_with q links items)
  linked_called q no_links items h = h
  linked_called q (then_link o e f swapped no_links) items h = h
  linked_called q (then_link o e f swapped (then_link o2 e2 f2 swapped2 links)) items h =
      both_called items (chain_end_code q) h tt

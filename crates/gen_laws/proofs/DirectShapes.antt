-- The shapes of nodes by how their place and their operand come: by a place's own instruction, or
-- by its address.
use Rattle.std.proofs.Common.{◌+◌, ◌*◌, ◌+ℤ◌, ℕ, ℤ, pos, negsuc, List}
use Rattle.std.proofs.Common.{[], ◌∷◌, ◌++◌}
use Rattle.std.proofs.Common.{refl}
use Rattle.std.proofs.Common.{Bool, true, false, Option, None, Some, neg_ℤ}
use Rattle.pawn_cells.specs.declared.operator.Operator.{Operator}
use Rattle.pawn_cells.specs.declared.operator.Operator.TheVariants as between
use Rattle.pawn_cells.specs.Cells.{neg}
use Rattle.pawn_meaning.specs.Program.{Scalar, Global, Through, Element, Char, Expr, Const, Read}
use Rattle.pawn_meaning.specs.Program.{Array, Object, SlotArray, ParamArray, Row, From}
use Rattle.pawn_meaning.specs.Program.{Unary, Binary, Chain, And, Or, Cond, Assign, Update}
use Rattle.pawn_meaning.specs.Program.{UpdateBy, Step, StepBy, Copy, Operate, OperateOne, Call}
use Rattle.pawn_meaning.specs.Program.{Native, Seq}
use Rattle.pawn_meaning.specs.Program as node
use Rattle.pawn_meaning.specs.Scope.{Scope, extent}
use Rattle.pawn_meaning.specs.Fold.{fold}
use Rattle.amx_ops.specs.declared.op.Op.{Op}
use Rattle.amx_ops.specs.declared.op.Op.TheVariants as op
use Rattle.gen_sim.specs.Items.{Item}
use Rattle.gen_sim.specs.SimpleCode.{alone, taking, operator_code, const_code, alt_code, folded}
use Rattle.gen_sim.specs.PlaceItems.{object_address, slot_offset}
use Rattle.gen_sim.specs.AccessCode.{load_code, store_code, stepped_code}
use Rattle.gen_sim.specs.AccessCode.{fetch_code}
use Rattle.gen_sim.specs.DirectCode.{data_cell, frame_cell, constant_index, element_of}
use Rattle.gen_sim.specs.DirectCode.{Direct, direct_of, direct_load, direct_store, direct_changed}
use Rattle.gen_sim.specs.DirectCode.{stepped_back, direct_step, read_by, value_begin, step_by}
use Rattle.gen_sim.specs.DirectCode.{direct_effect}
use Rattle.gen_sim.specs.ChangeCode.{quiet_assign, assign_by, leaves_alt}
use Rattle.gen_sim.specs.OperandCode.{placed_code}
use Rattle.gen_sim.specs.ChangeCode.{pushed_update}
use Rattle.gen_sim.specs.ChangeCode.{known_update, update_by}
use Rattle.gen_sim.specs.DirectCode.{effect_there, effect_by}
use Rattle.gen_sim.specs.OperandCode.{Right, Known, Placed, Waiting, right_by, read_place, right_of}
use Rattle.gen_sim.specs.OperandCode.{loaded_code, known_code, operate_by, bring_code}
use Rattle.gen_sim.specs.ChainCode.{loaded_compare, compare_by, last_link_by}
use Rattle.gen_sim.specs.CallCode.{two_code}
use Rattle.pawn_cells.specs.declared.operator.Comparison.{Comparison}
use Rattle.pawn_cells.specs.declared.operator.Comparison.TheVariants as comparison
use Rattle.gen_laws.specs.Fine.{IsFine, AreClosed}
use Rattle.gen_laws.proofs.FineLaws.{Nowhere}
use Rattle.gen_laws.proofs.FineLaws.{fine_both, closed_next}
use Rattle.gen_laws.proofs.FineItems.{Own, alone_fine, any_fine}
use Rattle.gen_laws.proofs.FineItems.{push_pri, push_alt, exchanges}
use Rattle.gen_laws.proofs.FineItems.{pop_alt}
use Rattle.gen_laws.proofs.FineItems.{load_fine, store_fine}
use Rattle.gen_laws.proofs.FineItems.{stepped_fine, operator_fine, link_fine, two_fine, fetch_fine}
use Rattle.gen_laws.proofs.Shapes.{own_closed, part_closed, both_closed, const_fine, alt_fine}
use Rattle.gen_laws.proofs.Shapes.{last_link_closed}

module _ (natives : ℕ) where
  abbrev pub AreFineDirect : Option Direct → Type 0
  AreFineDirect None = Unit {0}
  AreFineDirect (Some d) =
      IsFine natives Nowhere (taking d.loads d.operand)
      × IsFine natives Nowhere (taking d.loads_alt d.operand)
      × IsFine natives Nowhere (taking d.stores d.operand)

  data_fine : (address : ℤ) → AreFineDirect (Some (data_cell address))
  data_fine address = (
    any_fine natives Nowhere op.LoadPri address refl refl,
    any_fine natives Nowhere op.LoadAlt address refl refl,
    any_fine natives Nowhere op.StorPri address refl refl,
  )

  frame_fine : (offset : ℤ) → AreFineDirect (Some (frame_cell offset))
  frame_fine offset = (
    any_fine natives Nowhere op.LoadSPri offset refl refl,
    any_fine natives Nowhere op.LoadSAlt offset refl refl,
    any_fine natives Nowhere op.StorSPri offset refl refl,
  )

  element_fine : (scope : Scope) (a : Array) (i : Option ℕ) → AreFineDirect (element_of scope a i)
  element_fine scope a None = tt
  element_fine scope (Object o) (Some i) =
      data_fine (object_address scope.program o +ℤ pos (4 * i))
  element_fine scope (SlotArray s) (Some i) = frame_fine (slot_offset scope s +ℤ pos (4 * i))
  element_fine scope (ParamArray s known) (Some i) = tt
  element_fine scope (Row b index) (Some i) = tt
  element_fine scope (From b index) (Some i) = tt

  pub direct_fine : (scope : Scope) (p : Scalar) → AreFineDirect (direct_of scope p)
  direct_fine scope (Global o) = data_fine (object_address scope.program o)
  direct_fine scope (node.Own s) = frame_fine (slot_offset scope s)
  direct_fine scope (Through s) = (
    any_fine natives Nowhere op.LrefSPri (pos (12 + 4 * s)) refl refl,
    any_fine natives Nowhere op.LrefSAlt (pos (12 + 4 * s)) refl refl,
    any_fine natives Nowhere op.SrefSPri (pos (12 + 4 * s)) refl refl,
  )
  direct_fine scope (Element a e) =
      element_fine scope a (constant_index (extent scope a) (fold e))
  direct_fine scope (Char a e) = tt

  -- what loads a right operand is fine
  abbrev pub IsFineRight : Right → Type 0
  IsFineRight (Known v) = Unit {0}
  IsFineRight (Placed d) = IsFine natives Nowhere (taking d.loads_alt d.operand)
  IsFineRight Waiting = Unit {0}

  right_by_fine : (k : Option ℤ) (o : Option Direct) → AreFineDirect o → IsFineRight (right_by k o)
  right_by_fine (Some v) o h = tt
  right_by_fine None (Some d) h = h.1
  right_by_fine None None h = tt

  read_place_fine : (scope : Scope) (e : Expr) → AreFineDirect (read_place scope e)
  read_place_fine scope (Read p) = direct_fine scope p
  read_place_fine scope e = tt

  -- so are its load and store
  abbrev pub IsFineQuiet : Right → Type 0
  IsFineQuiet (Known v) = Unit {0}
  IsFineQuiet (Placed d) = AreFineDirect (Some d)
  IsFineQuiet Waiting = Unit {0}

  quiet_by_fine : (k : Option ℤ) (o : Option Direct) → AreFineDirect o → IsFineQuiet (right_by k o)
  quiet_by_fine (Some v) o h = tt
  quiet_by_fine None (Some d) h = h
  quiet_by_fine None None h = tt

  pub quiet_fine : (scope : Scope) (e : Expr) → IsFineQuiet (right_of scope e)
  quiet_fine scope e = quiet_by_fine (fold e) (read_place scope e) (read_place_fine scope e)

  pub right_fine : (scope : Scope) (e : Expr) → IsFineRight (right_of scope e)
  right_fine scope e = right_by_fine (fold e) (read_place scope e) (read_place_fine scope e)

  -- what adds 1 there, or takes 1 away, is fine
  abbrev pub AreFineAdds : Direct → Option (Op × Op) → Type 0
  AreFineAdds d None = Unit {0}
  AreFineAdds d (Some ops) =
      IsFine natives Nowhere (taking ops.0 d.operand)
      × IsFine natives Nowhere (taking ops.1 d.operand)

  abbrev pub AreFineEffects : Option Direct → Type 0
  AreFineEffects None = Unit {0}
  AreFineEffects (Some d) = AreFineAdds d d.adds

  data_effects : (address : ℤ) → AreFineEffects (Some (data_cell address))
  data_effects address = (
    any_fine natives Nowhere op.Inc address refl refl,
    any_fine natives Nowhere op.Dec address refl refl,
  )

  frame_effects : (offset : ℤ) → AreFineEffects (Some (frame_cell offset))
  frame_effects offset = (
    any_fine natives Nowhere op.IncS offset refl refl,
    any_fine natives Nowhere op.DecS offset refl refl,
  )

  element_effects : (scope : Scope) (a : Array) (i : Option ℕ)
      → AreFineEffects (element_of scope a i)
  element_effects scope a None = tt
  element_effects scope (Object o) (Some i) =
      data_effects (object_address scope.program o +ℤ pos (4 * i))
  element_effects scope (SlotArray s) (Some i) =
      frame_effects (slot_offset scope s +ℤ pos (4 * i))
  element_effects scope (ParamArray s known) (Some i) = tt
  element_effects scope (Row b index) (Some i) = tt
  element_effects scope (From b index) (Some i) = tt

  pub effects_fine : (scope : Scope) (p : Scalar) → AreFineEffects (direct_of scope p)
  effects_fine scope (Global o) = data_effects (object_address scope.program o)
  effects_fine scope (node.Own s) = frame_effects (slot_offset scope s)
  effects_fine scope (Through s) = tt
  effects_fine scope (Element a e) =
      element_effects scope a (constant_index (extent scope a) (fold e))
  effects_fine scope (Char a e) = tt

  module _ (begin : ℕ) where
    pub read_closed : (o : Option Direct) → AreFineDirect o → (p : Scalar) (index : List Item)
        → AreClosed natives begin index → AreClosed natives begin (read_by o p index)
    read_closed None h p index k =
        part_closed natives begin index (fetch_code p) k (fetch_fine natives p)
    read_closed (Some d) h p index k = own_closed natives begin (direct_load d) (h.0, tt)

    stepped_back_fine : (d : Direct) → AreFineDirect (Some d) → (delta : ℤ) (prefix : Bool)
        → Own natives (stepped_back d delta prefix)
    stepped_back_fine d h delta true = (h.2, tt)
    stepped_back_fine d h delta false =
        (h.2, (any_fine natives Nowhere op.AddC (neg_ℤ delta) refl refl, tt))

    pub step_closed : (o : Option Direct) → AreFineDirect o → (p : Scalar) (delta : ℤ)
        (prefix : Bool) (place : List Item) → AreClosed natives begin place
        → AreClosed natives begin (step_by o p delta prefix place)
    step_closed None h p delta prefix place k =
        part_closed natives begin place _ k (
          alone_fine natives Nowhere op.MoveAlt refl refl,
          fine_both natives Nowhere (load_code p) (stepped_code p delta prefix)
              (load_fine natives p) (stepped_fine natives p delta prefix),
        )
    step_closed (Some d) h p delta prefix place k =
        own_closed natives begin (direct_step d delta prefix) (
          h.0,
          (
            any_fine natives Nowhere op.AddC delta refl refl,
            stepped_back_fine d h delta prefix,
          ),
        )

    effect_fine : (d : Direct) → AreFineDirect (Some d) → (ops : Option (Op × Op))
        → AreFineAdds d ops → (delta : ℤ) → Own natives (direct_effect d ops delta)
    effect_fine d h None k delta =
        (h.0, (any_fine natives Nowhere op.AddC delta refl refl, (h.2, tt)))
    effect_fine d h (Some ops) k (pos n) = (k.0, tt)
    effect_fine d h (Some ops) k (negsuc n) = (k.1, tt)

    up_fine : Own natives (alone op.IncI ∷ [])
    up_fine = (alone_fine natives Nowhere op.IncI refl refl, tt)

    down_fine : Own natives (alone op.DecI ∷ [])
    down_fine = (alone_fine natives Nowhere op.DecI refl refl, tt)

    effect_there_closed : (p : Scalar) (delta : ℤ) (place : List Item)
        → AreClosed natives begin place → AreClosed natives begin (effect_there p delta place)
    effect_there_closed (Char a e) delta place h =
        step_closed None tt (Char a e) delta true place h
    effect_there_closed (Global o) (pos n) place h =
        part_closed natives begin place (alone op.IncI ∷ []) h up_fine
    effect_there_closed (Global o) (negsuc n) place h =
        part_closed natives begin place (alone op.DecI ∷ []) h down_fine
    effect_there_closed (node.Own s) (pos n) place h =
        part_closed natives begin place (alone op.IncI ∷ []) h up_fine
    effect_there_closed (node.Own s) (negsuc n) place h =
        part_closed natives begin place (alone op.DecI ∷ []) h down_fine
    effect_there_closed (Through s) (pos n) place h =
        part_closed natives begin place (alone op.IncI ∷ []) h up_fine
    effect_there_closed (Through s) (negsuc n) place h =
        part_closed natives begin place (alone op.DecI ∷ []) h down_fine
    effect_there_closed (Element a e) (pos n) place h =
        part_closed natives begin place (alone op.IncI ∷ []) h up_fine
    effect_there_closed (Element a e) (negsuc n) place h =
        part_closed natives begin place (alone op.DecI ∷ []) h down_fine

    pub effect_by_closed : (o : Option Direct) → AreFineDirect o → AreFineEffects o → (p : Scalar)
        (delta : ℤ) (place : List Item) → AreClosed natives begin place
        → AreClosed natives begin (effect_by o p delta place)
    effect_by_closed None h k p delta place g = effect_there_closed p delta place g
    effect_by_closed (Some d) h k p delta place g =
        own_closed natives begin (direct_effect d d.adds delta) (effect_fine d h d.adds k delta)

    -- ---- operators, by how their right operand comes

    loaded_fine : (o : Operator) → Own natives (loaded_code o)
    loaded_fine between.Multiply = (alone_fine natives Nowhere op.Smul refl refl, tt)
    loaded_fine between.Divide = (alone_fine natives Nowhere op.Sdiv refl refl, tt)
    loaded_fine between.Remainder = (
      alone_fine natives Nowhere op.Sdiv refl refl,
      (alone_fine natives Nowhere op.MovePri refl refl, tt),
    )
    loaded_fine between.Add = (alone_fine natives Nowhere op.Add refl refl, tt)
    loaded_fine between.Subtract = (alone_fine natives Nowhere op.Sub refl refl, tt)
    loaded_fine between.ShiftLeft = (alone_fine natives Nowhere op.Shl refl refl, tt)
    loaded_fine between.ShiftRight = (alone_fine natives Nowhere op.Sshr refl refl, tt)
    loaded_fine between.ShiftUnsigned = (alone_fine natives Nowhere op.Shr refl refl, tt)
    loaded_fine between.And = (alone_fine natives Nowhere op.And refl refl, tt)
    loaded_fine between.Xor = (alone_fine natives Nowhere op.Xor refl refl, tt)
    loaded_fine between.Or = (alone_fine natives Nowhere op.Or refl refl, tt)
    loaded_fine between.Equal = (alone_fine natives Nowhere op.Eq refl refl, tt)
    loaded_fine between.NotEqual = (alone_fine natives Nowhere op.Neq refl refl, tt)

    to_alt_fine : (o : Operator) (v : ℤ)
        → Own natives (alt_code v ++ loaded_code o)
    to_alt_fine o v =
        fine_both natives Nowhere (alt_code v) (loaded_code o) (alt_fine natives v) (loaded_fine o)

    known_fine : (o : Operator) (v : ℤ) → Own natives (known_code o v)
    known_fine between.Multiply v = (any_fine natives Nowhere op.SmulC v refl refl, tt)
    known_fine between.Divide v = to_alt_fine between.Divide v
    known_fine between.Remainder v = to_alt_fine between.Remainder v
    known_fine between.Add v = (any_fine natives Nowhere op.AddC v refl refl, tt)
    known_fine between.Subtract v = (any_fine natives Nowhere op.AddC (neg v) refl refl, tt)
    known_fine between.ShiftLeft v = (any_fine natives Nowhere op.ShlCPri v refl refl, tt)
    known_fine between.ShiftRight v = to_alt_fine between.ShiftRight v
    known_fine between.ShiftUnsigned v = (any_fine natives Nowhere op.ShrCPri v refl refl, tt)
    known_fine between.And v = to_alt_fine between.And v
    known_fine between.Xor v = to_alt_fine between.Xor v
    known_fine between.Or v = to_alt_fine between.Or v
    known_fine between.Equal v = (any_fine natives Nowhere op.EqCPri v refl refl, tt)
    known_fine between.NotEqual v = to_alt_fine between.NotEqual v

    pub operate_closed : (o : Operator) (how : Right) → IsFineRight how → (right : List Item)
        → AreClosed natives begin right → AreClosed natives begin (operate_by o how right)
    operate_closed o (Known v) t right g =
        own_closed natives begin (known_code o v) (known_fine o v)
    operate_closed o (Placed d) t right g =
        own_closed natives begin (taking d.loads_alt d.operand ∷ loaded_code o) (t, loaded_fine o)
    operate_closed o Waiting t right g =
        part_closed natives begin right (alone op.PopAlt ∷ operator_code o) g
        (pop_alt natives Nowhere, operator_fine natives o)

    -- ---- assignments, updates and steps, by how place and value come

    quiet_assign_closed : (p : Scalar) (place load : List Item) → AreClosed natives begin place
        → Own natives load → AreClosed natives begin (quiet_assign p place load)
    quiet_assign_closed p place load h g =
        part_closed natives begin place (alone op.MoveAlt ∷ (load ++ store_code p)) h (
          alone_fine natives Nowhere op.MoveAlt refl refl,
          fine_both natives Nowhere load (store_code p) g (store_fine natives p),
        )

    pub assign_closed : (o : Option Direct) → AreFineDirect o → (how : Right) → IsFineQuiet how
        → (p : Scalar) (place value : List Item) → AreClosed natives begin place
        → AreClosed natives (value_begin o begin place) value
        → AreClosed natives begin (assign_by o how p place value)
    assign_closed None h (Known v) q p place value k g =
        quiet_assign_closed p place (const_code v) k (const_fine natives v)
    assign_closed None h (Placed d) q p place value k g =
        quiet_assign_closed p place (direct_load d) k (q.0, tt)
    assign_closed None h Waiting q p place value k g =
        both_closed natives begin place value (store_code p) k g (store_fine natives p)
    assign_closed (Some d) h how q p place value k g =
        part_closed natives begin value (direct_store d) g (h.2, tt)

    popped_fine : (p : Scalar) (change : List Item) → Own natives change
        → Own natives (load_code p ++ (change ++ (alone op.PopAlt ∷ store_code p)))
    popped_fine p change h =
        fine_both natives Nowhere (load_code p) (change ++ (alone op.PopAlt ∷ store_code p))
        (load_fine natives p) (fine_both natives Nowhere change (alone op.PopAlt ∷ store_code p) h
        (pop_alt natives Nowhere, store_fine natives p))

    pushed_update_closed : (p : Scalar) (place change : List Item) → AreClosed natives begin place
        → Own natives change → AreClosed natives begin (pushed_update p place change)
    pushed_update_closed p place change h g =
        part_closed natives begin place
        (alone op.PushPri ∷ (load_code p ++ (change ++ (alone op.PopAlt ∷ store_code p)))) h
        (push_pri natives Nowhere, popped_fine p change g)

    known_update_closed : (b : Bool) (p : Scalar) (place change : List Item)
        → AreClosed natives begin place → Own natives change
        → AreClosed natives begin (known_update b p place change)
    known_update_closed true p place change h g =
        part_closed natives begin place
        (alone op.MoveAlt ∷ (load_code p ++ (change ++ store_code p))) h (
          alone_fine natives Nowhere op.MoveAlt refl refl,
          fine_both natives Nowhere (load_code p) (change ++ store_code p) (load_fine natives p)
              (fine_both natives Nowhere change (store_code p) g (store_fine natives p)),
        )
    known_update_closed false p place change h g = pushed_update_closed p place change h g

    ready_closed : (d : Direct) → AreFineDirect (Some d) → (change : List Item) → Own natives change
        → AreClosed natives begin (direct_load d ++ (change ++ direct_store d))
    ready_closed d h change g =
        own_closed natives begin (direct_load d ++ (change ++ direct_store d))
        (h.0, fine_both natives Nowhere change (direct_store d) g (h.2, tt))

    pub update_closed : (o : Option Direct) → AreFineDirect o → (how : Right) → IsFineQuiet how
        → (p : Scalar) (f : Operator) (place value : List Item) → AreClosed natives begin place
        → AreClosed natives (value_begin o begin place) value
        → AreClosed natives begin (update_by o how p f place value)
    update_closed None h (Known v) q p f place value k g =
        known_update_closed (leaves_alt f) p place (known_code f v) k (known_fine f v)
    update_closed None h (Placed d) q p f place value k g =
        pushed_update_closed p place (placed_code f d) k (q.1, loaded_fine f)
    update_closed None h Waiting q p f place value k g =
        both_closed natives begin place value
        (alone op.PushAlt ∷ alone op.Xchg
        ∷ (load_code p ++ (loaded_code f ++ (alone op.PopAlt ∷ store_code p)))) k g (
          push_alt natives Nowhere,
          (
            exchanges natives Nowhere,
            popped_fine p (loaded_code f) (loaded_fine f),
          ),
        )
    update_closed (Some d) h (Known v) q p f place value k g =
        ready_closed d h (known_code f v) (known_fine f v)
    update_closed (Some d) h (Placed b) q p f place value k g =
        ready_closed d h (placed_code f b) (q.1, loaded_fine f)
    update_closed (Some d) h Waiting q p f place value k g =
        part_closed natives begin value (direct_changed d (operator_code f)) g (
          h.1,
          fine_both natives Nowhere (operator_code f) (direct_store d) (operator_fine natives f)
              (h.2, tt),
        )

    -- ---- a constant in the place of what folds

    pub folded_closed : (k : Option ℤ) (items : List Item) → AreClosed natives begin items
        → AreClosed natives begin (folded k items)
    folded_closed None items h = h
    folded_closed (Some v) items h = own_closed natives begin (const_code v) (const_fine natives v)

    -- ---- a last link, by how its right operand comes

    pub bring_closed : (how : Right) → IsFineRight how → (right : List Item)
        → AreClosed natives (begin + 4) right → AreClosed natives begin (bring_code how right)
    bring_closed (Known v) t right h =
        own_closed natives begin (taking op.ConstAlt v ∷ [])
        (any_fine natives Nowhere op.ConstAlt v refl refl, tt)
    bring_closed (Placed d) t right h =
        own_closed natives begin (taking d.loads_alt d.operand ∷ []) (t, tt)
    bring_closed Waiting t right h =
        closed_next natives begin (alone op.PushPri) (right ++ alone op.PopAlt ∷ [])
        (push_pri natives Nowhere)
        (part_closed natives (begin + 4) right (alone op.PopAlt ∷ []) h
        (pop_alt natives Nowhere, tt))

    loaded_compare_fine : (o : Comparison) → Own natives (alone (loaded_compare o) ∷ [])
    loaded_compare_fine comparison.Less = (alone_fine natives Nowhere op.Sless refl refl, tt)
    loaded_compare_fine comparison.LessEqual = (alone_fine natives Nowhere op.Sleq refl refl, tt)
    loaded_compare_fine comparison.Greater = (alone_fine natives Nowhere op.Sgrtr refl refl, tt)
    loaded_compare_fine comparison.GreaterEqual = (alone_fine natives Nowhere op.Sgeq refl refl, tt)

    compare_fine : (how : Right) (o : Comparison) → Own natives (alone (compare_by how o) ∷ [])
    compare_fine (Known v) o = loaded_compare_fine o
    compare_fine (Placed d) o = loaded_compare_fine o
    compare_fine Waiting o = link_fine natives o None false

    pub last_by_closed : (o : Comparison) (f : Option ℕ) (swapped : Bool) (how : Right)
        → IsFineRight how → (operand : List Item) → AreClosed natives (begin + 4) operand
        → AreClosed natives begin (last_link_by o f swapped how operand)
    last_by_closed o None swapped how t operand h =
        part_closed natives begin (bring_code how operand) (alone (compare_by how o) ∷ [])
        (bring_closed how t operand h) (compare_fine how o)
    last_by_closed o (Some f) swapped how t operand h =
        last_link_closed natives begin operand (two_code f swapped) h (two_fine natives f swapped)

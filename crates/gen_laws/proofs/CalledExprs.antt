-- The calls in the code of a valid expression.
use Rattle.std.proofs.Common.{◌+◌, ◌*◌, ℕ, pos, List, [], ◌∷◌, ◌++◌, Option, None, Some}
use Rattle.std.specs.Prelude.{IfSome}
use Rattle.pawn_meaning.specs.Program.{Scalar, Global, Own, Through, Element, Char, Array, Object}
use Rattle.pawn_meaning.specs.Program.{SlotArray, ParamArray, Row, From, Expr, Const, Read, Unary}
use Rattle.pawn_meaning.specs.Program.{Binary, Chain, And, Or, Cond, Assign, Update, UpdateBy, Step}
use Rattle.pawn_meaning.specs.Program.{StepBy, Copy, Operate, OperateOne, Call, Native, Seq, Links}
use Rattle.pawn_meaning.specs.Program.{no_links, then_link, Arg, Value, Ref, Whole, Temp, Args}
use Rattle.pawn_meaning.specs.Program.{no_args, then_arg, Slot}
use Rattle.pawn_meaning.specs.Scope.{Scope, extent}
use Rattle.pawn_meaning.specs.ValidExprs.{Takes, IsOperator, IsValidScalar, IsValidArray}
use Rattle.pawn_meaning.specs.ValidExprs.{IsValidExpr, AreValidLinks, IsValidArg, AreValidArgs}
use Rattle.pawn_meaning.specs.Fold.{fold}
use Rattle.pawn_meaning.specs.Need.{count_of}
use Rattle.amx_ops.specs.declared.op.Op.TheVariants as op
use Rattle.gen_sim.specs.Items.{Item, CallOf, past}
use Rattle.gen_sim.specs.Results.{temporaries_in}
use Rattle.gen_sim.specs.SimpleCode.{alone, taking, const_code, prefix_op}
use Rattle.gen_sim.specs.AccessCode.{load_code, changed_code, turned_code, address_code}
use Rattle.gen_sim.specs.DirectCode.{direct_of, value_begin}
use Rattle.gen_sim.specs.OperandCode.{right_of, operate_by}
use Rattle.gen_sim.specs.PushCode.{value_push, place_push, array_push, left_by}
use Rattle.gen_sim.specs.JumpCode.{other_at, choice_code, truth_code}
use Rattle.gen_sim.specs.BaseCode.{Base, base_of, base_item, index_begin, indexed_code}
use Rattle.gen_sim.specs.IndexCode.{bounds_code, in_characters, element_code, character_code}
use Rattle.gen_sim.specs.IndexCode.{rest_code, row_code}
use Rattle.gen_sim.specs.CallCode.{one_code, two_code, convert_code, give_back_code}
use Rattle.gen_sim.specs.ChainCode.{link_code, fail_at}
use Rattle.gen_laws.specs.ExprCode.{known_size, others_at, linked_with, index_items, place_items}
use Rattle.gen_laws.specs.ExprCode.{array_items}
use Rattle.gen_laws.specs.ExprCode.{value_items, links_items, arg_items, args_items, effect_items}
use Rattle.gen_laws.specs.Called.{AreCalled}
use Rattle.gen_laws.proofs.CalledItems.{both_called, waiting_called, choice_called}
use Rattle.gen_laws.proofs.CalledItems.{load_called, read_called, assign_called}
use Rattle.gen_laws.proofs.CalledItems.{const_called, operate_called, folded_called, update_called, step_called}
use Rattle.gen_laws.proofs.CalledItems.{bounds_called, give_back_called, changed_called}
use Rattle.gen_laws.proofs.CalledItems.{turned_called, two_called, convert_called, link_with_called}
use Rattle.gen_laws.proofs.CalledItems.{address_called}
use Rattle.gen_laws.proofs.CalledItems.{linked_called, effect_by_called}
use Rattle.gen_laws.proofs.PushLaws.{pushed_called, left_called}

module _ (C : ℕ → Type 0) (scope : Scope)
    (known : (f : ℕ) (params : List Slot) → Takes scope.program f params → C f) where
  if_known : (count : ℕ) (f : Option ℕ) → IfSome f (IsOperator scope count) → IfSome f C
  if_known count None h = tt
  if_known count (Some f) h = known f _ h

  -- an array and an index, and what is done with both
  indexed_called : (base : Option Base) (array index tail : List Item) → AreCalled C array
      → AreCalled C index → AreCalled C tail → AreCalled C (indexed_code base array index tail)
  indexed_called None array index tail a i l = waiting_called C array index tail a i l
  indexed_called (Some b) array index tail a i l = both_called C index tail i l

  base_called : (base : Option Base) → AreCalled C (base_item base ∷ [])
  base_called None = tt
  base_called (Some b) = tt

  element_called : (base : Option Base) (size : Option ℕ) (array index : List Item)
      → AreCalled C array → AreCalled C index → AreCalled C (element_code base size array index)
  element_called base size array index a i =
      indexed_called base array index (bounds_code size ++ base_item base ∷ []) a i
      (both_called C (bounds_code size) (base_item base ∷ []) (bounds_called C size)
      (base_called base))

  character_called : (base : Option Base) (size : Option ℕ) (array index : List Item)
      → AreCalled C array → AreCalled C index → AreCalled C (character_code base size array index)
  character_called base size array index a i =
      let last = taking op.AlignPri (pos 1) ∷ base_item base ∷ [] in
      indexed_called base array index (bounds_code (in_characters size) ++ last) a i
      (both_called C (bounds_code (in_characters size)) last (bounds_called C (in_characters size))
      (base_called base))

  place_calls : (p : Scalar) (begin : ℕ) → AreCalled C (index_items scope begin p)
      → AreCalled C (place_items scope begin p)
  place_calls p begin h =
      both_called C (index_items scope begin p) (address_code p) h (address_called C p)

  mutual
    pub index_called : (p : Scalar) → IsValidScalar scope p → (begin : ℕ)
        → AreCalled C (index_items scope begin p)
    index_called (Global o) h begin = tt
    index_called (Own s) h begin = tt
    index_called (Through s) h begin = tt
    index_called (Element a e) h begin =
        let array = array_items scope begin a in
        let q = index_begin (base_of scope a) begin array in
        element_called (base_of scope a) (known_size (extent scope a)) array (value_items scope q e)
        (array_called a h.1 begin) (value_called e h.2 q)
    index_called (Char a e) h begin =
        let array = array_items scope begin a in
        let q = index_begin (base_of scope a) begin array in
        character_called (base_of scope a) (known_size (extent scope a)) array (value_items scope q
        e)
        (array_called a h.1 begin) (value_called e h.2 q)

    pub array_called : (a : Array) → IsValidArray scope a → (begin : ℕ)
        → AreCalled C (array_items scope begin a)
    array_called (Object o) h begin = tt
    array_called (SlotArray s) h begin = tt
    array_called (ParamArray s known_here) h begin = tt
    array_called (Row a e) h begin =
        let array = array_items scope begin a in
        let q = index_begin (base_of scope a) begin array in
        let size = known_size (extent scope a) in
        let index = value_items scope q e in
        both_called C (element_code (base_of scope a) size array index) row_code
        (element_called (base_of scope a) size array index (array_called a h.1 begin)
        (value_called e h.2 q)) tt
    array_called (From a e) h begin =
        let array = array_items scope begin a in
        let q = index_begin (base_of scope a) begin array in
        let size = known_size (extent scope a) in
        let index = value_items scope q e in
        both_called C (element_code (base_of scope a) size array index) rest_code
        (element_called (base_of scope a) size array index (array_called a h.1 begin)
        (value_called e h.2 q)) tt

    pub value_called : (e : Expr) → IsValidExpr scope e → (begin : ℕ)
        → AreCalled C (value_items scope begin e)
    value_called (Const v) h begin = const_called C v
    value_called (Read p) h begin =
        read_called C (direct_of scope p) p (index_items scope begin p) (index_called p h begin)
    value_called (Unary o e) h begin =
        folded_called C (fold (Unary o e)) _
        (both_called C (value_items scope begin e) (alone (prefix_op o) ∷ [])
        (value_called e h begin) tt)
    value_called (Binary o l r) h begin =
        let how = right_of scope r in
        let left = left_by how (value_push scope l) (value_items scope begin l) in
        let q = past begin left in
        folded_called C (fold (Binary o l r)) _
        (both_called C left (operate_by o how (value_items scope q r))
        (left_called C how (value_push scope l) (value_items scope begin l) (value_called l h.0 begin))
        (operate_called C o how (value_items scope q r) (value_called r h.1 q)))
    value_called (Chain e links) h begin =
        let first = value_items scope begin e in
        let p = past begin first in
        let q = past p (links_items scope p 0 links) in
        let items = links_items scope p (fail_at q) links in
        folded_called C (fold (Chain e links)) _
        (both_called C first (linked_with q links items) (value_called e h.1 begin)
        (linked_called C q links items (links_called links h.2 (fail_at q) p)))
    value_called (And l r) h begin =
        let left = value_items scope begin l in
        let p = past begin left in
        let right = value_items scope (p + 8) r in
        folded_called C (fold (And l r)) _
        (both_called C left (choice_code p (right ++ truth_code) (const_code (pos 0)))
        (value_called l h.0 begin)
        (choice_called C p (right ++ truth_code) (const_code (pos 0))
        (both_called C right truth_code (value_called r h.1 (p + 8)) tt) tt))
    value_called (Or l r) h begin =
        let left = value_items scope begin l in
        let p = past begin left in
        let q = other_at p (const_code (pos 1)) in
        let right = value_items scope q r in
        folded_called C (fold (Or l r)) _
        (both_called C left (choice_code p (const_code (pos 1)) (right ++ truth_code))
        (value_called l h.0 begin)
        (choice_called C p (const_code (pos 1)) (right ++ truth_code) tt
        (both_called C right truth_code (value_called r h.1 q) tt)))
    value_called (Cond c a b) h begin =
        let condition = value_items scope begin c in
        let p = past begin condition in
        let first = value_items scope (p + 8) a in
        let q = other_at p first in
        folded_called C (fold (Cond c a b)) _
        (both_called C condition (choice_code p first (value_items scope q b))
        (value_called c h.0 begin)
        (choice_called C p first (value_items scope q b) (value_called a h.1 (p + 8))
        (value_called b h.2 q)))
    value_called (Assign p e) h begin =
        let place = place_items scope begin p in
        let q = value_begin (direct_of scope p) begin place in
        assign_called C (direct_of scope p) (right_of scope e) p place (value_items scope q e)
        (place_calls p begin (index_called p h.0 begin)) (value_called e h.1 q)
    value_called (Update p o e) h begin =
        let place = place_items scope begin p in
        let q = value_begin (direct_of scope p) begin place in
        update_called C (direct_of scope p) (right_of scope e) p o place (value_items scope q e)
        (place_calls p begin (index_called p h.0 begin)) (value_called e h.1 q)
    value_called (UpdateBy p f swapped e convert) h begin =
        let place = place_items scope begin p in
        let q = past begin place + 4 in
        let change = two_code f swapped ++ convert_code convert in
        waiting_called C place (value_items scope q e) (alone op.PopAlt ∷ changed_code p change)
        (place_calls p begin (index_called p h.2 begin)) (value_called e h.3 q)
        (changed_called C p change (both_called C (two_code f swapped) (convert_code convert)
        (two_called C f swapped (known f _ h.0))
        (convert_called C convert (if_known 1 convert h.1))))
    value_called (Step p delta prefix) h begin =
        step_called C (direct_of scope p) p delta prefix (place_items scope begin p)
        (place_calls p begin (index_called p h.1 begin))
    value_called (StepBy p f prefix) h begin =
        let last = turned_code p (one_code f) prefix in
        both_called C (place_items scope begin p) (alone op.MoveAlt ∷ (load_code p ++ last))
        (place_calls p begin (index_called p h.1 begin))
        (both_called C (load_code p) last (load_called C p)
        (turned_called C p (one_code f) prefix (known f _ h.0, tt)))
    value_called (Copy to from n) h begin =
        let first = array_items scope begin to in
        let q = past begin first + 4 in
        waiting_called C first (array_items scope q from)
        (alone op.PopAlt ∷ taking op.Movs (pos (4 * n)) ∷ alone op.ZeroPri ∷ [])
        (array_called to h.2 begin)
        (array_called from h.3 q) tt
    value_called (Operate f l r swapped) h begin =
        let left = value_items scope begin l in
        let q = past begin left + 4 in
        waiting_called C left (value_items scope q r) (alone op.PopAlt ∷ two_code f swapped)
        (value_called l h.1 begin) (value_called r h.2 q)
        (two_called C f swapped (known f _ h.0))
    value_called (OperateOne f e) h begin =
        both_called C (value_items scope begin e) (one_code f) (value_called e h.1 begin)
        (known f _ h.0, tt)
    value_called (Call f args) h begin =
        let items = args_items scope begin args in
        let call = taking op.PushC (pos (4 * count_of args)) ∷ CallOf f ∷ [] in
        both_called C (items ++ call) (give_back_code (temporaries_in args))
        (both_called C items call (args_called args h.3 begin) (known f h.0 h.1, tt))
        (give_back_called C (temporaries_in args))
    value_called (Native n args) h begin =
        let items = args_items scope begin args in
        let call =
        taking op.PushC (pos (4 * count_of args)) ∷ taking op.SysreqC (pos n)
        ∷ taking op.Stack (pos (4 * (count_of args + 1))) ∷ [] in
        both_called C (items ++ call) (give_back_code (temporaries_in args))
        (both_called C items call (args_called args h.1 begin) tt)
        (give_back_called C (temporaries_in args))
    value_called (Seq a b) h begin =
        let first = value_items scope begin a in
        both_called C first (value_items scope (past begin first) b) (value_called a h.0 begin)
        (value_called b h.1 (past begin first))

    pub links_called : (links : Links) → AreValidLinks scope links → (fail begin : ℕ)
        → AreCalled C (links_items scope begin fail links)
    links_called no_links h fail begin = tt
    links_called (then_link o e f swapped links) h fail begin =
        let operand = value_items scope (begin + 4) e in
        let link = link_code o f swapped in
        let p = others_at begin operand link in
        link_with_called C fail o f swapped (right_of scope e) operand links
        (links_items scope p fail links) (value_called e h.1 (begin + 4)) (if_known 2 f h.0)
        (links_called links h.2 fail p)

    pub arg_called : (a : Arg) → IsValidArg scope a → (begin : ℕ)
        → AreCalled C (arg_items scope begin a)
    arg_called (Value e) h begin =
        pushed_called C (value_push scope e) (value_items scope begin e) (value_called e h begin)
    arg_called (Ref p) h begin =
        pushed_called C (place_push scope p) (place_items scope begin p) (place_calls p begin (index_called p h.1 begin))
    arg_called (Whole a) h begin =
        pushed_called C (array_push scope a) (array_items scope begin a) (array_called a h begin)
    arg_called (Temp e) h begin =
        both_called C (value_items scope begin e)
        (taking op.Heap (pos 4) ∷ alone op.StorI ∷ alone op.PushAlt ∷ [])
        (value_called e h begin) tt

    pub args_called : (args : Args) → AreValidArgs scope args → (begin : ℕ)
        → AreCalled C (args_items scope begin args)
    args_called no_args h begin = tt
    args_called (then_arg a args) h begin =
        let others = args_items scope begin args in
        both_called C others (arg_items scope (past begin others) a) (args_called args h.1 begin)
        (arg_called a h.0 (past begin others))

  pub effect_called : (e : Expr) → IsValidExpr scope e → (begin : ℕ)
      → AreCalled C (effect_items scope begin e)
  effect_called (Step p delta prefix) h begin =
      effect_by_called C (direct_of scope p) p delta (place_items scope begin p)
      (place_calls p begin (index_called p h.1 begin))
  effect_called (Seq a b) h begin =
      let first = effect_items scope begin a in
      both_called C first (effect_items scope (past begin first) b) (effect_called a h.0 begin)
      (effect_called b h.1 (past begin first))
  effect_called e h begin = value_called e h begin

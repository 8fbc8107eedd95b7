-- The code of each place, array, expression and argument, which begins at an address. A second part
-- begins where the shape of the node has it, behind the first one.
use Rattle.std.specs.Prelude.{◌+◌, ℕ, pos, List, [], ◌++◌, Bool, Option, None, Some}
use Rattle.pawn_cells.specs.declared.operator.Comparison.{Comparison}
use Rattle.pawn_meaning.specs.Program.{Scalar, Global, Own, Through, Element, Char, Array, Object}
use Rattle.pawn_meaning.specs.Program.{SlotArray, ParamArray, Row, From, Expr, Const, Read, Unary}
use Rattle.pawn_meaning.specs.Program.{Binary, Chain, And, Or, Cond, Assign, Update, UpdateBy, Step}
use Rattle.pawn_meaning.specs.Program.{StepBy, Copy, Operate, OperateOne, Call, Native, Seq, Links}
use Rattle.pawn_meaning.specs.Program.{no_links, then_link, Arg, Value, Ref, Whole, Temp, Args}
use Rattle.pawn_meaning.specs.Program.{no_args, then_arg}
use Rattle.pawn_meaning.specs.Scope.{Scope, Extent, extent}
use Rattle.pawn_meaning.specs.Fold.{fold}
use Rattle.pawn_meaning.specs.Need.{count_of}
use Rattle.gen_sim.specs.Items.{Item, past}
use Rattle.gen_sim.specs.Results.{temporaries_in}
use Rattle.gen_sim.specs.SimpleCode.{const_code, folded, unary_code, comma_code}
use Rattle.gen_sim.specs.AccessCode.{place_code, update_code, step_by_code}
use Rattle.gen_sim.specs.DirectCode.{direct_of, read_by, value_begin, step_by, effect_by}
use Rattle.gen_sim.specs.OperandCode.{right_of, operate_by, Right}
use Rattle.gen_sim.specs.PushCode.{value_push, place_push, array_push, pushed_by, left_by}
use Rattle.gen_sim.specs.ChangeCode.{assign_by, update_by}
use Rattle.gen_sim.specs.JumpCode.{other_at, cond_code, and_code, or_code}
use Rattle.gen_sim.specs.PlaceItems.{object_code, slot_code, through_code}
use Rattle.gen_sim.specs.BaseCode.{base_of, index_begin}
use Rattle.gen_sim.specs.IndexCode.{element_code, character_code, rest_code, row_code, copy_code}
use Rattle.gen_sim.specs.CallCode.{one_code, two_code, convert_code, operate_one_code, operate_code}
use Rattle.gen_sim.specs.CallCode.{temporary_code, call_code, native_code}
use Rattle.gen_sim.specs.ChainCode.{link_code, middle_link_code, fail_at, last_link_by}
use Rattle.gen_sim.specs.ChainCode.{chain_end_code}

-- the first size of an array, where it is known
abbrev pub known_size : Option Extent → Option ℕ
known_size None = None
known_size (Some whole) = whole.first

-- a link, by whether others stand behind it
abbrev pub link_with : (fail : ℕ) → Comparison → Option ℕ → Bool → Right → (operand : List Item)
    → Links → List Item → List Item
link_with fail o f swapped how operand no_links others = last_link_by o f swapped how operand
link_with fail o f swapped how operand (then_link o2 e2 f2 swapped2 links) others =
    middle_link_code fail operand (link_code o f swapped) others

-- where the links behind one begin
abbrev pub others_at : (begin : ℕ) → (operand link : List Item) → ℕ
others_at begin operand link = past (past (begin + 4) operand + 4 + 4) link + 8 + 4

-- a chain's links, which end at an address, and what stands behind several
abbrev pub ended_with : ℕ → Links → List Item → List Item
ended_with q no_links items = items
ended_with q (then_link o e f swapped links) items = items ++ chain_end_code q

-- a chain's links, the first one too, with what stands behind several
abbrev pub linked_with : ℕ → Links → List Item → List Item
linked_with q no_links items = items
linked_with q (then_link o e f swapped links) items = ended_with q links items

module _ (scope : Scope) where
  abbrev mutual
    -- of a place, up to where its index leads
    pub index_items : ℕ → Scalar → List Item
    index_items begin (Global o) = object_code scope.program o
    index_items begin (Own s) = slot_code scope s
    index_items begin (Through s) = through_code s
    index_items begin (Element a e) =
        let array = array_items begin a in
        let base = base_of scope a in
        element_code base (known_size (extent scope a)) array
        (value_items (index_begin base begin array) e)
    index_items begin (Char a e) =
        let array = array_items begin a in
        let base = base_of scope a in
        character_code base (known_size (extent scope a)) array
        (value_items (index_begin base begin array) e)

    -- of the address of an array's first cell
    pub array_items : ℕ → Array → List Item
    array_items begin (Object o) = object_code scope.program o
    array_items begin (SlotArray s) = slot_code scope s
    array_items begin (ParamArray s known) = through_code s
    array_items begin (Row a e) =
        let array = array_items begin a in
        let base = base_of scope a in
        element_code base (known_size (extent scope a)) array
        (value_items (index_begin base begin array) e) ++ row_code
    array_items begin (From a e) =
        let array = array_items begin a in
        let base = base_of scope a in
        element_code base (known_size (extent scope a)) array
        (value_items (index_begin base begin array) e) ++ rest_code

    -- of an expression's value
    pub value_items : ℕ → Expr → List Item
    value_items begin (Const v) = const_code v
    value_items begin (Read p) = read_by (direct_of scope p) p (index_items begin p)
    value_items begin (Unary o e) =
        folded (fold (Unary o e)) (unary_code o (value_items begin e))
    value_items begin (Binary o l r) =
        let how = right_of scope r in
        let left = left_by how (value_push scope l) (value_items begin l) in
        folded (fold (Binary o l r)) (left ++ operate_by o how (value_items (past begin left) r))
    value_items begin (Chain e links) =
        let first = value_items begin e in
        let p = past begin first in
        let q = past p (links_items p 0 links) in
        folded (fold (Chain e links))
        (first ++ linked_with q links (links_items p (fail_at q) links))
    value_items begin (And l r) =
        let left = value_items begin l in
        folded (fold (And l r)) (and_code begin left (value_items (past begin left + 8) r))
    value_items begin (Or l r) =
        let left = value_items begin l in
        folded (fold (Or l r))
        (or_code begin left (value_items (other_at (past begin left) (const_code (pos 1))) r))
    value_items begin (Cond c a b) =
        let condition = value_items begin c in
        let first = value_items (past begin condition + 8) a in
        folded (fold (Cond c a b))
        (cond_code begin condition first (value_items (other_at (past begin condition) first) b))
    value_items begin (Assign p e) =
        let place = place_code p (index_items begin p) in
        let direct = direct_of scope p in
        assign_by direct (right_of scope e) p place
        (value_items (value_begin direct begin place) e)
    value_items begin (Update p o e) =
        let place = place_code p (index_items begin p) in
        let direct = direct_of scope p in
        update_by direct (right_of scope e) p o place
        (value_items (value_begin direct begin place) e)
    value_items begin (UpdateBy p f swapped e convert) =
        let place = place_code p (index_items begin p) in
        update_code p place (value_items (past begin place + 4) e)
        (two_code f swapped ++ convert_code convert)
    value_items begin (Step p delta prefix) =
        step_by (direct_of scope p) p delta prefix (place_code p (index_items begin p))
    value_items begin (StepBy p f prefix) =
        step_by_code p prefix (place_code p (index_items begin p)) (one_code f)
    value_items begin (Copy to from n) =
        let first = array_items begin to in
        copy_code n first (array_items (past begin first + 4) from)
    value_items begin (Operate f l r swapped) =
        let left = value_items begin l in
        operate_code f swapped left (value_items (past begin left + 4) r)
    value_items begin (OperateOne f e) = operate_one_code f (value_items begin e)
    value_items begin (Call f args) =
        call_code f (count_of args) (temporaries_in args) (args_items begin args)
    value_items begin (Native n args) =
        native_code n (count_of args) (temporaries_in args) (args_items begin args)
    value_items begin (Seq a b) =
        let first = value_items begin a in comma_code first (value_items (past begin first) b)

    -- links, with the address to which those that don't hold lead
    pub links_items : ℕ → ℕ → Links → List Item
    links_items begin fail no_links = []
    links_items begin fail (then_link o e f swapped links) =
        let operand = value_items (begin + 4) e in
        let link = link_code o f swapped in
        link_with fail o f swapped (right_of scope e) operand links
        (links_items (others_at begin operand link) fail links)

    -- of an argument, which is pushed
    pub arg_items : ℕ → Arg → List Item
    arg_items begin (Value e) = pushed_by (value_push scope e) (value_items begin e)
    arg_items begin (Ref p) = pushed_by (place_push scope p) (place_code p (index_items begin p))
    arg_items begin (Whole a) = pushed_by (array_push scope a) (array_items begin a)
    arg_items begin (Temp e) = temporary_code (value_items begin e)

    -- from the last to the first
    pub args_items : ℕ → Args → List Item
    args_items begin no_args = []
    args_items begin (then_arg a args) =
        let others = args_items begin args in others ++ arg_items (past begin others) a

  -- of a place's address
  abbrev pub place_items : ℕ → Scalar → List Item
  place_items begin p = place_code p (index_items begin p)

  -- of an expression whose value isn't used
  abbrev pub effect_items : ℕ → Expr → List Item
  effect_items begin (Step p delta prefix) =
      effect_by (direct_of scope p) p delta (place_items begin p)
  effect_items begin (Seq a b) =
      let first = effect_items begin a in comma_code first (effect_items (past begin first) b)
  effect_items begin e = value_items begin e

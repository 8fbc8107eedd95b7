-- The code of each valid place, array, expression and argument does what it means.
use Rattle.std.proofs.Common.{◌≡◌, ◌+◌, ℕ, pos, List, [], ◌∷◌, ◌++◌, Bool, Option}
use Rattle.std.proofs.Common.{ℤ, negsuc, None, Some, ◌⊎◌, inl, refl, sym}
use Rattle.std.proofs.Common.{subst}
use Rattle.std.specs.Prelude.{IfSome}
use Rattle.pawn_cells.specs.declared.operator.Comparison.{Comparison}
use Rattle.pawn_cells.specs.declared.operator.Operator.{Operator}
use Rattle.pawn_meaning.specs.Program.{Slot, ScalarSlot, ReferenceSlot, ArraySlot, OpenSlot, Scalar}
use Rattle.pawn_meaning.specs.Program.{Global, Own, Through, Element, Char, Array, Object}
use Rattle.pawn_meaning.specs.Program.{SlotArray, ParamArray, Row, From, Expr, Const, Read, Unary}
use Rattle.pawn_meaning.specs.Program.{Binary, Chain, And, Or, Cond, Assign, Update, UpdateBy, Step}
use Rattle.pawn_meaning.specs.Program.{StepBy, Copy, Operate, OperateOne, Call, Native, Seq, Links}
use Rattle.pawn_meaning.specs.Program.{no_links, then_link, Arg, Value, Ref, Whole, Temp, Args}
use Rattle.pawn_meaning.specs.Program.{no_args, then_arg}
use Rattle.pawn_meaning.specs.Scope.{Scope, Extent, extent}
use Rattle.pawn_meaning.specs.Fold.{fold}
use Rattle.pawn_meaning.specs.ValidExprs.{IsNoChar, IsOperator, IsValidScalar, IsValidArray, IsValidExpr}
use Rattle.pawn_meaning.specs.ValidExprs.{AreValidLinks, IsValidArg, AreValidArgs, ArgAgrees}
use Rattle.pawn_meaning.specs.ValidExprs.{ArgsAgree}
use Rattle.gen_sim.specs.Items.{Item, past}
use Rattle.gen_sim.specs.Contract.{ValueCode, PushedCode, EffectCode, PlaceCode, ArrayCode}
use Rattle.gen_sim.specs.Contract.{ArgumentsCode, IndexedCode}
use Rattle.gen_sim.proofs.StepLaws.{given}
use Rattle.gen_sim.proofs.ConstantNodes.{const_node_does}
use Rattle.gen_sim.specs.SimpleCode.{const_code}
use Rattle.gen_sim.specs.DirectCode.{Direct, direct_of, read_by, value_begin, step_by, effect_by}
use Rattle.gen_sim.specs.OperandCode.{Right, right_of, read_place}
use Rattle.gen_sim.proofs.DirectChanges.{step_direct}
use Rattle.gen_sim.specs.ChangeCode.{assign_by, update_by}
use Rattle.gen_sim.proofs.ChangeNodes.{assign_there_does, update_there_does, update_directly_does}
use Rattle.gen_sim.proofs.EffectPlaces.{effect_there_does}
use Rattle.gen_sim.proofs.DirectLaws.{global_direct, own_direct, through_direct}
use Rattle.gen_sim.proofs.DirectElements.{HasDirect, element_direct}
use Rattle.gen_sim.proofs.DirectNodes.{read_direct, assign_direct}
use Rattle.gen_sim.proofs.EffectNodes.{effect_of, effect_direct, comma_effect}
use Rattle.gen_sim.proofs.FoldNodes.{folded_does}
use Rattle.gen_sim.proofs.OperandNodes.{PerhapsReads, Comes, right_comes, binary_by_does}
use Rattle.gen_sim.specs.PushCode.{value_push, place_push, array_push, pushed_by, left_by}
use Rattle.gen_sim.proofs.PushNodes.{value_pushed}
use Rattle.gen_sim.proofs.PushAddresses.{global_pushed, own_pushed, through_pushed, object_pushed}
use Rattle.gen_sim.proofs.PushAddresses.{slot_array_pushed, param_array_pushed}
use Rattle.gen_sim.proofs.BringNodes.{brought_link_does, brought_chain_does}
use Rattle.gen_sim.specs.JumpCode.{other_at}
use Rattle.gen_sim.proofs.SimpleNodes.{unary_does, comma_does}
use Rattle.gen_sim.proofs.FetchNodes.{addressed_does, read_does, global_indexed, own_indexed}
use Rattle.gen_sim.proofs.FetchNodes.{through_indexed}
use Rattle.gen_sim.proofs.StepNodes.{step_does}
use Rattle.gen_sim.proofs.JumpNodes.{cond_does, and_does, or_does}
use Rattle.gen_sim.proofs.BaseLaws.{HasBase, object_base, slot_base, param_base}
use Rattle.gen_sim.proofs.ArrayNodes.{object_does, slot_array_does, param_array_does}
use Rattle.gen_sim.specs.BaseCode.{base_of, index_begin}
use Rattle.gen_sim.specs.IndexCode.{element_code, character_code, rest_code, row_code}
use Rattle.gen_sim.proofs.ElementNodes.{element_does, character_does, rest_does, row_does}
use Rattle.gen_sim.proofs.CopyNodes.{copy_does}
use Rattle.gen_sim.specs.ArgumentCode.{ArgumentCode, kinds_of}
use Rattle.gen_sim.proofs.OperatorNodes.{operate_one_does, operate_does}
use Rattle.gen_sim.proofs.OperatorNodes as operators
use Rattle.gen_sim.proofs.OperatorNodes.{step_by_does}
use Rattle.gen_sim.proofs.TemporaryViews.{agree_count}
use Rattle.gen_sim.proofs.ArgumentNodes.{value_argument, ref_argument, whole_argument}
use Rattle.gen_sim.proofs.ArgumentNodes.{temporary_argument, no_arguments, then_argument}
use Rattle.gen_sim.proofs.CallNodes.{call_node_does, native_node_does}
use Rattle.gen_sim.specs.ChainCode.{link_code, fail_at, chain_end_code}
use Rattle.gen_sim.specs.ChainCode.{last_link_by}
use Rattle.gen_sim.specs.LinksCode.{LinksCode}
use Rattle.gen_sim.proofs.LinkLaws.{last_link_does, middle_link_does}
use Rattle.gen_sim.proofs.ChainNodes.{short_chain_does, chain_does}
use Rattle.gen_laws.specs.ExprCode.{known_size, others_at, linked_with, index_items}
use Rattle.gen_laws.specs.ExprCode.{place_items}
use Rattle.gen_laws.specs.ExprCode.{array_items, value_items, links_items, arg_items, args_items}
use Rattle.gen_laws.specs.ExprCode.{effect_items}
use Rattle.gen_laws.proofs.LinkEnds.{links_end}
use Rattle.gen_laws.proofs.Extents.{of_line, of_rows, reaching, kinds_agree}

-- ---- chains by their links

module _ (scope : Scope) where
  -- the operand of a first link
  abbrev FirstPart : ℕ → Links → Type 0
  FirstPart begin no_links = Unit {0}
  FirstPart begin (then_link o e f swapped links) =
      ValueCode scope e (begin + 4) (value_items scope (begin + 4) e)

  -- how it comes
  abbrev FirstComes : Links → Type 0
  FirstComes no_links = Unit {0}
  FirstComes (then_link o e f swapped links) = Comes scope e (right_of scope e)

  link_by : (begin fail : ℕ) (o : Comparison) (e : Expr) (f : Option ℕ) (swapped : Bool)
      → IfSome f (IsOperator scope 2) → Comes scope e (right_of scope e)
      → ValueCode scope e (begin + 4) (value_items scope (begin + 4) e) → (links : Links)
      → ((p : ℕ) → LinksCode scope links p fail (links_items scope p fail links))
      → LinksCode scope (then_link o e f swapped links) begin fail
      (links_items scope begin fail (then_link o e f swapped links))
  link_by begin fail o e None swapped takes comes part no_links rest =
      brought_link_does scope begin o e swapped (right_of scope e) comes
      (value_items scope (begin + 4) e) part fail
  link_by begin fail o e (Some f) swapped takes comes part no_links rest =
      last_link_does scope begin fail o e (Some f) swapped takes (value_items scope (begin + 4) e)
      part
  link_by begin fail o e f swapped takes comes part (then_link o2 e2 f2 swapped2 links) rest =
      let operand = value_items scope (begin + 4) e in
      let p = others_at begin operand (link_code o f swapped) in
      middle_link_does scope begin fail o e f swapped takes operand part o2 e2 f2 swapped2 links
      (links_items scope p fail (then_link o2 e2 f2 swapped2 links)) (rest p)

  no_links_do : (begin fail : ℕ) → LinksCode scope no_links begin fail []
  no_links_do begin fail =
      record {
        does = λ x site same turns calls v fits l low pending deep y w c a. given x a.stands
            (inl a);
      }

  -- a chain of one link
  single_by : (begin : ℕ) (e : Expr) (first : List Item) → ValueCode scope e begin first
      → (o : Comparison) (e2 : Expr) (f : Option ℕ) (swapped : Bool)
      → IfSome f (IsOperator scope 2) → Comes scope e2 (right_of scope e2)
      → ValueCode scope e2 (past begin first + 4) (value_items scope (past begin first + 4) e2)
      → ValueCode scope (Chain e (then_link o e2 f swapped no_links)) begin
      (first ++ last_link_by o f swapped (right_of scope e2)
      (value_items scope (past begin first + 4) e2))
  single_by begin e first one o e2 None swapped takes comes part =
      brought_chain_does scope begin first e one o e2 swapped (right_of scope e2) comes
      (value_items scope (past begin first + 4) e2) part
  single_by begin e first one o e2 (Some f) swapped takes comes part =
      short_chain_does scope begin first e one o e2 (Some f) swapped
      (value_items scope (past begin first + 4) e2) takes part

  chain_by : (begin : ℕ) (e : Expr) (first : List Item) → ValueCode scope e begin first
      → (links : Links) → ¬ (links ≡ no_links) → AreValidLinks scope links
      → FirstComes links → FirstPart (past begin first) links
      → ((fail : ℕ) → LinksCode scope links (past begin first) fail
      (links_items scope (past begin first) fail links))
      → ValueCode scope (Chain e links) begin
      (first ++ linked_with (past (past begin first) (links_items scope (past begin first) 0 links))
      links
      (links_items scope (past begin first)
      (fail_at (past (past begin first) (links_items scope (past begin first) 0 links))) links))
  chain_by begin e first one no_links some valid comes part all = absurd (some refl)
  chain_by begin e first one (then_link o e2 f swapped no_links) some valid comes part all =
      single_by begin e first one o e2 f swapped valid.0 comes part
  chain_by begin e first one (then_link o e2 f swapped (then_link o3 e3 f3 swapped3 links)) some
      valid comes part all =
      let rest = then_link o e2 f swapped (then_link o3 e3 f3 swapped3 links) in
      let p = past begin first in
      let q = past p (links_items scope p 0 rest) in
      let items = links_items scope p (fail_at q) rest in
      let same : past p items ≡ q = links_end scope rest p (fail_at q) 0 in
      subst (λ z. ValueCode scope (Chain e rest) begin (first ++ (items ++ chain_end_code z))) same
      (chain_does scope begin first e one o e2 f swapped o3 e3 f3 swapped3 links items
      (subst (λ z. LinksCode scope rest p (fail_at z) items) (sym same) (all (fail_at q))))

  -- ---- places with instructions of their own

  direct_does : (p : Scalar) → IsValidScalar scope p → HasDirect scope p (direct_of scope p)
  direct_does (Global o) h = global_direct scope o h
  direct_does (Own s) h = own_direct scope s h.0 h.1
  direct_does (Through s) h = through_direct scope s h.0 h.1
  direct_does (Element a e) h = element_direct scope e a h.0 h.1
  direct_does (Char a e) h = tt

  read_by_does : (begin : ℕ) (p : Scalar) (o : Option Direct) → HasDirect scope p o
      → (index : List Item)
      → IndexedCode scope p begin index → ValueCode scope (Read p) begin (read_by o p index)
  read_by_does begin p None h index part = read_does scope begin p index part
  read_by_does begin p (Some d) h index part = read_direct scope begin p d h

  assign_by_does : (begin : ℕ) (p : Scalar) (o : Option Direct) → HasDirect scope p o → (e : Expr)
      (how : Right) → Comes scope e how
      → (place items : List Item) → PlaceCode scope p begin place
      → ValueCode scope e (value_begin o begin place) items
      → ValueCode scope (Assign p e) begin (assign_by o how p place items)
  assign_by_does begin p None h e how k place items one two =
      assign_there_does scope begin p e place items one two how k
  assign_by_does begin p (Some d) h e how k place items one two =
      assign_direct scope begin p d e items h two

  update_by_does : (begin : ℕ) (p : Scalar) (d : Option Direct) → HasDirect scope p d
      → (o : Operator) (e : Expr) (how : Right) → Comes scope e how
      → (place items : List Item) → PlaceCode scope p begin place
      → ValueCode scope e (value_begin d begin place) items
      → ValueCode scope (Update p o e) begin (update_by d how p o place items)
  update_by_does begin p None h o e how k place items one two =
      update_there_does scope begin p e place items one two how k o
  update_by_does begin p (Some d) h o e how k place items one two =
      update_directly_does scope begin p d h e items two how k o

  step_either : (begin : ℕ) (p : Scalar) (d : Option Direct) → HasDirect scope p d → (delta : ℤ)
      (prefix : Bool) (place : List Item) → PlaceCode scope p begin place
      → ValueCode scope (Step p delta prefix) begin (step_by d p delta prefix place)
  step_either begin p None h delta prefix place one = step_does scope begin p delta prefix place one
  step_either begin p (Some d) h delta prefix place one =
      step_direct scope begin p d delta prefix h

  -- ---- right operands

  reads_by : (p : Scalar) (o : Option Direct) → HasDirect scope p o → PerhapsReads scope (Read p) o
  reads_by p None h = tt
  reads_by p (Some d) h = record { place = p; is = refl; direct = h }

  reads_direct : (e : Expr) → IsValidExpr scope e → PerhapsReads scope e (read_place scope e)
  reads_direct (Read p) h = reads_by p (direct_of scope p) (direct_does p h)
  reads_direct e h = tt

  pub comes : (e : Expr) → IsValidExpr scope e → Comes scope e (right_of scope e)
  comes e h = right_comes scope e h (read_place scope e) (reads_direct e h) (fold e) refl

  first_comes : (links : Links) → AreValidLinks scope links → FirstComes links
  first_comes no_links h = tt
  first_comes (then_link o e f swapped links) h = comes e h.1

  -- ---- addresses that are pushed

  ref_does : (begin : ℕ) (p : Scalar) → IsNoChar p → IsValidScalar scope p → (place : List Item)
      → PlaceCode scope p begin place
      → ArgumentCode scope ReferenceSlot (Ref p) begin (pushed_by (place_push scope p) place)
  ref_does begin (Global o) no_char h place part = global_pushed scope begin o h
  ref_does begin (Own s) no_char h place part = own_pushed scope begin s h.0 h.1
  ref_does begin (Through s) no_char h place part = through_pushed scope begin s h.0 h.1
  ref_does begin (Element a e) no_char h place part =
      ref_argument scope begin (Element a e) place no_char part
  ref_does begin (Char a e) no_char h place part =
      ref_argument scope begin (Char a e) place no_char part

  whole_arg_does : (begin : ℕ) (kind : Slot) (a : Array) → IsValidArray scope a
      → ArgAgrees scope kind (Whole a) → (reach : Extent) → extent scope a ≡ Some reach
      → (items : List Item) → ArrayCode scope a begin items
      → ArgumentCode scope kind (Whole a) begin (pushed_by (array_push scope a) items)
  whole_arg_does begin kind (Object o) h k reach is items part =
      object_pushed scope begin kind o reach k is
  whole_arg_does begin kind (SlotArray s) h k reach is items part =
      slot_array_pushed scope begin kind s reach h.1 k is
  whole_arg_does begin kind (ParamArray s known) h k reach is items part =
      param_array_pushed scope begin kind s known reach h.1 k is
  whole_arg_does begin kind (Row a e) h k reach is items part =
      whole_argument scope begin kind (Row a e) reach items k is part
  whole_arg_does begin kind (From a e) h k reach is items part =
      whole_argument scope begin kind (From a e) reach items k is part

  -- ---- arrays whose address an instruction sets

  has_base : (a : Array) → IsValidArray scope a → HasBase scope a (base_of scope a)
  has_base (Object o) h = object_base scope o
  has_base (SlotArray s) h = slot_base scope s h.1
  has_base (ParamArray s known) h = param_base scope s known h.1
  has_base (Row a e) h = tt
  has_base (From a e) h = tt

  -- ---- each node

  place_of : (p : Scalar) (begin : ℕ) → IndexedCode scope p begin (index_items scope begin p)
      → PlaceCode scope p begin (place_items scope begin p)
  place_of p begin part = addressed_does scope begin p (index_items scope begin p) part

  mutual
    pub index_does : (p : Scalar) → IsValidScalar scope p → (begin : ℕ)
        → IndexedCode scope p begin (index_items scope begin p)
    index_does (Global o) h begin = global_indexed scope begin o h
    index_does (Own s) h begin = own_indexed scope begin s h.0 h.1
    index_does (Through s) h begin = through_indexed scope begin s h.0 h.1
    index_does (Element a e) h begin =
        let array = array_items scope begin a in
        let base = base_of scope a in
        let q = index_begin base begin array in
        let index = value_items scope q e in
        let r = of_line (extent scope a) h.0 in
        subst (λ o. IndexedCode scope (Element a e) begin
        (element_code base (known_size o) array index)) (sym r.is)
        (element_does scope begin a e r.whole base array index r.is (has_base a h.1)
        (array_does a h.1 begin) (value_does e h.2 q) r.line)
    index_does (Char a e) h begin =
        let array = array_items scope begin a in
        let base = base_of scope a in
        let q = index_begin base begin array in
        let index = value_items scope q e in
        let r = of_line (extent scope a) h.0 in
        subst (λ o. IndexedCode scope (Char a e) begin
        (character_code base (known_size o) array index)) (sym r.is)
        (character_does scope begin a e r.whole base array index r.is (has_base a h.1)
        (array_does a h.1 begin) (value_does e h.2 q) r.line)

    pub array_does : (a : Array) → IsValidArray scope a → (begin : ℕ)
        → ArrayCode scope a begin (array_items scope begin a)
    array_does (Object o) h begin = object_does scope begin o
    array_does (SlotArray s) h begin = slot_array_does scope begin s h.1
    array_does (ParamArray s known) h begin = param_array_does scope begin s known h.1
    array_does (Row a e) h begin =
        let array = array_items scope begin a in
        let base = base_of scope a in
        let q = index_begin base begin array in
        let index = value_items scope q e in
        let r = of_rows (extent scope a) h.0 in
        subst (λ o. ArrayCode scope (Row a e) begin
        (element_code base (known_size o) array index ++ row_code)) (sym r.is)
        (row_does scope begin a e r.whole base array index r.is (has_base a h.1)
        (array_does a h.1 begin) (value_does e h.2 q) r.next r.inner r.rows)
    array_does (From a e) h begin =
        let array = array_items scope begin a in
        let base = base_of scope a in
        let q = index_begin base begin array in
        let index = value_items scope q e in
        let r = of_line (extent scope a) h.0 in
        subst (λ o. ArrayCode scope (From a e) begin
        (element_code base (known_size o) array index ++ rest_code)) (sym r.is)
        (rest_does scope begin a e r.whole base array index r.is (has_base a h.1)
        (array_does a h.1 begin) (value_does e h.2 q) r.line)

    pub value_does : (e : Expr) → IsValidExpr scope e → (begin : ℕ)
        → ValueCode scope e begin (value_items scope begin e)
    value_does (Const v) h begin = const_node_does scope v h begin
    value_does (Read p) h begin =
        read_by_does begin p (direct_of scope p) (direct_does p h) (index_items scope begin p)
        (index_does p h begin)
    value_does (Unary o e) h begin =
        folded_does scope begin (Unary o e) h _
        (unary_does scope begin o e (value_items scope begin e) (value_does e h begin))
        (fold (Unary o e)) refl
    value_does (Binary o l r) h begin =
        let how = right_of scope r in
        let left = value_items scope begin l in
        let p = past begin (left_by how (value_push scope l) left) in
        folded_does scope begin (Binary o l r) h _
        (binary_by_does scope begin o l r how (comes r h.1) (value_push scope l) left
        (value_items scope p r) (value_does l h.0 begin)
        (value_pushed scope begin l (right_of scope l) (comes l h.0) left (value_does l h.0 begin))
        (value_does r h.1 p))
        (fold (Binary o l r)) refl
    value_does (Chain e links) h begin =
        let first = value_items scope begin e in
        folded_does scope begin (Chain e links) h _
        (chain_by begin e first (value_does e h.1 begin) links h.0 h.2
        (first_comes links h.2) (first_does links h.2 (past begin first))
        (λ fail. links_do links h.2 fail (past begin first)))
        (fold (Chain e links)) refl
    value_does (And l r) h begin =
        let left = value_items scope begin l in
        let p = past begin left + 8 in
        folded_does scope begin (And l r) h _
        (and_does scope begin l r left (value_items scope p r) (value_does l h.0 begin)
        (value_does r h.1 p))
        (fold (And l r)) refl
    value_does (Or l r) h begin =
        let left = value_items scope begin l in
        let p = other_at (past begin left) (const_code (pos 1)) in
        folded_does scope begin (Or l r) h _
        (or_does scope begin l r left (value_items scope p r) (value_does l h.0 begin)
        (value_does r h.1 p))
        (fold (Or l r)) refl
    value_does (Cond c a b) h begin =
        let condition = value_items scope begin c in
        let p = past begin condition + 8 in
        let first = value_items scope p a in
        let q = other_at (past begin condition) first in
        folded_does scope begin (Cond c a b) h _
        (cond_does scope begin c a b condition first (value_items scope q b)
        (value_does c h.0 begin) (value_does a h.1 p) (value_does b h.2 q))
        (fold (Cond c a b)) refl
    value_does (Assign p e) h begin =
        let place = place_items scope begin p in
        let q = value_begin (direct_of scope p) begin place in
        assign_by_does begin p (direct_of scope p) (direct_does p h.0) e (right_of scope e)
        (comes e h.1) place
        (value_items scope q e) (place_of p begin (index_does p h.0 begin)) (value_does e h.1 q)
    value_does (Update p o e) h begin =
        let place = place_items scope begin p in
        let q = value_begin (direct_of scope p) begin place in
        update_by_does begin p (direct_of scope p) (direct_does p h.0) o e (right_of scope e)
        (comes e h.1) place
        (value_items scope q e) (place_of p begin (index_does p h.0 begin)) (value_does e h.1 q)
    value_does (UpdateBy p f swapped e convert) h begin =
        let place = place_items scope begin p in
        let q = past begin place + 4 in
        operators.update_by_does scope begin p f swapped e convert place (value_items scope q e) h.0
        h.1
        (place_of p begin (index_does p h.2 begin)) (value_does e h.3 q)
    value_does (Step p delta prefix) h begin =
        step_either begin p (direct_of scope p) (direct_does p h.1) delta prefix
        (place_items scope begin p) (place_of p begin (index_does p h.1 begin))
    value_does (StepBy p f prefix) h begin =
        step_by_does scope begin p f prefix (place_items scope begin p) h.0 (place_of p begin
        (index_does p h.1 begin))
    value_does (Copy to from n) h begin =
        let first = array_items scope begin to in
        let q = past begin first + 4 in
        copy_does scope begin to from n first (array_items scope q from) h.0 h.1
        (array_does to h.2 begin) (array_does from h.3 q)
    value_does (Operate f l r swapped) h begin =
        let left = value_items scope begin l in
        let p = past begin left + 4 in
        operate_does scope begin f l r swapped left (value_items scope p r) h.0
        (value_does l h.1 begin) (value_does r h.2 p)
    value_does (OperateOne f e) h begin =
        operate_one_does scope begin f e (value_items scope begin e) h.0 (value_does e h.1 begin)
    value_does (Call f args) h begin =
        call_node_does scope begin f h.0 args (args_items scope begin args) h.1
        (agree_count scope h.0 args h.2) (args_do args h.3 h.0 h.2 begin)
    value_does (Native n args) h begin =
        let agree = kinds_agree scope args h.1 in
        native_node_does scope begin n (kinds_of scope args) args (args_items scope begin args) h.0
        (agree_count scope (kinds_of scope args) args agree)
        (args_do args h.1 (kinds_of scope args) agree begin)
    value_does (Seq a b) h begin =
        let first = value_items scope begin a in
        let p = past begin first in
        comma_does scope begin a b first (value_items scope p b) (value_does a h.0 begin)
        (value_does b h.1 p)

    first_does : (links : Links) → AreValidLinks scope links → (begin : ℕ) → FirstPart begin links
    first_does no_links h begin = tt
    first_does (then_link o e f swapped links) h begin = value_does e h.1 (begin + 4)

    pub links_do : (links : Links) → AreValidLinks scope links → (fail begin : ℕ)
        → LinksCode scope links begin fail (links_items scope begin fail links)
    links_do no_links h fail begin = no_links_do begin fail
    links_do (then_link o e f swapped links) h fail begin =
        link_by begin fail o e f swapped h.0 (comes e h.1) (value_does e h.1 (begin + 4)) links
        (λ p. links_do links h.2 fail p)

    pub arg_does : (a : Arg) → IsValidArg scope a → (kind : Slot) → ArgAgrees scope kind a
        → (begin : ℕ) → ArgumentCode scope kind a begin (arg_items scope begin a)
    arg_does (Value e) h ScalarSlot k begin =
        value_argument scope begin e _ (value_pushed scope begin e (right_of scope e) (comes e h)
        (value_items scope begin e) (value_does e h begin))
    arg_does (Value e) h ReferenceSlot k begin = elim k [ ]
    arg_does (Value e) h (ArraySlot sizes) k begin = elim k [ ]
    arg_does (Value e) h (OpenSlot inner) k begin = elim k [ ]
    arg_does (Ref p) h ScalarSlot k begin = elim k [ ]
    arg_does (Ref p) h ReferenceSlot k begin =
        ref_does begin p h.0 h.1 (place_items scope begin p)
        (place_of p begin (index_does p h.1 begin))
    arg_does (Ref p) h (ArraySlot sizes) k begin = elim k [ ]
    arg_does (Ref p) h (OpenSlot inner) k begin = elim k [ ]
    arg_does (Whole a) h kind k begin =
        let r = reaching scope a h in
        whole_arg_does begin kind a h k r.whole r.is (array_items scope begin a)
        (array_does a h begin)
    arg_does (Temp e) h ScalarSlot k begin = elim k [ ]
    arg_does (Temp e) h ReferenceSlot k begin =
        temporary_argument scope begin e (value_items scope begin e) (value_does e h begin)
    arg_does (Temp e) h (ArraySlot sizes) k begin = elim k [ ]
    arg_does (Temp e) h (OpenSlot inner) k begin = elim k [ ]

    pub args_do : (args : Args) → AreValidArgs scope args → (kinds : List Slot)
        → ArgsAgree scope kinds args → (begin : ℕ)
        → ArgumentsCode scope kinds args begin (args_items scope begin args)
    args_do no_args h [] k begin = no_arguments scope begin
    args_do no_args h (kind ∷ kinds) k begin = elim k [ ]
    args_do (then_arg a args) h [] k begin = elim k [ ]
    args_do (then_arg a args) h (kind ∷ kinds) k begin =
        let others = args_items scope begin args in
        let p = past begin others in
        then_argument scope begin kind kinds a args others (arg_items scope p a)
        (agree_count scope kinds args k.1) (args_do args h.1 kinds k.1 begin)
        (arg_does a h.0 kind k.0 p)

  -- ---- values that are pushed

  pub push_does : (e : Expr) → IsValidExpr scope e → (begin : ℕ)
      → PushedCode scope e begin (pushed_by (value_push scope e) (value_items scope begin e))
  push_does e h begin =
      value_pushed scope begin e (right_of scope e) (comes e h) (value_items scope begin e)
      (value_does e h begin)

  -- ---- values that aren't used

  effect_either : (begin : ℕ) (p : Scalar) (d : Option Direct) → HasDirect scope p d → (delta : ℤ)
      (prefix : Bool) → (delta ≡ pos 1) ⊎ (delta ≡ negsuc 0) → (place : List Item)
      → PlaceCode scope p begin place
      → EffectCode scope (Step p delta prefix) begin (effect_by d p delta place)
  effect_either begin p None h delta prefix valid place one =
      effect_there_does scope begin p delta prefix place valid one
  effect_either begin p (Some d) h delta prefix valid place one =
      effect_direct scope begin p d delta prefix valid h

  pub effect_does : (e : Expr) → IsValidExpr scope e → (begin : ℕ)
      → EffectCode scope e begin (effect_items scope begin e)
  effect_does (Step p delta prefix) h begin =
      effect_either begin p (direct_of scope p) (direct_does p h.1) delta prefix h.0
      (place_items scope begin p) (place_of p begin (index_does p h.1 begin))
  effect_does (Seq a b) h begin =
      let first = effect_items scope begin a in
      let p = past begin first in
      comma_effect scope begin a b first (effect_items scope p b) (effect_does a h.0 begin)
      (effect_does b h.1 p)
  effect_does e h begin =
      effect_of scope e begin (value_items scope begin e) (value_does e h begin)

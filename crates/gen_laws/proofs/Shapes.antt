-- The shapes of nodes: their items lead to each other or to their end, where those of their parts
-- do.
use Rattle.std.proofs.Common.{◌≡◌, ◌+◌, ◌*◌, ◌<◌, ◌⊎◌, inl, inr, ℕ, zero, suc, ℤ, pos, negsuc, List}
use Rattle.std.proofs.Common.{[], ◌∷◌, ◌++◌}
use Rattle.std.proofs.Common.{refl, sym, subst}
use Rattle.std.proofs.Common.{Option, None, Some}
use Rattle.pawn_meaning.specs.Program.{Array, Object, SlotArray, ParamArray, Row, From}
use Rattle.pawn_meaning.specs.Scope.{Scope}
use Rattle.amx_ops.specs.declared.op.Op.TheVariants as op
use Rattle.gen_sim.specs.Items.{Item, CallOf, size, past}
use Rattle.gen_sim.specs.SimpleCode.{alone, taking, const_code, alt_code}
use Rattle.gen_sim.specs.SimpleCode.{waiting_code, both_code}
use Rattle.gen_sim.specs.JumpCode.{jump_to, other_at, end_at, choice_code, truth_code}
use Rattle.gen_sim.specs.PlaceItems.{object_address, slot_offset, through_code}
use Rattle.gen_sim.specs.BaseCode.{Base, base_of, base_item, index_begin, indexed_code}
use Rattle.gen_sim.specs.IndexCode.{bounds_code, in_characters, element_code, character_code}
use Rattle.gen_sim.specs.IndexCode.{rest_code, row_code}
use Rattle.gen_sim.specs.CallCode.{give_back_code, temporary_code, call_code}
use Rattle.gen_sim.specs.CallCode.{native_code}
use Rattle.gen_sim.specs.ChainCode.{last_link_code, middle_link_code, fail_at, chain_end_code}
use Rattle.gen_laws.specs.Fine.{IsFine, AreFine, StartsAt, AreClosed}
use Rattle.gen_laws.proofs.FineLaws.{Nowhere, starts_here, starts_end, starts_first, starts_rest}
use Rattle.gen_laws.proofs.FineLaws.{fine_wider, fine_both, anywhere, closed_both, closed_next}
use Rattle.gen_laws.proofs.FineItems.{Own, alone_fine, any_fine, multiple_fine, multiple_up}
use Rattle.gen_laws.proofs.FineItems.{native_fine, target_fine, push_pri}
use Rattle.gen_laws.proofs.FineItems.{pop_pri, pop_alt}
use Rattle.gen_laws.proofs.FineItems.{give_back_fine}
use Rattle.gen_laws.proofs.FineItems.{bounds_fine, byte_fine}

module _ (natives : ℕ) where
  pub own_closed : (begin : ℕ) (items : List Item) → Own natives items
      → AreClosed natives begin items
  own_closed begin items h = anywhere natives (StartsAt begin items) items h

  -- a part, and what stands behind it
  pub part_closed : (begin : ℕ) (part last : List Item) → AreClosed natives begin part
      → Own natives last → AreClosed natives begin (part ++ last)
  part_closed begin part last h g =
      closed_both natives begin part last h (own_closed (past begin part) last g)

  -- two parts
  pub waiting_closed : (begin : ℕ) (first second tail : List Item) → AreClosed natives begin first
      → AreClosed natives (past begin first + 4) second → Own natives tail
      → AreClosed natives begin (waiting_code first second tail)
  waiting_closed begin first second tail h g t =
      closed_both natives begin first (alone op.PushPri ∷ (second ++ tail)) h
      (closed_next natives (past begin first) (alone op.PushPri) (second ++ tail)
      (push_pri natives Nowhere) (part_closed (past begin first + 4) second tail g t))

  pub both_closed : (begin : ℕ) (first second last : List Item) → AreClosed natives begin first
      → AreClosed natives (past begin first + 4) second → Own natives last
      → AreClosed natives begin (both_code first second last)
  both_closed begin first second last h g t =
      waiting_closed begin first second (alone op.PopAlt ∷ last) h g (pop_alt natives Nowhere, t)

  -- one of two
  pub choice_closed : (p : ℕ) (first second : List Item) → AreClosed natives (p + 8) first
      → AreClosed natives (other_at p first) second
      → AreClosed natives p (choice_code p first second)
  choice_closed p first second h g =
      let jump = jump_to op.Jump (end_at p first second) in
      let q = past (p + 8) first in
      let behind : AreClosed natives q (jump ∷ second) =
      closed_next natives q jump second
      (target_fine natives _ op.Jump (end_at p first second) refl refl
      (inr (starts_end (other_at p first) second))) g in
      closed_next natives p (jump_to op.Jzer (other_at p first)) (first ++ (jump ∷ second))
      (target_fine natives _ op.Jzer (other_at p first) refl refl
      (inr (starts_rest (p + 8) first (jump ∷ second) (other_at p first)
      (inr (starts_here (other_at p first) second)))))
      (closed_both natives (p + 8) first (jump ∷ second) h behind)

  pub truth_fine : Own natives truth_code
  truth_fine = (
    alone_fine natives Nowhere op.Not refl refl,
    (alone_fine natives Nowhere op.Not refl refl, tt),
  )

  pub const_fine : (v : ℤ) → Own natives (const_code v)
  const_fine (pos zero) = (alone_fine natives Nowhere op.ZeroPri refl refl, tt)
  const_fine (pos (suc n)) = (any_fine natives Nowhere op.ConstPri (pos (suc n)) refl refl, tt)
  const_fine (negsuc n) = (any_fine natives Nowhere op.ConstPri (negsuc n) refl refl, tt)

  pub alt_fine : (v : ℤ) → Own natives (alt_code v)
  alt_fine (pos zero) = (alone_fine natives Nowhere op.ZeroAlt refl refl, tt)
  alt_fine (pos (suc n)) = (any_fine natives Nowhere op.ConstAlt (pos (suc n)) refl refl, tt)
  alt_fine (negsuc n) = (any_fine natives Nowhere op.ConstAlt (negsuc n) refl refl, tt)

  -- ---- places

  pub object_fine : (a : ℤ) → Own natives (taking op.ConstPri a ∷ [])
  object_fine a = (any_fine natives Nowhere op.ConstPri a refl refl, tt)

  pub slot_fine : (a : ℤ) → Own natives (taking op.AddrPri a ∷ [])
  slot_fine a = (any_fine natives Nowhere op.AddrPri a refl refl, tt)

  pub through_fine : (s : ℕ) → Own natives (through_code s)
  through_fine s = (any_fine natives Nowhere op.LoadSPri (pos (12 + 4 * s)) refl refl, tt)

  -- ---- arguments and calls

  pub temporary_closed : (begin : ℕ) (part : List Item) → AreClosed natives begin part
      → AreClosed natives begin (temporary_code part)
  temporary_closed begin part h =
      part_closed begin part (taking op.Heap (pos 4) ∷ alone op.StorI ∷ alone op.PushAlt ∷ []) h (
        multiple_fine natives Nowhere op.Heap (pos 4) refl refl refl,
        (
          alone_fine natives Nowhere op.StorI refl refl,
          (alone_fine natives Nowhere op.PushAlt refl refl, tt),
        ),
      )

  pub call_closed : (begin f count temporaries : ℕ) (arguments : List Item)
      → AreClosed natives begin arguments
      → AreClosed natives begin (call_code f count temporaries arguments)
  call_closed begin f count temporaries arguments h =
      let last = taking op.PushC (pos (4 * count)) ∷ CallOf f ∷ [] in
      part_closed begin (arguments ++ last) (give_back_code temporaries)
      (part_closed begin arguments last h
      (any_fine natives Nowhere op.PushC (pos (4 * count)) refl refl, (tt, tt)))
      (give_back_fine natives temporaries)

  pub native_closed : (begin n count temporaries : ℕ) (arguments : List Item) → n < natives
      → AreClosed natives begin arguments
      → AreClosed natives begin (native_code n count temporaries arguments)
  native_closed begin n count temporaries arguments l h =
      let last =
      taking op.PushC (pos (4 * count)) ∷ taking op.SysreqC (pos n)
      ∷ taking op.Stack (pos (4 * (count + 1))) ∷ [] in
      part_closed begin (arguments ++ last) (give_back_code temporaries)
      (part_closed begin arguments last h (
        any_fine natives Nowhere op.PushC (pos (4 * count)) refl refl,
        (
          native_fine natives Nowhere op.SysreqC n refl refl l,
          (
            multiple_fine natives Nowhere op.Stack (pos (4 * (count + 1))) refl refl
                (multiple_up (count + 1)),
            tt,
          ),
        ),
      )) (give_back_fine natives temporaries)

  -- ---- links, whose tests lead to one address outside

  abbrev pub Within : (fail begin : ℕ) → List Item → ℕ → Type 0
  Within fail begin items at = StartsAt begin items at ⊎ (at ≡ fail)

  abbrev pub AreLinked : (fail begin : ℕ) → List Item → Type 0
  AreLinked fail begin items = AreFine natives (Within fail begin items) items

  linked_next : (fail begin : ℕ) (it : Item) (items : List Item)
      → IsFine natives (Within fail begin (it ∷ items)) it
      → AreLinked fail (begin + 4 * size it) items
      → AreLinked fail begin (it ∷ items)
  linked_next fail begin it items h g = (
    h,
    fine_wider natives (Within fail (begin + 4 * size it) items)
        (Within fail begin (it ∷ items)) (λ at z. more at z) items g,
  )
    where
      more : (at : ℕ) → Within fail (begin + 4 * size it) items at
          → Within fail begin (it ∷ items) at
      more at (inl z) = inl (inr z)
      more at (inr z) = inr z

  linked_both : (fail begin : ℕ) (is js : List Item) → AreClosed natives begin is
      → AreLinked fail (past begin is) js → AreLinked fail begin (is ++ js)
  linked_both fail begin is js h g =
      fine_both natives (Within fail begin (is ++ js)) is js
      (fine_wider natives (StartsAt begin is) (Within fail begin (is ++ js))
      (λ at z. inl (starts_first begin is js at z)) is h)
      (fine_wider natives (Within fail (past begin is) js) (Within fail begin (is ++ js))
      (λ at z. more at z) js g)
    where
      more : (at : ℕ) → Within fail (past begin is) js at → Within fail begin (is ++ js) at
      more at (inl z) = inl (starts_rest begin is js at z)
      more at (inr z) = inr z

  pub closed_linked : (fail begin : ℕ) (items : List Item) → AreClosed natives begin items
      → AreLinked fail begin items
  closed_linked fail begin items h =
      fine_wider natives (StartsAt begin items) (Within fail begin items) (λ at z. inl z) items h

  pub last_link_closed : (begin : ℕ) (operand link : List Item)
      → AreClosed natives (begin + 4) operand → Own natives link
      → AreClosed natives begin (last_link_code operand link)
  last_link_closed begin operand link h g =
      closed_next natives begin (alone op.PushPri) (operand ++ (alone op.PopAlt ∷ link))
      (push_pri natives Nowhere)
      (part_closed (begin + 4) operand (alone op.PopAlt ∷ link) h (pop_alt natives Nowhere, g))

  pub middle_link_linked : (fail begin : ℕ) (operand link others : List Item)
      → AreClosed natives (begin + 4) operand → Own natives link
      → AreLinked fail (past (past (begin + 4) operand + 4 + 4) link + 8 + 4) others
      → AreLinked fail begin (middle_link_code fail operand link others)
  middle_link_linked fail begin operand link others h g k =
      let q = past (begin + 4) operand in
      let r = past (q + 4 + 4) link in
      let tested = jump_to op.Jzer fail ∷ alone op.PopPri ∷ others in
      let last : AreLinked fail r tested =
      linked_next fail r (jump_to op.Jzer fail) (alone op.PopPri ∷ others)
      (target_fine natives _ op.Jzer fail refl refl (inr refl))
      (linked_next fail (r + 8) (alone op.PopPri) others (pop_pri natives Nowhere) k) in
      linked_next fail begin (alone op.PushPri)
      (operand ++ (alone op.PopAlt ∷ alone op.PushPri ∷ (link ++ tested)))
      (push_pri natives Nowhere)
      (linked_both fail (begin + 4) operand
      (alone op.PopAlt ∷ alone op.PushPri ∷ (link ++ tested)) h
      (linked_next fail q (alone op.PopAlt) (alone op.PushPri ∷ (link ++ tested))
      (pop_alt natives Nowhere)
      (linked_next fail (q + 4) (alone op.PushPri) (link ++ tested) (push_pri natives Nowhere)
      (linked_both fail (q + 4 + 4) link tested (own_closed (q + 4 + 4) link g) last))))

  -- several links, with their end behind them
  pub end_closed : (q : ℕ) → AreClosed natives q (chain_end_code q)
  end_closed q =
      let T = StartsAt q (chain_end_code q) in (
        alone_fine natives T op.Not refl refl,
        (
          alone_fine natives T op.Not refl refl,
          (
            target_fine natives T op.Jump (fail_at q + 4) refl refl (inr (inr (inr (inr refl)))),
            (pop_alt natives T, tt),
          ),
        ),
      )

  pub ended_closed : (p q : ℕ) (items : List Item) → past p items ≡ q
      → AreLinked (fail_at q) p items → AreClosed natives p (items ++ chain_end_code q)
  ended_closed p q items same h =
      fine_both natives (StartsAt p (items ++ chain_end_code q)) items (chain_end_code q)
      (fine_wider natives (Within (fail_at q) p items) (StartsAt p (items ++ chain_end_code q))
      (λ at z. found at z) items h)
      (fine_wider natives (StartsAt q (chain_end_code q)) (StartsAt p (items ++ chain_end_code q))
      (λ at z. starts_rest p items (chain_end_code q) at
      (subst (λ n. StartsAt n (chain_end_code q) at) (sym same) z)) (chain_end_code q)
      (end_closed q))
    where
      at_fail : StartsAt q (chain_end_code q) (fail_at q)
      at_fail = inr (inr (inr (inl refl)))

      found : (at : ℕ) → Within (fail_at q) p items at → StartsAt p (items ++ chain_end_code q) at
      found at (inl z) = starts_first p items (chain_end_code q) at z
      found at (inr z) =
          subst (λ n. StartsAt p (items ++ chain_end_code q) n) (sym z)
          (starts_rest p items (chain_end_code q) (fail_at q)
          (subst (λ n. StartsAt n (chain_end_code q) (fail_at q)) (sym same) at_fail))

-- ---- an array and an index

module _ (natives : ℕ) where
  abbrev pub IsFineBase : Option Base → Type 0
  IsFineBase None = Unit {0}
  IsFineBase (Some b) = IsFine natives Nowhere (taking b.sets b.operand)

  pub base_fine : (scope : Scope) (a : Array) → IsFineBase (base_of scope a)
  base_fine scope (Object o) =
      any_fine natives Nowhere op.ConstAlt (object_address scope.program o) refl refl
  base_fine scope (SlotArray s) =
      any_fine natives Nowhere op.AddrAlt (slot_offset scope s) refl refl
  base_fine scope (ParamArray s known) =
      any_fine natives Nowhere op.LoadSAlt (pos (12 + 4 * s)) refl refl
  base_fine scope (Row a e) = tt
  base_fine scope (From a e) = tt

  base_own : (base : Option Base) → IsFineBase base → Own natives (base_item base ∷ [])
  base_own None h = (pop_alt natives Nowhere, tt)
  base_own (Some b) h = (h, tt)

  indexed_closed : (begin : ℕ) (base : Option Base) (array index tail : List Item)
      → AreClosed natives begin array → AreClosed natives (index_begin base begin array) index
      → Own natives tail → AreClosed natives begin (indexed_code base array index tail)
  indexed_closed begin None array index tail h g t =
      waiting_closed natives begin array index tail h g t
  indexed_closed begin (Some b) array index tail h g t =
      part_closed natives begin index tail g t

  pub element_closed : (begin : ℕ) (base : Option Base) → IsFineBase base → (size : Option ℕ)
      (array index : List Item) → AreClosed natives begin array
      → AreClosed natives (index_begin base begin array) index
      → AreClosed natives begin (element_code base size array index)
  element_closed begin base f size array index h g =
      indexed_closed begin base array index (bounds_code size ++ base_item base ∷ []) h g
      (fine_both natives Nowhere (bounds_code size) (base_item base ∷ []) (bounds_fine natives size)
      (base_own base f))

  pub character_closed : (begin : ℕ) (base : Option Base) → IsFineBase base → (size : Option ℕ)
      (array index : List Item) → AreClosed natives begin array
      → AreClosed natives (index_begin base begin array) index
      → AreClosed natives begin (character_code base size array index)
  character_closed begin base f size array index h g =
      let last = taking op.AlignPri (pos 1) ∷ base_item base ∷ [] in
      indexed_closed begin base array index (bounds_code (in_characters size) ++ last) h g
      (fine_both natives Nowhere (bounds_code (in_characters size)) last
      (bounds_fine natives (in_characters size))
      (byte_fine natives Nowhere op.AlignPri refl refl, base_own base f))

  pub row_fine : Own natives row_code
  row_fine = (
    alone_fine natives Nowhere op.Idxaddr refl refl,
    (
      alone_fine natives Nowhere op.MoveAlt refl refl,
      (
        alone_fine natives Nowhere op.LoadI refl refl,
        (alone_fine natives Nowhere op.Add refl refl, tt),
      ),
    ),
  )

  pub rest_fine : Own natives rest_code
  rest_fine = (alone_fine natives Nowhere op.Idxaddr refl refl, tt)

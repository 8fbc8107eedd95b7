-- The code of calls: arguments are pushed from the last to the first, and then the count of their
-- bytes.
use Rattle.std.specs.Prelude.{◌+◌, ◌*◌, ℕ, zero, suc, pos, neg_ℤ, Bool, true, false, List, [], ◌∷◌}
use Rattle.std.specs.Prelude.{◌++◌, Option, None, Some}
use Rattle.amx_ops.specs.declared.op.Op.TheVariants as op
use Rattle.gen_sim.specs.Items.{Item, CallOf}
use Rattle.gen_sim.specs.SimpleCode.{alone, taking, both_code}

-- ---- operators of the user's own

-- on the value in PRI
abbrev pub one_code : ℕ → List Item
one_code f = alone op.PushPri ∷ taking op.PushC (pos 4) ∷ CallOf f ∷ []

-- on the left operand, in ALT, and the right one, in PRI, which may be handed over exchanged
abbrev pub two_code : ℕ → Bool → List Item
two_code f true = alone op.PushAlt ∷ alone op.PushPri ∷ taking op.PushC (pos 8) ∷ CallOf f ∷ []
two_code f false = alone op.PushPri ∷ alone op.PushAlt ∷ taking op.PushC (pos 8) ∷ CallOf f ∷ []

-- where there is one that converts
abbrev pub convert_code : Option ℕ → List Item
convert_code None = []
convert_code (Some f) = one_code f

-- a prefix operator of the user's own, behind its operand
abbrev pub operate_one_code : ℕ → List Item → List Item
operate_one_code f value = value ++ one_code f

-- a binary one, behind its operands
abbrev pub operate_code : ℕ → Bool → (left right : List Item) → List Item
operate_code f swapped left right = both_code left right (two_code f swapped)

-- ---- arguments

-- a value gets a cell on the heap, whose address is pushed
abbrev pub temporary_code : List Item → List Item
temporary_code value = value ++ taking op.Heap (pos 4) ∷ alone op.StorI ∷ alone op.PushAlt ∷ []

-- ---- calls

-- so many cells on the heap are given back
abbrev pub give_back_code : ℕ → List Item
give_back_code zero = []
give_back_code (suc n) = taking op.Heap (neg_ℤ (pos (4 * suc n))) ∷ []

-- with so many arguments, some of which have cells on the heap
abbrev pub call_code : ℕ → (count temporaries : ℕ) → List Item → List Item
call_code f count temporaries arguments =
    (arguments ++ taking op.PushC (pos (4 * count)) ∷ CallOf f ∷ []) ++ give_back_code temporaries

-- the same by SYSREQ.C: the caller drops the arguments and the count of their bytes
abbrev pub native_code : ℕ → (count temporaries : ℕ) → List Item → List Item
native_code n count temporaries arguments =
    (arguments ++ taking op.PushC (pos (4 * count)) ∷ taking op.SysreqC (pos n)
    ∷ taking op.Stack (pos (4 * (count + 1))) ∷ [])
    ++ give_back_code temporaries

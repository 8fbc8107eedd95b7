-- The code of reads and writes: a place's index comes first, then its address, and then its cell or
-- its character is loaded, or stored behind the value.
use Rattle.std.specs.Prelude.{ℤ, pos, Bool, true, false, List, [], ◌∷◌, ◌++◌}
use Rattle.pawn_meaning.specs.Program.{Scalar, Global, Own, Through, Element, Char}
use Rattle.amx_ops.specs.declared.op.Op.TheVariants as op
use Rattle.gen_sim.specs.Items.{Item}
use Rattle.gen_sim.specs.SimpleCode.{alone, taking, both_code}

-- the address of a place, from where its index leads: of an element or a character it is made of
-- the array's in ALT and the index in PRI
abbrev pub address_code : Scalar → List Item
address_code (Global o) = []
address_code (Own s) = []
address_code (Through s) = []
address_code (Element a e) = alone op.Idxaddr ∷ []
address_code (Char a e) = alone op.Add ∷ []

-- what stands there, from the same
abbrev pub fetch_code : Scalar → List Item
fetch_code (Global o) = alone op.LoadI ∷ []
fetch_code (Own s) = alone op.LoadI ∷ []
fetch_code (Through s) = alone op.LoadI ∷ []
fetch_code (Element a e) = alone op.Lidx ∷ []
fetch_code (Char a e) = alone op.Add ∷ taking op.LodbI (pos 1) ∷ []

-- from the address in PRI; ALT stays
abbrev pub load_code : Scalar → List Item
load_code (Global o) = alone op.LoadI ∷ []
load_code (Own s) = alone op.LoadI ∷ []
load_code (Through s) = alone op.LoadI ∷ []
load_code (Element a e) = alone op.LoadI ∷ []
load_code (Char a e) = taking op.LodbI (pos 1) ∷ []

-- PRI to the address in ALT; PRI stays
abbrev pub store_code : Scalar → List Item
store_code (Global o) = alone op.StorI ∷ []
store_code (Own s) = alone op.StorI ∷ []
store_code (Through s) = alone op.StorI ∷ []
store_code (Element a e) = alone op.StorI ∷ []
store_code (Char a e) = taking op.StrbI (pos 1) ∷ []

-- a place's address goes to PRI
abbrev pub place_code : Scalar → List Item → List Item
place_code p index = index ++ address_code p

-- what stands there goes to PRI
abbrev pub read_code : Scalar → List Item → List Item
read_code p index = index ++ fetch_code p

-- the address waits on the stack while the value is made
abbrev pub assign_code : Scalar → (place value : List Item) → List Item
assign_code p place value = both_code place value (store_code p)

-- what was there goes to ALT and the value to PRI, some items make one of both, and it is stored;
-- the address waits
abbrev pub changed_code : Scalar → List Item → List Item
changed_code p change =
    alone op.PushAlt ∷ alone op.Xchg
    ∷ (load_code p ++ (alone op.Xchg ∷ (change ++ (alone op.PopAlt ∷ store_code p))))

-- a compound assignment, by the items of its operator
abbrev pub update_code : Scalar → (place value change : List Item) → List Item
update_code p place value change = both_code place value (changed_code p change)

-- a step's value is the new one, or the one that was there, which waits
abbrev pub stepped_code : Scalar → ℤ → Bool → List Item
stepped_code p delta true = taking op.AddC delta ∷ store_code p
stepped_code p delta false =
    alone op.PushPri ∷ taking op.AddC delta ∷ (store_code p ++ alone op.PopPri ∷ [])

-- `++` and `--`: ADD.C adds the delta to what is there
abbrev pub step_code : Scalar → ℤ → Bool → List Item → List Item
step_code p delta prefix place =
    place ++ (alone op.MoveAlt ∷ (load_code p ++ stepped_code p delta prefix))

-- the same by items that make the new value of the one in PRI, while the address waits
abbrev pub turned_code : Scalar → List Item → Bool → List Item
turned_code p change true = alone op.PushAlt ∷ (change ++ (alone op.PopAlt ∷ store_code p))
turned_code p change false =
    alone op.PushPri ∷ alone op.PushAlt
    ∷ (change ++ (alone op.PopAlt ∷ (store_code p ++ alone op.PopPri ∷ [])))

-- `++` and `--` by an operator of the user's own
abbrev pub step_by_code : Scalar → Bool → (place change : List Item) → List Item
step_by_code p prefix place change =
    place ++ (alone op.MoveAlt ∷ (load_code p ++ turned_code p change prefix))

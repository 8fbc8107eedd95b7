-- The code of a place that an instruction reaches by itself: its address isn't made. A value that
-- is stored there comes first, and nothing waits on the stack.
use Rattle.std.specs.Prelude.{◌+◌, ◌*◌, ◌+ℤ◌, ℕ, ℤ, pos, negsuc, neg_ℤ, Bool, true, false, List, []}
use Rattle.std.specs.Prelude.{◌∷◌, ◌++◌, Option}
use Rattle.std.specs.Prelude.{None, Some}
use Rattle.pawn_meaning.specs.Program.{Scalar, Global, Own, Through, Element, Char, Array, Object}
use Rattle.pawn_meaning.specs.Program.{SlotArray, ParamArray, Row, From}
use Rattle.pawn_meaning.specs.Scope.{Scope, Extent, extent}
use Rattle.pawn_meaning.specs.References.{index_in}
use Rattle.pawn_meaning.specs.Fold.{fold}
use Rattle.amx_ops.specs.declared.op.Op.{Op}
use Rattle.amx_ops.specs.declared.op.Op.TheVariants as op
use Rattle.gen_sim.specs.Items.{Item, past}
use Rattle.gen_sim.specs.SimpleCode.{alone, taking}
use Rattle.gen_sim.specs.AccessCode.{read_code, step_code}
use Rattle.gen_sim.specs.PlaceItems.{object_address, slot_offset}

-- what loads a place's cell to PRI, or to ALT, and what stores PRI there, and their operand
pub record Direct : Type 0 where
  pub loads : Op
  pub loads_alt : Op
  pub stores : Op
  -- and what adds 1 there, and takes 1 away, where there is such
  pub adds : Option (Op × Op)
  -- and what pushes its cell, where there is such
  pub pushes : Option Op
  pub operand : ℤ

-- those of a cell of the data, by its address
abbrev pub data_cell : ℤ → Direct
data_cell address =
    record {
      loads = op.LoadPri;
      loads_alt = op.LoadAlt;
      stores = op.StorPri;
      adds = Some (op.Inc, op.Dec);
      pushes = Some op.Push;
      operand = address;
    }

-- those of a cell of the frame that runs, by its offset from FRM
abbrev pub frame_cell : ℤ → Direct
frame_cell offset =
    record {
      loads = op.LoadSPri;
      loads_alt = op.LoadSAlt;
      stores = op.StorSPri;
      adds = Some (op.IncS, op.DecS);
      pushes = Some op.PushS;
      operand = offset;
    }

-- those of the cell that a parameter refers to, by the parameter's offset
abbrev pub pointed_cell : ℤ → Direct
pointed_cell offset =
    record {
      loads = op.LrefSPri;
      loads_alt = op.LrefSAlt;
      stores = op.SrefSPri;
      adds = None;
      pushes = None;
      operand = offset;
    }

-- an index that is known, where it is below a size that is known
abbrev pub index_below : Option ℕ → Option ℤ → Option ℕ
index_below None v = None
index_below (Some size) None = None
index_below (Some size) (Some v) = index_in size v

-- an index that is known, where it is below an array's first size
abbrev pub constant_index : Option Extent → Option ℤ → Option ℕ
constant_index None v = None
constant_index (Some whole) v = index_below whole.first v

-- an element with such an index stands so many cells behind an array's first one, where that has a
-- known address: a parameter's array has none
abbrev pub element_of : Scope → Array → Option ℕ → Option Direct
element_of scope a None = None
element_of scope (Object o) (Some i) =
    Some (data_cell (object_address scope.program o +ℤ pos (4 * i)))
element_of scope (SlotArray s) (Some i) =
    Some (frame_cell (slot_offset scope s +ℤ pos (4 * i)))
element_of scope (ParamArray s known) (Some i) = None
element_of scope (Row a e) (Some i) = None
element_of scope (From a e) (Some i) = None

-- those of a place that needs no index, or whose index is constant
abbrev pub direct_of : Scope → Scalar → Option Direct
direct_of scope (Global o) = Some (data_cell (object_address scope.program o))
direct_of scope (Own s) = Some (frame_cell (slot_offset scope s))
direct_of scope (Through s) = Some (pointed_cell (pos (12 + 4 * s)))
direct_of scope (Element a e) = element_of scope a (constant_index (extent scope a) (fold e))
direct_of scope (Char a e) = None

-- its cell goes to PRI
abbrev pub direct_load : Direct → List Item
direct_load d = taking d.loads d.operand ∷ []

-- PRI goes to its cell
abbrev pub direct_store : Direct → List Item
direct_store d = taking d.stores d.operand ∷ []

-- a read, by its own instruction or else from where the place's index leads
abbrev pub read_by : Option Direct → Scalar → List Item → List Item
read_by None p index = read_code p index
read_by (Some d) p index = direct_load d

-- where an assignment's value begins
abbrev pub value_begin : Option Direct → ℕ → List Item → ℕ
value_begin None begin place = past begin place + 4
value_begin (Some d) begin place = begin

-- what is there goes to ALT, behind the value in PRI, some items make one of both, and it is stored
abbrev pub direct_changed : Direct → List Item → List Item
direct_changed d change = taking d.loads_alt d.operand ∷ (change ++ direct_store d)

-- behind the step its cell is stored, and a postfix one then takes its delta back
abbrev pub stepped_back : Direct → ℤ → Bool → List Item
stepped_back d delta true = direct_store d
stepped_back d delta false = direct_store d ++ taking op.AddC (neg_ℤ delta) ∷ []

-- `++` and `--` of a direct place
abbrev pub direct_step : Direct → ℤ → Bool → List Item
direct_step d delta prefix =
    direct_load d ++ (taking op.AddC delta ∷ stepped_back d delta prefix)

-- and of any place
abbrev pub step_by : Option Direct → Scalar → ℤ → Bool → List Item → List Item
step_by None p delta prefix place = step_code p delta prefix place
step_by (Some d) p delta prefix place = direct_step d delta prefix

-- a step whose value isn't used: one instruction, or else as a prefix one. A step is by 1 or by -1,
-- as every valid program has it
abbrev pub direct_effect : Direct → Option (Op × Op) → ℤ → List Item
direct_effect d None delta = direct_step d delta true
direct_effect d (Some ops) (pos n) = taking ops.0 d.operand ∷ []
direct_effect d (Some ops) (negsuc n) = taking ops.1 d.operand ∷ []

-- at an address: a cell has an instruction for it, and a character is stored as if its new value
-- were used
abbrev pub effect_there : Scalar → ℤ → List Item → List Item
effect_there (Char a e) delta place = step_code (Char a e) delta true place
effect_there p (pos n) place = place ++ alone op.IncI ∷ []
effect_there p (negsuc n) place = place ++ alone op.DecI ∷ []

-- and of any place
abbrev pub effect_by : Option Direct → Scalar → ℤ → List Item → List Item
effect_by None p delta place = effect_there p delta place
effect_by (Some d) p delta place = direct_effect d d.adds delta

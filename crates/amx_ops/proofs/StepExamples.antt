-- Each family of instructions at its edges, computed.
use Rattle.std.proofs.Common.{◌≡◌, ℤ, pos, negsuc, [], ◌∷◌, refl}
use Rattle.std.specs.Int.{int_wrap}
use Rattle.amx_ops.specs.declared.amx.Amx.{Amx}
use Rattle.amx_ops.specs.declared.op.Op.{Op}
use Rattle.amx_ops.specs.declared.op.Op.TheVariants as op
use Rattle.amx_ops.specs.Table.{row_at}
use Rattle.amx_ops.specs.State.{State, Turned, Goes, Errs, Halts}
use Rattle.amx_ops.specs.Step.{act}

-- HALT 0; a case table of two pairs
abbrev amx : Amx
amx = record {
  flags = 0;
  version = 8;
  code = pos 120 ∷ pos 0 ∷ pos 130 ∷ pos 2 ∷ pos 0 ∷ pos 7 ∷ pos 8 ∷ pos 9 ∷ pos 0 ∷ [];
  store = pos 0x01020304 ∷ [];
  room = 3;
  entry = negsuc 0;
  publics = [];
  natives = record { address = pos 0; name = [] } ∷ [];
  libraries = [];
  variables = [];
  tags = [];
}

-- one cell of data, one of heap, and two on the stack
abbrev s : State
s = record {
  pri = pos 0x141;
  alt = pos 1;
  frm = 12;
  cip = 0;
  stk = 8;
  hea = 8;
  cells = pos 0x01020304 ∷ pos 5 ∷ pos 6 ∷ pos 7 ∷ [];
}

abbrev does : Op → ℤ → State → Turned
does o v t = act amx o v 8 t

-- ---- loads and stores

load_is_aligned : does op.LoadPri (pos 2) s ≡ Errs (pos 5)
load_is_aligned = refl

load_stays_below_the_top : does op.LoadPri (pos 16) s ≡ Errs (pos 5)
load_stays_below_the_top = refl

byte_is_put : does op.StrbI (pos 1) s
    ≡ Goes (record s { cip = 8; cells = pos 0x01024104 ∷ pos 5 ∷ pos 6 ∷ pos 7 ∷ [] })
byte_is_put = refl

two_bytes_are_aligned : does op.LodbI (pos 2) s ≡ Errs (pos 5)
two_bytes_are_aligned = refl

-- ---- the stack and the heap

push_meets_the_heap : does op.PushPri (pos 0) s ≡ Errs (pos 3)
push_meets_the_heap = refl

operand_of_a_push_goes_first : does op.Push (pos 16) s ≡ Errs (pos 5)
operand_of_a_push_goes_first = refl

pop_at_the_top : does op.PopPri (pos 0) (record s { stk = 16 }) ≡ Errs (pos 7)
pop_at_the_top = refl

swap_at_the_top : does op.SwapPri (pos 0) (record s { stk = 16 }) ≡ Errs (pos 5)
swap_at_the_top = refl

stack_above_the_top : does op.Stack (pos 12) s ≡ Errs (pos 7)
stack_above_the_top = refl

stack_without_margin : does op.Stack (pos 4) s ≡ Errs (pos 3)
stack_without_margin = refl

heap_below_its_first : does op.Heap (negsuc 7) s ≡ Errs (pos 8)
heap_below_its_first = refl

heap_is_set_to_multiples : does op.Sctrl (pos 2) (record s { pri = pos 6 }) ≡ Errs (pos 5)
heap_is_set_to_multiples = refl

return_without_cells : does op.Ret (pos 0) (record s { stk = 16 }) ≡ Errs (pos 7)
return_without_cells = refl

-- ---- calls and jumps

call_has_no_room : does op.CallPri (pos 0) s ≡ Errs (pos 3)
call_has_no_room = refl

jump_to_no_start : does op.JumpPri (pos 0) (record s { pri = pos 4 }) ≡ Errs (pos 6)
unfolding row_at
jump_to_no_start = refl

jump_without_sign : does op.Jless (pos 0) (record s { pri = negsuc 0 })
    ≡ Goes (record s { pri = negsuc 0; cip = 8 })
jump_without_sign = refl

-- ---- arithmetic

no_divisor : does op.Sdiv (pos 0) (record s { alt = pos 0 }) ≡ Errs (pos 11)
no_divisor = refl

alt_is_divided : does op.SdivAlt (pos 0) (record s { pri = pos 2; alt = negsuc 6 })
    ≡ Goes (record s { pri = negsuc 3; alt = pos 1; cip = 8 })
unfolding int_wrap
alt_is_divided = refl

shift_by_minus_one : does op.Shr (pos 0) (record s { pri = negsuc 0; alt = negsuc 0 })
    ≡ Goes (record s { pri = pos 1; alt = negsuc 0; cip = 8 })
shift_by_minus_one = refl

bounds_have_no_sign : does op.Bounds (negsuc 0) s ≡ Goes (record s { cip = 8 })
bounds_have_no_sign = refl

bounds_are_met : does op.Bounds (pos 0x140) s ≡ Errs (pos 4)
bounds_are_met = refl

-- ---- blocks of bytes

move_of_three : does op.Movs (pos 3) (record s { pri = pos 0; alt = pos 12 })
    ≡ Goes (record s {
      pri = pos 0;
      alt = pos 12;
      cip = 8;
      cells = pos 0x01020304 ∷ pos 5 ∷ pos 6 ∷ pos 0x00020304 ∷ [];
    })
move_of_three = refl

-- the ranges lie over one another, and all is read first
move_by_one : does op.Movs (pos 4) (record s { pri = pos 0; alt = pos 1 })
    ≡ Goes (record s {
      pri = pos 0;
      alt = pos 1;
      cip = 8;
      cells = pos 0x02030404 ∷ pos 1 ∷ pos 6 ∷ pos 7 ∷ [];
    })
move_by_one = refl

-- cells without a byte that was moved stay what they are
move_of_nothing : does op.Movs (pos 0)
    (record s { pri = pos 0; alt = pos 2; cells = pos 0x100000000 ∷ pos 5 ∷ pos 6 ∷ pos 7 ∷ [] })
    ≡ Goes (record s {
      pri = pos 0;
      alt = pos 2;
      cip = 8;
      cells = pos 0x100000000 ∷ pos 5 ∷ pos 6 ∷ pos 7 ∷ [];
    })
move_of_nothing = refl

move_where_heap_and_stack_meet : does op.Movs (pos 4) (record s { pri = pos 6; alt = pos 0 })
    ≡ Goes (record s {
      pri = pos 6;
      alt = pos 0;
      cip = 8;
      cells = pos 0x00060000 ∷ pos 5 ∷ pos 6 ∷ pos 7 ∷ [];
    })
move_where_heap_and_stack_meet = refl

move_past_the_top : does op.Movs (pos 3) (record s { pri = pos 0; alt = pos 14 }) ≡ Errs (pos 5)
move_past_the_top = refl

nothing_is_compared : does op.Cmps (pos 0) s ≡ Goes (record s { pri = pos 0; cip = 8 })
nothing_is_compared = refl

first_byte_is_less : does op.Cmps (pos 4) (record s { pri = pos 4; alt = pos 0 })
    ≡ Goes (record s { pri = negsuc 0; alt = pos 0; cip = 8 })
first_byte_is_less = refl

nothing_is_filled : does op.Fill (pos 0) (record s { alt = pos 3 })
    ≡ Goes (record s { alt = pos 3; cip = 8 })
nothing_is_filled = refl

-- ---- the host and case tables

unknown_native : does op.SysreqPri (pos 0) (record s { pri = negsuc 0 }) ≡ Errs (pos 19)
unknown_native = refl

halt_of_a_sleep : does op.Halt (pos 12) s ≡ Halts (pos 12) (record s { cip = 8 })
halt_of_a_sleep = refl

case_is_found : does op.Switch (pos 8) (record s { pri = pos 7 })
    ≡ Goes (record s { pri = pos 7; cip = 8 })
case_is_found = refl

table_is_no_step : does op.Casetbl (pos 2) s ≡ Errs (pos 6)
table_is_no_step = refl

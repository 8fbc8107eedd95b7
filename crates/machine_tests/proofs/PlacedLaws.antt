-- Registers that stand over the memory of a file that was loaded.
use Rattle.std.proofs.Common.{◌≡◌, ◌+◌, ◌*◌, ◌%◌, ◌≤◌, pos, length, replicate, sym, subst, arith}
use Rattle.std.proofs.Common.{length-append}
use Rattle.std.proofs.lemmas.List.{length-replicate}
use Rattle.pawn_cells.specs.Cells.{bits_of}
use Rattle.amx_ops.specs.declared.amx.Amx.{Amx}
use Rattle.amx_ops.specs.Trace.{loaded}
use Rattle.amx_step.specs.Machine.{Machine}
use Rattle.amx_step.specs.declared.host_registers.Registers.{Registers}
use Rattle.amx_step.specs.Hosting.{AreInOrder, cleared}

in_order : (amx : Amx) (r : Registers) → bits_of r.hea % 4 ≡ 0 → bits_of r.stk % 4 ≡ 0
    → 4 * length amx.store ≤ bits_of r.hea → bits_of r.hea ≤ bits_of r.stk
    → bits_of r.stk ≤ 4 * length amx.store + 4 * amx.room
    → AreInOrder amx (cleared r (loaded amx amx.room))
in_order amx r hea stk first order top = record {
  whole = (hea, stk);
  order = (
    first,
    order,
    omega (
      arith,
      top,
      length-replicate (length (loaded amx amx.room).cells) (pos 0),
      length-append amx.store (replicate amx.room (pos 0)),
      length-replicate amx.room (pos 0),
    ),
  );
}

pub placed : (m : Machine) (amx : Amx) (r : Registers)
    → m ≡ record { amx = amx; state = loaded amx amx.room }
    → bits_of r.hea % 4 ≡ 0 → bits_of r.stk % 4 ≡ 0
    → 4 * length amx.store ≤ bits_of r.hea → bits_of r.hea ≤ bits_of r.stk
    → bits_of r.stk ≤ 4 * length amx.store + 4 * amx.room → AreInOrder m.amx (cleared r m.state)
placed m amx r is hea stk first order top =
    subst (λ (q : Machine). AreInOrder q.amx (cleared r q.state)) (sym is)
    (in_order amx r hea stk first order top)

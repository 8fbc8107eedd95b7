use Rattle.std.proofs.Common.{rules, w32, FitsSigned, refl}
use Rattle.std.proofs.lemmas.Int.{to_z-of_z}
use Rattle.amx_step.proofs.HostLaws.{cleared_cells}
use Rattle.amx_step.proofs.registers.Core.clear.Goals as goal

pub returns : goal.returns
returns c =
    let f = c.self.inside in
    let r = c.args.registers in
    let pri : FitsSigned w32 r.pri = search rules in
    let alt : FitsSigned w32 r.alt = search rules in
    let frm : FitsSigned w32 r.frm = search rules in
    let cip : FitsSigned w32 r.cip = search rules in
    let stk : FitsSigned w32 r.stk = search rules in
    let hea : FitsSigned w32 r.hea = search rules in
    rw (
      to_z-of_z w32 r.pri pri,
      to_z-of_z w32 r.alt alt,
      c.cast_unsigned-self-inside.ensures,
      c.cast_unsigned-self-inside-2.ensures,
      c.cast_unsigned-self-inside-3.ensures,
      c.cast_unsigned-self-inside-4.ensures,
      c.fill.ensures,
      ← c.self.view_is,
    )
    (rw (
      cleared_cells f.block.memory f.stp c.self.invariant.top_is,
      to_z-of_z w32 r.frm frm,
      to_z-of_z w32 r.cip cip,
      to_z-of_z w32 r.stk stk,
      to_z-of_z w32 r.hea hea,
    ) refl)

use Rattle.std.proofs.Common.{◌+◌, ◌∙◌, ap, arith, FitsSigned, w32, rules}
use Rattle.std.proofs.lemmas.Int.{to_z-of_z}
use Rattle.amx_text.specs.Drafts.{entry_line}
use Rattle.amx_text.proofs.FoundLaws.{told_at, told_entry, place_low}
use Rattle.amx_text.proofs.finish.tell_fault.Goals as goal

pub overflow_add-result-in-Opcode : goal.overflow_add-result-in-Opcode
overflow_add-result-in-Opcode c =
    omega (arith, c.requires, c.place_of.ensures, place_low c.in-Opcode.at c.args.starts.now)

pub overflow_cast-result : goal.overflow_cast-result
overflow_cast-result c =
    omega (arith, c.requires, c.place_of.ensures, place_low c.in-Opcode.at c.args.starts.now)

pub returns-in-Opcode : goal.returns-in-Opcode
returns-in-Opcode c =
    told_at c.args.fault.now c.args.starts.now c.args.code_mark c.in-Opcode.at _ c.in-Opcode.is
    (ap (λ n. c.args.code_mark + 2 + n) c.place_of.ensures)

pub returns-in-Entry : goal.returns-in-Entry
returns-in-Entry c =
    let fits : FitsSigned w32 c.in-Entry.number = search rules in
    told_entry c.args.fault.now c.args.starts.now c.args.code_mark c.entry_line.result
    c.in-Entry.number c.in-Entry.is
    (c.entry_line.ensures ∙ ap entry_line (to_z-of_z w32 c.in-Entry.number fits))

use Rattle.std.proofs.Common.{rules, map, FitsSigned, w32, ap, ◌∙◌}
use Rattle.std.proofs.lemmas.Int.{to_z-of_z}
use Rattle.pawn_meaning.specs.View.{program_view}
use Rattle.pawn_meaning.specs.Weight.{counted}
use Rattle.gen_agrees.specs.Shape.{native_record}
use Rattle.gen_laws.specs.FileCode.{entry_of, program_items}
use Rattle.gen_module.specs.Records.{public_record, tag_record}
use Rattle.gen_module.proofs.FileLaws.{AreParts, parts_are}
use Rattle.gen_module.proofs.files.join_parts.Goals as goal

pub returns : goal.returns
returns c =
    let program = c.args.program.now in
    let source = program_view program in
    let room : FitsSigned w32 program.dynamic = search rules in
    let parts : AreParts program c.in_ok-code.code c.in_ok-store.store c.counted.result
    c.in_ok-entry.entry c.in_ok-publics.publics c.in_ok-natives.natives c.in_ok-tags.tags =
    record {
      code_is =
          c.in_ok-code.ensures (program_items source)
          (entry_of source) c.requires.code c.requires.entries;
      store_is = c.in_ok-store.ensures;
      room_is = c.counted.ensures ∙ ap counted (to_z-of_z w32 program.dynamic room);
      entry_is = c.in_ok-entry.ensures (entry_of source) c.requires.entries;
      publics_are =
          c.in_ok-publics.ensures (entry_of source) c.requires.entries
          ∙ ap (λ l. map (public_record (entry_of source)) l) c.as_slice.ensures;
      natives_are = c.in_ok-natives.ensures ∙ ap (λ l. map native_record l) c.as_slice-2.ensures;
      tags_are = c.in_ok-tags.ensures ∙ ap (λ l. map tag_record l) c.as_slice-3.ensures;
    } in
    let fits : FitsSigned w32 c.in_ok-entry.entry = search rules in
    let entry = to_z-of_z w32 c.in_ok-entry.entry fits in
    parts_are program c.in_ok-code.code c.in_ok-store.store c.counted.result c.in_ok-entry.entry _
    c.in_ok-publics.publics c.in_ok-natives.natives c.new.result
    c.new-2.result c.in_ok-tags.tags parts entry c.new.ensures c.new-2.ensures

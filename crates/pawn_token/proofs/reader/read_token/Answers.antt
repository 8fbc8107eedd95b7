use Rattle.std.proofs.Common.{◌≡◌, ◌∷◌, ◌++◌, true, false, refl, sym, ap, ◌∙◌}
use Rattle.std.proofs.Common.{arith}
use Rattle.pawn_token.specs.declared.class.Class.TheVariants as class
use Rattle.pawn_token.specs.Class.{is_in, byte_at}
use Rattle.pawn_token.specs.Forms.{opening}
use Rattle.pawn_token.proofs.ClassLaws.{one_at_front, two_at_front}
use Rattle.pawn_token.proofs.FormLaws.{told, word_longest, number_form, character_told, text_told}
use Rattle.pawn_token.proofs.FormLaws.{mark_told}
use Rattle.pawn_token.proofs.SortLaws.{mark_place}
use Rattle.pawn_token.proofs.reader.read_token.Goals as goal

pub returns-then-is_in-clause-answer : goal.returns-then-is_in-clause-answer
returns-then-is_in-clause-answer c =
    let at = c.args.bytes.now in
    let letter : is_in class.NameStart (byte_at at 0) ≡ true =
    ap (is_in class.NameStart) (sym c.byte_at-first.ensures) ∙ sym c.if-is_in.ensures in
    told c.args.control c.args.packed at _ _ _ c.word.result
    (word_longest c.args.control c.args.packed at letter) c.word.ensures

pub returns-then-is_in-2-clause-answer : goal.returns-then-is_in-2-clause-answer
returns-then-is_in-2-clause-answer c =
    let at = c.args.bytes.now in
    let digit : is_in class.Digit (byte_at at 0) ≡ true =
    ap (is_in class.Digit) (sym c.byte_at-first.ensures) ∙ sym c.if-is_in-2.ensures in
    told c.args.control c.args.packed at _ _ _ c.number.result
    (number_form c.args.control c.args.packed at digit) c.number.ensures

pub returns-then-first-eq39-clause-answer : goal.returns-then-first-eq39-clause-answer
returns-then-first-eq39-clause-answer c =
    let at = c.args.bytes.now in
    let opened : at ≡ 39 ∷ c.behind.result.now =
    one_at_front at 39 (sym c.byte_at-first.ensures ∙ c.if-first-eq39.true) (omega arith)
    ∙ ap (λ bytes. 39 ∷ bytes) (sym c.behind.ensures) in
    character_told c.args.control c.args.packed at c.behind.result.now c.character.result opened
    c.character.ensures

pub returns-then-first-eq34-clause-answer : goal.returns-then-first-eq34-clause-answer
returns-then-first-eq34-clause-answer c =
    let at = c.args.bytes.now in
    let inside = c.behind-then-first-eq34.result.now in
    let opened : at ≡ opening false ++ inside =
    one_at_front at 34 (sym c.byte_at-first.ensures ∙ c.if-first-eq34.true) (omega arith)
    ∙ ap (λ bytes. 34 ∷ bytes) (sym c.behind-then-first-eq34.ensures) in
    text_told c.args.control c.args.packed false at inside c.literal.result opened c.literal.ensures

pub returns-then-is_turned-clause-answer : goal.returns-then-is_turned-clause-answer
returns-then-is_turned-clause-answer c =
    let at = c.args.bytes.now in
    let inside = c.behind-then-is_turned.result.now in
    let quotes = c.if-is_turned.ensures.0 refl in
    let opened : at ≡ opening true ++ inside =
    two_at_front at 33 34 quotes.0 quotes.1 (omega arith) (omega arith)
    ∙ ap (λ bytes. 33 ∷ 34 ∷ bytes) (sym c.behind-then-is_turned.ensures) in
    text_told c.args.control c.args.packed true at inside c.literal-then-is_turned.result opened
    c.literal-then-is_turned.ensures

pub returns-else-is_turned-clause-answer : goal.returns-else-is_turned-clause-answer
returns-else-is_turned-clause-answer c =
    let at = c.args.bytes.now in
    let place =
    mark_place at c.byte_at-first.result c.byte_at-first.ensures (sym c.if-is_in.ensures)
    (sym c.if-is_in-2.ensures)
    c.if-first-eq39.false c.if-first-eq34.false
    (λ one two. absurd (cc (c.if-is_turned.ensures.1 (one, two)))) in
    mark_told c.args.control c.args.packed at c.mark.result place c.requires c.mark.ensures

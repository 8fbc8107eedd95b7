use Rattle.std.proofs.Common.{◌≡◌, ◌≢◌, ◌++◌, ◌∙◌, ℕ, pos, true, false, refl, sym, ap, append-nil}
use Rattle.std.proofs.Common.{get_or, take, arith, [], FitsSigned, w32, to_z, of_z, rules}
use Rattle.std.specs.List.{flat_map}
use Rattle.std.proofs.lemmas.Int.{to_z-of_z}
use Rattle.std.proofs.lemmas.Result.{err_from_is_err_and}
use Rattle.pawn_outside.proofs.SaidLaws.{said_as, said_then, said_cut, said_nothing}
use Rattle.host_script.specs.Text.{character_text}
use Rattle.host_script.specs.Characters.{front, has_zero, characters_text}
use Rattle.host_script.proofs.CharacterLaws.{passed_none, passed_more, text_more, text_last}
use Rattle.host_script.proofs.CharacterLaws.{text_cut, text_all, single_byte, bytes_are}
use Rattle.host_script.proofs.CharacterLaws.{single_text, not_zero_byte}
use Rattle.host_script.proofs.arguments.say_bytes.Goals as goal

has_none : (b : ℕ) → b ≢ 0 → has_zero (single_byte b) ≡ false
has_none b e = rw (not_zero_byte b e) refl

pub loop-byte-init : goal.loop-byte-init
loop-byte-init g c = (said_nothing c.args.out.now, passed_none single_byte c.args.bytes.now)

pub loop-byte-preserved : goal.loop-byte-preserved
loop-byte-preserved g c =
    let bytes = c.args.bytes.now in
    let i = c.loop-byte.byte-index in
    let none = has_none (get_or bytes i 0) c.if-byte-eq0.false in
    let fits : FitsSigned w32 c.from.result = search rules in
    let is : to_z w32 (of_z w32 c.from.result) ≡ pos (get_or bytes i 0) =
    to_z-of_z w32 c.from.result fits ∙ c.from.ensures in (
      said_as (ap (λ text. characters_text (flat_map single_byte (take i bytes)) ++ text)
          (single_text (pos (get_or bytes i 0))
          (not_zero_byte (get_or bytes i 0) c.if-byte-eq0.false))
          ∙ text_more single_byte bytes i 0 c.loop-byte-test.true c.loop-byte.invariant.1 none)
          (said_then c.loop-byte.invariant.0
          (said_as (ap character_text is) c.in_ok-say_character.ensures)),
      passed_more single_byte bytes i 0 c.loop-byte-test.true c.loop-byte.invariant.1 none,
    )

pub returns-then-byte-eq0 : goal.returns-then-byte-eq0
returns-then-byte-eq0 g c =
    let bytes = c.args.bytes.now in
    let i = c.loop-byte.byte-index in
    let zero : has_zero (single_byte (get_or bytes i 0)) ≡ true = rw c.if-byte-eq0.true refl in
    let nothing : front (single_byte (get_or bytes i 0)) ≡ [] = rw c.if-byte-eq0.true refl in
    said_as (sym (append-nil _) ∙ ap
    (λ cs. characters_text (flat_map single_byte (take i bytes)) ++ characters_text cs)
    (sym nothing)
    ∙ text_last single_byte bytes i 0 c.loop-byte-test.true c.loop-byte.invariant.1 zero
    ∙ ap (λ cs. characters_text (front cs)) (bytes_are bytes))
    c.loop-byte.invariant.0

pub returns-in_err-say_character : goal.returns-in_err-say_character
returns-in_err-say_character g c =
    let bytes = c.args.bytes.now in
    let i = c.loop-byte.byte-index in
    let one =
    single_text (pos (get_or bytes i 0))
    (not_zero_byte (get_or bytes i 0) c.if-byte-eq0.false) in
    let fits : FitsSigned w32 c.from.result = search rules in
    let character : to_z w32 (of_z w32 c.from.result) ≡ pos (get_or bytes i 0) =
    to_z-of_z w32 c.from.result fits ∙ c.from.ensures in
    let is = err_from_is_err_and c.from_residual.result c.from_residual.ensures.1 in
    said_as (text_cut single_byte bytes i 0 c.loop-byte-test.true c.loop-byte.invariant.1
    ∙ ap (λ cs. characters_text (front cs)) (bytes_are bytes))
    (said_cut _ c.from_residual.result is.1
    (said_then c.loop-byte.invariant.0
    (said_as (ap character_text character ∙ one) c.in_err-say_character.ensures)))

pub returns : goal.returns
returns g c =
    said_as (text_all single_byte c.args.bytes.now c.loop-byte.byte-index
    (omega (arith, c.loop-byte-test.false)) c.loop-byte.invariant.1
    ∙ ap (λ cs. characters_text (front cs)) (bytes_are c.args.bytes.now))
    c.loop-byte.invariant.0

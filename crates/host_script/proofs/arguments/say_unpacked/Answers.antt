use Rattle.std.proofs.Common.{◌≡◌, ◌≢◌, ◌++◌, ◌∙◌, ℤ, pos, true, false, refl, sym, ap, append-nil}
use Rattle.std.proofs.Common.{get_or, take, arith, [], FitsSigned, w32, to_z, of_z, rules}
use Rattle.std.specs.List.{flat_map}
use Rattle.std.proofs.lemmas.Int.{to_z-of_z}
use Rattle.std.proofs.lemmas.Result.{err_from_is_err_and}
use Rattle.pawn_outside.proofs.SaidLaws.{said_as, said_then, said_cut, said_nothing}
use Rattle.host_script.specs.Text.{character_text}
use Rattle.host_script.specs.Characters.{front, has_zero, characters_text}
use Rattle.host_script.proofs.CharacterLaws.{passed_none, passed_more, text_more, text_last}
use Rattle.host_script.proofs.CharacterLaws.{text_cut, text_all, single, singles_are, single_text}
use Rattle.host_script.proofs.CharacterLaws.{not_zero}
use Rattle.host_script.proofs.arguments.say_unpacked.Goals as goal

has_none : (c : ℤ) → c ≢ pos 0 → has_zero (single c) ≡ false
has_none c e = rw (not_zero c e) refl

pub loop-character-init : goal.loop-character-init
loop-character-init g c = (said_nothing c.args.out.now, passed_none single c.args.characters.now)

pub loop-character-preserved : goal.loop-character-preserved
loop-character-preserved g c =
    let characters = c.args.characters.now in
    let i = c.loop-character.character-index in
    let x = get_or characters i (pos 0) in
    let other : x ≢ pos 0 = λ same. c.if-character-eq0.false (ap (of_z w32) same) in
    let fits : FitsSigned w32 x = search rules in (
      said_as (ap (λ text. characters_text (flat_map single (take i characters)) ++ text)
          (single_text x (not_zero x other))
          ∙ text_more single characters i
          (pos 0) c.loop-character-test.true c.loop-character.invariant.1 (has_none x other))
          (said_then c.loop-character.invariant.0
          (said_as (ap character_text (to_z-of_z w32 x fits)) c.in_ok-say_character.ensures)),
      passed_more single characters i
          (pos 0) c.loop-character-test.true c.loop-character.invariant.1 (has_none x other),
    )

pub returns-then-character-eq0 : goal.returns-then-character-eq0
returns-then-character-eq0 g c =
    let characters = c.args.characters.now in
    let i = c.loop-character.character-index in
    let x = get_or characters i (pos 0) in
    let fits : FitsSigned w32 x = search rules in
    let is : x ≡ pos 0 = sym (to_z-of_z w32 x fits) ∙ ap (to_z w32) c.if-character-eq0.true in
    let zero : has_zero (single x) ≡ true = rw is refl in
    let nothing : front (single x) ≡ [] = rw is refl in
    said_as (sym (append-nil _) ∙ ap
    (λ cs. characters_text (flat_map single (take i characters)) ++ characters_text cs)
    (sym nothing)
    ∙ text_last single characters i (pos 0) c.loop-character-test.true c.loop-character.invariant.1
    zero ∙ ap (λ cs. characters_text (front cs)) (singles_are characters))
    c.loop-character.invariant.0

pub returns-in_err-say_character : goal.returns-in_err-say_character
returns-in_err-say_character g c =
    let characters = c.args.characters.now in
    let i = c.loop-character.character-index in
    let x = get_or characters i (pos 0) in
    let other : x ≢ pos 0 = λ same. c.if-character-eq0.false (ap (of_z w32) same) in
    let fits : FitsSigned w32 x = search rules in
    let is = err_from_is_err_and c.from_residual.result c.from_residual.ensures.1 in
    said_as (text_cut single characters i
    (pos 0) c.loop-character-test.true c.loop-character.invariant.1
    ∙ ap (λ cs. characters_text (front cs)) (singles_are characters))
    (said_cut _ c.from_residual.result is.1
    (said_then c.loop-character.invariant.0
    (said_as (ap character_text (to_z-of_z w32 x fits) ∙ single_text x (not_zero x other))
    c.in_err-say_character.ensures)))

pub returns : goal.returns
returns g c =
    said_as (text_all single c.args.characters.now c.loop-character.character-index
    (omega (arith, c.loop-character-test.false)) c.loop-character.invariant.1
    ∙ ap (λ cs. characters_text (front cs)) (singles_are c.args.characters.now))
    c.loop-character.invariant.0

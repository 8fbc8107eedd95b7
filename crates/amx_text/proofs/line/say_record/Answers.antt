use Rattle.std.proofs.Common.{◌≡◌, ◌++◌, ◌∷◌, [], ◌∙◌, ℕ, ℤ, List, ap, pos, map, FitsSigned, w32}
use Rattle.std.proofs.Common.{to_z, of_z, rules}
use Rattle.std.specs.Fmt.{signed_decimal}
use Rattle.std.specs.List.{flat_map}
use Rattle.std.proofs.lemmas.Int.{to_z-of_z}
use Rattle.std.proofs.lemmas.Result.{err_from_is_err_and}
use Rattle.pawn_outside.proofs.SaidLaws.{said_as, said_then, said_cut}
use Rattle.host_script.specs.Text.{character_text}
use Rattle.amx_text.proofs.LineLaws.{record_parts}
use Rattle.amx_text.proofs.line.say_record.Goals as goal

-- the three parts, with an address as it is passed
line_is : (kind characters : List ℕ) (address : ℤ) → FitsSigned w32 address
    → (kind ++ (32 ∷ (signed_decimal (to_z w32 (of_z w32 address)) ++ (32 ∷ 34 ∷ []))))
    ++ (characters ++ (34 ∷ 10 ∷ []))
    ≡ kind ++ (32 ∷ (signed_decimal address
    ++ ((32 ∷ 34 ∷ (characters ++ (34 ∷ []))) ++ (10 ∷ []))))
line_is kind characters address fits =
    ap (λ z. (kind ++ (32 ∷ (signed_decimal z ++ (32 ∷ 34 ∷ []))))
    ++ (characters ++ (34 ∷ 10 ∷ []))) (to_z-of_z w32 address fits)
    ∙ record_parts kind (signed_decimal address) characters

pub returns-in_err-say_kind : goal.returns-in_err-say_kind
returns-in_err-say_kind g c =
    let it = c.args.entry.now in
    let characters = flat_map character_text (map pos it.name) in
    let fits : FitsSigned w32 it.address = search rules in
    let is = err_from_is_err_and c.from_residual.result c.from_residual.ensures.1 in
    said_as (line_is c.args.kind.now characters it.address fits)
    (said_cut (characters ++ (34 ∷ 10 ∷ [])) c.from_residual.result is.1 c.in_err-say_kind.ensures)

pub returns-in_err-say_characters : goal.returns-in_err-say_characters
returns-in_err-say_characters g c =
    let it = c.args.entry.now in
    let text = λ (bytes : List ℕ). flat_map character_text (map pos bytes) in
    let fits : FitsSigned w32 it.address = search rules in
    let is =
    err_from_is_err_and c.from_residual-in_err-say_characters.result
    c.from_residual-in_err-say_characters.ensures.1 in
    said_as (line_is c.args.kind.now (text it.name) it.address fits)
    (said_then c.in_ok-say_kind.ensures
    (said_cut (34 ∷ 10 ∷ []) c.from_residual-in_err-say_characters.result is.1
    (said_as (ap text c.as_slice.ensures) c.in_err-say_characters.ensures)))

pub returns : goal.returns
returns g c =
    let it = c.args.entry.now in
    let text = λ (bytes : List ℕ). flat_map character_text (map pos bytes) in
    let fits : FitsSigned w32 it.address = search rules in
    said_as (line_is c.args.kind.now (text it.name) it.address fits)
    (said_then c.in_ok-say_kind.ensures
    (said_then (said_as (ap text c.as_slice.ensures) c.in_ok-say_characters.ensures)
    c.say.ensures))

-- The text of a native's arguments, one cell after another.
use Rattle.std.proofs.Common.{◌≡◌, ◌+◌, ◌<◌, ℕ, ℤ, suc, List, [], ◌∷◌, ◌++◌, codes, map, length}
use Rattle.std.proofs.Common.{take, drop, get_or, sym, ap, ◌∙◌, append_assoc, append-nil}
use Rattle.std.proofs.Common.{FitsSigned, w32, to_z, of_z}
use Rattle.std.specs.Fmt.{signed_decimal}
use Rattle.std.specs.List.{flat_map}
use Rattle.std.proofs.Math.Seq.{drop-cons}
use Rattle.std.proofs.lemmas.Int.{to_z-of_z}
use Rattle.std.proofs.lemmas.List.{take-append-drop, take_more}
use Rattle.std.proofs.lemmas.List.Concat.{flat_map-append}
use Rattle.std.proofs.lemmas.List.Folds.{flat_map-map}
use Rattle.host_script.specs.declared.event.Seen.TheVariants.{Cell}
use Rattle.host_script.specs.Text.{seen_text, arguments_text, values_text}

-- a cell after one blank
abbrev pub cell_text : ℤ → List ℕ
cell_text cell = codes " " ++ signed_decimal cell

-- the digits that the code wrote for a cell
pub digits_of : (cell : ℤ) (text : List ℕ) → FitsSigned w32 cell
    → text ≡ signed_decimal (to_z w32 (of_z w32 cell)) → text ++ [] ≡ signed_decimal cell
digits_of cell text fits written =
    append-nil text ∙ written ∙ ap signed_decimal (to_z-of_z w32 cell fits)

pub cell_piece : (cell : ℤ) (text : List ℕ) → FitsSigned w32 cell
    → text ≡ signed_decimal (to_z w32 (of_z w32 cell)) → 32 ∷ (text ++ []) ≡ cell_text cell
cell_piece cell text fits written = ap (λ digits. 32 ∷ digits) (digits_of cell text fits written)

abbrev pub cells_text : List ℤ → List ℕ
cells_text cells = arguments_text (map Cell cells)

cells_text-is : (cells : List ℤ) → cells_text cells ≡ flat_map cell_text cells
cells_text-is cells = flat_map-map (λ argument. codes " " ++ seen_text argument) Cell cells

-- one cell more
pub cells_text-more : (cells : List ℤ) (i : ℕ) (d : ℤ) → i < length cells
    → cells_text (take (i + 1) cells) ≡ cells_text (take i cells) ++ cell_text (get_or cells i d)
cells_text-more cells i d h =
    cells_text-is (take (i + 1) cells) ∙ ap (flat_map cell_text) (take_more cells i d h)
    ∙ flat_map-append cell_text (take i cells) (get_or cells i d ∷ [])
    ∙ ap (λ front. front ++ (cell_text (get_or cells i d) ++ []))
    (sym (cells_text-is (take i cells)))
    ∙ ap (λ last. cells_text (take i cells) ++ last) (append-nil (cell_text (get_or cells i d)))

-- the cells before one, that one and those after it
pub cells_text-at : (cells : List ℤ) (i : ℕ) (d : ℤ) → i < length cells
    → cells_text (take i cells) ++ (cell_text (get_or cells i d) ++ cells_text (drop (suc i) cells))
    ≡ cells_text cells
cells_text-at cells i d h =
    ap (λ front. front ++ (cell_text (get_or cells i d) ++ cells_text (drop (suc i) cells)))
    (cells_text-is (take i cells))
    ∙ ap (λ back. flat_map cell_text (take i cells) ++ (cell_text (get_or cells i d) ++ back))
    (cells_text-is (drop (suc i) cells))
    ∙ sym (ap (λ rest. flat_map cell_text (take i cells) ++ flat_map cell_text rest)
    (drop-cons cells i d h))
    ∙ sym (flat_map-append cell_text (take i cells) (drop i cells))
    ∙ ap (flat_map cell_text) (take-append-drop i cells)
    ∙ sym (cells_text-is cells)

-- a native's line in its three parts
pub native_line : (name arguments answer : List ℕ)
    → ((codes "native " ++ (name ++ [])) ++ arguments) ++ answer
    ≡ codes "native " ++ (name ++ (arguments ++ answer))
native_line name arguments answer =
    append_assoc (codes "native " ++ (name ++ [])) arguments answer
    ∙ ap (λ head. (codes "native " ++ head) ++ (arguments ++ answer)) (append-nil name)
    ∙ append_assoc (codes "native ") name (arguments ++ answer)

-- values parted by blanks: each but the first after one
pub values_text-cons : (value : ℤ) (values : List ℤ)
    → values_text (value ∷ values) ≡ signed_decimal value ++ cells_text values
values_text-cons value [] = sym (append-nil (signed_decimal value))
values_text-cons value (next ∷ values) =
    ap (λ text. signed_decimal value ++ (codes " " ++ text)) (values_text-cons next values)

-- What a loop of the writer has put so far.
use Rattle.std.proofs.Common.{◌≡◌, ◌+◌, ◌-◌, ◌<◌, ◌≤◌, ℕ, suc, List, [], ◌∷◌, ◌++◌, length, take}
use Rattle.std.proofs.Common.{refl, sym, ap, subst, ◌∙◌, arith}
use Rattle.std.specs.Prelude.{FitsSigned, slice_index_or}
use Rattle.std.specs.Int.{w32}
use Rattle.std.proofs.lemmas.List.{append_assoc, take_all}
use Rattle.std.proofs.lemmas.List.Elements.{All-more, All-same}
use Rattle.amx_ops.specs.declared.amx.Record.{Record}
use Rattle.amx_format.specs.Layout.{zeros}
use Rattle.amx_format.specs.Ranges.{AddressesFit}

zeros-suc : (n m : ℕ) → n ≡ suc m → zeros n ≡ 0 ∷ zeros m
zeros-suc n m e = rw e refl

-- one zero more has been put
pub zeros_step : (out next all : List ℕ) (count i : ℕ) → i < count → next ≡ out ++ 0 ∷ []
    → out ++ zeros (count - i) ≡ all → next ++ zeros (count - (i + 1)) ≡ all
zeros_step out next all count i h e known =
    let first : zeros (count - i) ≡ 0 ∷ zeros (count - (i + 1)) =
    zeros-suc (count - i) (count - (i + 1)) (omega arith) in
    ap (λ (xs : List ℕ). xs ++ zeros (count - (i + 1))) e
    ∙ append_assoc out (0 ∷ []) (zeros (count - (i + 1)))
    ∙ sym (ap (λ (xs : List ℕ). out ++ xs) first) ∙ known

-- one record more has an address that fits
pub fits_more : (records : List Record) (i : ℕ) (it : Record) → i < length records
    → it ≡ slice_index_or records i it
    → FitsSigned w32 it.address → AddressesFit (take i records)
    → AddressesFit (take (i + 1) records)
fits_more records i it h is fits known =
    let P : Record → Type 0 = λ r. FitsSigned w32 r.address in
    All-more P records i it h known (subst P is fits)

pub fits_all : (records : List Record) (i : ℕ) → length records ≤ i → AddressesFit (take i records)
    → AddressesFit records
fits_all records i h known =
    All-same (λ r. FitsSigned w32 r.address) records (take i records)
    (sym (take_all i records h)) known

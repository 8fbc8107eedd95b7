-- The smallest file, and files with one byte changed, computed.
use Rattle.std.proofs.Common.{◌≡◌, inl, inr, ℕ, List, [], ◌∷◌, refl, sym, ◌∙◌, arith}
use Rattle.std.specs.Prelude.{slice_set}
use Rattle.amx_ops.specs.declared.amx.Amx.{Amx}
use Rattle.amx_ops.proofs.Examples.{empty_main, file_of}
use Rattle.amx_format.specs.declared.encoding.Encoding.TheVariants.{Plain}
use Rattle.amx_format.specs.declared.fault.FormatFault.TheVariants.{TooShort, Magic, Version}
use Rattle.amx_format.specs.declared.fault.FormatFault.TheVariants.{RecordSize, SizeDiffers, Order}
use Rattle.amx_format.specs.Numbers.{half_at, word_at}
use Rattle.amx_format.specs.declared.header.Header.{Header}
use Rattle.amx_format.specs.Header.{header_of, HasVersions, HasSize, HasOrder}
use Rattle.amx_format.specs.Faults.{IsFirst, IsFreeOfAll, order}
use Rattle.amx_format.specs.File.{IsFile}
use Rattle.amx_format.specs.Layout.{half, word, layout, cells}

-- main alone, which does nothing
abbrev smallest_amx : Amx
smallest_amx = file_of empty_main []

abbrev smallest : List ℕ
smallest =
    80 ∷ 0 ∷ 0 ∷ 0 ∷ 224 ∷ 241 ∷ 8 ∷ 8 ∷ 0 ∷ 0 ∷ 8 ∷ 0 ∷ 60 ∷ 0 ∷ 0 ∷ 0
    ∷ 80 ∷ 0 ∷ 0 ∷ 0 ∷ 80 ∷ 0 ∷ 0 ∷ 0 ∷ 80 ∷ 64 ∷ 0 ∷ 0 ∷ 8 ∷ 0 ∷ 0 ∷ 0
    ∷ 56 ∷ 0 ∷ 0 ∷ 0 ∷ 56 ∷ 0 ∷ 0 ∷ 0 ∷ 56 ∷ 0 ∷ 0 ∷ 0 ∷ 56 ∷ 0 ∷ 0 ∷ 0
    ∷ 56 ∷ 0 ∷ 0 ∷ 0 ∷ 56 ∷ 0 ∷ 0 ∷ 0 ∷ 31 ∷ 0 ∷ 0 ∷ 0 ∷ 120 ∷ 0 ∷ 0 ∷ 0
    ∷ 0 ∷ 0 ∷ 0 ∷ 0 ∷ 46 ∷ 0 ∷ 0 ∷ 0 ∷ 89 ∷ 0 ∷ 0 ∷ 0 ∷ 48 ∷ 0 ∷ 0 ∷ 0 ∷ []

smallest_is_written : layout Plain smallest_amx (cells empty_main) ≡ smallest
unfolding half word
smallest_is_written = refl

-- the size of the whole, which ends with the data
of_eighty : (h : Header) → h.size ≡ 80 → h.hea ≡ 80 → HasSize h 80
of_eighty h size hea = record {
  least = omega (arith, size);
  signed = omega (arith, size);
  within = omega (arith, size);
  whole = λ e. size;
  plain = λ e. size ∙ sym hea;
}

sound : IsFreeOfAll order smallest
unfolding half_at word_at header_of
sound =
    let versions : HasVersions (header_of smallest) =
    record { format = refl; first = omega arith; last = omega arith } in
    let size : HasSize (header_of smallest) 80 = of_eighty (header_of smallest) refl refl in
    let places : HasOrder (header_of smallest) = record {
      tables = record {
        first = omega arith;
        publics = record { rises = omega arith; whole = refl };
        natives = record { rises = omega arith; whole = refl };
        libraries = record { rises = omega arith; whole = refl };
        variables = record { rises = omega arith; whole = refl };
        tags = record { rises = omega arith; whole = refl };
        names = omega arith;
      };
      parts = record {
        code = record { rises = omega arith; whole = refl };
        store = record { rises = omega arith; whole = refl };
        room = record { rises = omega arith; whole = refl };
        memory = omega arith;
        top = omega arith;
        row = λ e. omega arith;
      };
    } in (
      omega arith,
      (
        refl,
        (
          versions,
          (
            refl,
            (
              size,
              (
                places,
                (
                  λ index below. absurd (omega (arith, below)),
                  (λ index below. absurd (omega (arith, below)), tt),
                ),
              ),
            ),
          ),
        ),
      ),
    )

smallest_is_its_file : IsFile smallest smallest_amx
unfolding half_at word_at header_of
smallest_is_its_file = record {
  sound = sound;
  flags = refl;
  version = refl;
  cells = record { code_length = refl; store_length = refl; row = refl };
  room = refl;
  entry = refl;
  publics = refl;
  natives = refl;
  libraries = refl;
  variables = refl;
  tags = refl;
}

empty_is_too_short : IsFirst [] TooShort
empty_is_too_short = inl (λ h. omega (arith, h), refl)

another_magic : IsFirst (slice_set smallest 4 0) Magic
unfolding half_at word_at header_of
another_magic = inr (omega arith, inl (λ e. omega (arith, e), refl))

version_nine : IsFirst (slice_set smallest 7 9) Version
unfolding half_at word_at header_of
version_nine = inr (omega arith, inr (refl, inl (λ h. omega (arith, h.last), refl)))

records_of_twelve : IsFirst (slice_set smallest 10 12) RecordSize
unfolding half_at word_at header_of
records_of_twelve =
    let versions : HasVersions (header_of (slice_set smallest 10 12)) =
    record { format = refl; first = omega arith; last = omega arith } in
    inr (omega arith, inr (refl, inr (versions, inl (λ e. omega (arith, e), refl))))

size_above : IsFirst (slice_set smallest 0 81) SizeDiffers
unfolding half_at word_at header_of
size_above =
    let versions : HasVersions (header_of (slice_set smallest 0 81)) =
    record { format = refl; first = omega arith; last = omega arith } in
    inr (
      omega arith,
      inr (
        refl,
        inr
            (versions, inr (refl, inl (λ h. omega (arith, h.within), refl))),
      ),
    )

-- with a name table at 59
name_table_moved : IsFirst (slice_set smallest 52 59) Order
unfolding half_at word_at header_of
name_table_moved =
    let there : List ℕ = slice_set smallest 52 59 in
    let versions : HasVersions (header_of there) =
    record { format = refl; first = omega arith; last = omega arith } in
    let size : HasSize (header_of there) 80 = of_eighty (header_of there) refl refl in
    inr (
      omega arith,
      inr (
        refl,
        inr
            (versions, inr (refl, inr (size, inl (λ h. omega (arith, h.tables.tags.whole), refl)))),
      ),
    )

-- The header's fields, read back.
use Rattle.std.proofs.Common.{◌≡◌, ◌^◌, ◌<◌, ℕ, ℤ, List, [], ◌++◌, length, refl, ap, ◌∙◌}
use Rattle.std.specs.Prelude.{FitsSigned}
use Rattle.std.specs.Int.{w32, cast_signed, cast_unsigned}
use Rattle.std.proofs.lemmas.Int.{to_z-of_z}
use Rattle.byteorder.specs.Numbers.{little_number-reads_back}
use Rattle.amx_format.specs.declared.header.Header.{Header}
use Rattle.amx_format.specs.Numbers.{half_at, word_at}
use Rattle.amx_format.specs.Header.{header_of}
use Rattle.amx_format.specs.Layout.{half, word, header_bytes}
use Rattle.amx_format.proofs.Numbers.{bits_below}

pub record HeaderFits (h : Header) : Type 0 where
  pub size : h.size < 2 ^ 32
  pub magic : h.magic < 2 ^ 16
  pub flags : h.flags < 2 ^ 16
  pub record_size : h.record_size < 2 ^ 16
  pub cod : h.cod < 2 ^ 32
  pub dat : h.dat < 2 ^ 32
  pub hea : h.hea < 2 ^ 32
  pub stp : h.stp < 2 ^ 32
  pub cip : FitsSigned w32 h.cip
  pub publics : h.publics < 2 ^ 32
  pub natives : h.natives < 2 ^ 32
  pub libraries : h.libraries < 2 ^ 32
  pub variables : h.variables < 2 ^ 32
  pub tags : h.tags < 2 ^ 32
  pub names : h.names < 2 ^ 32

unfoldable make : ℕ → ℕ → ℕ → ℕ → ℕ → ℕ → ℕ → ℕ → ℕ → ℕ → ℤ → ℕ → ℕ → ℕ → ℕ → ℕ → ℕ → Header
make size magic file_version version flags record_size cod dat hea stp cip publics natives libraries
    variables tags names = record {
      size = size;
      magic = magic;
      file_version = file_version;
      version = version;
      flags = flags;
      record_size = record_size;
      cod = cod;
      dat = dat;
      hea = hea;
      stp = stp;
      cip = cip;
      publics = publics;
      natives = natives;
      libraries = libraries;
      variables = variables;
      tags = tags;
      names = names;
    }

made_same : (a b : Header) → a.size ≡ b.size → a.magic ≡ b.magic → a.file_version ≡ b.file_version
    → a.version ≡ b.version → a.flags ≡ b.flags
    → a.record_size ≡ b.record_size → a.cod ≡ b.cod → a.dat ≡ b.dat → a.hea ≡ b.hea → a.stp ≡ b.stp
    → a.cip ≡ b.cip → a.publics ≡ b.publics
    → a.natives ≡ b.natives → a.libraries ≡ b.libraries → a.variables ≡ b.variables
    → a.tags ≡ b.tags → a.names ≡ b.names
    → make a.size a.magic a.file_version a.version a.flags a.record_size a.cod a.dat a.hea a.stp
    a.cip a.publics a.natives a.libraries a.variables a.tags a.names
    ≡ make b.size b.magic b.file_version b.version b.flags b.record_size b.cod b.dat b.hea b.stp
    b.cip b.publics b.natives b.libraries b.variables b.tags b.names
made_same a b size magic file_version version flags record_size cod dat hea stp cip publics natives
    libraries variables tags names = cc

pub length-header : (h : Header) → length (header_bytes h) ≡ 56
unfolding word half
length-header h = refl

pub header_reads : (h : Header) (rest : List ℕ) → HeaderFits h
    → header_of (header_bytes h ++ rest) ≡ h
unfolding word half word_at half_at header_of make
header_reads h rest fits =
    made_same (header_of (header_bytes h ++ rest)) h
    (little_number-reads_back 4 h.size [] fits.size)
    (little_number-reads_back 2 h.magic [] fits.magic)
    refl
    refl
    (little_number-reads_back 2 h.flags [] fits.flags)
    (little_number-reads_back 2 h.record_size [] fits.record_size)
    (little_number-reads_back 4 h.cod [] fits.cod)
    (little_number-reads_back 4 h.dat [] fits.dat)
    (little_number-reads_back 4 h.hea [] fits.hea)
    (little_number-reads_back 4 h.stp [] fits.stp)
    (ap (cast_signed w32) (little_number-reads_back 4 (cast_unsigned w32 h.cip) []
    (bits_below h.cip fits.cip)) ∙ to_z-of_z w32 h.cip fits.cip)
    (little_number-reads_back 4 h.publics [] fits.publics)
    (little_number-reads_back 4 h.natives [] fits.natives)
    (little_number-reads_back 4 h.libraries [] fits.libraries)
    (little_number-reads_back 4 h.variables [] fits.variables)
    (little_number-reads_back 4 h.tags [] fits.tags)
    (little_number-reads_back 4 h.names [] fits.names)

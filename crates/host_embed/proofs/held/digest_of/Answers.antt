use Rattle.std.proofs.Common.{◌≡◌, ◌≤◌, ◌∙◌, ℕ, List, length, take, ap, arith}
use Rattle.std.proofs.lemmas.List.{length-take}
use Rattle.sha2.specs.Sha256.{sha256}
use Rattle.amx_ops.specs.declared.amx.Amx.{Amx}
use Rattle.amx_format.specs.Header.{header_of, HasSize}
use Rattle.amx_format.specs.File.{IsFile}
use Rattle.host_embed.proofs.held.digest_of.Goals as goal

-- the size of a file is within its bytes
within : (bytes : List ℕ) (amx : Amx) (size : ℕ) → IsFile bytes amx → size ≡ (header_of bytes).size
    → size ≤ length bytes
within bytes amx size file e =
    let has : HasSize (header_of bytes) (length bytes) = file.sound.1.1.1.1.0 in
    omega (arith, e, has.within)

pub slice_bounds-digest-end : goal.slice_bounds-digest-end
slice_bounds-digest-end c =
    let h =
    within c.args.bytes.now c.requires.0 c.file_size-size.result c.requires.1
    c.file_size-size.ensures in
    omega (arith, h, length-take c.file_size-size.result c.args.bytes.now)

pub returns : goal.returns
returns c = c.digest.ensures ∙ ap (λ n. sha256 (take n c.args.bytes.now)) c.file_size-size.ensures

-- The versions of images by their numbers.
use Rattle.std.specs.Prelude.{ℕ, ◌==◌, Option, None, Some, if◌then◌else◌}
use Rattle.amx_image.specs.declared.version.Version.{Version}
use Rattle.amx_image.specs.declared.version.Version.TheVariants.{Whole, Live}
use Rattle.amx_image.specs.declared.version.TheConstants.{WHOLE, LIVE}

-- as an image holds it
abbrev pub version_number : Version → ℕ
version_number Whole = WHOLE
version_number Live = LIVE

-- the version with a number
abbrev pub version_of : ℕ → Option Version
version_of number =
    if number == WHOLE then Some Whole else if number == LIVE then Some Live else None

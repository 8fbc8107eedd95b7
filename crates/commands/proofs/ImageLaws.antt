-- An image is read as the state that it is of.
use Rattle.std.proofs.Common.{ℕ, List, sym, subst}
use Rattle.amx_image.proofs.ImageLaws.{one_state}
use Rattle.commands.specs.Restored.{IsImageOf}
use Rattle.commands.specs.GoodImage.{GoodImagesAreRead}
use Rattle.commands.proofs.GoodLaws.{read_free, same_bytes}

pub good_images : GoodImagesAreRead
good_images = record {
  read = λ map name program s position stop it none. read_free map name _ stop it none;
  taken = λ program bytes s position is none. none s position is;
  same = λ map name program s t p q it that.
      let P : List ℕ → Type 0 = λ b. IsImageOf program b t q in
      let there = subst P (same_bytes map name it that) that.is in
      let same =
      one_state program.file it.is.version there.version s t p q program.digest it.bytes
      it.is.restorable there.restorable it.is.image there.image in
      (sym same.1, sym same.2);
}

use Rattle.amx_image.proofs.ImageLaws.{one_state}
use Rattle.amx_image.proofs.images.an_image_is_of_one_state.Goals as goal

pub returns : goal.returns
returns c = one_state

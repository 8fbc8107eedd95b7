use Rattle.std.proofs.Common.{refl, ◌∙◌}
use Rattle.check_locals.proofs.ToldLaws.{tells}
use Rattle.check_declarations.proofs.PlaceLaws.{place_is}
use Rattle.check_declarations.proofs.ToldLaws.{judged_told}
use Rattle.check_declarations.proofs.enumerations.EnumAt.tell.Goals as goal

pub returns-clause-tells : goal.returns-clause-tells
returns-clause-tells c =
    rw (c.told.ensures, ← c.tag_of-tag.ensures) (tells _ _ _ c.enumeration-result.ensures.verdict)

pub returns-clause-behind : goal.returns-clause-behind
returns-clause-behind c =
    rw (← c.tag_of-tag.ensures) (judged_told _ _ _ _ c.told.ensures
    c.enumeration-result.ensures.scope
    (λ e. place_is _ _ e refl refl))

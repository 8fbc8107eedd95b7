use Rattle.std.proofs.Common.{◌∙◌, true, false, None, Some, refl, sym, arith, length, ne_eqb}
use Rattle.std.proofs.Common.{eq-eqb}
use Rattle.amx_text.proofs.FoundLaws.{lines_fault}
use Rattle.amx_text.proofs.draft.Draft.find_fault.Goals as goal

pub returns-then-not-is_within : goal.returns-then-not-is_within
returns-then-not-is_within c =
    lines_fault c.args.self.now false _ _ _ (sym c.is_within.ensures ∙ c.if-not-is_within.true)
    refl refl refl

pub overflow_cast-result : goal.overflow_cast-result
overflow_cast-result c =
    omega (arith, c.requires.misplaced c.in-Some.before c.in-Some.is, c.requires.lines)

pub overflow_add-result : goal.overflow_add-result
overflow_add-result c =
    omega (arith, c.requires.misplaced c.in-Some.before c.in-Some.is, c.requires.lines)

pub returns-in-Some : goal.returns-in-Some
returns-in-Some c =
    lines_fault c.args.self.now true _ _ (Some c.in-Some.before)
    (sym c.is_within.ensures ∙ c.if-not-is_within.false) c.in-Some.is refl refl

pub returns-then-len-from : goal.returns-then-len-from
returns-then-len-from c =
    lines_fault c.args.self.now true false _ None
    (sym c.is_within.ensures ∙ c.if-not-is_within.false) c.in_default.is
    (ne_eqb (length c.args.self.now.amx.code) c.args.self.now.code
    (omega (arith, c.if-len-from.true, c.len.ensures, c.from.ensures))) refl

pub returns-then-len-from-2 : goal.returns-then-len-from-2
returns-then-len-from-2 c =
    lines_fault c.args.self.now true true false None
    (sym c.is_within.ensures ∙ c.if-not-is_within.false) c.in_default.is
    (eq-eqb (length c.args.self.now.amx.code) c.args.self.now.code
    (omega (arith, c.if-len-from.false, c.len.ensures, c.from.ensures)))
    (ne_eqb (length c.args.self.now.amx.store) c.args.self.now.store
    (omega (arith, c.if-len-from-2.true, c.len-2.ensures, c.from-2.ensures)))

pub returns : goal.returns
returns c =
    lines_fault c.args.self.now true true true None
    (sym c.is_within.ensures ∙ c.if-not-is_within.false) c.in_default.is
    (eq-eqb (length c.args.self.now.amx.code) c.args.self.now.code
    (omega (arith, c.if-len-from.false, c.len.ensures, c.from.ensures)))
    (eq-eqb (length c.args.self.now.amx.store) c.args.self.now.store
    (omega (arith, c.if-len-from-2.false, c.len-2.ensures, c.from-2.ensures)))

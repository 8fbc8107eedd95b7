use Rattle.std.proofs.Common.{◌≡◌, ◌<◌, ℕ, List, ◌∷◌, refl, ap, ◌∙◌, sym, arith}
use Rattle.std.proofs.Math.Seq.{drop-cons}
use Rattle.std.proofs.lemmas.Bool.{lt-ltb}
use Rattle.host_script.specs.declared.script.TheConstants.{CELL_LIMIT}
use Rattle.script_reader.specs.Forms.{count_of}
use Rattle.script_reader.proofs.forms.count.Goals as goal

stops : (v d : ℕ) (ds : List ℕ) → CELL_LIMIT < v → count_of v (d ∷ ds) ≡ v
stops v d ds h = rw (lt-ltb CELL_LIMIT v h) refl

pub returns-then-value-gt-CELL_LIMIT : goal.returns-then-value-gt-CELL_LIMIT
returns-then-value-gt-CELL_LIMIT c =
    sym (c.loop-digit.invariant ∙ ap (count_of c.loop-digit.value)
    (drop-cons c.args.digits.now c.loop-digit.digit-index 0 (omega arith))
    ∙ stops _ _ _ c.if-value-gt-CELL_LIMIT.true)

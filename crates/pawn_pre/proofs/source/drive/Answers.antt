use Rattle.std.proofs.Common.{◌∙◌, Err, ap}
use Rattle.std.proofs.lemmas.Result.{err_from_is_err_and}
use Rattle.pawn_outside.proofs.OnlyReadLaws.{read_as, read_nothing, read_then}
use Rattle.pawn_pre.specs.ConditionMachine.{value_of}
use Rattle.pawn_pre.proofs.WalkLaws.{goes, stops, blames}
use Rattle.pawn_pre.proofs.source.drive.Goals as goal

pub loop-walk-init : goal.loop-walk-init
loop-walk-init g c = record {
  read = read_nothing c.args.files.now;
  leads = λ map h o ends. ends;
  sound = λ k. k;
}

pub loop-walk-preserved : goal.loop-walk-preserved
loop-walk-preserved g c = record {
  read =
      read_then c.loop-walk.invariant.read
      (read_as (λ e. absurd e) (λ e. absurd (cc e)) c.in-Ok-true.ensures.files);
  leads = λ map h o ends. c.loop-walk.invariant.leads map h o
      (goes value_of map _ _ o (rw c.in-Ok-true.field-0-test at
      (c.in-Ok-true.ensures.says map (c.loop-walk.invariant.read.same ∙ h))) ends);
  sound =
      λ k. rw c.in-Ok-true.field-0-test at
      (c.in-Ok-true.ensures.bounds (c.loop-walk.invariant.sound k));
}

pub returns-in-Ok-false-clause-ends : goal.returns-in-Ok-false-clause-ends
returns-in-Ok-false-clause-ends g c = λ map h.
    let stopped =
    rw c.in-Ok-false.field-0-test at
    (c.in-Ok-false.ensures.says map (c.loop-walk.invariant.read.same ∙ h)) in
    rw c.in_ok-lines-in-Ok-false.ensures (c.loop-walk.invariant.leads map h _
    (stops value_of map _ _ stopped))

pub returns-in-Err-clause-ends : goal.returns-in-Err-clause-ends
returns-in-Err-clause-ends g c = λ map h.
    blames value_of map c.args.walk _ _ c.in-Err.fault (c.loop-walk.invariant.leads map h)
    (c.in-Err.ensures.says map (c.loop-walk.invariant.read.same ∙ h))

pub returns-in-Ok-false-clause-bounds : goal.returns-in-Ok-false-clause-bounds
returns-in-Ok-false-clause-bounds g c = λ k.
    rw c.in_ok-lines-in-Ok-false.ensures (rw c.in-Ok-false.field-0-test at
    (c.in-Ok-false.ensures.bounds (c.loop-walk.invariant.sound k)))

pub returns-in-Ok-false-clause-files : goal.returns-in-Ok-false-clause-files
returns-in-Ok-false-clause-files g c =
    read_then c.loop-walk.invariant.read
    (read_as (λ e. absurd (cc e)) (λ e. absurd (cc e)) c.in-Ok-false.ensures.files)

pub returns-in_err-lines-in-Ok-false-clause-files : goal.returns-in_err-lines-in-Ok-false-clause-files
returns-in_err-lines-in-Ok-false-clause-files g c =
    let p = err_from_is_err_and c.from_residual.result c.from_residual.ensures.1 in
    rw (p.1, p.2) (read_then c.loop-walk.invariant.read
    (read_as (λ e. absurd (cc e)) (λ e. absurd (cc e)) c.in-Ok-false.ensures.files))

pub returns-in-Err-clause-files : goal.returns-in-Err-clause-files
returns-in-Err-clause-files g c =
    read_then c.loop-walk.invariant.read
    (read_as (λ e. ap Err (cc e)) (λ e. ap Err (cc e)) c.in-Err.ensures.files)

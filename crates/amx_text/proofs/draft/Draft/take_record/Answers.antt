use Rattle.std.proofs.Common.{refl}
use Rattle.std.proofs.lemmas.Result.{err_from_is_err_and}
use Rattle.amx_text.proofs.TakeLaws.{no_kind, no_record}
use Rattle.amx_text.proofs.PutLaws.{record_put}
use Rattle.amx_text.proofs.draft.Draft.take_record.Goals as goal

pub returns-in_default : goal.returns-in_default
returns-in_default c = record {
  none = no_kind c.args.from c.args.text.now c.in_default.ensures;
  lines = refl;
  last = refl;
}

pub returns-in_err-entry : goal.returns-in_err-entry
returns-in_err-entry c =
    let p = err_from_is_err_and c.from_residual.result c.from_residual.ensures.1 in rw p.1 tt

pub returns-in_default-2 : goal.returns-in_default-2
returns-in_default-2 c =
    let none = rw c.in_default-2.is at c.in_ok-entry.ensures in
    record {
      none =
          no_record c.args.from c.in-Some.kind c.args.text.now c.in-Some.rest.now
          c.in-Some.ensures (λ it rest fits is. none it rest fits is);
      lines = refl;
      last = refl;
    }

pub returns-in_err-put_record : goal.returns-in_err-put_record
returns-in_err-put_record c =
    let p =
    err_from_is_err_and c.from_residual-in_err-put_record.result
    c.from_residual-in_err-put_record.ensures.1 in
    rw p.1 tt

pub returns : goal.returns
returns c =
    let read = rw c.in-Some-2.is at c.in_ok-entry.ensures in
    record_put c.args.from c.in-Some.kind c.in-Some-2.entry c.args.text.now c.in-Some.rest.now
    c.in-Some-2.rest.now c.args.self.now c.put_record.new.self _ c.in-Some.ensures read
    c.in_ok-put_record.ensures c.end_line.ensures

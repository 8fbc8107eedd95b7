use Rattle.std.proofs.Common.{inl, subst, Option, refl}
use Rattle.std.proofs.lemmas.Result.{err_from_is_err_and}
use Rattle.pawn_outside.specs.Held.{Held}
use Rattle.command_parts.specs.Program.{IsDigested, IsProgramRead, no_file}
use Rattle.command_parts.specs.ScriptFile.{IsScriptNamed}
use Rattle.command_parts.specs.ValidFile.{Broken}
use Rattle.command_parts.proofs.ReadCallLaws.{handed, only_handed, only_other, only_then}
use Rattle.command_parts.proofs.ReadLaws.{read_is, stops_so, script_stops}
use Rattle.command_parts.proofs.ValidLaws.{bytes_no_fault}
use Rattle.command_parts.proofs.program.read_program.Goals as goal

pub returns-in_err-bytes-clause-calls : goal.returns-in_err-bytes-clause-calls
returns-in_err-bytes-clause-calls g c =
    only_handed c.from_residual.result c.from_residual.ensures.1 refl c.in_err-bytes.ensures.calls

pub returns-in_err-bytes-clause-answer : goal.returns-in_err-bytes-clause-answer
returns-in_err-bytes-clause-answer g c =
    handed (IsProgramRead (g.F.Files.held c.args.files.now) c.args.amx.now c.args.script.now)
    c.from_residual.result c.from_residual.ensures.1 (no_file (inl c.in_err-bytes.ensures.answer))

pub returns-in_err-digested-clause-calls : goal.returns-in_err-digested-clause-calls
returns-in_err-digested-clause-calls g c =
    let p =
    err_from_is_err_and c.from_residual-in_err-digested.result
    c.from_residual-in_err-digested.ensures.1 in
    only_other (λ e. bytes_no_fault c.in_err-digested.ensures (cc (p.1, p.2, e)))
    c.in_ok-bytes.ensures.calls

pub returns-in_err-digested-clause-answer : goal.returns-in_err-digested-clause-answer
returns-in_err-digested-clause-answer g c =
    let p =
    err_from_is_err_and c.from_residual-in_err-digested.result
    c.from_residual-in_err-digested.ensures.1 in
    rw (p.1, p.2)
    (no_file (stops_so c.in_ok-bytes.ensures.answer c.as_slice.ensures (λ b. Broken b _) _
    c.in_err-digested.ensures))

pub returns-in_err-script-clause-calls : goal.returns-in_err-script-clause-calls
returns-in_err-script-clause-calls g c =
    only_then c.in_ok-bytes.ensures.calls
    (only_handed c.from_residual-in_err-script.result c.from_residual-in_err-script.ensures.1 refl
    c.in_err-script.ensures.calls)

pub returns-in_err-script-clause-answer : goal.returns-in_err-script-clause-answer
returns-in_err-script-clause-answer g c =
    let file = c.in_ok-digested.digested in
    handed (IsProgramRead (g.F.Files.held c.args.files.now) c.args.amx.now c.args.script.now)
    c.from_residual-in_err-script.result c.from_residual-in_err-script.ensures.1
    (script_stops _ _ c.args.amx.now c.args.script.now _ file.file file.digest
    c.in_ok-bytes.ensures.calls.same
    (read_is c.in_ok-bytes.ensures.answer c.as_slice.ensures
    (λ b. IsDigested b file.file file.digest) c.in_ok-digested.ensures)
    c.in_err-script.ensures.answer)

pub returns-clause-calls : goal.returns-clause-calls
returns-clause-calls g c =
    only_then c.in_ok-bytes.ensures.calls
    (only_other (λ e. absurd (cc e)) c.in_ok-script.ensures.calls)

pub returns-clause-answer : goal.returns-clause-answer
returns-clause-answer g c =
    let file = c.in_ok-digested.digested in
    record {
      good =
          record {
            file =
                read_is c.in_ok-bytes.ensures.answer c.as_slice.ensures
                (λ b. IsDigested b file.file file.digest) c.in_ok-digested.ensures;
            natives =
                subst
                (λ (held : Option Held). IsScriptNamed held c.args.script.now
                c.in_ok-script.script)
                c.in_ok-bytes.ensures.calls.same c.in_ok-script.ensures.answer;
          };
      bytes = rw c.as_slice.ensures at c.in_ok-digested.ensures.valid.file;
    }

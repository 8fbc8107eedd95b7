-- The names that `run` and the `resume`s behind it have in common, and the words with them.
use Rattle.std.specs.Prelude.{◌≢◌, ℕ, List, false}
use Rattle.command_parts.specs.declared.command.ResumeWords.{ResumeWords}
use Rattle.command_parts.specs.declared.command.RunWords.{RunWords}

-- those of a file, of a script, and of an image that is put over neither
pub record Names : Type 0 where
  pub amx : List ℕ
  pub script : List ℕ
  pub image : List ℕ
  pub not_amx : image ≢ amx
  pub not_script : image ≢ script

-- the words of `run`, with a bound and an entry; steps aren't told
abbrev pub run_words : Names → ℕ → List ℕ → RunWords
run_words names steps entry = record {
  amx = names.amx;
  script = names.script;
  image = names.image;
  steps = steps;
  entry = entry;
  count = false;
}

-- and of `resume`
abbrev pub resume_words : Names → ℕ → ResumeWords
resume_words names steps = record {
  amx = names.amx;
  script = names.script;
  image = names.image;
  steps = steps;
  count = false;
}

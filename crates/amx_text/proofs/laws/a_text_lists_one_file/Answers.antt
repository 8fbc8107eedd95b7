use Rattle.amx_text.proofs.NameLaws.{names_differ}
use Rattle.amx_text.proofs.AnswerLaws.{a_text_lists_one_file, a_text_has_one_answer}
use Rattle.amx_text.proofs.BackLaws.{what_is_listed_is_assembled}
use Rattle.amx_text.proofs.laws.a_text_lists_one_file.Goals as goal

pub returns : goal.returns
returns c = record {
  one = a_text_lists_one_file;
  answers = a_text_has_one_answer;
  back = what_is_listed_is_assembled;
  names = names_differ;
}

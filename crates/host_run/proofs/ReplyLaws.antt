-- A call of a native, step by step, up to its answer.
use Rattle.std.proofs.Common.{◌≡◌, ◌<◌, ℕ, ℤ, List, [], Bool, true, false, All, Option, None, Some}
use Rattle.std.proofs.Common.{length, map, refl, ap, subst, ◌∙◌}
use Rattle.std.specs.Prelude.{is_some, option_map, unwrap_or}
use Rattle.std.specs.List.{list_all}
use Rattle.host_script.specs.declared.script.Script.{Script}
use Rattle.host_script.specs.declared.script.Form.{Form}
use Rattle.host_script.specs.declared.script.Write.{Write}
use Rattle.host_script.specs.declared.script.Answer.{Answer}
use Rattle.host_script.specs.declared.script.Answer.TheVariants.{Given, Error}
use Rattle.host_script.specs.declared.event.Event.TheVariants as event
use Rattle.host_script.specs.NativeCall.{Fault, Ends_there, Answers, native_error, called_by}
use Rattle.host_script.specs.NativeCall.{called_with, called_on, answered, see_all}
use Rattle.host_script.specs.Script.{Turn, forms_from, turn_by}
use Rattle.amx_ops.specs.State.{State}
use Rattle.amx_ops.specs.Moves.{arguments, look}
use Rattle.host_run.specs.Guest.{form_at, formed}
use Rattle.host_run.specs.Sights.{arguments_of, all_seen, sought, is_allowed, put_of}
use Rattle.host_run.specs.Called.{called_for, called_of}
use Rattle.host_run.proofs.FormLaws.{formed_is}
use Rattle.host_run.specs.Reply.{IsAnswered}
use Rattle.host_run.proofs.SightLaws.{all_is, some_blind, puts_some, puts_none, counted_is}
use Rattle.host_run.proofs.SightLaws.{all_there, all_room}

not_some : {A : Type 0} (o : Option A) → is_some o ≡ false → o ≡ None
not_some None h = refl
not_some (Some a) h = absurd (cc h)

-- ---- arguments that can be read

pub unread : (s : State) → option_map (length {A = ℤ}) (arguments s) ≡ None → arguments s ≡ None
unread s h = by (arguments s) h where
  by : (o : Option (List ℤ)) → option_map (length {A = ℤ}) o ≡ None → o ≡ None
  by None e = refl
  by (Some values) e = absurd (cc e)

module _ (script : Script) (forms : List Form) (rest : Option Form) (result : Option ℤ)
    (name : List ℕ) (s : State) (position : ℕ) where
  abbrev turn : Turn
  turn = turn_by result script position

  pub none_read : arguments s ≡ None → called_of script forms rest result name s position
      ≡ Ends_there native_error position
  none_read e = ap (called_for script forms rest result name s position) e

  module _ (values : List ℤ) (read : arguments s ≡ Some values) where
    by_forms : (o : Option (List Form)) → forms_from forms rest (length values) ≡ o
        → called_of script forms rest result name s position
        ≡ called_on (look s) name values position turn o
    by_forms o e =
        ap (called_for script forms rest result name s position) read
        ∙ ap (called_on (look s) name values position turn) e

    pub refused : is_some (forms_from forms rest (length values)) ≡ false
        → called_of script forms rest result name s position ≡ Ends_there native_error position
    refused h = by_forms None (not_some (forms_from forms rest (length values)) h)

    module _ (takes : is_some (forms_from forms rest (length values)) ≡ true) where
      by_sights : called_of script forms rest result name s position
          ≡ called_with name position turn
          (see_all (look s) values (formed (form_at forms rest) 0 values))
      by_sights =
          by_forms (Some (formed (form_at forms rest) 0 values)) (formed_is forms rest values takes)

      pub unseen : all_seen s (form_at forms rest) 0 values ≡ false
          → called_of script forms rest result name s position ≡ Ends_there native_error position
      unseen h =
          by_sights ∙ ap (called_with name position turn)
          (some_blind s (form_at forms rest) 0 values h)

      module _ (visible : all_seen s (form_at forms rest) 0 values ≡ true) where
        by_answer : (answer : Answer) → turn.answer ≡ answer
            → called_of script forms rest result name s position
            ≡ called_by name (sought s (form_at forms rest) 0 values) answer turn.position
        by_answer answer e =
            by_sights ∙ ap (called_with name position turn)
            (all_is s (form_at forms rest) 0 values visible)
            ∙ ap (λ a. called_by name (sought s (form_at forms rest) 0 values) a turn.position) e

        pub errs : (code : ℤ) → turn.answer ≡ Error code
            → called_of script forms rest result name s position
            ≡ Ends_there (Fault code) turn.position
        errs code e = by_answer (Error code) e

        module _ (value : ℤ) (writes : List Write) (given : turn.answer ≡ Given value writes) where
          pub forbidden : list_all (is_allowed (form_at forms rest) (length values)) writes ≡ false
              → called_of script forms rest result name s position
              ≡ Ends_there native_error turn.position
          forbidden h =
              by_answer (Given value writes) given
              ∙ ap (answered name (sought s (form_at forms rest) 0 values) value turn.position)
              (puts_none s (form_at forms rest) values visible writes h)

          pub answers : list_all (is_allowed (form_at forms rest) (length values)) writes ≡ true
              → called_of script forms rest result name s position
              ≡ Answers (event.Native name (map (λ it. it.seen)
              (sought s (form_at forms rest) 0 values)) value) value turn.position
              (map (put_of values) writes)
          answers h =
              by_answer (Given value writes) given
              ∙ ap (answered name (sought s (form_at forms rest) 0 values) value turn.position)
              (puts_some s (form_at forms rest) values visible writes h)

-- ---- by the count of the arguments

read_by : (o : Option (List ℤ)) (count : ℕ) → option_map (length {A = ℤ}) o ≡ Some count
    → o ≡ Some (unwrap_or o [])
read_by None count e = absurd (cc e)
read_by (Some values) count e = refl

module _ (script : Script) (forms : List Form) (rest : Option Form) (result : Option ℤ)
    (name : List ℕ) (s : State) (position count : ℕ)
    (counted : option_map (length {A = ℤ}) (arguments s) ≡ Some count) where
  read : arguments s ≡ Some (arguments_of s)
  read = read_by (arguments s) count counted

  size : length (arguments_of s) ≡ count
  size = counted_is s count counted

  pub not_taken : is_some (forms_from forms rest count) ≡ false
      → called_of script forms rest result name s position ≡ Ends_there native_error position
  not_taken h =
      refused script forms rest result name s position (arguments_of s) read
      (ap (λ n. is_some (forms_from forms rest n)) size ∙ h)

  module _ (takes : is_some (forms_from forms rest count) ≡ true) where
    so_taken : is_some (forms_from forms rest (length (arguments_of s))) ≡ true
    so_taken = ap (λ n. is_some (forms_from forms rest n)) size ∙ takes

    pub not_seen : all_seen s (form_at forms rest) 0 (arguments_of s) ≡ false
        → called_of script forms rest result name s position ≡ Ends_there native_error position
    not_seen h = unseen script forms rest result name s position (arguments_of s) read so_taken h

    module _ (visible : all_seen s (form_at forms rest) 0 (arguments_of s) ≡ true) where
      pub an_error : (code : ℤ) → (turn_by result script position).answer ≡ Error code
          → called_of script forms rest result name s position
          ≡ Ends_there (Fault code) (turn_by result script position).position
      an_error code e =
          errs script forms rest result name s position
          (arguments_of s) read so_taken visible code e

      module _ (value : ℤ) (writes : List Write)
          (given : (turn_by result script position).answer ≡ Given value writes) where
        allowed_by : (b : Bool) → list_all (is_allowed (form_at forms rest) count) writes ≡ b
            → list_all (is_allowed (form_at forms rest) (length (arguments_of s))) writes ≡ b
        allowed_by b h = ap (λ n. list_all (is_allowed (form_at forms rest) n) writes) size ∙ h

        pub not_allowed : list_all (is_allowed (form_at forms rest) count) writes ≡ false
            → called_of script forms rest result name s position
            ≡ Ends_there native_error (turn_by result script position).position
        not_allowed h =
            forbidden script forms rest result name s position
            (arguments_of s) read so_taken visible value writes given (allowed_by false h)

        pub answered_so : list_all (is_allowed (form_at forms rest) count) writes ≡ true
            → IsAnswered name (form_at forms rest) s
            (called_of script forms rest result name s position)
            (turn_by result script position).position count value writes
        answered_so h = record {
          counted = counted;
          visible = visible;
          answers =
              answers script forms rest result name s position
              (arguments_of s) read so_taken visible value writes given (allowed_by true h);
          there =
              subst (λ n. All (λ write. write.arg < n) writes) size
              (all_there s (form_at forms rest) (arguments_of s) visible writes
              (allowed_by true h));
          room =
              all_room s (form_at forms rest) (arguments_of s) visible writes (allowed_by true h);
        }

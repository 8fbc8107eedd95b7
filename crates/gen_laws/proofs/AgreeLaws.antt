-- A file's trace agrees with the program's meaning.
use Rattle.std.proofs.Common.{◌≡◌, ◌*◌, ◌^◌, ◌<◌, ◌≤◌, ◌⊎◌, inl, inr, ℕ, ℤ, pos}
use Rattle.std.proofs.Common.{List, [], ◌∷◌, Option, Some, length, slice_get, refl, sym}
use Rattle.std.proofs.Common.{subst, arith}
use Rattle.std.proofs.lemmas.Bool.{cases_lt}
use Rattle.pawn_cells.specs.Cells.{bits_of}
use Rattle.host_script.specs.declared.script.Script.{Script}
use Rattle.host_script.specs.declared.event.End.{End}
use Rattle.host_script.specs.declared.event.End.TheVariants.{Error}
use Rattle.host_script.specs.Ranges.{IsScript}
use Rattle.pawn_meaning.specs.Program.{Program}
use Rattle.pawn_meaning.specs.Run.{Outcome}
use Rattle.pawn_meaning.specs.World.{Entry, first_world}
use Rattle.pawn_meaning.specs.Told.{meaning, events_of, scene_of, whole}
use Rattle.pawn_meaning.proofs.RunLaws.{runs_extend_lem, runs_grow_lem}
use Rattle.amx_ops.specs.declared.amx.Amx.{Amx}
use Rattle.amx_ops.specs.Runs.{Traced, Steps, Over_by, joined}
use Rattle.amx_ops.specs.State.{State}
use Rattle.amx_ops.specs.Moves.{Config, move}
use Rattle.amx_ops.specs.Trace.{loaded, begun, trace_by, trace_from}
use Rattle.amx_ops.proofs.CutLaws.{joined_cut}
use Rattle.gen_agrees.specs.Agrees.{IsRoom}
use Rattle.gen_agrees.specs.AgreesOn.{Meanings, Mark, is_cut, AgreesOn}
use Rattle.gen_sim.proofs.Fronts.{said_more}
use Rattle.gen_sim.proofs.Marks.{mark_of, marked}
use Rattle.gen_sim.proofs.Final as final
use Rattle.gen_sim.specs.View.{all_cells}
use Rattle.gen_sim.specs.Stands.{Stands}
use Rattle.gen_sim.specs.Site.{IsSite}
use Rattle.gen_laws.specs.FunctionCode.{HasFunctions}
use Rattle.gen_laws.specs.FilesAgree.{IsFileOf, site_of}
use Rattle.gen_laws.proofs.FirstLaws.{first_view, Started, store_count, starts, fails}
use Rattle.gen_laws.proofs.EntryRuns.{whole_does}

-- ---- the start finds no room

pub record FirstMark (entries : List Entry) (last : Mark) : Type 0 where
  pub mark : Mark
  pub first : slice_get (marked entries last) 0 ≡ Some mark

first_mark : (entries : List Entry) (last : Mark) → FirstMark entries last
first_mark [] last = record { mark = last; first = refl }
first_mark (entry ∷ entries) last = record { mark = mark_of entry; first = refl }

no_start : (means : Meanings) (cells room bound : ℕ) (c : Config) → room < 2 → c.events ≡ []
    → AgreesOn means cells room (record
    { stop = Over_by (Error (pos 3)); config = c; bound = bound; steps = 0 })
no_start means cells room bound c h e =
    let told = means 0 in
    let first =
    first_mark told.entries (record
    { turns = told.turns; peak = told.peak; is_cut = is_cut told.last }) in
    record {
      prefix =
          inl (record {
            limit = 0;
            first = rw e
                (record { rest = events_of told.entries; all_is = refl });
          });
      end = λ x is never. elim (never (ends x is)) [ ];
      stack =
          λ is. inr (inr (record {
            limit = 0;
            mark = first.mark;
            next = rw e first.first;
            deep = omega (arith, h);
          }));
      steps = λ is. elim (clash is) [ ];
    }
  where
    ends : (x : End) → Over_by (Error (pos 3)) ≡ Over_by x → x ≡ Error (pos 3)
    ends x is = cc

    clash : Over_by (Error (pos 3)) ≡ Steps → ⊥
    clash is = cc

-- ---- all of it

module _ (program : Program) (amx : Amx) (entry : ℕ → ℕ) (is : IsFileOf program amx entry)
    (script : Script) (room : ℕ) (keeps : IsScript script)
    (within : IsRoom amx room) (f : ℕ) (address : ℤ) (here : bits_of address ≡ entry f) (bound : ℕ)
    (bounds : List ℕ) where
  abbrev code : ℕ
  code = length amx.code

  abbrev outs : ℕ → Outcome ⊥
  outs limit = whole (scene_of program script limit) f

  site : (limit : ℕ) → IsSite (site_of program amx entry script room limit)
  site limit = record {
    valid = is.valid;
    data_is = store_count program amx entry is room address;
    natives = is.natives;
    numbered = is.numbered;
    small = omega (arith, within);
    script_keeps = keeps;
  }

  has : (limit : ℕ) → HasFunctions (site_of program amx entry script room limit)
  has limit = record {
    site = site limit;
    few = is.few;
    lie =
        λ g function there. let it = is.lie script room limit g function there in
        (it.0, omega (arith, it.1));
  }

  small : 4 * all_cells program room < 2 ^ 31
  small = omega (arith, within, store_count program amx entry is room address)

  with_room : (st : Started program amx entry is room address)
      → AgreesOn (meaning program script f) code room
      (joined (move amx script) bound bounds (begun st.state))
  with_room st =
      final.agrees (move amx script) code room (begun st.state) (said_more amx script) program outs
      (λ limit. whole_does (site_of program amx entry script room limit) (has limit) is.first
      (λ g function there. (is.lie script room limit g function there).1) f (begun st.state)
      (subst (λ q. Stands program room first_view (pos 0 ∷ pos 0 ∷ []) q (first_world program)
      (begun st.state)) here st.stands))
      (λ t m least. runs_extend_lem t m least program script f)
      (λ m. runs_grow_lem.programs program script m f) (bound ∷ bounds)
      (joined (move amx script) bound bounds (begun st.state))
      (joined_cut (move amx script) bound bounds (begun st.state))

  abbrev traced_by : Option State → Traced Config End
  traced_by o = trace_by amx script (loaded amx room) o bound bounds

  by_room : (room < 2) ⊎ (2 ≤ room)
      → AgreesOn (meaning program script f) code room
      (trace_from amx room script address bound bounds)
  by_room (inl few) =
      subst (λ o. AgreesOn (meaning program script f) code room (traced_by o))
      (sym (fails program amx entry is room address few))
      (no_start (meaning program script f) code room bound (begun (loaded amx room)) few refl)
  by_room (inr enough) =
      let st = starts program amx entry is room address small enough in
      subst (λ o. AgreesOn (meaning program script f) code room (traced_by o)) (sym st.is_it)
      (with_room st)

  pub file_agrees : AgreesOn (meaning program script f) code room
      (trace_from amx room script address bound bounds)
  file_agrees = by_room (cases_lt room 2)

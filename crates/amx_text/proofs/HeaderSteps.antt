-- How the header is read part by part, and where there is none.
use Rattle.std.proofs.Common.{◌≡◌, ◌∙◌, ◌&&◌, ℕ, ℤ, List, Bool, cond, Option, None, Some, codes, ap}
use Rattle.std.specs.Prelude.{option_and_then}
use Rattle.amx_text.specs.Lines.{Header}
use Rattle.amx_text.specs.Readers.{after_word, cell_at, field_at, fits_flags, fits_version}
use Rattle.amx_text.specs.Readers.{header_end, entry_at, room_at, store_at, code_at, version_at}
use Rattle.amx_text.specs.Readers.{header_at}

-- the header of its parts
abbrev made : ℕ → ℕ → ℕ → ℕ → ℕ → ℤ → Header
made flags version code store room entry = record {
  flags = flags;
  version = version;
  code = code;
  store = store;
  room = room;
  entry = entry;
}

-- what the entry's cell gives
abbrev with_entry : ℕ → ℕ → ℕ → ℕ → ℕ → ℤ × List ℕ → Option (Header × List ℕ)
with_entry flags version code store room found =
    header_end (made flags version code store room found.0) found.1

-- where it fits
abbrev fitting : Bool → Header → List ℕ → Option (Header × List ℕ)
fitting fits it rest = cond fits (Some (it, rest)) None

module _ (text : List ℕ) where
  pub no_flags : field_at (codes "amx flags ") text ≡ None → header_at text ≡ None
  no_flags e = ap (option_and_then version_at) e

  module _ {flags : ℕ} {a : List ℕ}
      (k : field_at (codes "amx flags ") text ≡ Some (flags, a)) where
    from_flags : header_at text ≡ version_at (flags, a)
    from_flags = ap (option_and_then version_at) k

    pub no_version : field_at (codes " version ") a ≡ None → header_at text ≡ None
    no_version e = from_flags ∙ ap (option_and_then (code_at flags)) e

    module _ {version : ℕ} {b : List ℕ}
        (l : field_at (codes " version ") a ≡ Some (version, b)) where
      from_version : header_at text ≡ code_at flags (version, b)
      from_version = from_flags ∙ ap (option_and_then (code_at flags)) l

      pub no_code : field_at (codes " code ") b ≡ None → header_at text ≡ None
      no_code e = from_version ∙ ap (option_and_then (store_at flags version)) e

      module _ {code : ℕ} {c : List ℕ} (m : field_at (codes " code ") b ≡ Some (code, c)) where
        from_code : header_at text ≡ store_at flags version (code, c)
        from_code = from_version ∙ ap (option_and_then (store_at flags version)) m

        pub no_store : field_at (codes " data ") c ≡ None → header_at text ≡ None
        no_store e = from_code ∙ ap (option_and_then (room_at flags version code)) e

        module _ {store : ℕ} {d : List ℕ}
            (n : field_at (codes " data ") c ≡ Some (store, d)) where
          from_store : header_at text ≡ room_at flags version code (store, d)
          from_store = from_code ∙ ap (option_and_then (room_at flags version code)) n

          pub no_room : field_at (codes " room ") d ≡ None → header_at text ≡ None
          no_room e = from_store ∙ ap (option_and_then (entry_at flags version code store)) e

          module _ {room : ℕ} {f : List ℕ}
              (o : field_at (codes " room ") d ≡ Some (room, f)) where
            from_room : header_at text ≡ entry_at flags version code store (room, f)
            from_room = from_store ∙ ap (option_and_then (entry_at flags version code store)) o

            pub no_word : after_word (codes " entry ") f ≡ None → header_at text ≡ None
            no_word e = from_room ∙ ap (option_and_then _) (ap (option_and_then cell_at) e)

            module _ {g : List ℕ} (p : after_word (codes " entry ") f ≡ Some g) where
              from_word : header_at text
                  ≡ option_and_then (with_entry flags version code store room) (cell_at g)
              from_word = from_room ∙ ap (option_and_then _) (ap (option_and_then cell_at) p)

              pub no_entry : cell_at g ≡ None → header_at text ≡ None
              no_entry e = from_word ∙ ap (option_and_then _) e

              module _ {entry : ℤ} {h : List ℕ} (q : cell_at g ≡ Some (entry, h)) where
                from_entry : header_at text
                    ≡ option_and_then (fitting (fits_flags flags && fits_version version)
                    (made flags version code store room entry)) (after_word (codes "\n") h)
                from_entry = from_word ∙ ap (option_and_then _) q

                pub no_end : after_word (codes "\n") h ≡ None → header_at text ≡ None
                no_end e =
                    from_entry
                    ∙ ap (option_and_then (fitting (fits_flags flags && fits_version version)
                    (made flags version code store room entry))) e

use Rattle.std.proofs.Common.{◌≡◌, ◌∙◌, ◌+◌, ◌-◌, ◌^◌, ap, min, arith}
use Rattle.amx_text.proofs.FoundLaws.{records_size, tables_size, size_joined, place_exact}
use Rattle.amx_text.proofs.FoundLaws.{place_large}
use Rattle.amx_text.proofs.finish.code_place.Goals as goal

pub returns : goal.returns
returns c =
    let amx = c.args.amx.now in
    let publics = records_size c.args.amx.now.publics in
    let natives = records_size c.args.amx.now.natives in
    let libraries = records_size c.args.amx.now.libraries in
    let variables = records_size c.args.amx.now.variables in
    let tags = records_size c.args.amx.now.tags in
    let p : c.records_size-publics.result ≡ min publics (2 ^ 64 - 1) =
    c.records_size-publics.ensures
    ∙ ap (λ rs. min (records_size rs) (2 ^ 64 - 1)) c.as_slice.ensures in
    let n : c.records_size-natives.result ≡ min natives (2 ^ 64 - 1) =
    c.records_size-natives.ensures
    ∙ ap (λ rs. min (records_size rs) (2 ^ 64 - 1)) c.as_slice-2.ensures in
    let l : c.records_size-libraries.result ≡ min libraries (2 ^ 64 - 1) =
    c.records_size-libraries.ensures
    ∙ ap (λ rs. min (records_size rs) (2 ^ 64 - 1)) c.as_slice-3.ensures in
    let v : c.records_size-variables.result ≡ min variables (2 ^ 64 - 1) =
    c.records_size-variables.ensures
    ∙ ap (λ rs. min (records_size rs) (2 ^ 64 - 1)) c.as_slice-4.ensures in
    let t : c.records_size-tags.result ≡ min tags (2 ^ 64 - 1) =
    c.records_size-tags.ensures
    ∙ ap (λ rs. min (records_size rs) (2 ^ 64 - 1)) c.as_slice-5.ensures in
    let two : c.saturating_add.result ≡ min (publics + natives) (2 ^ 64 - 1) =
    c.saturating_add.ensures ∙ size_joined publics natives _ _ p n in
    let three : c.saturating_add-2.result ≡ min (publics + natives + libraries) (2 ^ 64 - 1) =
    c.saturating_add-2.ensures ∙ size_joined (publics + natives) libraries _ _ two l in
    let four : c.saturating_add-3.result
    ≡ min (publics + natives + libraries + variables) (2 ^ 64 - 1) =
    c.saturating_add-3.ensures
    ∙ size_joined (publics + natives + libraries) variables _ _ three v in
    let all : c.saturating_add-records.result ≡ min (tables_size c.args.amx.now) (2 ^ 64 - 1) =
    c.saturating_add-records.ensures
    ∙ size_joined (publics + natives + libraries + variables) tags _ _ four t in
    let first : 61 ≡ min 61 (2 ^ 64 - 1) = omega arith in
    let whole : c.saturating_add-4.result ≡ min (61 + tables_size c.args.amx.now) (2 ^ 64 - 1) =
    c.saturating_add-4.ensures
    ∙ size_joined 61 (tables_size c.args.amx.now) 61 c.saturating_add-records.result first all in
    record {
      exact = place_exact c.args.amx.now c.saturating_add-4.result whole;
      large = place_large c.args.amx.now c.saturating_add-4.result whole;
    }

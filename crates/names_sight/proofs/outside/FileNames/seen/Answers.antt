use Rattle.std.proofs.Common.{◌≡◌, true, false, is_some, ap, ◌∙◌}
use Rattle.pawn_cells.specs.Constants.{predefined}
use Rattle.names_sight.specs.FileTable.{role_view, seen_in, clash_seen}
use Rattle.names_sight.proofs.FileLaws.{is_unseen, is_clash, is_free}
use Rattle.names_sight.proofs.outside.FileNames.seen.Goals as goal

pub returns-in-None : goal.returns-in-None
returns-in-None c = λ tags before x whole named.
    let p : is_some (predefined c.args.name.now.bytes) ≡ false = cc in
    is_unseen x before c.args.name.now c.args.place
    (role_view c.args.role) named tags c.args.self.now whole p
    (c.in-None.ensures.value ∙ ap (λ n. seen_in c.self.inside.table.entries n)
    c.as_slice-bytes.ensures
    ∙ ap (λ t. seen_in t c.args.name.now.bytes) c.self.view_is)

pub returns-then-clashes : goal.returns-then-clashes
returns-then-clashes c = λ tags before x whole named.
    let h : clash_seen (role_view c.args.role) c.in-Some.seen.now ≡ true = cc in
    is_clash x before c.args.name.now c.args.place
    (role_view c.args.role) named tags c.args.self.now whole c.in-Some.seen.now
    c.broken-then-clashes.result c.broken-then-clashes.ensures
    (c.in-Some.ensures.value ∙ ap (λ n. seen_in c.self.inside.table.entries n)
    c.as_slice-bytes.ensures
    ∙ ap (λ t. seen_in t c.args.name.now.bytes) c.self.view_is) h

pub returns-else-clashes : goal.returns-else-clashes
returns-else-clashes c = λ tags before x whole named.
    let p : is_some (predefined c.args.name.now.bytes) ≡ false = cc in
    let h : clash_seen (role_view c.args.role) c.in-Some.seen.now ≡ false = cc in
    is_free x before c.args.name.now c.args.place (role_view c.args.role) named tags c.args.self.now
    whole c.in-Some.seen.now p
    (c.in-Some.ensures.value ∙ ap (λ n. seen_in c.self.inside.table.entries n)
    c.as_slice-bytes.ensures
    ∙ ap (λ t. seen_in t c.args.name.now.bytes) c.self.view_is) h

use Rattle.std.proofs.Common.{◌≡◌, Err, [], ◌∷◌, find, bytes_eq, ap, sym, ◌∙◌, arith, rules}
use Rattle.std.specs.List.{list_any}
use Rattle.std.specs.String.{string_bytes}
use Rattle.std.proofs.lemmas.Grind.{common_steps}
use Rattle.toml.specs.View.{view, members_view}
use Rattle.toml.proofs.Views.{Entry}
use Rattle.rbc_model.specs.declared.files.FileFault.TheVariants.{Unknown}
use Rattle.rbc_model.specs.TrackFile.{key_text}
use Rattle.rbc_trackfile.specs.TomlFile.{member_list, entry_view}
use Rattle.rbc_trackfile.proofs.MemberLemmas.{is_unknown, known, unknown, only_unknown, only_known, in_key_order}
use Rattle.rbc_trackfile.proofs.entry.FileEntry.only.Goals as goal

pub returns-then-not-is_listed-clause-told : goal.returns-then-not-is_listed-clause-told
returns-then-not-is_listed-clause-told c =
    let e : Entry = (c.in-Some.name.now, c.in-Some.field-0-1.now) in
    let iter : c.loop-name.name-iterator ≡ e ∷ c.next.new.self = grind (arith, common_steps) in
    let keys = c.args.keys.now in
    let listed : c.is_listed.result ≡ list_any (λ key. bytes_eq (string_bytes e.0) (key_text key)) keys = rw (← c.as_str.ensures.value) c.is_listed.ensures in
    let found = c.loop-name.invariant.2 ∙ ap (λ es. find (is_unknown keys) (member_list (members_view es))) iter ∙ unknown keys (string_bytes e.0) (view e.1) (member_list (members_view c.next.new.self)) c.is_listed.result listed (search rules) in
    only_unknown keys (entry_view c.args.self) _ found
    ∙ ap (λ text. Err (Unknown c.args.self.table c.args.self.number text)) (sym (c.new-name.ensures ∙ c.in_ok-from_str.ensures.ok ∙ c.as_str-then-not-is_listed.ensures.value))

pub loop-name-preserved : goal.loop-name-preserved
loop-name-preserved c =
    let e : Entry = (c.in-Some.name.now, c.in-Some.field-0-1.now) in
    let iter : c.loop-name.name-iterator ≡ e ∷ c.next.new.self = grind (arith, common_steps) in
    let keys = c.args.keys.now in
    let listed : c.is_listed.result ≡ list_any (λ key. bytes_eq (string_bytes e.0) (key_text key)) keys = rw (← c.as_str.ensures.value) c.is_listed.ensures in
    (tt, tt, c.loop-name.invariant.2 ∙ ap (λ es. find (is_unknown keys) (member_list (members_view es))) iter ∙ known keys (string_bytes e.0) (view e.1) (member_list (members_view c.next.new.self)) c.is_listed.result listed (search rules))

pub returns-clause-told : goal.returns-clause-told
returns-clause-told c =
    let keys = c.args.keys.now in
    let iter : c.loop-name.name-iterator ≡ [] = grind (arith, common_steps) in
    only_known keys (entry_view c.args.self) (c.loop-name.invariant.2 ∙ ap (λ es. find (is_unknown keys) (member_list (members_view es))) iter)

pub returns-in_err-from_str-clause-order : goal.returns-in_err-from_str-clause-order
returns-in_err-from_str-clause-order c = in_key_order c.args.self.members.now.entries c.iter-name-items.ensures.ordered

pub returns-then-not-is_listed-clause-order : goal.returns-then-not-is_listed-clause-order
returns-then-not-is_listed-clause-order c = in_key_order c.args.self.members.now.entries c.iter-name-items.ensures.ordered

pub returns-clause-order : goal.returns-clause-order
returns-clause-order c = in_key_order c.args.self.members.now.entries c.iter-name-items.ensures.ordered

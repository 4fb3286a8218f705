use Rattle.std.proofs.Common.{◌≡◌, subst, option_map, ◌∙◌}
use Rattle.toml.specs.Data.{get_member}
use Rattle.toml.specs.View.{members_view, view}
use Rattle.toml.proofs.Views.{table_get}
use Rattle.rbc_model.specs.TrackFile.{key_text}
use Rattle.rbc_trackfile.specs.Told.{value_told}
use Rattle.rbc_trackfile.proofs.MemberLemmas.{member_found}
use Rattle.rbc_trackfile.proofs.entry.FileEntry.value.Goals as goal

pub returns : goal.returns
unfolding value_told
returns c =
    let members = members_view c.args.self.members.now.entries in
    let found = table_get c.get.result c.key_text.result.now c.args.self.members.now.entries c.get.ensures.value in
    let named = subst (λ text. option_map (λ x. view x.now) c.get.result ≡ get_member text members) c.key_text.ensures found in
    named ∙ member_found (key_text c.args.key) members

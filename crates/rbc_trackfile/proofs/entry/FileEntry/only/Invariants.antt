use Rattle.std.proofs.Common.{◌≡◌, bytes_eq, find, not}
use Rattle.std.specs.List.{list_any}
use Rattle.toml.specs.View.{members_view}
use Rattle.rbc_model.specs.TrackFile.{key_text}
use Rattle.rbc_trackfile.specs.TomlFile.{member_list}
use Rattle.rbc_trackfile.proofs.entry.FileEntry.only.Given as goal

-- the first unknown key is among those to come
abbrev pub invariant-loop-name : goal.invariant-loop-name
invariant-loop-name l =
    (goal.iterator-loop-name).can_next l.name-iterator × (goal.iterator-loop-name).is_finite l.name-iterator
    × (find (λ member. not (list_any (λ key. bytes_eq member.0 (key_text key)) l.keys)) (member_list (members_view l.self.members.now.entries))
    ≡ find (λ member. not (list_any (λ key. bytes_eq member.0 (key_text key)) l.keys)) (member_list (members_view l.name-iterator)))

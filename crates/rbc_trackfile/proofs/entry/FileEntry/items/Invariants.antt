use Rattle.std.proofs.Common.{◌≡◌, ◌+◌, length, map, drop}
use Rattle.toml.specs.View.{view}
use Rattle.rbc_trackfile.specs.TomlFile.{entry_view}
use Rattle.rbc_trackfile.specs.Told.{each_told}
use Rattle.rbc_trackfile.proofs.WalkLemmas.{told_before}
use Rattle.rbc_trackfile.proofs.entry.FileEntry.items.Given as goal

abbrev pub invariant-loop-value : goal.invariant-loop-value
invariant-loop-value g l =
    let read = g.T.ListItem.item_at (entry_view l.self) l.key in
    told_before l.items.items (each_told read (length l.items.items + 1) (map view (drop l.value-index l.values))) ≡ each_told read 1 (map view l.values)

use Rattle.std.proofs.Common.{◌∙◌, ap}
use Rattle.std.specs.Option.{option_and_then}
use Rattle.toml.specs.View.{view}
use Rattle.rbc_model.specs.TrackFile.{pair_of}
use Rattle.rbc_trackfile.specs.TomlFile.{toml_document}
use Rattle.rbc_trackfile.specs.Told.{pair_sort, list_sort}
use Rattle.rbc_trackfile.proofs.ItemLemmas.{is_list, is_no_list}
use Rattle.rbc_trackfile.proofs.values.pair_in.Goals as goal

pub returns-in-Some : goal.returns-in-Some
unfolding pair_sort list_sort
returns-in-Some c =
    c.pair_of.ensures ∙ rw c.deref.ensures.value (ap (option_and_then (pair_of toml_document)) (is_list (view c.args.value.now) c.in-Some.values.now.items c.in-Some.ensures))

pub returns-in-None : goal.returns-in-None
unfolding pair_sort list_sort
returns-in-None c = ap (option_and_then (pair_of toml_document)) (is_no_list (view c.args.value.now) c.in-None.ensures)

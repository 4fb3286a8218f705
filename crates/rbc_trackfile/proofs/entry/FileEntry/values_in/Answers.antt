use Rattle.std.proofs.Common.{true, false, Ok, Err, List, map, ap, sym, ◌∙◌}
use Rattle.std.specs.List.{list_all}
use Rattle.toml.specs.declared.value.Value.{Value}
use Rattle.toml.specs.View.{view}
use Rattle.rbc_trackfile.specs.TomlFile.{entry_view}
use Rattle.rbc_trackfile.specs.Told.{is_of_sort}
use Rattle.rbc_trackfile.proofs.ItemLemmas.{values_of_list, values_of_none}
use Rattle.rbc_trackfile.proofs.entry.FileEntry.values_in.Goals as goal

pub returns-in_default : goal.returns-in_default
returns-in_default c =
    values_of_none c.args.sort (entry_view c.args.self) c.args.key (view c.args.value.now) c.in_default.ensures ∙ ap Err (sym c.wrong.ensures)

pub returns-then-are_of_sort : goal.returns-then-are_of_sort
returns-then-are_of_sort c =
    let values = c.in-Some.values.now.items in
    let all = ap (list_all (λ value. is_of_sort c.args.sort (view value))) c.deref.ensures.value in
    values_of_list c.args.sort (entry_view c.args.self) c.args.key (view c.args.value.now) values true c.in-Some.ensures (c.if-are_of_sort.ensures ∙ all)
    ∙ ap (λ (values : List Value). Ok (map view values)) (sym c.as_slice.ensures.value)

pub returns-else-are_of_sort : goal.returns-else-are_of_sort
returns-else-are_of_sort c =
    let values = c.in-Some.values.now.items in
    let all = ap (list_all (λ value. is_of_sort c.args.sort (view value))) c.deref.ensures.value in
    values_of_list c.args.sort (entry_view c.args.self) c.args.key (view c.args.value.now) values false c.in-Some.ensures (c.if-are_of_sort.ensures ∙ all)
    ∙ ap Err (sym c.wrong-else-are_of_sort.ensures)

use Rattle.std.proofs.Common.{Ok, Err, ap, sym, ◌∙◌}
use Rattle.toml.specs.View.{view, table_view}
use Rattle.rbc_trackfile.specs.TomlFile.{entry_view}
use Rattle.rbc_trackfile.proofs.ItemLemmas.{inner_of_table, inner_of_none}
use Rattle.rbc_trackfile.proofs.items.ListValue.inner.Goals as goal

pub returns-in-Some : goal.returns-in-Some
returns-in-Some c =
    inner_of_table c.args.table (entry_view c.args.self.within) c.args.self.key c.args.self.number (view c.args.self.value.now) (table_view c.in-Some.members.now) c.in-Some.ensures
    ∙ ap Ok (sym c.new.ensures)

pub returns-in-None : goal.returns-in-None
returns-in-None c = inner_of_none c.args.table (entry_view c.args.self.within) c.args.self.key c.args.self.number (view c.args.self.value.now) c.in-None.ensures ∙ ap Err (sym c.wrong.ensures)

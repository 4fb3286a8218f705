use Rattle.std.proofs.Common.{Result, Err, ap, subst, ◌∙◌, ◌≡◌}
use Rattle.std.specs.Prelude.{IfOk, IfErr}
use Rattle.toml.specs.View.{table_view}
use Rattle.rbc_model.specs.Answers.{AnswersAs}
use Rattle.rbc_model.specs.declared.files.FileFault.{FileFault}
use Rattle.rbc_model.specs.declared.memory.OrMemory.TheVariants.{Refused}
use Rattle.rbc_model.specs.TrackFile.{AreInKeyOrder, FileEntry, TopKeys}
use Rattle.rbc_model.specs.TrackParts.{Parts}
use Rattle.rbc_track.specs.PartsView.{parts_view}
use Rattle.rbc_trackfile.specs.TomlFile.{entry_view, member_list}
use Rattle.rbc_trackfile.specs.Told.{top_of, top_told, keys_told}
use Rattle.toml.specs.Data.{Data}
use Rattle.rbc_trackfile.proofs.FileLemmas.{keys_is, top_is}
use Rattle.rbc_trackfile.proofs.file.read_parts.Goals as goal

pub returns-clause-parts : goal.returns-clause-parts
returns-clause-parts c =
    subst (λ (answer : Result Parts FileFault). AnswersAs parts_view c.top_parts.result answer)
    (ap top_told c.new.ensures ∙ top_is (top_of (table_view c.args.table.now))) c.top_parts.ensures.told

pub returns-clause-keys : goal.returns-clause-keys
returns-clause-keys c =
    subst (λ (keys : Result (TopKeys Data) FileFault). IfErr keys (λ fault. c.top_parts.result ≡ Err (Refused fault)))
    (ap keys_told c.new.ensures ∙ keys_is (top_of (table_view c.args.table.now))) c.top_parts.ensures.keys

pub returns-clause-order : goal.returns-clause-order
returns-clause-order c =
    subst (λ (keys : Result (TopKeys Data) FileFault). IfOk keys (λ _. AreInKeyOrder (member_list (table_view c.args.table.now))))
    (ap keys_told c.new.ensures ∙ keys_is (top_of (table_view c.args.table.now)))
    (subst (λ (top : FileEntry Data). IfOk (keys_told (entry_view c.new.result)) (λ _. AreInKeyOrder top.members)) c.new.ensures c.top_parts.ensures.order)

use Rattle.std.proofs.Common.{ap, sym, ◌∙◌, rules}
use Rattle.std.specs.Str.{IsUtf8}
use Rattle.toml.specs.Errors.{IsMemory}
use Rattle.toml.specs.Parse.{parse_document}
use Rattle.toml.specs.View.{table_view}
use Rattle.rbc_trackfile.proofs.TextLemmas.{is_toml, is_no_toml}
use Rattle.rbc_trackfile.proofs.file.parse.Goals as goal

pub returns-in_default-clause-table : goal.returns-in_default-clause-table
returns-in_default-clause-table c = is_no_toml c.args.text.now (λ utf8. absurd (c.in_default.ensures.cases.0 utf8))

pub returns-in-Ok-table_from_str-clause-table : goal.returns-in-Ok-table_from_str-clause-table
returns-in-Ok-table_from_str-clause-table c =
    let utf8 : IsUtf8 c.args.text.now = search rules in
    is_toml c.args.text.now (table_view c.in-Ok-table_from_str.table) utf8 (ap parse_document (sym c.in-Ok.ensures.cases.0) ∙ c.in-Ok-table_from_str.ensures.ok)

pub returns-else-is_memory-clause-table : goal.returns-else-is_memory-clause-table
returns-else-is_memory-clause-table c =
    let has_memory : ¬ (IsMemory c.in-Err.error) = search rules in
    is_no_toml c.args.text.now (λ utf8. ap parse_document (sym c.in-Ok.ensures.cases.0) ∙ c.in-Err.ensures.refused has_memory)

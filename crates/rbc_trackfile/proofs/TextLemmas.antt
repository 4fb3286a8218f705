-- Texts that are TOML, and texts that are none.
use Rattle.std.proofs.Common.{◌≡◌, ℕ, zero, suc, Bool, true, false, List, [], length, Option, Some, None, Result, Ok, Err, cond, refl, sym, ap, ◌∙◌, subst}
use Rattle.std.specs.Prelude.{◌==◌, IfErr, option_map}
use Rattle.std.specs.Str.{IsUtf8, is_utf8}
use Rattle.std.proofs.lemmas.Str.{IsUtf8-from_is_utf8, is_utf8-from_IsUtf8}
use Rattle.toml.specs.Data.{Members, no_members}
use Rattle.toml.specs.Errors.{IsBlank}
use Rattle.toml.specs.Parse.{lines, parse_document, skip_bom}
use Rattle.toml.specs.Tables.{Document, no_nodes, close}
use Rattle.rbc_model.specs.declared.files.FileFault.{FileFault}
use Rattle.rbc_model.specs.declared.files.FileFault.TheVariants.{Toml}
use Rattle.rbc_model.specs.declared.memory.OrMemory.{OrMemory}
use Rattle.rbc_model.specs.declared.memory.OrMemory.TheVariants.{Refused, Memory}
use Rattle.rbc_model.specs.TrackFile.{or_fault, keys_at, parts_at}
use Rattle.rbc_model.specs.TrackParts.{Parts}
use Rattle.rbc_trackfile.specs.Told.{toml_table, top_of}
use Rattle.rbc_trackfile.specs.TomlFile.{toml_document}

module _ (text : List ℕ) where
  pub is_toml : (table : Members) → IsUtf8 text → parse_document text ≡ Some table → or_fault Toml (toml_table text) ≡ Ok table
  unfolding toml_table
  is_toml table utf8 e = ap (λ b. or_fault Toml (cond b (parse_document text) None)) (is_utf8-from_IsUtf8 text utf8) ∙ ap (or_fault Toml) e

  none_by : (b : Bool) → b ≡ is_utf8 text → (IsUtf8 text → parse_document text ≡ None) → cond b (parse_document text) None ≡ None
  none_by true e h = h (IsUtf8-from_is_utf8 text (sym e))
  none_by false e h = refl

  pub is_no_toml : (IsUtf8 text → parse_document text ≡ None) → or_fault Toml (toml_table text) ≡ Err Toml
  unfolding toml_table
  is_no_toml h = ap (or_fault Toml) (none_by (is_utf8 text) refl h)

-- ---- blank texts

-- a text of no expression leaves the document as it is
at_end : (left : ℕ) (a b : Option Document) → left ≡ 0 → cond (left == 0) a b ≡ a
at_end zero a b e = refl
at_end (suc left) a b e = cc

blank_lines : (n : ℕ) (doc : Document) (text : List ℕ) → IsBlank text → lines (suc n) doc (skip_bom text) ≡ Some doc
unfolding lines
blank_lines n doc text blank = at_end _ (Some doc) _ blank

blank_document : (text : List ℕ) → IsBlank text → parse_document text ≡ Some no_members
unfolding parse_document
blank_document text blank = ap (option_map (λ (doc : Document). close doc.0)) (blank_lines (length text) (no_nodes, []) text blank)

-- a call that was refused so
abbrev pub refused : (X : Type 0) → OrMemory FileFault → Result X (OrMemory FileFault)
refused X fault = Err fault

module _ (text : List ℕ) (table : Members) (is : or_fault Toml (toml_table text) ≡ Ok table) where
  -- a text that has a table is UTF-8
  pub table_utf8 : IsUtf8 text
  unfolding toml_table
  table_utf8 = by_test (is_utf8 text) refl is
    where
      by_test : (b : Bool) → is_utf8 text ≡ b → or_fault Toml (cond b (parse_document text) None) ≡ Ok table → IsUtf8 text
      by_test true e h = IsUtf8-from_is_utf8 text e
      by_test false e h = cc

  -- a blank text has an empty one
  table_blank : IsBlank text → table ≡ no_members
  unfolding toml_table
  table_blank blank = by_test (is_utf8 text) (parse_document text) (blank_document text blank) is
    where
      by_test : (b : Bool) (o : Option Members) → o ≡ Some no_members → or_fault Toml (cond b o None) ≡ Ok table → table ≡ no_members
      by_test true o e h = cc
      by_test false o e h = cc

  -- so that its keys are at fault, with no memory asked for
  pub no_memory_for_keys : (X : Type 0) (fault : OrMemory FileFault) → fault ≡ Memory → IfErr (keys_at toml_document (top_of table)) (λ told. refused X fault ≡ refused X (Refused told)) → ¬ IsBlank text
  no_memory_for_keys X fault memory keys blank = missing (subst (λ t. IfErr (keys_at toml_document (top_of t)) (λ told. refused X fault ≡ refused X (Refused told))) (table_blank blank) keys)
    where
      missing : IfErr (keys_at toml_document (top_of no_members)) (λ told. refused X fault ≡ refused X (Refused told)) → ⊥
      missing h = cc

  pub parts_not_blank : (parts : Parts) → parts_at toml_document (top_of table) ≡ Ok parts → ¬ IsBlank text
  parts_not_blank parts made blank = missing (subst (λ t. parts_at toml_document (top_of t) ≡ Ok parts) (table_blank blank) made)
    where
      missing : parts_at toml_document (top_of no_members) ≡ Ok parts → ⊥
      missing h = cc

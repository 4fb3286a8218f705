use Rattle.std.proofs.Common.{◌≡◌, ℕ, Option, Some, None, Err, refl, ap, ap₂, sym, ◌∙◌, rules, SFits, w64}
use Rattle.std.specs.Option.{option_zip}
use Rattle.std.proofs.lemmas.Int.{to_z-of_z}
use Rattle.toml.specs.View.{view}
use Rattle.rbc_model.specs.declared.files.FileFault.TheVariants.{Range}
use Rattle.rbc_model.specs.TrackFile.{run_with, run_of_pair, or_fault}
use Rattle.rbc_trackfile.specs.TomlFile.{entry_view}
use Rattle.rbc_trackfile.specs.Told.{pair_sort}
use Rattle.rbc_trackfile.proofs.ItemLemmas.{sorted, unsorted}
use Rattle.rbc_trackfile.proofs.levels.Tuple2U32ListItem.read.Goals as goal

both : {V : Type 0} (start : Option ℕ) (level : Option V) → run_with start level ≡ option_zip start level
both None level = refl
both (Some start) None = refl
both (Some start) (Some level) = refl

pub returns-in_default : goal.returns-in_default
returns-in_default g c =
    unsorted pair_sort (run_of_pair g.V.FileLevel.level_in) (entry_view c.args.item.within) c.args.item.key c.args.item.number (view c.args.item.value.now) c.in_default.ensures ∙ ap Err (sym c.wrong.ensures)

pub returns-in-Some-zip : goal.returns-in-Some-zip
returns-in-Some-zip g c =
    let fits : SFits w64 c.in-Some.start = search rules in
    let level_fits : SFits w64 c.in-Some.level = search rules in
    let start = simp (to_z-of_z, fits) at c.number_from_to.ensures.value in
    let level = simp (to_z-of_z, level_fits) at c.read.ensures in
    let fault = Range c.args.item.within.table c.args.item.within.number c.args.item.key in
    sorted pair_sort (run_of_pair g.V.FileLevel.level_in) (entry_view c.args.item.within) c.args.item.key c.args.item.number (view c.args.item.value.now) (c.in-Some.start, c.in-Some.level) c.in-Some.ensures
    ∙ ap (or_fault fault) (sym (ap₂ run_with start level) ∙ both c.number_from_to.result c.read.result ∙ sym c.zip.ensures ∙ c.in-Some-zip.is)

pub returns-in-None : goal.returns-in-None
returns-in-None g c =
    let fits : SFits w64 c.in-Some.start = search rules in
    let level_fits : SFits w64 c.in-Some.level = search rules in
    let start = simp (to_z-of_z, fits) at c.number_from_to.ensures.value in
    let level = simp (to_z-of_z, level_fits) at c.read.ensures in
    let fault = Range c.args.item.within.table c.args.item.within.number c.args.item.key in
    sorted pair_sort (run_of_pair g.V.FileLevel.level_in) (entry_view c.args.item.within) c.args.item.key c.args.item.number (view c.args.item.value.now) (c.in-Some.start, c.in-Some.level) c.in-Some.ensures
    ∙ ap (or_fault fault) (sym (ap₂ run_with start level) ∙ both c.number_from_to.result c.read.result ∙ sym c.zip.ensures ∙ c.in-None.is)
    ∙ ap Err (sym c.range.ensures)

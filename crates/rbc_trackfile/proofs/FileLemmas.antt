-- The steps that are taken here make up the definition.
use Rattle.std.proofs.Common.{◌≡◌, List, Option, Some, None, option_map, ℕ, refl}
use Rattle.std.specs.Result.{result_map_both}
use Rattle.toml.specs.Data.{Data, Members}
use Rattle.rbc_model.specs.declared.files.FileFault.TheVariants.{Toml, Track as BadTrack}
use Rattle.rbc_model.specs.Results.{◌>>=◌}
use Rattle.rbc_model.specs.Tracks.{Track}
use Rattle.rbc_model.specs.TrackParts.{track_of}
use Rattle.rbc_model.specs.TrackFile.{FileEntry, or_fault, keys_at, parts_at, track_in_file}
use Rattle.rbc_trackfile.specs.TomlFile.{toml_document, member_list}
use Rattle.rbc_trackfile.specs.Told.{value_told, there_told, in_form_told, required_told, optional_told, leg_if_any_told, only_told, list_sort, pair_sort, table_sort, values_told, tables_told, each_told, list_told, item_told, inner_told, entry_told, runs_told, section_told, link_told, group_told, route_told, keys_told, top_told, top_of, toml_table, file_told}

pub keys_is : (top : FileEntry Data) → keys_told top ≡ keys_at toml_document top
unfolding keys_told required_told optional_told there_told in_form_told value_told tables_told values_told list_sort table_sort
keys_is top = refl

pub top_is : (top : FileEntry Data) → top_told top ≡ parts_at toml_document top
unfolding keys_told top_told required_told optional_told there_told in_form_told value_told tables_told values_told list_sort table_sort pair_sort only_told leg_if_any_told each_told list_told item_told inner_told entry_told runs_told section_told link_told group_told route_told
top_is top = refl

by_table : (found : Option Members)
    → (or_fault Toml found >>= λ members. parts_at toml_document (top_of members) >>= λ parts. result_map_both (λ (track : Track). track) BadTrack (track_of parts))
    ≡ track_in_file toml_document (option_map member_list found)
by_table None = refl
by_table (Some members) = refl

pub file_is : (text : List ℕ) → file_told text ≡ track_in_file toml_document (option_map member_list (toml_table text))
unfolding file_told
file_is text = by_table (toml_table text)

use Rattle.std.proofs.Common.{ℕ, List, [], ◌∷◌, sym, ap, ap₂, ◌∙◌}
use Rattle.std.specs.Prelude.{option_map}
use Rattle.rbc_model.specs.Rows.{leg_or_none}
use Rattle.rbc_model.specs.TrackLines.{named_leg}
use Rattle.rbc_words.specs.LineWords.{word_text}
use Rattle.rbc_streams.proofs.EmittingLemmas.{emits_then, emits_as}
use Rattle.rbc_lines.proofs.TrackTextLemmas.{route_text-is}
use Rattle.rbc_lines.proofs.track.emit_route.Goals as goal

pub returns : goal.returns
returns g c =
    let whole = route_text-is c.args.track.now c.args.route.now (c.name.result ∷ word_text c.entry_word.result ∷ []) c.legs-legs.result.now
    (ap₂ (λ (name word : List ℕ). name ∷ word ∷ []) c.name.ensures (c.entry_word.ensures ∙ ap (λ entry. leg_or_none (option_map (named_leg c.args.track.now) entry)) c.after.ensures)) c.legs-legs.ensures in
    emits_as (sym whole) (emits_then c.emit.ensures (emits_then c.emit_words.ensures (emits_then c.emit_legs.ensures c.emit-2.ensures)))

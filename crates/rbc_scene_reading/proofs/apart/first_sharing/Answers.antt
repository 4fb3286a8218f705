use Rattle.std.proofs.Common.{◌≡◌, ◌∷◌, ◌∙◌, [], ap, sym, subst, map, cond, Some, None, true}
use Rattle.std.specs.Prelude.{find, option_map}
use Rattle.rbc_scene.specs.Entries.{number_on, on_track}
use Rattle.rbc_scene.specs.Presence.{others_along}
use Rattle.rbc_scene_reading.specs.Spans.{shares}
use Rattle.rbc_scene_reading.proofs.SharingLemmas.{all_sharing, nobody_along, one_along}
use Rattle.rbc_scene_reading.proofs.apart.first_sharing.Goals as goal

pub returns-in-Nobody : goal.returns-in-Nobody
returns-in-Nobody c =
    let book = c.args.book.now in
    sym (nobody_along book c.args.train.now.train c.args.section c.requires.new (subst (λ n. map (on_track book.track) (others_along book n c.args.section) ≡ []) c.id.ensures c.in-Nobody.ensures))

pub returns-in-One : goal.returns-in-One
returns-in-One c =
    let book = c.args.book.now in
    let other = c.in-One.other.now in
    let train = c.args.train.now in
    let held : shares book.track c.args.section train.train other ≡ true =
    ap (λ t. shares t c.args.section train.train other) (sym c.requires.track) ∙ sym c.hold_both.ensures ∙ c.if-hold_both.true in
    sym
    (one_along book train.train c.args.section c.requires.new other (subst (λ n. map (on_track book.track) (others_along book n c.args.section) ≡ other ∷ []) c.id.ensures c.in-One.ensures)
    ∙ ap (λ b. cond b (Some (number_on other)) None) held ∙ ap Some (sym c.id-in-One.ensures))

pub returns-in-One-2 : goal.returns-in-One-2
returns-in-One-2 c =
    let book = c.args.book.now in
    let other = c.in-One.other.now in
    let train = c.args.train.now in
    let held = ap (λ t. shares t c.args.section train.train other) (sym c.requires.track) ∙ sym c.hold_both.ensures ∙ c.if-hold_both.false in
    sym
    (one_along book train.train c.args.section c.requires.new other (subst (λ n. map (on_track book.track) (others_along book n c.args.section) ≡ other ∷ []) c.id.ensures c.in-One.ensures)
    ∙ ap (λ b. cond b (Some (number_on other)) None) held)

pub returns-in-Several : goal.returns-in-Several
returns-in-Several c =
    let book = c.args.book.now in
    c.first_of_all.ensures
    ∙ ap (λ t. option_map number_on (find (shares t c.args.section c.args.train.now.train) (map (on_track book.track) book.trains))) c.requires.track
    ∙ all_sharing book.track c.args.section c.args.train.now.train book.trains

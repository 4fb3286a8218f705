use Rattle.std.proofs.Common.{All, map, length, subst, sym, ap, ◌∙◌, replicate, []}
use Rattle.rbc_snap.specs.Records.{HistoryOnTrack}
use Rattle.rbc_snap.specs.Ends.{Watching, watching}
use Rattle.rbc_snap.specs.Later.{IsLater}
use Rattle.rbc_snap.proofs.LaterLemmas.{later_itself}
use Rattle.rbc_desk.specs.Seats.{seated}
use Rattle.std.proofs.lemmas.List.Elements.{All-replicate}
use Rattle.rbc_desk.proofs.AskingLemmas.{map_replicate}
use Rattle.rbc_desk.proofs.desk.Desk.new.Goals as goal

pub seats_with-requires-clause-told : goal.seats_with-requires-clause-told
seats_with-requires-clause-told g c =
    let P : Watching → Type 0 = λ eye. IsLater g.L.DeskName.opened eye.told in
    let here : IsLater g.L.DeskName.opened c.args.log = subst (λ h. IsLater h c.args.log) c.requires.opened (later_itself c.args.log c.right.ensures) in
    subst (All P) (sym c.in_ok-press.ensures.eyes) (All-replicate P c.args.seats (watching c.args.log (length c.args.log.entries)) here)

pub returns : goal.returns
returns g c =
    c.in-Ok.ensures.seats ∙ ap (map (λ (eye : Watching). seated [] eye.told)) c.in_ok-press.ensures.eyes ∙ map_replicate (λ (eye : Watching). seated [] eye.told) c.args.seats (watching c.args.log (length c.args.log.entries))
    ∙ ap (λ (h : HistoryOnTrack). replicate c.args.seats (seated [] h)) c.requires.opened

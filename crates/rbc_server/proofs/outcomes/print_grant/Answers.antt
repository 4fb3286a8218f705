use Rattle.std.proofs.Common.{◌+◌, ◌∙◌, ap}
use Rattle.rbc_sessions.specs.PriceText.{prices_of}
use Rattle.rbc_model.specs.SessionReply.{grant_reply}
use Rattle.rbc_sessions.specs.Replies.{grant_text}
use Rattle.rbc_sessions.proofs.AskingLemmas.{told_text, told_whole}
use Rattle.rbc_server.proofs.outcomes.print_grant.Goals as goal

pub print-requires-clause-of_track : goal.print-requires-clause-of_track
print-requires-clause-of_track g c =
    let told = c.told_of-told in
    told_whole c.args.track.now c.args.grant.now.candidate (c.place.result + 1) told.result told.ensures.told told.ensures.best told.ensures.chosen c.requires.named

pub returns : goal.returns
returns g c =
    let told = c.told_of-told in
    let shown = told.ensures.told in
    let candidate = c.args.grant.now.candidate in
    let speed_rows = prices_of told.result.speeds.prices.now in
    let grade_rows = prices_of told.result.grades.prices.now in (
      grant_text c.args.track.now told.result,
      record {
        speed_rows = speed_rows;
        grade_rows = grade_rows;
        speed_prices = shown.speed_prices;
        grade_prices = shown.grade_prices;
        told = told_text c.args.track.now candidate (c.place.result + 1) told.result shown
            ∙ ap (λ n. grant_reply c.args.track.now (n + 1) candidate.view candidate.grant speed_rows grade_rows) c.place.ensures;
      },
      c.print.ensures,
    )

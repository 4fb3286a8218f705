use Rattle.std.proofs.Common.{subst}
use Rattle.std.specs.Prelude.{All, IsTrue}
use Rattle.rbc_model.specs.declared.tracks.BaliseGroup.{BaliseGroup}
use Rattle.rbc_model.specs.GroupNames.{IsGroupName}
use Rattle.rbc_model.specs.Names.{is_name}
use Rattle.rbc_model.specs.Tracks.{Section, Route}
use Rattle.rbc_lines.proofs.TrackLawLemmas.{track_lines_are_read_back}
use Rattle.rbc_lines.proofs.track.lines_known.Goals as goal

pub returns : goal.returns
returns c =
    track_lines_are_read_back c.args.track.now c.known.ensures.form c.known.ensures.sound (record {
      sections = subst (All (λ (section : Section). IsTrue (is_name section.name))) c.sections.ensures c.sections_known.ensures;
      routes = subst (All (λ (route : Route). IsTrue (is_name route.name))) c.routes.ensures c.routes_known.ensures;
      groups = subst (All (λ (group : BaliseGroup). IsGroupName group.name)) c.groups.ensures c.groups_known.ensures;
    })

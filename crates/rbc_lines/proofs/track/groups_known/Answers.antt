use Rattle.std.proofs.Common.{subst, ◌≤◌}
use Rattle.std.proofs.lemmas.List.Elements.{All-from_recursion}
use Rattle.rbc_model.specs.declared.limits.TheConstants.{LAST_COUNTRY, LAST_GROUP}
use Rattle.rbc_model.specs.declared.tracks.BaliseGroup.{BaliseGroup}
use Rattle.rbc_model.specs.GroupNames.{IsGroupName}
use Rattle.rbc_lines.proofs.OfTrackLemmas.{all-next, all-end}
use Rattle.rbc_lines.proofs.track.groups_known.Goals as goal

pub loop-group-preserved : goal.loop-group-preserved
loop-group-preserved c =
    let loop = c.loop-group in
    let item = c.group-item in
    let here : IsGroupName item.result.name = record { country = subst (λ n. n ≤ LAST_COUNTRY) c.country-country.ensures.country c.country-country.ensures.in_range; number = subst (λ n. n ≤ LAST_GROUP) c.number-number.ensures.number c.number-number.ensures.in_range } in
    record {
      whole = λ rest. loop.invariant.whole (all-next (λ (group : BaliseGroup). IsGroupName group.name) c.args.groups.now loop.group-index item.result c.loop-group-test.true item.is here rest);
    }

pub returns : goal.returns
returns c =
    let loop = c.loop-group in
    All-from_recursion (λ (group : BaliseGroup). IsGroupName group.name) c.args.groups.now (loop.invariant.whole (all-end (λ (group : BaliseGroup). IsGroupName group.name) c.args.groups.now loop.group-index c.loop-group-test.false))

use Rattle.std.proofs.Common.{arith, refl, ap, sym, ◌∙◌, ◌≡◌, ℕ, suc, ◌+◌, ◌-◌, ◌%◌, ◌<◌, ◌≤◌, ◌++◌, ◌∷◌, [], Option, Some, None, length, subst}
use Rattle.std.specs.Option.{option_map_or}
use Rattle.rbc_model.specs.Scales.{unit_of}
use Rattle.rbc_table_laws.specs.Breaks.{IsLowest}
use Rattle.rbc_table_laws.proofs.TableLawLemmas.{breaks_walked}
use Rattle.rbc_table_laws.proofs.TrackBreakLemmas.{in_track}
use Rattle.rbc_table_laws.specs.Breaks.{breaks_in}
use Rattle.rbc_stretches.specs.OnTracks.{IsStretch}
use Rattle.rbc_stretches.specs.declared.stretch.Stretch.{Stretch}
use Rattle.rbc_costs.specs.Stretches.{AreStretches}
use Rattle.rbc_costs.proofs.NextBreakLemmas.{each_more}
use Rattle.rbc_costs.proofs.stretches.stretches_of.Goals as goal

pub least_on-requires-after_bounds : goal.least_on-requires-after_bounds
least_on-requires-after_bounds g c κs within = (c.loop-next.invariant.on c.in-Some.stretch c.in-Some.is).on_track

pub stretch_behind-next-requires-clause-stretch : goal.stretch_behind-next-requires-clause-stretch
stretch_behind-next-requires-clause-stretch g c κs within = (length c.loop-next.stretches.items, c.loop-next.invariant.on c.in-Some.stretch c.in-Some.is)

less : (end from : ℕ) (next : Option Stretch) → from < end → ((t : Stretch) → next ≡ Some t → from < t.from) → suc (option_map_or (λ (t : Stretch). end - t.from) next 0) ≤ end - from
less end from None h f = omega arith
less end from (Some t) h f = let more = f t refl in omega arith

pub loop-next-smaller : goal.loop-next-smaller
loop-next-smaller g c =
    let s = c.in-Some.stretch in
    let there = c.loop-next.invariant.on s c.in-Some.is in
    let some = there.on_track.some in
    let inside = there.on_track.inside in
    let to = there.to in
    rw c.in-Some.is (less c.args.track.now.end s.from c.stretch_behind-next.result (omega arith) (λ t e.
    let next = c.stretch_behind-next.ensures.behind (length c.loop-next.stretches.items) t there e in
    let from = next.from in
    omega arith))

pub loop-next-preserved : goal.loop-next-preserved
loop-next-preserved g c =
    let i = c.loop-next.invariant in
    let s = c.in-Some.stretch in
    let there = i.on s c.in-Some.is in
    let more : c.push.new.self.items ≡ c.loop-next.stretches.items ++ (c.in-Some.stretch, c.least_on.result) ∷ [] = c.in_ok-push.ensures.items in
    let long : length c.push.new.self.items ≡ length c.loop-next.stretches.items + 1 = omega (arith, c.in_ok-push.ensures.len) in
    record {
      stand = rw more (each_more (λ k (t : Stretch × g.row.V.Denot). IsStretch c.unit_of-unit.result c.args.track.now k t.0) c.loop-next.stretches.items (s, c.least_on.result) i.stand there);
      least = rw more (each_more (λ k (t : Stretch × g.row.V.Denot). IsLowest g.V.Level.levels c.args.track.now t.0.from t.0.to t.1) c.loop-next.stretches.items (s, c.least_on.result) i.least c.least_on.ensures);
      on = λ t e. rw long (c.stretch_behind-next.ensures.behind (length c.loop-next.stretches.items) t there e);
      ended = λ e. let last = c.stretch_behind-next.ensures.last (length c.loop-next.stretches.items) there e in omega arith;
    }

pub returns : goal.returns
returns g c =
    let level = g.met.V.Level g.world.𝓛 g.world.𝓜 g.world.𝓡 ((λ s x. x), (λ x. x), (λ x. x), λ x. x) in
    let i = c.loop-next.invariant in
    let unit : c.unit_of-unit.result ≡ unit_of c.args.track.now.end = c.unit_of-unit.ensures.unit ∙ ap unit_of c.end.ensures in
    let whole : c.args.track.now.end % c.unit_of-unit.result ≡ 0 = subst (λ u. c.args.track.now.end % u ≡ 0) (sym unit) c.requires.whole in
    let edges = in_track g.V.Level.levels c.args.track.now.end c.args.track.now.steps c.known.ensures.track in
    let walked = breaks_walked g.V.Level.levels level.lawful c.unit_of-unit.result (omega (arith, c.unit_of-unit.ensures.some)) c.args.track.now whole c.known.ensures.track (breaks_in c.args.track.now) edges in
    subst (λ u. AreStretches g.V.Level.levels u c.args.track.now c.loop-next.stretches.items) unit
    (record { breaks = walked.0; count = i.ended c.in_default.is; stand = i.stand; least = i.least })

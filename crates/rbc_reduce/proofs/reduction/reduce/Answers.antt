use Rattle.std.proofs.Common.{arith, ◌≡◌, ◌<◌, ℕ, length, ap, sym, ◌∙◌, subst, true, Ok}
use Rattle.rbc_model.specs.Profiles.{IsChosenProfile, loss, value_at, is_within, profile_of}
use Rattle.rbc_table_laws.proofs.TableLawLemmas.{read_off_are_chosen}
use Rattle.rbc_table_laws.specs.PriceRows.{prices_of}
use Rattle.rbc_model.specs.Scales.{unit_of}
use Rattle.rbc_reduce.proofs.ProfileLemmas.{made_of, made_is}
use Rattle.rbc_reduce.proofs.reduction.reduce.Given.{Over}
use Rattle.rbc_reduce.proofs.reduction.reduce.Goals as goal
use Rattle.rbc_reduce.proofs.reduction.reduce.Goals.{After-new}
use Rattle.rbc_model.proofs.ScaleLemmas.{some_unit}
use Rattle.rbc_model.proofs.ResultLemmas.{ok_is_no_err}

pub fill-requires-clause-stretches : goal.fill-requires-clause-stretches
fill-requires-clause-stretches g c κs within = rw c.deref.ensures.value c.in_ok-stretches.ensures

pub steps_of-requires-clause-stretches : goal.steps_of-requires-clause-stretches
steps_of-requires-clause-stretches g c κs within = rw c.deref-2.ensures.value c.in_ok-stretches.ensures

pub steps_of-requires-clause-wide : goal.steps_of-requires-clause-wide
steps_of-requires-clause-wide g c κs within = record {
  width = length c.deref.result.now;
  wide = rw c.deref-3.ensures.value c.in_ok-prices.ensures.wide;
  room = omega (arith, ap length c.deref.ensures.value, ap length c.deref-2.ensures.value);
}

-- the steps that are read off are the chosen ones
chosen_here : (g : Over) (c : After-new g)
    → IsChosenProfile g.V.Level.levels (unit_of c.args.track.now.end) c.args.limit c.args.track.now.end (value_at c.args.track.now.steps) c.in_ok-steps.steps.items
chosen_here g c =
    let level = g.met.V.Level g.world.𝓛 g.world.𝓜 g.world.𝓡 ((λ s x. x), (λ x. x), (λ x. x), λ x. x) in
    let read = rw c.deref-3.ensures.value at c.in_ok-steps.ensures in
    read_off_are_chosen g.V.Level.levels level.lawful (unit_of c.args.track.now.end) c.args.limit c.args.track.now.end (some_unit c.args.track.now.end) c.requires.whole c.args.track.now.steps c.known.ensures.track
    (prices_of c.in_ok-prices.prices.items) c.in_ok-prices.ensures.table c.in_ok-steps.steps.items read

made_here : (g : Over) (c : After-new g) → c.new.result ≡ Ok (record { steps = c.in_ok-steps.steps.items; end = c.args.track.now.end })
made_here g c =
    let same : c.new.result ≡ profile_of g.V.Level.levels c.args.track.now.end c.deref-4.result.now =
    c.new.ensures ∙ ap (λ n. profile_of g.V.Level.levels n c.deref-4.result.now) c.end-end.ensures in
    made_of g.V.Level.levels (unit_of c.args.track.now.end) c.args.limit c.args.track.now.end c.in_ok-steps.steps.items c.deref-4.result.now c.new.result
    (chosen_here g c).best.fits.profile c.requires.few c.known.ensures.within_limit c.deref-4.ensures.value same

pub unreachable-requires : goal.unreachable-requires
unreachable-requires g c =
    ok_is_no_err (made_here g (goal.at.unreachable-requires g c).After-new) c.in-Err.is

pub new-requires-send-V : goal.new-requires-send-V
new-requires-send-V g c κs within = c.type_bounds.send-V

pub new-requires-sync-V : goal.new-requires-sync-V
new-requires-sync-V g c κs within = c.type_bounds.sync-V

pub loss-loss-requires-send-V : goal.loss-loss-requires-send-V
loss-loss-requires-send-V g c κs within = c.type_bounds.send-V

pub loss-loss-requires-sync-V : goal.loss-loss-requires-sync-V
loss-loss-requires-sync-V g c κs within = c.type_bounds.sync-V

pub loss-loss-requires-after_bounds : goal.loss-loss-requires-after_bounds
loss-loss-requires-after_bounds g c κs within =
    let there = (goal.at.loss-loss-requires-after_bounds g c).After-new in
    let is = made_is c.in-Ok.profile c.in_ok-steps.steps.items c.args.track.now.end c.new.result c.in-Ok.is (made_here g there) in
    let below : (x : ℕ) → x < c.args.track.now.end → is_within g.V.Level.levels (value_at c.args.track.now.steps x) (value_at c.in-Ok.profile.steps x) ≡ true =
    subst (λ s. (x : ℕ) → x < c.args.track.now.end → is_within g.V.Level.levels (value_at c.args.track.now.steps x) (value_at s x) ≡ true) (sym is.0) (chosen_here g there).best.fits.below in
    (omega arith, (sym is.1, λ x h. below x (omega (arith, is.1))))

pub returns : goal.returns
returns g c =
    let there = (goal.at.returns g c).After-new in
    let is = made_is c.in-Ok.profile c.in_ok-steps.steps.items c.args.track.now.end c.new.result c.in-Ok.is (made_here g there) in
    let chosen = subst (IsChosenProfile g.V.Level.levels (unit_of c.args.track.now.end) c.args.limit c.args.track.now.end (value_at c.args.track.now.steps)) (sym is.0) (chosen_here g there) in
    record {
      best = chosen.best;
      fewest = chosen.fewest;
      chosen = chosen;
      end = is.1;
      loss = c.loss-loss.ensures ∙ ap (λ n. loss g.V.Level.levels n (value_at c.args.track.now.steps) c.in-Ok.profile.steps) is.1;
      prices = c.in_ok-prices.ensures.table;
    }

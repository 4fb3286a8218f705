-- The runs with the other track's behind them are the track that follows.
use Rattle.std.proofs.Common.{◌≡◌, true, arith, sym, subst}
use Rattle.std.specs.List.{list_all}
use Rattle.std.specs.Prelude.{nat_lt}
use Rattle.rbc_model.specs.Profiles.{starts_of}
use Rattle.rbc_steps.proofs.BehindLemmas.{Appended, appended, behind_fits, behind_is, seam_of}
use Rattle.rbc_steps.proofs.runs.Runs.append.Goals as goal
use Rattle.rbc_steps.proofs.runs.Runs.append.Given.{Over}
use Rattle.rbc_steps.proofs.runs.Runs.append.Goals.{In_ok-map_err}

pub extend_moved-requires-after_bounds : goal.extend_moved-requires-after_bounds
extend_moved-requires-after_bounds g c κs within =
    let m = c.other.inside.end in
    let inside = subst (λ rows. list_all (λ start. nat_lt start m) (starts_of rows) ≡ true) (sym c.deref.ensures.value) c.other.invariant.0.starts.inside in
    behind_fits c.self.inside.end m c.from.result c.deref.result.now c.self.invariant.1 c.other.invariant.1 inside

-- what stands there now is the track with the other one behind it
appended_here : (g : Over) (c : In_ok-map_err g)
    → Appended g.V.Level.levels (g.met.V.Level g.world.𝓛 g.world.𝓜 g.world.𝓡 ((λ s x. x), (λ x. x), (λ x. x), λ x. x)).lawful
    c.self.inside.end c.other.inside.end c.self.inside.runs.items c.self.invariant.0 c.other.inside.runs.items c.extend_moved.new.rows.items
appended_here g c =
    let level = g.met.V.Level g.world.𝓛 g.world.𝓜 g.world.𝓡 ((λ s x. x), (λ x. x), (λ x. x), λ x. x) in
    let levels = g.V.Level.levels in
    let n = c.self.inside.end in
    let first = c.self.inside.runs.items in
    let second = c.other.inside.runs.items in
    let joined = c.same-joined.result in
    let is = behind_is n joined _ c.from.result first c.deref.result.now second c.extend_moved.new.rows.items (sym c.in_ok-map_err.ensures.variant) c.from.ensures c.deref.ensures.value c.extend_moved.ensures.rows in
    let seam = seam_of levels c.len-last.result joined first second c.index.result.now c.index-2.result.now (omega (arith, c.len-last.ensures, c.self.inside.runs.ok.0)) c.index.ensures c.index-2.ensures c.same-joined.ensures.same in
    appended levels level.lawful n c.other.inside.end first c.self.invariant.0 joined second c.extend_moved.new.rows.items c.other.invariant.0 seam is

pub invariant_of-self-2 : goal.invariant_of-self-2
invariant_of-self-2 g c = ((appended_here g (goal.at.invariant_of-self-2 g c).In_ok-map_err).track, omega (arith, c.self.invariant.1))

pub returns-clause-track : goal.returns-clause-track
returns-clause-track g c = (appended_here g (goal.at.returns-clause-track g c).In_ok-map_err).track

pub returns-clause-follows : goal.returns-clause-follows
returns-clause-follows g c = rw (← c.self.view_is, ← c.other.view_is) (appended_here g (goal.at.returns-clause-follows g c).In_ok-map_err).follows

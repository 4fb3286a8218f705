-- Reductions of a view's speeds and gradients make a candidate of it.
use Rattle.std.proofs.Common.{◌≡◌, ℕ, ℤ, Bool, true, List, Option, Some, refl, sym, ap, ◌∙◌, subst, arith}
use Rattle.std.specs.Global.{Vec}
use Rattle.rbc_model.specs.declared.places.Format.TheVariants.{Far}
use Rattle.rbc_model.specs.GroupNames.{GroupName}
use Rattle.rbc_model.specs.Levels.{Levels, speed_levels, grade_levels}
use Rattle.rbc_model.specs.Messages.{Authority, is_writable, authority_of, message_bytes}
use Rattle.rbc_model.specs.Profiles.{StepFunction, IsProfile}
use Rattle.rbc_model.specs.Scales.{is_expressible, unit_of}
use Rattle.rbc_model.specs.Views.{View}
use Rattle.rbc_model.proofs.ScaleLemmas.{writable, makes_authority}
use Rattle.rbc_reach.specs.Forms.{metres_shown, IsViewInForm}
use Rattle.rbc_grant.specs.Candidates.{granted, IsCandidate}
use Rattle.rbc_grant.specs.declared.certificates.Losses.{Losses}
use Rattle.rbc_grant.specs.declared.certificates.PriceTables.{PriceTables}
use Rattle.rbc_grant.specs.Reductions.{IsReduction, speeds_shown, grades_shown}

-- the authority of a view with these profiles
abbrev pub authority_for : View → List (ℕ × ℕ) → List (ℕ × ℤ) → Authority
authority_for view speeds grades = record {
  time = view.time;
  group = view.group;
  nominal = view.nominal;
  end = metres_shown view;
  speeds = speeds;
  grades = grades;
}

-- ---- the authority

-- a reduction of a track whose end a message can give is a profile that the message can give
reduction_is_writable : {V : Type 0} (levels : Levels V) (limit : ℕ) (track profile : StepFunction V) (lost : ℕ) (rows : List (Vec ℕ)) → is_expressible Far track.end ≡ true
    → IsReduction levels (unit_of track.end) limit track profile lost rows → is_writable profile ≡ true
reduction_is_writable levels limit track profile lost rows far reduction =
    let best = reduction.chosen.best in
    let fits = best.fits in
    writable levels limit profile (subst (λ n. is_expressible Far n ≡ true) (sym reduction.end) far)
    (subst (λ n. IsProfile levels (unit_of n) limit n profile.steps) (sym reduction.end) fits.profile)

some_is : {X : Type 0} (o : Option X) (a b : X) → o ≡ Some a → o ≡ Some b → a ≡ b
some_is o a b h k = cc

module _ (view : View) (speeds : StepFunction ℕ) (grades : StepFunction ℤ) (lost : Losses) (tables : PriceTables) where
  -- Both are reductions of what the view shows, up to an end that a message can give.
  pub record AreReductions : Type 0 where
    pub far : is_expressible Far (metres_shown view) ≡ true
    pub speeds_reduced : IsReduction speed_levels (unit_of (metres_shown view)) view.speed_steps (speeds_shown view) speeds lost.speeds tables.speeds.items
    pub grades_reduced : IsReduction grade_levels (unit_of (metres_shown view)) view.grade_steps (grades_shown view) grades lost.grades tables.grades.items

  -- they make an authority
  authority_of-shown : AreReductions → authority_of view.time view.group view.nominal speeds grades ≡ Some (authority_for view speeds.steps grades.steps)
  authority_of-shown are =
      let s = are.speeds_reduced in
      let g = are.grades_reduced in
      let with_end : ℕ → Authority = λ n. record { time = view.time; group = view.group; nominal = view.nominal; end = n; speeds = speeds.steps; grades = grades.steps } in
      makes_authority view.time view.group view.nominal speeds grades (g.end ∙ sym s.end)
      (reduction_is_writable speed_levels view.speed_steps (speeds_shown view) speeds lost.speeds tables.speeds.items are.far s)
      (reduction_is_writable grade_levels view.grade_steps (grades_shown view) grades lost.grades tables.grades.items are.far g)
      ∙ ap (λ n. Some (with_end n)) s.end

  pub made_of-shown : (time : ℕ) (group : GroupName) (nominal : Bool) (made : Option Authority) → AreReductions → time ≡ view.time → group ≡ view.group → nominal ≡ view.nominal
      → made ≡ authority_of time group nominal speeds grades → made ≡ Some (authority_for view speeds.steps grades.steps)
  made_of-shown time group nominal made are t n d is = is ∙ (λ i. authority_of (t i) (n i) (d i) speeds grades) ∙ authority_of-shown are

  pub the_authority : (time : ℕ) (group : GroupName) (nominal : Bool) (made : Option Authority) (authority : Authority) → AreReductions → time ≡ view.time → group ≡ view.group → nominal ≡ view.nominal
      → made ≡ authority_of time group nominal speeds grades → made ≡ Some authority → authority ≡ authority_for view speeds.steps grades.steps
  the_authority time group nominal made authority are t n d is some =
      some_is made authority (authority_for view speeds.steps grades.steps) some (made_of-shown time group nominal made are t n d is)

-- ---- the candidate

candidate_for : (view : View) (speeds : StepFunction ℕ) (grades : StepFunction ℤ) (lost : Losses) (tables : PriceTables) (bytes : List ℕ) → IsViewInForm view → AreReductions view speeds grades lost tables
    → bytes ≡ message_bytes (authority_for view speeds.steps grades.steps)
    → IsCandidate view (granted view (authority_for view speeds.steps grades.steps)) bytes lost tables
candidate_for view speeds grades lost tables bytes form are message = let s = are.speeds_reduced in let g = are.grades_reduced in record {
  best = record {
    train = refl;
    from = refl;
    obstacle = refl;
    time = refl;
    group = refl;
    direction = refl;
    ahead = form.ahead;
    end = let ahead = form.ahead in omega arith;
    speeds = s.chosen.best;
    grades = g.chosen.best;
  };
  chosen = record { speeds = s.chosen; grades = g.chosen };
  message = message;
  losses = record { speeds = s.loss; grades = g.loss };
  prices = record { speeds = s.prices; grades = g.prices };
}

pub candidate_made : (view : View) (authority : Authority) (speeds : StepFunction ℕ) (grades : StepFunction ℤ) (lost : Losses) (tables : PriceTables) (bytes : List ℕ)
    → IsViewInForm view → AreReductions view speeds grades lost tables
    → authority ≡ authority_for view speeds.steps grades.steps → bytes ≡ message_bytes authority
    → IsCandidate view (granted view authority) bytes lost tables
candidate_made view authority speeds grades lost tables bytes form are is message =
    subst (λ a. IsCandidate view (granted view a) bytes lost tables) (sym is)
    (candidate_for view speeds grades lost tables bytes form are (message ∙ ap message_bytes is))

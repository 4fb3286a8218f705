use Rattle.std.proofs.Common.{◌≡◌, ℕ, true, ◌%◌, ◌==◌, ◌&&◌, ◌∙◌, sym, ap, ap₂}
use Rattle.std.specs.List.{list_all}
use Rattle.std.proofs.lemmas.List.Folds.{list_all-map}
use Rattle.rbc_model.specs.declared.places.Format.TheVariants.{Far}
use Rattle.rbc_model.specs.Profiles.{starts_of, are_multiples}
use Rattle.rbc_model.specs.Scales.{is_expressible, unit_of}
use Rattle.rbc_packet.proofs.authority.is_writable.Goals as goal

pub returns-then-is_expressible : goal.returns-then-is_expressible
returns-then-is_expressible g c =
    let end = c.args.profile.now.end in
    let steps = c.args.profile.now.steps in
    let far : is_expressible Far end ≡ true = sym (c.is_expressible.ensures ∙ ap (λ e. is_expressible Far e) c.end-end.ensures) ∙ c.if-is_expressible.true in
    c.start_in_units.ensures
    ∙ ap₂ (λ u all. list_all (λ (step : ℕ × _). step.0 % u == 0) all) (c.unit_of.ensures.unit ∙ ap (λ e. unit_of e) c.end-end.ensures) c.steps.ensures
    ∙ sym (list_all-map (λ start. start % unit_of end == 0) (λ s. s.0) steps)
    ∙ ap (λ b. b && are_multiples (unit_of end) (starts_of steps)) (sym far)

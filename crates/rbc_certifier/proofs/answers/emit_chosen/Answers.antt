use Rattle.std.proofs.Common.{arith, subst, ◌≡◌, true, refl}
use Rattle.rbc_model.specs.declared.places.Format.TheVariants.{Far}
use Rattle.rbc_model.specs.Scales.{is_expressible}
use Rattle.rbc_words.specs.PriceText.{prices_of}
use Rattle.rbc_words.specs.Replies.{certified_text}
use Rattle.rbc_certifier.proofs.CertifyingLemmas.{certified_as, end_of, chosen_writable}
use Rattle.rbc_certifier.proofs.answers.emit_chosen.Goals as goal

pub write_profile-requires-send-V : goal.write_profile-requires-send-V
write_profile-requires-send-V g c κs within = c.type_bounds.send-V

pub write_profile-requires-sync-V : goal.write_profile-requires-sync-V
write_profile-requires-sync-V g c κs within = c.type_bounds.sync-V

pub write_profile-requires-after_bounds : goal.write_profile-requires-after_bounds
write_profile-requires-after_bounds g c κs within =
    let track = c.args.track.now in
    let is = rw c.in-Ok.is at c.requires.chosen in
    (omega arith, chosen_writable g.V.Level.levels c.args.limit track.end track c.in-Ok.chosen.profile refl is.ends c.requires.expressible is.chosen)

pub emit_certified-requires-send-V : goal.emit_certified-requires-send-V
emit_certified-requires-send-V g c κs within = c.type_bounds.send-V

pub emit_certified-requires-sync-V : goal.emit_certified-requires-sync-V
emit_certified-requires-sync-V g c κs within = c.type_bounds.sync-V

pub returns : goal.returns
returns g c =
    let spelled = g.met.V.Spelled g.world.𝓛 g.world.𝓜 g.world.𝓡 ((λ s x. x), (λ x. x), (λ x. x), λ x. x) in
    let track = c.args.track.now in
    let reduced = c.in-Ok.chosen in
    let is = rw c.in-Ok.is at c.requires.chosen in (
      certified_text g.V.Spelled.kind reduced.profile reduced.loss (record { limit = c.args.limit; track = c.args.track; prices = c.as_slice.result }) c.as_slice-2.result.now,
      λ runs end made.
          let given = subst (λ n. is_expressible Far n ≡ true) (end_of g.V.Level.levels end runs track made) c.requires.expressible in
          rw (c.as_slice.ensures.value, c.as_slice-2.ensures.value)
          (certified_as g.V.Spelled.kind g.V.Level.levels g.V.Encoded.packet spelled.same_levels c.requires.packet
          (record { limit = c.args.limit; runs = runs; end = end }) track reduced.profile reduced.loss (prices_of reduced.prices.items) c.in-Ok-write_profile.packet.items
          given made is.chosen is.ends is.greatest is.loses c.in-Ok-write_profile.ensures),
      c.emit_certified.ensures,
    )

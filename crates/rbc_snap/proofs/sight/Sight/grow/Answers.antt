use Rattle.std.proofs.Common.{◌≡◌, ◌++◌, ◌∷◌, [], length, ap, sym, subst, ◌∙◌, arith, length-append}
use Rattle.rbc_record.specs.Records.{HistoryOnTrack}
use Rattle.rbc_snap.specs.Later.{IsLater, nothing_entered}
use Rattle.rbc_snap.specs.Sights.{SeenOf, seen_of, latest, AreMoments}
use Rattle.rbc_snap.proofs.MomentLemmas.{last_added, moments_more}
use Rattle.rbc_snap.proofs.sight.Sight.grow.Goals as goal

pub overflow_add-self : goal.overflow_add-self
overflow_add-self c = omega (arith, c.in-Some.ensures.fits)

pub invariant_of-self : goal.invariant_of-self
invariant_of-self c =
    let old = c.self.inside.seen.log in
    let now = c.args.log.now in
    let more : c.in-Some.seen.log ≡ old ++ now ∷ [] = c.in-Some.ensures.added in
    let last : latest c.in-Some.seen.log ≡ now = ap latest more ∙ last_added nothing_entered old now in
    let later : IsLater (latest old) now = subst (λ (s : SeenOf). IsLater s.history now) (sym c.self.view_is) c.requires.later in (
      (let n = ap length more in omega (arith, n, length-append old (now ∷ []), c.self.invariant.0)),
      c.version-self-inside.ensures.count ∙ sym (ap (λ (h : HistoryOnTrack). length h.entries) last),
      subst AreMoments (sym more) (moments_more old now c.self.invariant.2 later),
    )

pub returns : goal.returns
returns c =
    let old = c.self.inside.seen.log in
    let now = c.args.log.now in
    let last : latest c.in-Some.seen.log ≡ now = ap latest c.in-Some.ensures.added ∙ last_added nothing_entered old now in
    let book = c.in-Some.ensures.book ∙ ap (λ (s : SeenOf). s.book) c.self.view_is in
    λ i. seen_of (book i) (last i)

use Rattle.std.proofs.Common.{List, ap, subst, ◌⊎◌}
use mathlib.Core.List.{IsPrefix}
use Rattle.rbc_record.specs.Records.{HistoryOnTrack}
use Rattle.rbc_snap.specs.Later.{IsLater}
use Rattle.rbc_snap.specs.Sights.{SeenOf, latest}
use Rattle.rbc_snap.proofs.MomentLemmas.{beside}
use Rattle.rbc_snap.proofs.sight.Sight.is_beside.Goals as goal

pub returns : goal.returns
returns c =
    let both = c.learn.new.self.log in
    let mine = c.self.inside.seen.log in
    let theirs = c.args.seen.now.log in
    let P : SeenOf → Type 0 = λ a. IsLater a.history (latest theirs) ⊎ IsLater (latest theirs) a.history in
    let this : IsPrefix mine both = subst (λ (l : List HistoryOnTrack). IsPrefix l both) (ap (λ s. s.log) c.again-both.ensures) c.learn.ensures.2 in
    subst P c.self.view_is (beside mine theirs both c.self.invariant.2 c.requires.moments this c.learn.ensures.3)

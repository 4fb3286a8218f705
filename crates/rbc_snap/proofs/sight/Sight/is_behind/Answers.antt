use Rattle.std.proofs.Common.{◌<◌, List, length, ap, subst}
use Rattle.std.specs.Prelude.{MatchBool, nat_lt}
use mathlib.Core.List.{IsPrefix}
use Rattle.rbc_record.specs.Records.{HistoryOnTrack}
use Rattle.rbc_snap.specs.Later.{IsLater}
use Rattle.rbc_snap.specs.Sights.{SeenOf, seen_of, latest}
use Rattle.rbc_snap.proofs.MomentLemmas.{compared}
use Rattle.rbc_snap.proofs.sight.Sight.is_behind.Goals as goal

pub returns : goal.returns
returns c =
    let v = c.self.inside.version in
    let w = c.other.inside.version in
    let both = c.learn.new.self.log in
    let mine = c.self.inside.seen.log in
    let theirs = c.other.inside.seen.log in
    let P : SeenOf → SeenOf → Type 0 = λ a b. MatchBool (nat_lt v w) ((length a.history.entries < length b.history.entries) × IsLater a.history b.history) (IsLater b.history a.history) in
    let this : IsPrefix mine both = subst (λ (l : List HistoryOnTrack). IsPrefix l both) (ap (λ s. s.log) c.again-both.ensures) c.learn.ensures.2 in
    let here = compared v w mine theirs both c.self.invariant.1 c.other.invariant.1 c.self.invariant.2 c.other.invariant.2 this c.learn.ensures.3 in
    subst (λ a. P a c.args.other.now) c.self.view_is (subst (λ b. P (seen_of c.self.inside.seen.book (latest mine)) b) c.other.view_is here)

use Rattle.std.proofs.Common.{◌≡◌, ◌<◌, length, ap, sym, ◌∙◌, subst}
use Rattle.rbc_extent.specs.Walks.{Walked}
use Rattle.rbc_extent.proofs.WalkLemmas.{walk-dropped, walk-turns}
use Rattle.rbc_extent.proofs.walk.Walk.drop_first.Goals as goal

pub invariant_of-self : goal.invariant_of-self
invariant_of-self c =
    let s = c.self.inside in
    let none : s.behind ≡ 0 = ap (λ (v : Walked). v.behind) c.self.view_is ∙ c.requires.none_behind in
    let cut = rw c.in-Some.is at c.split_first.ensures.cases in
    walk-dropped s.track.now s.locks.now s.turn s.behind s.ahead s.first s.last s.metres c.metres_of.result none s.known.now c.in-Some.later.now c.in-Some.field-0-0.now c.head-self-inside.result
    cut.0 c.head-self-inside.ensures c.self.invariant c.metres_of.ensures

pub invariant_of-self-2 : goal.invariant_of-self-2
invariant_of-self-2 c =
    let s = c.self.inside in
    let none : s.behind ≡ 0 = ap (λ (v : Walked). v.behind) c.self.view_is ∙ c.requires.none_behind in
    let empty : length s.known.now ≡ 0 = rw c.in_default.is at c.split_first.ensures.cases in
    let several = subst (λ (v : Walked). 1 < length v.line.legs) (sym c.self.view_is) c.requires.several in
    walk-turns s.track.now s.locks.now s.turn s.behind s.ahead s.first s.last s.metres c.metres_of.result none s.known.now c.unwrap-self-inside.result
    empty several (sym c.next.ensures ∙ c.unwrap-self-inside.ensures) c.self.invariant c.metres_of.ensures

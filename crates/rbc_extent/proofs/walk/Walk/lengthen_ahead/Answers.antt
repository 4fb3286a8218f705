use Rattle.std.proofs.Common.{◌+◌, arith, ap, sym, ◌∙◌, Option, Some}
use Rattle.rbc_model.specs.Lines.{Line, has_section}
use Rattle.rbc_model.specs.Locks.{longer_ahead}
use Rattle.rbc_extent.specs.Walks.{Walked, walked_legs}
use Rattle.rbc_extent.proofs.CourseLemmas.{ahead-gains}
use Rattle.rbc_extent.proofs.WalkLemmas.{walk-ahead, walk-few, walk-small, walked-push}
use Rattle.rbc_extent.proofs.walk.Walk.lengthen_ahead.Goals as goal

pub overflow_add-self : goal.overflow_add-self
overflow_add-self c =
    let s = c.self.inside in
    let longer = walk-ahead s.track.now s.locks.now s.known.now s.turn s.behind s.ahead s.first s.last s.metres c.self.invariant c.in-Some.leg (s.metres + c.metres_of.result) (sym c.in-Some.ensures) (ap (λ (v : Walked). has_section v.line.legs c.in-Some.leg.section) c.self.view_is ∙ sym c.has_section.ensures ∙ c.if-has_section.false)
    (ap (λ m. s.metres + m) c.metres_of.ensures) in
    omega (arith, walk-small s.track.now s.locks.now s.known.now s.turn s.behind (s.ahead + 1) s.first c.in-Some.leg (s.metres + c.metres_of.result) longer)

pub overflow_add-self-2 : goal.overflow_add-self-2
overflow_add-self-2 c =
    let s = c.self.inside in
    omega (arith, walk-few s.track.now s.locks.now s.known.now s.turn s.behind s.ahead s.first s.last s.metres c.self.invariant)

pub invariant_of-self : goal.invariant_of-self
invariant_of-self c =
    let s = c.self.inside in
    walk-ahead s.track.now s.locks.now s.known.now s.turn s.behind s.ahead s.first s.last s.metres c.self.invariant c.in-Some.leg (s.metres + c.metres_of.result) (sym c.in-Some.ensures) (ap (λ (v : Walked). has_section v.line.legs c.in-Some.leg.section) c.self.view_is ∙ sym c.has_section.ensures ∙ c.if-has_section.false)
    (ap (λ m. s.metres + m) c.metres_of.ensures)

pub returns-clause-longer : goal.returns-clause-longer
returns-clause-longer c =
    let s = c.self.inside in
    let legs = walked_legs s.locks.now s.known.now s.turn s.behind s.ahead in
    let some : Line → Option Line = λ l. Some l in
    ap some (walked-push s.locks.now s.known.now s.turn s.behind s.ahead s.last c.in-Some.leg c.self.invariant.ends (sym c.in-Some.ensures))
    ∙ ahead-gains s.locks.now legs s.last c.in-Some.leg c.self.invariant.ends (sym c.in-Some.ensures) (ap (λ (v : Walked). has_section v.line.legs c.in-Some.leg.section) c.self.view_is ∙ sym c.has_section.ensures ∙ c.if-has_section.false)
    ∙ ap (λ (v : Walked). longer_ahead v.locks v.line.legs) c.self.view_is

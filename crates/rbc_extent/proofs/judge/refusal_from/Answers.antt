use Rattle.std.proofs.Common.{◌≡◌, ◌+◌, false, true, length, Option, ap, sym, ◌∙◌, subst, refl, arith, nat_lt}
use Rattle.std.specs.Prelude.{is_some}
use Rattle.rbc_model.specs.Scales.{farthest}
use Rattle.rbc_model.specs.Reports.{Report}
use Rattle.rbc_model.specs.declared.tracks.BaliseGroup.{BaliseGroup}
use Rattle.rbc_model.specs.Tracks.{Track}
use Rattle.rbc_model.specs.Lines.{Line, has_leg, line_length}
use Rattle.rbc_model.specs.Locks.{Locks, longer_ahead, longer_back, lengthened}
use Rattle.rbc_model.specs.Placing.{leg_told, origin_on, has_rear, has_front, without_legs_behind}
use Rattle.rbc_extent.specs.Walks.{Walked, IsSameWay}
use Rattle.rbc_extent.proofs.CoveringLemmas.{flag-none, flag-some}
use Rattle.rbc_extent.proofs.JudgeLemmas.{beyond-dropped, dropped-legs, told-dropped, judged-no_rear, judged-front, same_way-on, lt_test, ge_test}
use Rattle.rbc_extent.proofs.judge.refusal_from.Goals as goal

-- the search for the rear, from a walk on the way
abbrev back : BaliseGroup → Report → Track → Locks → Line → Option Line
back group report track locks line = lengthened (length track.sections) (longer_back locks) (has_rear track group report) line

back-same : (group : BaliseGroup) (report : Report) (start now : Walked) (line : Line) → IsSameWay start now → now.line.legs ≡ line → back group report now.line.track now.locks now.line.legs ≡ back group report start.line.track start.locks line
back-same group report start now line way is =
    ap (λ (t : Track). back group report t now.locks now.line.legs) way.track
    ∙ ap (λ (k : Locks). back group report start.line.track k now.line.legs) way.locks
    ∙ ap (back group report start.line.track start.locks) is

abbrev ahead : BaliseGroup → Report → Track → Locks → Line → Option Line
ahead group report track locks line = lengthened (length track.sections) (longer_ahead locks) (has_front track group report) line

ahead-same : (group : BaliseGroup) (report : Report) (start now : Walked) → IsSameWay start now → is_some (ahead group report now.line.track now.locks now.line.legs) ≡ is_some (ahead group report start.line.track start.locks now.line.legs)
ahead-same group report start now way =
    ap (λ (t : Track). is_some (ahead group report t now.locks now.line.legs)) way.track ∙ ap (λ (k : Locks). is_some (ahead group report start.line.track k now.line.legs)) way.locks

pub has_rear-requires-clause-told : goal.has_rear-requires-clause-told
has_rear-requires-clause-told c =
    let w = c.args.walk.now in
    let legs = c.drop_legs_behind.ensures.legs ∙ dropped-legs w.line.track w.locks c.args.group.now c.args.report.now w.line.legs c.leg_told.result c.rear_from-rear.result c.length.result c.args.beyond c.leg_told.ensures c.length.ensures.length c.requires.beyond c.rear_from-rear.ensures in
    ap (λ l. has_leg l (leg_told c.args.group.now c.args.report.now)) legs ∙ told-dropped w.line.track w.locks c.args.group.now c.args.report.now w.line.legs c.requires.told

pub has_rear-requires-clause-beyond : goal.has_rear-requires-clause-beyond
has_rear-requires-clause-beyond c =
    let w = c.args.walk.now in
    let d = c.drop_legs_behind.new.walk in
    let legs = c.drop_legs_behind.ensures.legs ∙ dropped-legs w.line.track w.locks c.args.group.now c.args.report.now w.line.legs c.leg_told.result c.rear_from-rear.result c.length.result c.args.beyond c.leg_told.ensures c.length.ensures.length c.requires.beyond c.rear_from-rear.ensures in
    let P : Track → Line → Type 0 = λ t l. origin_on t c.args.group.now c.args.report.now l + c.args.beyond ≡ line_length t l in
    subst (λ (t : Track). P t d.line.legs) (sym c.drop_legs_behind.ensures.way.track)
    (subst (P w.line.track) (sym legs) (beyond-dropped w.line.track w.locks c.args.group.now c.args.report.now c.args.beyond w.line.legs c.known.ensures.line c.requires.told c.requires.beyond))

pub returns-then-not-has_rear : goal.returns-then-not-has_rear
returns-then-not-has_rear c =
    let w = c.args.walk.now in
    let d = c.drop_legs_behind.new.walk in
    let g = c.args.group.now in
    let r = c.args.report.now in
    let legs = c.drop_legs_behind.ensures.legs ∙ dropped-legs w.line.track w.locks g r w.line.legs c.leg_told.result c.rear_from-rear.result c.length.result c.args.beyond c.leg_told.ensures c.length.ensures.length c.requires.beyond c.rear_from-rear.ensures in
    judged-no_rear w.line.track w.locks g r w.line.legs
    (flag-none c.has_rear.result c.has_rear.new.walk.line.legs (back g r d.line.track d.locks d.line.legs) c.has_rear.ensures.rear c.if-not-has_rear.true
    ∙ back-same g r w d (without_legs_behind w.line.track g r w.line.legs) c.drop_legs_behind.ensures.way legs)

pub returns-then-not-has_front : goal.returns-then-not-has_front
returns-then-not-has_front c =
    let w = c.args.walk.now in
    let d = c.drop_legs_behind.new.walk in
    let n = c.has_rear.new.walk in
    let g = c.args.group.now in
    let r = c.args.report.now in
    let legs = c.drop_legs_behind.ensures.legs ∙ dropped-legs w.line.track w.locks g r w.line.legs c.leg_told.result c.rear_from-rear.result c.length.result c.args.beyond c.leg_told.ensures c.length.ensures.length c.requires.beyond c.rear_from-rear.ensures in
    let way = same_way-on w d n c.drop_legs_behind.ensures.way c.has_rear.ensures.way in
    judged-front w.line.track w.locks g r w.line.legs n.line.legs false (nat_lt (farthest w.line.track.format) (r.distance + r.under))
    (flag-some c.has_rear.result n.line.legs (back g r d.line.track d.locks d.line.legs) c.has_rear.ensures.rear c.if-not-has_rear.false
    ∙ back-same g r w d (without_legs_behind w.line.track g r w.line.legs) c.drop_legs_behind.ensures.way legs)
    (sym c.if-not-has_front.true ∙ c.has_front.ensures.front ∙ ahead-same g r w n way) refl

pub returns-then-metres_ahead-farthest_end : goal.returns-then-metres_ahead-farthest_end
returns-then-metres_ahead-farthest_end c =
    let w = c.args.walk.now in
    let d = c.drop_legs_behind.new.walk in
    let n = c.has_rear.new.walk in
    let g = c.args.group.now in
    let r = c.args.report.now in
    let legs = c.drop_legs_behind.ensures.legs ∙ dropped-legs w.line.track w.locks g r w.line.legs c.leg_told.result c.rear_from-rear.result c.length.result c.args.beyond c.leg_told.ensures c.length.ensures.length c.requires.beyond c.rear_from-rear.ensures in
    let way = same_way-on w d n c.drop_legs_behind.ensures.way c.has_rear.ensures.way in
    let end : c.farthest_end.result ≡ farthest w.line.track.format = c.farthest_end.ensures ∙ ap (λ (t : Track). farthest t.format) (c.has_front.ensures.way.track ∙ way.track) in
    let ahead = c.metres_ahead.ensures.ahead in
    judged-front w.line.track w.locks g r w.line.legs n.line.legs true true
    (flag-some c.has_rear.result n.line.legs (back g r d.line.track d.locks d.line.legs) c.has_rear.ensures.rear c.if-not-has_rear.false
    ∙ back-same g r w d (without_legs_behind w.line.track g r w.line.legs) c.drop_legs_behind.ensures.way legs)
    (sym c.if-not-has_front.false ∙ c.has_front.ensures.front ∙ ahead-same g r w n way)
    (sym (lt_test (farthest w.line.track.format) (r.distance + r.under) (omega arith)))

pub returns : goal.returns
returns c =
    let w = c.args.walk.now in
    let d = c.drop_legs_behind.new.walk in
    let n = c.has_rear.new.walk in
    let g = c.args.group.now in
    let r = c.args.report.now in
    let legs = c.drop_legs_behind.ensures.legs ∙ dropped-legs w.line.track w.locks g r w.line.legs c.leg_told.result c.rear_from-rear.result c.length.result c.args.beyond c.leg_told.ensures c.length.ensures.length c.requires.beyond c.rear_from-rear.ensures in
    let way = same_way-on w d n c.drop_legs_behind.ensures.way c.has_rear.ensures.way in
    let end : c.farthest_end.result ≡ farthest w.line.track.format = c.farthest_end.ensures ∙ ap (λ (t : Track). farthest t.format) (c.has_front.ensures.way.track ∙ way.track) in
    let ahead = c.metres_ahead.ensures.ahead in
    judged-front w.line.track w.locks g r w.line.legs n.line.legs true false
    (flag-some c.has_rear.result n.line.legs (back g r d.line.track d.locks d.line.legs) c.has_rear.ensures.rear c.if-not-has_rear.false
    ∙ back-same g r w d (without_legs_behind w.line.track g r w.line.legs) c.drop_legs_behind.ensures.way legs)
    (sym c.if-not-has_front.false ∙ c.has_front.ensures.front ∙ ahead-same g r w n way)
    (sym (ge_test (farthest w.line.track.format) (r.distance + r.under) (omega arith)))

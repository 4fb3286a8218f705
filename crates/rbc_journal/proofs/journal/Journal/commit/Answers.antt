use Rattle.std.proofs.Common.{◌≡◌, ◌<◌, ◌≤◌, ◌+◌, ◌-◌, ◌^◌, length, List, ℕ, ap, sym, ◌∙◌, subst, arith}
use Rattle.rbc_journal.specs.declared.journal.Journal.{Journal}
use Rattle.rbc_journal.specs.Beginnings.{beginning_of}
use Rattle.rbc_journal.specs.Gates.{IsLine, behind, counted, staged_in}
use Rattle.rbc_journal.specs.Journal.{told_of}
use Rattle.rbc_journal.specs.Seals.{seal_line}
use Rattle.rbc_journal.specs.Settled.{staged_lines}
use Rattle.rbc_journal.proofs.CommittedLemmas.{all_there, all_written, before_or_after, both_told, is_settled, none_staged, pushed_is, seal_is}
use Rattle.rbc_journal.proofs.LastingLemmas.{stays_behind}
use Rattle.rbc_journal.proofs.MomentLemmas.{leaves_so}
use Rattle.rbc_journal.proofs.SealLemmas.{seal_line_is}
use Rattle.rbc_journal.proofs.journal.Journal.commit.Goals as goal

pub push-requires-clause-line : goal.push-requires-clause-line
push-requires-clause-line g c =
    subst IsLine (sym (c.line_of.ensures ∙ ap seal_line c.seal_of-seal.ensures)) (seal_line_is _ _)

pub returns-in_err-write_behind-clause-any_moment : goal.returns-in_err-write_behind-clause-any_moment
returns-in_err-write_behind-clause-any_moment g c =
    let d = g.D.Device in
    let old = c.args.self.now in
    let bytes = c.deref.result.now in
    let seal = c.seal_of-seal.result in
    let some : 0 < length bytes = omega (arith, c.if-end-eq0.false, c.len-end.ensures, c.deref.ensures.len) in
    let at : c.len-end.result - 1 ≡ length bytes - 1 = omega (arith, c.len-end.ensures, c.deref.ensures.len) in
    let is = c.seal_of-seal.ensures in
    let are = pushed_is old bytes seal _ c.requires.waiting c.deref.ensures.value some at is c.push.new.pending.items c.line_of.result c.push.ensures.staged c.line_of.ensures in
    let written : c.as_slice.result.now ≡ c.push.new.pending.items = c.as_slice.ensures.value in
    leaves_so d.moment d.left_since _ _ _ _ c.write_behind.ensures.any_moment
    (λ file left. before_or_after d.seen d.may_leave old c.as_slice.result.now c.requires (ap staged_in written ∙ are) file left)

pub returns-clause-acknowledged : goal.returns-clause-acknowledged
returns-clause-acknowledged g c =
    let d = g.D.Device in
    let old = c.args.self.now in
    let bytes = c.deref.result.now in
    let seal = c.seal_of-seal.result in
    let some : 0 < length bytes = omega (arith, c.if-end-eq0.false, c.len-end.ensures, c.deref.ensures.len) in
    let at : c.len-end.result - 1 ≡ length bytes - 1 = omega (arith, c.len-end.ensures, c.deref.ensures.len) in
    let is = c.seal_of-seal.ensures in
    let are = pushed_is old bytes seal _ c.requires.waiting c.deref.ensures.value some at is c.push.new.pending.items c.line_of.result c.push.ensures.staged c.line_of.ensures in
    let written : c.as_slice.result.now ≡ c.push.new.pending.items = c.as_slice.ensures.value in
    let all = ap staged_in written ∙ are in
    let waits : 0 < length old.pending.items = omega (arith, some, ap length c.deref.ensures.value) in
    let w = c.in_ok-write_behind.ensures in
    let new : Journal g.row.D.Denot = record { device = c.write_behind.new.device; gate = old.gate + c.len.result; seal = seal; pending = c.clear.new.self } in
    let waiting : c.as_slice.result.now ≡ behind (staged_in c.as_slice.result.now) = written ∙ c.push.ensures.waiting ∙ ap (λ (l : List ℕ). behind (staged_in l)) (sym written) in
    let long : 0 < length c.as_slice.result.now = omega (arith, c.as_slice.ensures.len, c.push.ensures.len) in
    let gate : new.gate ≡ old.gate + length c.as_slice.result.now = omega (arith, c.as_slice.ensures.len, c.len.ensures) in
    let fits : new.gate ≤ 2 ^ 60 = omega (arith, c.len.ensures, c.push.ensures.len, (c.requires.seal_fits waits).file, ap length c.line_of.ensures, c.line_of.type_inv) in (
      is_settled d.seen d.may_leave old c.as_slice.result.now c.requires all new w.written w.durable waiting long gate fits c.clear.ensures.items c.clear.ensures.len (seal_is old bytes seal _ c.requires.waiting c.deref.ensures.value some at is),
      both_told d.seen d.may_leave old c.as_slice.result.now c.requires all (d.seen new.device) (all_there d.seen d.may_leave old c.as_slice.result.now c.requires all new w.written),
      ap told_of (none_staged c.clear.new.self.items c.clear.ensures.items),
    )

pub returns-clause-begins : goal.returns-clause-begins
returns-clause-begins g c =
    let d = g.D.Device in
    let old = c.args.self.now in
    let bytes = c.deref.result.now in
    let seal = c.seal_of-seal.result in
    let some : 0 < length bytes = omega (arith, c.if-end-eq0.false, c.len-end.ensures, c.deref.ensures.len) in
    let at : c.len-end.result - 1 ≡ length bytes - 1 = omega (arith, c.len-end.ensures, c.deref.ensures.len) in
    let is = c.seal_of-seal.ensures in
    let are = pushed_is old bytes seal _ c.requires.waiting c.deref.ensures.value some at is c.push.new.pending.items c.line_of.result c.push.ensures.staged c.line_of.ensures in
    let written : c.as_slice.result.now ≡ c.push.new.pending.items = c.as_slice.ensures.value in
    let all = ap staged_in written ∙ are in
    let w = c.in_ok-write_behind.ensures in
    let new : Journal g.row.D.Denot = record { device = c.write_behind.new.device; gate = old.gate + c.len.result; seal = seal; pending = c.clear.new.self } in
    ap beginning_of (all_there d.seen d.may_leave old c.as_slice.result.now c.requires all new w.written)
    ∙ stays_behind (counted (d.seen old.device)) (staged_lines old) (staged_in c.as_slice.result.now) _ all c.requires.put

pub returns-clause-any_moment : goal.returns-clause-any_moment
returns-clause-any_moment g c =
    let d = g.D.Device in
    let old = c.args.self.now in
    let bytes = c.deref.result.now in
    let seal = c.seal_of-seal.result in
    let some : 0 < length bytes = omega (arith, c.if-end-eq0.false, c.len-end.ensures, c.deref.ensures.len) in
    let at : c.len-end.result - 1 ≡ length bytes - 1 = omega (arith, c.len-end.ensures, c.deref.ensures.len) in
    let is = c.seal_of-seal.ensures in
    let are = pushed_is old bytes seal _ c.requires.waiting c.deref.ensures.value some at is c.push.new.pending.items c.line_of.result c.push.ensures.staged c.line_of.ensures in
    let written : c.as_slice.result.now ≡ c.push.new.pending.items = c.as_slice.ensures.value in
    leaves_so d.moment d.left_since _ _ _ _ c.write_behind.ensures.any_moment
    (λ file left. before_or_after d.seen d.may_leave old c.as_slice.result.now c.requires (ap staged_in written ∙ are) file left)

pub returns-clause-written : goal.returns-clause-written
returns-clause-written g c =
    let d = g.D.Device in
    let old = c.args.self.now in
    let bytes = c.deref.result.now in
    let seal = c.seal_of-seal.result in
    let some : 0 < length bytes = omega (arith, c.if-end-eq0.false, c.len-end.ensures, c.deref.ensures.len) in
    let at : c.len-end.result - 1 ≡ length bytes - 1 = omega (arith, c.len-end.ensures, c.deref.ensures.len) in
    let is = c.seal_of-seal.ensures in
    let are = pushed_is old bytes seal _ c.requires.waiting c.deref.ensures.value some at is c.push.new.pending.items c.line_of.result c.push.ensures.staged c.line_of.ensures in
    let written : c.as_slice.result.now ≡ c.push.new.pending.items = c.as_slice.ensures.value in
    let all = ap staged_in written ∙ are in
    let w = c.in_ok-write_behind.ensures in
    let new : Journal g.row.D.Denot = record { device = c.write_behind.new.device; gate = old.gate + c.len.result; seal = seal; pending = c.clear.new.self } in
    λ some. all_written d.seen d.may_leave old c.as_slice.result.now c.requires all new w.written

use Rattle.std.proofs.Common.{◌≡◌, ◌<◌, ◌-◌, length, Some, sym, ap, ◌∙◌, refl, arith}
use Rattle.std.specs.List.{slice_get}
use Rattle.std.proofs.lemmas.List.{get_or_read}
use Rattle.std.proofs.lemmas.Option.{slice_get_within}
use Rattle.rbc_desk.proofs.ClosingLemmas.{finds}
use Rattle.rbc_desk.proofs.closing.find.Goals as goal

pub returns-clause-finds : goal.returns-clause-finds
returns-clause-finds c =
    let entries = c.args.log.now.entries in
    let marks = c.args.marks.now in
    let place = c.place-place.result in
    let receipt = c.args.receipt.now in
    let entry : slice_get entries place ≡ Some receipt.entry =
    sym c.in-Some.ensures ∙ ap Some (sym (c.if-not-is_for.ensures.0 refl)) in
    let there : place < length entries = slice_get_within entries place receipt.entry entry in
    let inside : place - c.args.start < length marks.items = omega (arith, marks.ok.0) in
    λ earlier marked.
    finds entries c.args.start earlier receipt marks.items place c.place-place.ensures (omega arith) entry inside c.index.result.now
    (sym (get_or_read marks.items (place - c.args.start) _ inside c.index.ensures _)) marked

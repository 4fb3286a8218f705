use Rattle.std.proofs.Common.{arith, ◌∙◌, ap, sym}
use Rattle.std.proofs.lemmas.List.{length-map}
use Rattle.rbc_model.specs.PriceChecks.{unless_some}
use Rattle.rbc_table_laws.specs.PriceRows.{prices_of}
use Rattle.rbc_price.proofs.SearchLemmas.{none_too_high, some_too_high, refused_at}
use Rattle.rbc_price.proofs.inequalities.has_no_high_price.Goals as goal

pub metre_of-requires-in-Some-clause-inside : goal.metre_of-requires-in-Some-clause-inside
metre_of-requires-in-Some-clause-inside g c = let found = c.in-Some.ensures in let on = found.0.on in let column = found.0.column in omega arith

pub returns-in-Some : goal.returns-in-Some
returns-in-Some g c = λ limit count.
    let found = c.in-Some.ensures in
    let some = some_too_high g.V.Level.levels limit c.args.track.now (prices_of c.args.rows.now) (length-map c.args.rows.now (λ row. row.items) ∙ count)
    c.in-Some.place found.0 (λ other high. found.1 other tt high) in
    refused_at g.V.Level.levels limit c.args.track.now (prices_of c.args.rows.now) c.in-Some.place _ _ _ (omega arith) c.metre_of.ensures c.metre_of-in-Some.ensures some

pub returns-in-None : goal.returns-in-None
returns-in-None g c = λ limit count.
    ap unless_some (sym (none_too_high g.V.Level.levels limit c.args.track.now (prices_of c.args.rows.now) (length-map c.args.rows.now (λ row. row.items) ∙ count)
    (λ place high. c.in-None.ensures place tt high)))

pub returns-then-is_found_sound : goal.returns-then-is_found_sound
returns-then-is_found_sound g c = λ limit count.
    ap unless_some (sym (none_too_high g.V.Level.levels limit c.args.track.now (prices_of c.args.rows.now) (length-map c.args.rows.now (λ row. row.items) ∙ count)
    (λ place high. c.is_found_sound.ensures c.if-is_found_sound.true place tt high)))

use Rattle.std.proofs.Common.{refl, sym, ◌∙◌}
use Rattle.rbc_streams.proofs.EmittingLemmas.{emits_then, emits_as, emits_nothing}
use Rattle.rbc_words.proofs.SpacedLemmas.{prices-split, prices-none}
use Rattle.rbc_words.proofs.price_table.emit_prices.Goals as goal

pub loop-rest-preserved : goal.loop-rest-preserved
loop-rest-preserved g c =
    let pieces = prices-split _ _ _ _ _ c.split_at.ensures.front c.split_at.ensures.back refl in
    λ end rest. c.loop-rest.invariant end (emits_as (sym pieces) (emits_then c.emit_piece.ensures rest))

pub returns : goal.returns
returns g c =
    let none_left = prices-none c.loop-rest.rest.now (sym c.is_empty.ensures ∙ c.loop-rest-test.false) in
    c.loop-rest.invariant _ (emits_as (sym none_left) (emits_nothing _))

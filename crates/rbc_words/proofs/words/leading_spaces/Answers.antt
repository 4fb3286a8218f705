use Rattle.std.proofs.Common.{rules, tests, ◌≡◌, ◌∙◌, ap, length}
use Rattle.std.proofs.lemmas.Iterator.{YieldsList-from_slice}
use Rattle.std.proofs.lemmas.Iterator.Search.{position_from_yields_List}
use Rattle.std.specs.Option.{unwrap_or}
use Rattle.std.specs.List.{position}
use Rattle.rbc_words.proofs.FirstWordLemmas.{is_letter, place_or_end}
use Rattle.rbc_words.proofs.words.leading_spaces.Goals as goal

pub returns-clause-value : goal.returns-clause-value
returns-clause-value c =
    let found : c.position.result ≡ position is_letter c.args.text.now = position_from_yields_List is_letter _ _ c.position.result c.position.ensures.ran (YieldsList-from_slice _ c.iter.ensures.rest) (λ x b q k. search (rules, tests)) in
    c.unwrap_or.ensures ∙ ap (λ place. unwrap_or place (length c.args.text.now)) found ∙ place_or_end is_letter c.args.text.now

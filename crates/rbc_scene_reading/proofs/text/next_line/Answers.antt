use Rattle.std.proofs.Common.{◌≡◌, ℕ, ◌<◌, ◌∷◌, ◌∙◌, [], List, ap, arith, drop, length, sym, take}
use Rattle.std.proofs.lemmas.List.{nil_from_length}
use Rattle.rbc_model.specs.Sessions.{lines_of}
use Rattle.rbc_scene_reading.proofs.LineLemmas.{ended_line, last_line}
use Rattle.rbc_scene_reading.proofs.text.next_line.Goals as goal

pub returns-in-Some-clause-lines : goal.returns-in-Some-clause-lines
returns-in-Some-clause-lines c =
    let text = c.args.text.now in
    let later = c.in-Some.later.now in
    ended_line text later c.in-Some._feed.now (ap (λ n. drop n text) (sym c.length_of_line.ensures.value) ∙ sym c.split_at.ensures.back ∙ c.in-Some.ensures.cases.0)
    ∙ ap (λ (l : List ℕ). l ∷ lines_of later) (ap (λ n. take n text) (sym c.length_of_line.ensures.value) ∙ sym c.split_at.ensures.front)

pub returns-in-None-clause-lines : goal.returns-in-None-clause-lines
returns-in-None-clause-lines c =
    let text = c.args.text.now in
    let rest = c.split_at.result.1.now in
    let none : rest ≡ [] = nil_from_length rest c.in-None.ensures.cases in
    let some : 0 < length text = let e = c.is_empty.ensures in let f = c.if-is_empty.false in grind (arith, e, f) in
    last_line text some (ap (λ n. drop n text) (sym c.length_of_line.ensures.value) ∙ sym c.split_at.ensures.back ∙ none)
    ∙ ap (λ (l : List ℕ). l ∷ []) (ap (λ n. take n text) (sym c.length_of_line.ensures.value) ∙ sym c.split_at.ensures.front)
    ∙ ap (λ (r : List ℕ). c.split_at.result.0.now ∷ lines_of r) (sym none)

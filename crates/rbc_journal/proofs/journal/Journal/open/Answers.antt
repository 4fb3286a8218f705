use Rattle.std.proofs.Common.{◌≡◌, ◌++◌, List, ℕ, [], ◌∷◌, All, rules, ◌∙◌, ap, subst, sym, refl, length, arith}
use Rattle.std.proofs.lemmas.List.Elements.{All-nil}
use Rattle.rbc_journal.specs.Device.{Only}
use Rattle.rbc_journal.specs.Gates.{text, at_rest, behind, counted, staged_in}
use Rattle.rbc_journal.specs.Beginnings.{beginning_of}
use Rattle.rbc_journal.specs.Journal.{IsPutLine, recovered}
use Rattle.rbc_journal.specs.Seals.{AreSealed}
use Rattle.rbc_journal.proofs.OpenLemmas.{after_replace, is_at_rest, same_lines, same_told}
use Rattle.rbc_journal.proofs.journal.Journal.open.Goals as goal

pub returns-then-is_err-clause-any_moment_err : goal.returns-then-is_err-clause-any_moment_err
returns-then-is_err-clause-any_moment_err g c =
    let d = g.D.Device in
    after_replace _ _ c.requires.whole d.seen d.may_leave d.moment d.left_since g.met.D.Device.only_now _ _ c.requires.same c.requires.durable c.replace.ensures.crash c.replace.ensures.time

pub returns-clause-settled : goal.returns-clause-settled
returns-clause-settled g c =
    let d = g.D.Device in
    let w = c.requires.whole in
    let bytes = c.args.text.now in
    let is : d.seen c.replace.new.self ≡ bytes ++ 35 ∷ [] = search rules in
    let durable : Only (bytes ++ 35 ∷ []) (d.may_leave c.replace.new.self) = search rules in
    let count : counted (d.seen c.replace.new.self) ≡ counted bytes = ap counted is ∙ same_lines _ _ w in
    let none : c.new.result.items ≡ [] = search rules in
    record {
      file = is ∙ is_at_rest _ _ w ∙ ap at_rest (sym count);
      are_sealed = subst (λ (ls : List (List ℕ)). AreSealed ls c.args.seal.now) (sym count) w.are_sealed;
      gate = ap length w.is_text ∙ ap (λ (ls : List (List ℕ)). length (text ls)) (sym count);
      durable = subst (λ (f : List ℕ). Only f (d.may_leave c.replace.new.self)) (sym is) durable;
      waiting = subst (λ (l : List ℕ). l ≡ behind (staged_in l)) (sym none) refl;
      put = subst (λ (l : List ℕ). All IsPutLine (staged_in l)) (sym none) (All-nil IsPutLine);
      fits = search rules;
      seal_fits = λ some. absurd (omega (arith, some, ap length none));
    }

pub returns-clause-same : goal.returns-clause-same
returns-clause-same g c =
    let d = g.D.Device in
    let is : d.seen c.replace.new.self ≡ c.args.text.now ++ 35 ∷ [] = search rules in
    ap recovered is ∙ same_told _ _ c.requires.whole

pub returns-clause-begins : goal.returns-clause-begins
returns-clause-begins g c =
    let d = g.D.Device in
    let is : d.seen c.replace.new.self ≡ c.args.text.now ++ 35 ∷ [] = search rules in
    ap (λ (l : List ℕ). beginning_of (counted l)) is ∙ ap beginning_of (same_lines _ _ c.requires.whole)

pub returns-clause-any_moment : goal.returns-clause-any_moment
returns-clause-any_moment g c =
    let d = g.D.Device in
    after_replace _ _ c.requires.whole d.seen d.may_leave d.moment d.left_since g.met.D.Device.only_now _ _ c.requires.same c.requires.durable c.replace.ensures.crash c.replace.ensures.time

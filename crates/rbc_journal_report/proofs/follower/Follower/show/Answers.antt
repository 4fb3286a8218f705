use Rattle.std.proofs.Common.{◌≡◌, ℕ, List, length, take, drop, true, sym, subst, ◌∙◌, ap}
use Rattle.std.specs.Prelude.{bytes_eq}
use Rattle.std.specs.Io.KnownBytes.{Appends}
use Rattle.std.proofs.KnownBytes.{Appends-kept}
use Rattle.rbc_model.specs.Sessions.{WritesPart}
use Rattle.rbc_journal_report.proofs.FollowLemmas.{all_more, all_lines, still_text, rest_text, all_written, at_err}
use Rattle.rbc_journal_report.proofs.follower.Follower.show.Goals as goal

pub returns-in_err-extend_from_slice-clause-all : goal.returns-in_err-extend_from_slice-clause-all
returns-in_err-extend_from_slice-clause-all g c = all_more c.args.self.now.shown.items c.args.told.now c.requires.text c.requires.told

pub returns-in_err-outcome-clause-part : goal.returns-in_err-outcome-clause-part
returns-in_err-outcome-clause-part g c =
    let shown = c.args.self.now.shown.items in
    let told = c.args.told.now in
    let e = c.in-Some.ensures.cases in
    let is : bytes_eq (take (length shown) told) shown ≡ true = subst (λ (l : List ℕ). bytes_eq (take (length l) told) l ≡ true) c.as_slice.ensures.value e.0 in
    let rest : c.in-Some.rest.now ≡ drop (length shown) told = e.1 ∙ ap (λ (l : List ℕ). drop (length l) told) c.as_slice.ensures.value in
    let text = rest_text shown told c.requires.text c.requires.told c.in-Some.rest.now is rest in
    at_err c.from_residual-in_err-outcome.result
    (subst (λ (l : List ℕ). WritesPart (g.W.Sink.written c.args.writer.now) (g.W.Sink.written c.emit_text.new.writer) l) (sym text) (c.in_err-outcome.ensures.printed _ _ c.requires.going c.emit_text.ensures).text)

pub returns-in_err-outcome-clause-all : goal.returns-in_err-outcome-clause-all
returns-in_err-outcome-clause-all g c = all_more c.args.self.now.shown.items c.args.told.now c.requires.text c.requires.told

pub returns-in_err-flush-clause-part : goal.returns-in_err-flush-clause-part
returns-in_err-flush-clause-part g c =
    let shown = c.args.self.now.shown.items in
    let told = c.args.told.now in
    let e = c.in-Some.ensures.cases in
    let is : bytes_eq (take (length shown) told) shown ≡ true = subst (λ (l : List ℕ). bytes_eq (take (length l) told) l ≡ true) c.as_slice.ensures.value e.0 in
    let rest : c.in-Some.rest.now ≡ drop (length shown) told = e.1 ∙ ap (λ (l : List ℕ). drop (length l) told) c.as_slice.ensures.value in
    let text = rest_text shown told c.requires.text c.requires.told c.in-Some.rest.now is rest in
    let written = Appends-kept _ _ _ _ (c.in_ok-outcome.ensures.printed _ _ c.requires.going c.emit_text.ensures).text c.flush.ensures.bytes in
    at_err c.from_residual-in_err-flush.result
    (subst (λ (l : List ℕ). WritesPart (g.W.Sink.written c.args.writer.now) (g.W.Sink.written c.flush.new.self) l) (sym text) (all_written _ _ _ written))

pub returns-in_err-flush-clause-all : goal.returns-in_err-flush-clause-all
returns-in_err-flush-clause-all g c = all_more c.args.self.now.shown.items c.args.told.now c.requires.text c.requires.told

pub returns-clause-text : goal.returns-clause-text
returns-clause-text g c =
    let shown = c.args.self.now.shown.items in
    let told = c.args.told.now in
    let e = c.in-Some.ensures.cases in
    let is : bytes_eq (take (length shown) told) shown ≡ true = subst (λ (l : List ℕ). bytes_eq (take (length l) told) l ≡ true) c.as_slice.ensures.value e.0 in
    let rest : c.in-Some.rest.now ≡ drop (length shown) told = e.1 ∙ ap (λ (l : List ℕ). drop (length l) told) c.as_slice.ensures.value in
    still_text shown told c.requires.text c.requires.told c.in-Some.rest.now is rest c.extend_from_slice.new.self.items c.in_ok-extend_from_slice.ensures.items

pub returns-clause-lines : goal.returns-clause-lines
returns-clause-lines g c =
    let shown = c.args.self.now.shown.items in
    let told = c.args.told.now in
    let e = c.in-Some.ensures.cases in
    let is : bytes_eq (take (length shown) told) shown ≡ true = subst (λ (l : List ℕ). bytes_eq (take (length l) told) l ≡ true) c.as_slice.ensures.value e.0 in
    let rest : c.in-Some.rest.now ≡ drop (length shown) told = e.1 ∙ ap (λ (l : List ℕ). drop (length l) told) c.as_slice.ensures.value in
    all_lines shown told c.requires.text c.requires.told c.in-Some.rest.now is rest c.extend_from_slice.new.self.items c.in_ok-extend_from_slice.ensures.items

pub returns-clause-written : goal.returns-clause-written
returns-clause-written g c =
    let shown = c.args.self.now.shown.items in
    let told = c.args.told.now in
    let e = c.in-Some.ensures.cases in
    let is : bytes_eq (take (length shown) told) shown ≡ true = subst (λ (l : List ℕ). bytes_eq (take (length l) told) l ≡ true) c.as_slice.ensures.value e.0 in
    let rest : c.in-Some.rest.now ≡ drop (length shown) told = e.1 ∙ ap (λ (l : List ℕ). drop (length l) told) c.as_slice.ensures.value in
    let text = rest_text shown told c.requires.text c.requires.told c.in-Some.rest.now is rest in
    subst (λ (l : List ℕ). Appends (g.W.Sink.written c.args.writer.now) (g.W.Sink.written c.flush.new.self) l) (sym text)
    (Appends-kept _ _ _ _ (c.in_ok-outcome.ensures.printed _ _ c.requires.going c.emit_text.ensures).text c.flush.ensures.bytes)

pub returns-clause-all : goal.returns-clause-all
returns-clause-all g c = all_more c.args.self.now.shown.items c.args.told.now c.requires.text c.requires.told

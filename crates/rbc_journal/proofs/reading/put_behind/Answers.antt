use Rattle.std.proofs.Common.{◌≡◌, ℕ, List, [], ◌∷◌, ◌++◌, length, false, All, sym, ◌∙◌, ap, subst, arith, length-append}
use Rattle.std.specs.Prelude.{bytes_eq}
use Rattle.rbc_journal.specs.Gates.{counted, text, IsLine}
use Rattle.rbc_journal.specs.Seals.{seal_of_bytes, seal_of, seal_line, has_seal_form}
use Rattle.rbc_journal.specs.Reading.{first_put}
use Rattle.rbc_journal.proofs.PutLemmas.{lines_short, first_inner, first_wrong, line_first, line_split, put_size, put_text, All-snoc, counted_shut, differs_by, same_by, if_none}
use Rattle.rbc_journal.proofs.reading.put_behind.Goals as goal

pub overflow_add-lines : goal.overflow_add-lines
overflow_add-lines c =
    let i = c.loop-line.invariant in
    omega (arith, lines_short i.put, ap length i.split, length-append (text i.put) (32 ∷ c.loop-line.rest.now))

pub overflow_sub-behind : goal.overflow_sub-behind
overflow_sub-behind c =
    let i = c.loop-line.invariant in
    let e = c.in-Some.ensures in
    put_size c.args.behind.now c.loop-line.rest.now c.in-Some.line.now c.in-Some.after.now i.put i.split e.read e.form

pub returns-then-ne-clause-none : goal.returns-then-ne-clause-none
returns-then-ne-clause-none c =
    let i = c.loop-line.invariant in
    let e = c.in-Some.ensures in
    let before = c.args.before.now in
    let behind = c.args.behind.now in
    let rest = c.loop-line.rest.now in
    let line = c.in-Some.line.now in
    let after = c.in-Some.after.now in
    let seal : c.seal_up_to-seal.result ≡ seal_of before i.put = c.seal_up_to-seal.ensures ∙ ap (seal_of_bytes before) (put_text behind rest line after i.put i.split e.read e.form) in
    let right : c.as_slice.result.now ≡ seal_line (seal_of before i.put) = c.as_slice.ensures ∙ c.line_of.ensures ∙ ap seal_line seal in
    let differs : bytes_eq line (seal_line (seal_of before i.put)) ≡ false = ap (bytes_eq line) (sym right) ∙ differs_by line c.as_slice.result.now c.if-ne.true c.ne.ensures in
    i.same ∙ ap (first_put before i.put) (line_first behind rest line after i.put i.split e.read e.form)
    ∙ first_wrong before i.put line (counted after) (sym c.has_seal_form.ensures ∙ c.if-has_seal_form.true) differs

pub returns-then-has_seal_form-clause-some : goal.returns-then-has_seal_form-clause-some
returns-then-has_seal_form-clause-some c =
    let i = c.loop-line.invariant in
    let e = c.in-Some.ensures in
    let before = c.args.before.now in
    let behind = c.args.behind.now in
    let rest = c.loop-line.rest.now in
    let line = c.in-Some.line.now in
    let after = c.in-Some.after.now in
    let seal : c.seal_up_to-seal.result ≡ seal_of before i.put = c.seal_up_to-seal.ensures ∙ ap (seal_of_bytes before) (put_text behind rest line after i.put i.split e.read e.form) in
    let same : line ≡ seal_line c.seal_up_to-seal.result = same_by line c.as_slice.result.now c.if-ne.false c.ne.ensures ∙ c.as_slice.ensures ∙ c.line_of.ensures in (
      i.put,
      record {
        split = subst (λ (l : List ℕ). 32 ∷ behind ≡ text (i.put ++ l ∷ []) ++ after) same (line_split behind rest line after i.put i.split e.read e.form);
        lines = subst (λ (l : List ℕ). All IsLine (i.put ++ l ∷ [])) same (All-snoc IsLine i.put line i.lines e.form);
        inner = i.inner;
        form = ap has_seal_form (sym same) ∙ sym c.has_seal_form.ensures ∙ c.if-has_seal_form.true;
        right = seal;
      },
      omega (arith, i.count),
    )

pub returns-in_err-rest-clause-none : goal.returns-in_err-rest-clause-none
returns-in_err-rest-clause-none c =
    let i = c.loop-line.invariant in
    let e = c.in-Some.ensures in
    let before = c.args.before.now in
    let line = c.in-Some.line.now in
    let after = c.in-Some.after.now in
    let inner : has_seal_form line ≡ false = sym c.has_seal_form.ensures ∙ c.if-has_seal_form.false in
    if_none c.from_residual.result
    (i.same ∙ ap (first_put before i.put) (line_first c.args.behind.now c.loop-line.rest.now line after i.put i.split e.read e.form)
    ∙ first_inner before i.put line (counted after) inner
    ∙ ap (first_put before (i.put ++ line ∷ [])) (counted_shut after c.in_err-rest.ensures.none))

pub loop-line-preserved : goal.loop-line-preserved
loop-line-preserved c =
    let i = c.loop-line.invariant in
    let e = c.in-Some.ensures in
    let before = c.args.before.now in
    let behind = c.args.behind.now in
    let rest = c.loop-line.rest.now in
    let line = c.in-Some.line.now in
    let after = c.in-Some.after.now in
    let next = c.in_ok-rest.rest.now in
    let inner : has_seal_form line ≡ false = sym c.has_seal_form.ensures ∙ c.if-has_seal_form.false in
    let is_open : after ≡ 32 ∷ next = c.in_ok-rest.ensures.is_open in
    record {
      put = i.put ++ line ∷ [];
      split = line_split behind rest line after i.put i.split e.read e.form ∙ ap (λ (l : List ℕ). text (i.put ++ line ∷ []) ++ l) is_open;
      lines = All-snoc IsLine i.put line i.lines e.form;
      inner = All-snoc (λ line. has_seal_form line ≡ false) i.put line i.inner inner;
      count = omega (arith, i.count, length-append i.put (line ∷ []));
      same =
          i.same ∙ ap (first_put before i.put) (line_first behind rest line after i.put i.split e.read e.form)
          ∙ first_inner before i.put line (counted after) inner
          ∙ ap (λ (l : List ℕ). first_put before (i.put ++ line ∷ []) (counted l)) is_open;
    }

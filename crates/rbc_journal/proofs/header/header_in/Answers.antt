use Rattle.std.proofs.Common.{◌≡◌, [], ◌∷◌, ◌++◌, ◌∙◌, false, sym, ap, codes}
use Rattle.std.specs.Prelude.{bytes_eq}
use Rattle.rbc_journal.specs.Seals.{seal_of, seal_of_bytes, seal_line}
use Rattle.rbc_journal.specs.Headers.{title}
use Rattle.rbc_journal.proofs.PutLemmas.{differs_by, same_by}
use Rattle.rbc_journal.proofs.HeaderLemmas.{two_lines, wrong_title, wrong_seal, begins, right_seal}
use Rattle.rbc_journal.proofs.header.header_in.Goals as goal

pub returns-then-ne-clause-none : goal.returns-then-ne-clause-none
returns-then-ne-clause-none c =
    let e1 = c.in_ok-first.ensures in
    let e2 = c.in_ok-second.ensures in
    let e3 = c.in_ok-third.ensures in
    let first = c.in_ok-first.first.now in
    let differs : bytes_eq first (title ++ codes "2") ≡ false = ap (bytes_eq first) (sym c.as_slice.ensures) ∙ differs_by first c.as_slice.result.now c.if-ne.true c.ne.ensures in
    wrong_title c.args.bytes.now first c.in_ok-first.behind.now c.in_ok-second.second.now c.in_ok-second.behind.now c.in_ok-third.third.now c.in_ok-third.rest.now e1.read e2.read e3.read
    e1.form e2.form e3.form differs

pub returns-then-ne-2-clause-none : goal.returns-then-ne-2-clause-none
returns-then-ne-2-clause-none c =
    let e1 = c.in_ok-first.ensures in
    let e2 = c.in_ok-second.ensures in
    let e3 = c.in_ok-third.ensures in
    let bytes = c.args.bytes.now in
    let first = c.in_ok-first.first.now in
    let one = c.in_ok-first.behind.now in
    let second = c.in_ok-second.second.now in
    let two = c.in_ok-second.behind.now in
    let third = c.in_ok-third.third.now in
    let rest = c.in_ok-third.rest.now in
    let seal : c.seal_of-seal.result ≡ seal_of [] (first ∷ second ∷ []) =
    c.seal_of-seal.ensures ∙ ap (seal_of_bytes []) (two_lines bytes first one second two third rest e1.read e2.read e3.read e1.form e2.form e3.form) in
    let right : c.as_slice-2.result.now ≡ seal_line (seal_of [] (first ∷ second ∷ [])) = c.as_slice-2.ensures ∙ c.line_of.ensures ∙ ap seal_line seal in
    wrong_seal bytes first one second two third rest e1.read e2.read e3.read e1.form e2.form e3.form (ap (bytes_eq third) (sym right) ∙ differs_by third c.as_slice-2.result.now c.if-ne-2.true c.ne-2.ensures)

pub returns-clause-some : goal.returns-clause-some
returns-clause-some c =
    let e1 = c.in_ok-first.ensures in
    let e2 = c.in_ok-second.ensures in
    let e3 = c.in_ok-third.ensures in
    let bytes = c.args.bytes.now in
    let first = c.in_ok-first.first.now in
    let one = c.in_ok-first.behind.now in
    let second = c.in_ok-second.second.now in
    let two = c.in_ok-second.behind.now in
    let third = c.in_ok-third.third.now in
    let rest = c.in_ok-third.rest.now in
    let seal : c.seal_of-seal.result ≡ seal_of [] (first ∷ second ∷ []) =
    c.seal_of-seal.ensures ∙ ap (seal_of_bytes []) (two_lines bytes first one second two third rest e1.read e2.read e3.read e1.form e2.form e3.form) in
    let right : c.as_slice-2.result.now ≡ seal_line (seal_of [] (first ∷ second ∷ [])) = c.as_slice-2.ensures ∙ c.line_of.ensures ∙ ap seal_line seal in
    begins bytes first one second two third rest e1.read e2.read e3.read e1.form e2.form e3.form c.in_ok-digest.digest
    (same_by first c.as_slice.result.now c.if-ne.false c.ne.ensures ∙ c.as_slice.ensures)
    (sym c.digest_of_line.ensures ∙ c.in_ok-digest.was)
    (same_by third c.as_slice-2.result.now c.if-ne-2.false c.ne-2.ensures ∙ right)

pub returns-clause-seal : goal.returns-clause-seal
returns-clause-seal c =
    let e1 = c.in_ok-first.ensures in
    let e2 = c.in_ok-second.ensures in
    let e3 = c.in_ok-third.ensures in
    let bytes = c.args.bytes.now in
    let first = c.in_ok-first.first.now in
    let one = c.in_ok-first.behind.now in
    let second = c.in_ok-second.second.now in
    let two = c.in_ok-second.behind.now in
    let third = c.in_ok-third.third.now in
    let rest = c.in_ok-third.rest.now in
    c.seal_of-seal.ensures ∙ ap (seal_of_bytes []) (two_lines bytes first one second two third rest e1.read e2.read e3.read e1.form e2.form e3.form)
    ∙ right_seal bytes first one second two third rest e1.read e2.read e3.read e1.form e2.form e3.form c.in_ok-digest.digest
    (same_by first c.as_slice.result.now c.if-ne.false c.ne.ensures ∙ c.as_slice.ensures)
    (sym c.digest_of_line.ensures ∙ c.in_ok-digest.was)

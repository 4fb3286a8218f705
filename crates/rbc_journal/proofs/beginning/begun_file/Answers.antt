use Rattle.std.proofs.Common.{◌≡◌, ℕ, List, ◌∷◌, ◌++◌, [], length, ◌∙◌, sym, ap, arith}
use Rattle.rbc_journal.specs.Gates.{counted, text}
use Rattle.rbc_journal.specs.Sessions.{lines_of}
use Rattle.rbc_journal.specs.Headers.{header}
use Rattle.rbc_journal.specs.Reading.{reading}
use Rattle.rbc_journal.specs.Journal.{recovered}
use Rattle.rbc_journal.specs.Beginnings.{beginning_put, header_seal, beginning_of}
use Rattle.rbc_journal.proofs.LineLemmas.{text-append}
use Rattle.rbc_journal.proofs.BeginningLemmas.{lines_are, begun_read, begun_begins, begun_tells}
use Rattle.rbc_journal.proofs.beginning.begun_file.Goals as goal

pub returns-clause-bytes : goal.returns-clause-bytes
returns-clause-bytes c =
    let track = c.args.track.now in
    let lines = lines_of c.args.beginning.now in
    let made = c.in_ok-file.ensures in
    c.in_ok-push.ensures.items
    ∙ ap (λ (l : List ℕ). l ++ 35 ∷ [])
    (c.in_ok-push_beginning.ensures
    ∙ ap (λ (l : List ℕ). l ++ text (beginning_put c.in_ok-file.seal lines)) made.bytes
    ∙ ap (λ (s : List ℕ). text (header track) ++ text (beginning_put s lines)) made.seal
    ∙ sym (text-append (header track) (beginning_put (header_seal track) lines)))

pub returns-clause-read : goal.returns-clause-read
returns-clause-read c =
    let track = c.args.track.now in
    let lines = lines_of c.args.beginning.now in
    let size : length c.args.track.now ≡ 64 = omega arith in
    ap (λ (f : List ℕ). reading f track) (returns-clause-bytes c) ∙ begun_read track size c.requires lines (lines_are c.args.beginning.now)

pub returns-clause-begins : goal.returns-clause-begins
returns-clause-begins c =
    let track = c.args.track.now in
    let lines = lines_of c.args.beginning.now in
    let size : length c.args.track.now ≡ 64 = omega arith in
    ap (λ (f : List ℕ). beginning_of (counted f)) (returns-clause-bytes c) ∙ begun_begins track size c.requires lines (lines_are c.args.beginning.now)

pub returns-clause-none : goal.returns-clause-none
returns-clause-none c =
    let track = c.args.track.now in
    let lines = lines_of c.args.beginning.now in
    let size : length c.args.track.now ≡ 64 = omega arith in
    ap recovered (returns-clause-bytes c) ∙ begun_tells track size c.requires lines (lines_are c.args.beginning.now)

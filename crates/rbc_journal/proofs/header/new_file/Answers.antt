use Rattle.std.proofs.Common.{◌≡◌, ℕ, List, ◌∷◌, ◌++◌, [], length, ◌∙◌, ap, arith}
use Rattle.rbc_journal.specs.Reading.{reading}
use Rattle.rbc_journal.specs.Journal.{recovered}
use Rattle.rbc_journal.proofs.ReadingLemmas.{new_read, new_tells}
use Rattle.rbc_journal.proofs.header.new_file.Goals as goal

pub returns-clause-bytes : goal.returns-clause-bytes
returns-clause-bytes c = c.in_ok-push.ensures.items ∙ ap (λ (l : List ℕ). l ++ 35 ∷ []) c.in_ok-file.ensures.bytes

pub returns-clause-read : goal.returns-clause-read
returns-clause-read c =
    let track = c.args.track.now in
    let size : length c.args.track.now ≡ 64 = omega arith in
    ap (λ (f : List ℕ). reading f track) (returns-clause-bytes c) ∙ new_read track size c.requires

pub returns-clause-none : goal.returns-clause-none
returns-clause-none c =
    let track = c.args.track.now in
    let size : length c.args.track.now ≡ 64 = omega arith in
    ap recovered (returns-clause-bytes c) ∙ new_tells track size c.requires

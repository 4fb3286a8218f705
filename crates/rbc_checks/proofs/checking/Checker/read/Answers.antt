use Rattle.std.proofs.Common.{◌≡◌, ◌∷◌, ◌++◌, [], List, ℕ, Bool, true, false, Option, sym, ◌∙◌, ap, subst}
use Rattle.rbc_model.specs.declared.places.Format.TheVariants.{Far}
use Rattle.rbc_model.specs.declared.prices.Part.{Part}
use Rattle.rbc_model.specs.CheckText.{Checking, CheckLine, LeavesOpen, AnswersShort, check_line, part_of, goes_on, is_head}
use Rattle.rbc_checks.specs.Blocks.{block_lines}
use Rattle.rbc_checks.specs.Replies.{lost_text}
use Rattle.rbc_checks.specs.Verdicts.{said_text, is_bad}
use Rattle.rbc_checks.proofs.CheckingLemmas.{goes_with, begins, ends_it}
use Rattle.rbc_checks.proofs.checking.Checker.read.Goals as goal

-- whether the line goes on, by what was asked
asked : (block : List CheckLine) (part : Option Part) (line : CheckLine) (answer test : Bool) → part ≡ part_of line
    → answer ≡ goes_on block part → answer ≡ test → goes_on block (part_of line) ≡ test
asked block part line answer test is asks told = ap (goes_on block) (sym is) ∙ sym asks ∙ told

pub returns-then-goes_on : goal.returns-then-goes_on
returns-then-goes_on c =
    let line = check_line Far c.args.line.now in
    let before : Checking = record { block = block_lines c.self.inside.block; refused = c.self.inside.refused } in
    let part = c.part_read-part.ensures line c.parse_check-read.ensures in
    subst (λ (s : Checking). AnswersShort Far s c.args.line.now (lost_text c.keep-lost.result) c.keep-lost.new.self) c.self.view_is
    (goes_with before line (lost_text c.keep-lost.result) c.keep-lost.new.self
    (asked before.block _ line _ true part c.goes_on.ensures c.if-goes_on.true)
    (c.keep-lost.ensures line c.parse_check-read.ensures))

pub returns-then-is_head : goal.returns-then-is_head
returns-then-is_head c =
    let line = check_line Far c.args.line.now in
    let before : Checking = record { block = block_lines c.self.inside.block; refused = c.self.inside.refused } in
    let part = c.part_read-part.ensures line c.parse_check-read.ensures in
    let after : List ℕ → Checking → Checking → Type 0 = λ reply last s. LeavesOpen (s.block ++ line ∷ []) s.refused [] reply last in
    subst (λ (s : Checking). AnswersShort Far s c.args.line.now (said_text c.close-said.result ++ lost_text c.keep-lost-then-is_head.result) c.keep-lost-then-is_head.new.self)
    c.self.view_is
    (begins before line (said_text c.close-said.result) (is_bad c.close-said.result)
    (asked before.block _ line _ false part c.goes_on.ensures c.if-goes_on.false) c.close-said.ensures.said
    (lost_text c.keep-lost-then-is_head.result) c.keep-lost-then-is_head.new.self
    (ap is_head (sym part) ∙ sym c.is_head.ensures ∙ c.if-is_head.true)
    (subst (after _ _) c.close-said.ensures.closed (c.keep-lost-then-is_head.ensures line c.parse_check-read.ensures)))

pub returns : goal.returns
returns c =
    let line = check_line Far c.args.line.now in
    let before : Checking = record { block = block_lines c.self.inside.block; refused = c.self.inside.refused } in
    let part = c.part_read-part.ensures line c.parse_check-read.ensures in
    subst (λ (s : Checking). AnswersShort Far s c.args.line.now (said_text c.close-said.result ++ []) c.close-said.new.self) c.self.view_is
    (rw c.close-said.ensures.closed
    (ends_it before line (said_text c.close-said.result) (is_bad c.close-said.result)
    (asked before.block _ line _ false part c.goes_on.ensures c.if-goes_on.false) c.close-said.ensures.said
    (ap is_head (sym part) ∙ sym c.is_head.ensures ∙ c.if-is_head.false)))

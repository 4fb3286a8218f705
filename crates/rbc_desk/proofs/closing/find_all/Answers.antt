use Rattle.std.proofs.Common.{rules, ◌≡◌, List, [], ◌∷◌, ◌++◌, vec_len, inl, subst, sym, ap, refl, ◌∙◌, append_assoc}
use Rattle.std.proofs.lemmas.List.{append-nil}
use Rattle.std.specs.Vec.Iter.{into_iter_items}
use Rattle.rbc_model.specs.Histories.{Receipt}
use Rattle.rbc_desk.specs.Closing.{AreAtPlaces, AreMarked, IsFirstMisplaced}
use Rattle.rbc_desk.proofs.ClosingLemmas.{found_more, misplaced_behind, all_yielded}
use Rattle.rbc_desk.proofs.closing.find_all.Goals as goal
use Rattle.rbc_desk.proofs.closing.find_all.Goals.{Else-not-find}

pub loop-receipt-init : goal.loop-receipt-init
loop-receipt-init c =
    record {
      length = refl;
      split = refl;
      found = λ earlier marked. (tt, subst (λ xs. AreMarked c.args.start xs c.args.marks.now.items) (sym (append-nil earlier)) marked);
    }

pub returns-then-not-find-clause-finds : goal.returns-then-not-find-clause-finds
returns-then-not-find-clause-finds c =
    let entries = c.args.log.now.entries in
    let start = c.args.start in
    let found = c.loop-receipt.yielded in
    let receipt = c.in-Some.receipt in
    let rest = into_iter_items c.next.new.self in
    let split : found ++ receipt ∷ rest ≡ c.args.receipts.items =
    ap (λ xs. found ++ xs) (sym c.in-Some.ensures.steps.0) ∙ c.loop-receipt.invariant.split ∙ c.into_iter-receipt-iterator.ensures.into_iter_gives.0 in
    λ earlier marked.
    let before = c.loop-receipt.invariant.found earlier marked in
    subst (λ xs. IsFirstMisplaced entries start earlier xs receipt) split
    (misplaced_behind entries start earlier found (receipt ∷ rest) receipt before.0 (inl (refl, c.if-not-find.ensures.finds (earlier ++ found) before.1)))

-- with one receipt more that is at its place
still : (c : Else-not-find)
    → record {
      length : vec_len c.find.new.marks ≡ vec_len c.args.marks.now;
      split : (c.loop-receipt.yielded ++ c.in-Some.receipt ∷ []) ++ into_iter_items c.next.new.self ≡ into_iter_items c.into_iter-receipt-iterator.result;
      found : (earlier : List Receipt) → AreMarked c.args.start earlier c.args.marks.now.items
          → AreAtPlaces c.args.log.now.entries c.args.start earlier (c.loop-receipt.yielded ++ c.in-Some.receipt ∷ [])
          × AreMarked c.args.start (earlier ++ (c.loop-receipt.yielded ++ c.in-Some.receipt ∷ [])) c.find.new.marks.items;
    }
still c =
    let found = c.loop-receipt.yielded in
    let receipt = c.in-Some.receipt in
    record {
      length = c.find.ensures.length ∙ c.loop-receipt.invariant.length;
      split = append_assoc found (receipt ∷ []) (into_iter_items c.next.new.self) ∙ ap (λ xs. found ++ xs) (sym c.in-Some.ensures.steps.0) ∙ c.loop-receipt.invariant.split;
      found = λ earlier marked.
          let before = c.loop-receipt.invariant.found earlier marked in
          found_more c.args.log.now.entries c.args.start earlier found receipt c.find.new.marks.items before.0 (c.if-not-find.ensures.finds (earlier ++ found) before.1);
    }

pub loop-receipt-preserved-else-not-find : goal.loop-receipt-preserved-else-not-find
loop-receipt-preserved-else-not-find c = still (goal.at.loop-receipt-preserved-else-not-find c).Else-not-find

pub loop-receipt-preserved : goal.loop-receipt-preserved
loop-receipt-preserved c = still (goal.at.loop-receipt-preserved c).Else-not-find

pub returns-clause-finds : goal.returns-clause-finds
returns-clause-finds c =
    let entries = c.args.log.now.entries in
    let start = c.args.start in
    let found = c.loop-receipt.yielded in
    let all = all_yielded found (into_iter_items c.loop-receipt.receipt-iterator) (search rules) (c.loop-receipt.invariant.split ∙ c.into_iter-receipt-iterator.ensures.into_iter_gives.0) in
    λ earlier marked.
    let before = c.loop-receipt.invariant.found earlier marked in (
      subst (λ xs. AreAtPlaces entries start earlier xs) all before.0,
      subst (λ xs. AreMarked start (earlier ++ xs) c.loop-receipt.marks.items) all before.1,
    )

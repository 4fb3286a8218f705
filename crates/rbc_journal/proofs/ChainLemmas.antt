-- Lines of whole puts, and one put more.
use Rattle.std.proofs.Common.{◌≡◌, ℕ, List, [], ◌∷◌, ◌++◌, All, fold, not, refl, ◌∙◌, ap}
use Rattle.std.proofs.lemmas.List.{append-nil}
use Rattle.std.proofs.lemmas.List.Elements.{filter-append}
use Rattle.std.proofs.lemmas.List.Sums.{fold-append}
use Rattle.rbc_journal.specs.Gates.{counted, text}
use Rattle.rbc_journal.specs.Journal.{recovered, told_of}
use Rattle.rbc_journal.specs.Puts.{with_its_seal}
use Rattle.rbc_journal.specs.Seals.{Chain, AreSealed, chain_of, is_comment, seal_line, seal_of, with_line, start}
use Rattle.rbc_journal.proofs.PutLemmas.{Inner, put_chain}
use Rattle.rbc_journal.proofs.SealLemmas.{seal_form}

-- Behind whole puts, lines of which none has the form of a seal, and their seal, are a whole put.
module _ (lines put : List (List ℕ)) (seal : List ℕ) (are : AreSealed lines seal) (inner : All Inner put) where
  pub still_sealed : AreSealed (lines ++ with_its_seal seal put) (seal_of seal put)
  still_sealed =
      fold-append with_line start lines (with_its_seal seal put)
      ∙ ap (λ (chain : Chain). fold with_line chain (with_its_seal seal put)) are
      ∙ put_chain lines seal put (seal_of seal put) inner (seal_form seal (text put)) refl

  told_more : told_of (with_its_seal seal put) ≡ told_of put
  told_more = filter-append (λ line. not (is_comment line)) put (seal_line (seal_of seal put) ∷ []) ∙ append-nil (told_of put)

  -- what a file stands for, where these lines count in it
  pub stands_for_both : (file : List ℕ) → counted file ≡ lines ++ with_its_seal seal put → recovered file ≡ told_of lines ++ told_of put
  stands_for_both file count =
      ap (λ (ls : List (List ℕ)). told_of (chain_of ls).whole) count
      ∙ ap (λ (chain : Chain). told_of chain.whole) still_sealed
      ∙ filter-append (λ line. not (is_comment line)) lines (with_its_seal seal put)
      ∙ ap (λ (ls : List (List ℕ)). told_of lines ++ ls) told_more

pub stands_for_first : (file : List ℕ) (lines : List (List ℕ)) (seal : List ℕ) → AreSealed lines seal → counted file ≡ lines → recovered file ≡ told_of lines
stands_for_first file lines seal are count = ap (λ (ls : List (List ℕ)). told_of (chain_of ls).whole) count ∙ ap (λ (chain : Chain). told_of chain.whole) are

-- Clients that are served from a seat, one after the other.
use Rattle.std.proofs.Common.{◌≡◌, ℕ, Bool, true, false, List, [], ◌∷◌, ◌++◌, map, Option, refl, sym, ap, ◌∙◌, subst, append_assoc}
use Rattle.std.proofs.lemmas.Bool.{both_ways}
use Rattle.std.proofs.lemmas.List.{append-nil, map_push}
use Rattle.rbc_port.specs.Clients.{Came, Coming, NoneComes, Parting}
use Rattle.rbc_server.specs.Connections.{Connection, IsConnection}
use Rattle.rbc_server.specs.SeatSessions.{receipts_gained}
use Rattle.rbc_server.specs.Sitting.{Sitting}
use Rattle.rbc_server.proofs.ConnectionLemmas.{none_came, one_came}
use Rattle.rbc_duty.specs.Visits.{AreInTurn, gained_in_turn}
use Rattle.rbc_duty.specs.Duties.{IsDuty}

module _ {L P : Type 0} (kept : P → ℕ → Type 0) (v : Connection L P) (is : IsConnection kept v) where
  -- a visit more
  one_more : (vs : List (Connection L P)) (before mid : Sitting L P) → AreInTurn kept before vs mid → v.before ≡ mid → mid.has_failed ≡ false → AreInTurn kept before (vs ++ v ∷ []) v.after
  one_more [] before mid turns same whole = (same ∙ turns, subst (λ (s : Sitting L P). s.has_failed ≡ false) turns whole, is, refl)
  one_more (x ∷ vs) before mid turns same whole = (turns.0, turns.1, turns.2, one_more vs x.after mid turns.3 same whole)

  -- so many receipts more
  gained_more : (vs : List (Connection L P)) (before mid : Sitting L P) (turns : AreInTurn kept before vs mid) (same : v.before ≡ mid) (whole : mid.has_failed ≡ false)
      → gained_in_turn kept before (vs ++ v ∷ []) v.after (one_more vs before mid turns same whole) ≡ gained_in_turn kept before vs mid turns ++ receipts_gained is.session.turns
  unfolding one_more
  gained_more [] before mid turns same whole = append-nil (receipts_gained is.session.turns)
  gained_more (x ∷ vs) before mid turns same whole =
      ap (λ l. receipts_gained turns.2.session.turns ++ l) (gained_more vs x.after mid turns.3 same whole)
      ∙ sym (append_assoc (receipts_gained turns.2.session.turns) (gained_in_turn kept x.after vs mid turns.3) (receipts_gained is.session.turns))

module _ {L P : Type 0} (kept : P → ℕ → Type 0) where
  -- the clients so far were served in turn, and these are still to come
  abbrev pub IsUnderWay : Option (List Coming) → Option (List Coming) → Sitting L P → Sitting L P → Type 0
  IsUnderWay coming left before mid = (duty : IsDuty kept (record { coming = coming; before = before; after = mid; lost = false })) × (duty.still_to_come ≡ left)

  -- before any client came
  pub begins : (coming : Option (List Coming)) (sitting : Sitting L P) → IsUnderWay coming coming sitting sitting
  begins coming sitting = (
    record {
      visits = [];
      in_turn = refl;
      still_to_come = coming;
      clients = none_came coming;
      over = λ lost. absurd (both_ways false refl lost);
      receipts = sym (append-nil sitting.seat.receipts);
      stays = λ place k. k;
    },
    refl,
  )

  -- with a client more, the next that came
  pub goes_on : (coming left later : Option (List Coming)) (before mid after : Sitting L P) → IsUnderWay coming left before mid
      → (c : Coming) → Came left later (c ∷ []) → mid.has_failed ≡ false → (went : Parting)
      → IsConnection kept (record { came = c; before = mid; after = after; went = went }) → IsUnderWay coming later before after
  goes_on coming left later before mid after under c comes whole went is =
      let duty = under.0 in
      let v : Connection L P = record { came = c; before = mid; after = after; went = went } in
      let vs = duty.visits in
      let came = λ (x : Connection L P). x.came in
      let first : Came coming left (map came vs) = subst (λ (l : Option (List Coming)). Came coming l (map came vs)) under.1 duty.clients in (
        record {
          visits = vs ++ v ∷ [];
          in_turn = one_more kept v is vs before mid duty.in_turn refl whole;
          still_to_come = later;
          clients = one_came coming left later (map came vs) (map came (vs ++ v ∷ [])) c first comes (map_push came vs v);
          over = λ lost. absurd (both_ways false refl lost);
          receipts = is.session.receipts ∙ ap (λ l. l ++ receipts_gained is.session.turns) duty.receipts
              ∙ append_assoc before.seat.receipts (gained_in_turn kept before vs mid duty.in_turn) (receipts_gained is.session.turns)
              ∙ ap (λ l. before.seat.receipts ++ l) (sym (gained_more kept v is vs before mid duty.in_turn refl whole));
          stays = λ place k. is.stays place (duty.stays place k);
        },
        refl,
      )

  -- and then no more, for any reason but that the port is lost
  pub ends : (coming left : Option (List Coming)) (before after : Sitting L P) (lost : Bool) → IsUnderWay coming left before after → lost ≡ false
      → IsDuty kept (record { coming = coming; before = before; after = after; lost = lost })
  ends coming left before after lost under not =
      subst (λ (b : Bool). IsDuty kept (record { coming = coming; before = before; after = after; lost = b })) (sym not) under.0

  -- and then none, since no client can be accepted
  pub ends_without : (coming left : Option (List Coming)) (before after : Sitting L P) (lost : Bool) → IsUnderWay coming left before after → NoneComes left
      → IsDuty kept (record { coming = coming; before = before; after = after; lost = lost })
  ends_without coming left before after lost under none =
      let duty = under.0 in
      record {
        visits = duty.visits;
        in_turn = duty.in_turn;
        still_to_come = duty.still_to_come;
        clients = duty.clients;
        over = λ is. subst NoneComes (sym under.1) none;
        receipts = duty.receipts;
        stays = duty.stays;
      }

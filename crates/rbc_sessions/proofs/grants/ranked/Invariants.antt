use Rattle.std.proofs.Common.{◌≡◌, ◌<◌, ℕ, vec_capacity, vec_len}
use Rattle.rbc_sessions.specs.Sittings.{HasRank}
use Rattle.rbc_sessions.proofs.grants.ranked.Given as goal

-- each outcome so far has a rank, and there is room for the others
abbrev pub invariant-loop-number : goal.invariant-loop-number
invariant-loop-number l = record {
  each : (k : ℕ) → k < l.number → HasRank l.ranks.items k;
  count : vec_len l.ranks ≡ l.number;
  room : vec_capacity l.ranks ≡ vec_capacity l.initial.ranks;
}

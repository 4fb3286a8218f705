-- Text that is gathered piece by piece.
use Rattle.std.proofs.Common.{◌≡◌, ℕ, ◌+◌, ◌/◌, ◌<◌, ◌≤◌, ◌^◌, List, ◌++◌, length, decimal, ap, ◌∙◌, append_assoc, length-append}
use Rattle.std.proofs.lemmas.Fmt.{decimal_step}

-- pieces behind a text, one behind another
pub behind : (old a b : List ℕ) {m n : List ℕ} → m ≡ old ++ a → n ≡ m ++ b → n ≡ old ++ (a ++ b)
behind old a b {m} {n} first second = second ∙ ap (λ l. l ++ b) first ∙ append_assoc old a b

pub behind_3 : (old a b c : List ℕ) {m n p : List ℕ} → m ≡ old ++ a → n ≡ m ++ b → p ≡ n ++ c → p ≡ old ++ (a ++ (b ++ c))
behind_3 old a b c {m} {n} {p} first second third = behind old a (b ++ c) first (behind m b c second third)

pub behind_5 : (old a b c d e : List ℕ) {m n p q r : List ℕ} → m ≡ old ++ a → n ≡ m ++ b → p ≡ n ++ c → q ≡ p ++ d → r ≡ q ++ e
    → r ≡ old ++ (a ++ (b ++ (c ++ (d ++ e))))
behind_5 old a b c d e {m} {n} {p} {q} {r} first second third fourth fifth =
    behind_3 old a b (c ++ (d ++ e)) first second (behind_3 n c d e third fourth fifth)

pub behind_6 : (old a b c d e f : List ℕ) {m n p q r s : List ℕ} → m ≡ old ++ a → n ≡ m ++ b → p ≡ n ++ c → q ≡ p ++ d → r ≡ q ++ e → s ≡ r ++ f
    → s ≡ old ++ (a ++ (b ++ (c ++ (d ++ (e ++ f)))))
behind_6 old a b c d e f {m} {n} {p} {q} {r} {s} first second third fourth fifth sixth =
    behind old a (b ++ (c ++ (d ++ (e ++ f)))) first (behind_5 m b c d e f second third fourth fifth sixth)

pub behind_7 : (old a b c d e f i : List ℕ) {m n p q r s t : List ℕ} → m ≡ old ++ a → n ≡ m ++ b → p ≡ n ++ c → q ≡ p ++ d → r ≡ q ++ e → s ≡ r ++ f → t ≡ s ++ i
    → t ≡ old ++ (a ++ (b ++ (c ++ (d ++ (e ++ (f ++ i))))))
behind_7 old a b c d e f i {m} {n} {p} {q} {r} {s} {t} first second third fourth fifth sixth seventh =
    behind_3 old a b (c ++ (d ++ (e ++ (f ++ i)))) first second (behind_5 n c d e f i third fourth fifth sixth seventh)

pub behind_9 : (old a b c d e f i j k : List ℕ) {m n p q r s t u v : List ℕ} → m ≡ old ++ a → n ≡ m ++ b → p ≡ n ++ c → q ≡ p ++ d → r ≡ q ++ e → s ≡ r ++ f
    → t ≡ s ++ i → u ≡ t ++ j → v ≡ u ++ k → v ≡ old ++ (a ++ (b ++ (c ++ (d ++ (e ++ (f ++ (i ++ (j ++ k))))))))
behind_9 old a b c d e f i j k {m} {n} {p} {q} {r} {s} {t} {u} {v} first second third fourth fifth sixth seventh eighth ninth =
    behind_5 old a b c d (e ++ (f ++ (i ++ (j ++ k)))) first second third fourth (behind_5 q e f i j k fifth sixth seventh eighth ninth)

-- a digit fewer
pub one_digit_fewer : (n : ℕ) → 10 ≤ n → n < 2 ^ 64 → length (decimal n) ≡ length (decimal (n / 10)) + 1
one_digit_fewer n many fits = ap length (decimal_step n many fits) ∙ length-append (decimal (n / 10)) _

-- The bytes of a buffer, after a read behind them.
use Rattle.std.proofs.Common.{◌≡◌, ℕ, ◌+◌, ◌-◌, ◌≤◌, List, ◌++◌, length, take, drop, slice_range, sym, ap, ◌∙◌, arith, append_assoc}
use Rattle.std.proofs.Math.Seq.{take-append-add}
use Rattle.std.proofs.lemmas.List.{take-append-le, take-take, drop-take, drop-drop, length-take-le, length-take}
use borrow.Rule.Slice.PartMut.{put_mid, post_of}

-- the first bytes and what a read put behind them
pub filled : (bytes read behind front : List ℕ) (size count more : ℕ) → count ≤ length bytes → count + more ≤ size → more ≤ length read → take count bytes ≡ front
    → slice_range (take size (put_mid count (length bytes - count) bytes read ++ behind)) 0 (count + more) ≡ front ++ take more read
filled bytes read behind front size count more within fits enough kept =
    let start = take count bytes in
    let long : length start ≡ count = length-take-le count bytes within in
    let after = (read ++ post_of count (length bytes - count) bytes) ++ behind in
    let whole : put_mid count (length bytes - count) bytes read ++ behind ≡ start ++ after = append_assoc start _ behind in
    let plain : count + more - 0 ≡ length start + more = omega arith in
    ap (λ n. take n (take size (put_mid count (length bytes - count) bytes read ++ behind))) plain
    ∙ ap (λ l. take (length start + more) (take size l)) whole
    ∙ take-take (length start + more) size (start ++ after) (omega arith)
    ∙ take-append-add start after more
    ∙ ap (λ l. start ++ l) (ap (take more) (append_assoc read _ behind) ∙ take-append-le more read _ enough)
    ∙ ap (λ l. l ++ take more read) kept

-- what is left behind the first bytes
pub let_go : (bytes : List ℕ) (start end count : ℕ) → count ≤ length (slice_range bytes start end)
    → slice_range bytes (start + count) end ≡ drop count (slice_range bytes start end)
let_go bytes start end count inside =
    let parts : end - start ≡ count + (end - (start + count)) = omega (arith, length-take (end - start) (drop start bytes)) in
    sym (ap (λ n. drop count (take n (drop start bytes))) parts ∙ drop-take count _ (drop start bytes)
    ∙ ap (take (end - (start + count))) (drop-drop count start bytes))

-- What is heard of a head.
use Rattle.std.proofs.Common.{rules, ◌≡◌, ◌≤◌, ℕ, Bool, true, false, List, length, map, Option, Some, None, sym, ap, ◌∙◌, IsTrue, arith}
use Rattle.std.proofs.lemmas.List.{length-map, length-take-le}
use Rattle.std.proofs.lemmas.List.Elements.{All-weaker}
use Rattle.std.proofs.lemmas.Slice.Eq.{bytes_eq-Decides}
use Rattle.std.specs.Prelude.{◌↔◌, All, bytes_eq, MatchOption, option_map, take, if◌then◌else◌}
use Rattle.httparse.proofs.GrammarLemmas.{request_unique}
use Rattle.httparse.specs.Grammar.{ReadsRequest, RequestHead}
use Rattle.httparse.specs.Spans.{IsHeaderWithin, IsRequestOf, IsRequestWithin, header_bytes, name_and_value}
use Rattle.httparse.specs.declared.spans.HeaderSpan.{HeaderSpan}
use Rattle.httparse.specs.declared.spans.RequestSpans.{RequestSpans}

-- a test that two lists of numbers are equal
pub tested : (test : Bool) (xs ys : List ℕ) → (IsTrue test ↔ (xs ≡ ys)) → test ≡ bytes_eq xs ys
tested test xs ys h = search (rules, bytes_eq-Decides)

-- what is left where a test holds
pub left_where : {X : Type 0} (Q : X → Type 0) (now : X → List ℕ) (found : Option X) (test : Bool) (rest : List ℕ)
    → MatchOption found (test ≡ false) (λ x. (test ≡ true) × (now x ≡ rest) × Q x) → option_map now found ≡ (if test then Some rest else None)
left_where Q now None test rest is = sym (ap (λ b. if b then Some rest else None) is)
left_where Q now (Some x) test rest is = ap Some is.1 ∙ sym (ap (λ b. if b then Some rest else None) is.0)

-- fields that lie in the first bytes lie in all of them
pub fields_within : (count all : ℕ) (fields : List HeaderSpan) → All (IsHeaderWithin count) fields → count ≤ all → All (IsHeaderWithin all) fields
fields_within count all fields within fits =
    All-weaker (IsHeaderWithin count) (IsHeaderWithin all) (λ f w. ((w.0.0, omega (arith, w.0.1, fits)), (w.1.0, omega (arith, w.1.1, fits)))) fields within

-- a head that was found has no more fields than there is room for
pub few_fields : (bytes : List ℕ) (fields : List HeaderSpan) (spans : RequestSpans) (head : RequestHead) (rest : List ℕ)
    → IsRequestWithin bytes fields spans → IsRequestOf bytes fields spans → ReadsRequest bytes head rest → length head.fields ≤ length fields
few_fields bytes fields spans head rest within of reads =
    let same : of.0 ≡ head = (request_unique bytes of.0 head _ rest of.1.reads reads).0 in
    let written : length head.fields ≡ length (take spans.headers fields) =
    sym (ap (λ (h : RequestHead). length h.fields) same) ∙ sym (length-map of.0.fields name_and_value) ∙ sym (ap length of.1.fields) ∙ length-map (take spans.headers fields) (header_bytes bytes) in
    let many : length (take spans.headers fields) ≡ spans.headers = length-take-le spans.headers fields within.section.count_fits in
    let fits = within.section.count_fits in
    omega (arith, written, many, fits)

-- Texts that are written one behind another, and what a line adds to a history.
use Rattle.std.proofs.Common.{◌≡◌, ℕ, ◌+◌, ◌<◌, ◌≤◌, Bool, true, false, cond, List, [], ◌∷◌, ◌++◌, length, Option, Some, None, Result, Ok, Err, refl, sym, ap, ◌∙◌, append_assoc, append-nil, arith, length-append}
use Rattle.std.specs.Prelude.{is_err}
use Rattle.std.specs.Result.{IsErr}
use Rattle.std.specs.Io.KnownBytes.{Appends}
use Rattle.std.proofs.KnownBytes.{Appends-trans}
use Rattle.rbc_model.specs.Histories.{Beginning, Entry}
use Rattle.rbc_model.specs.SessionReply.{SessionRefusal}
use Rattle.rbc_model.specs.Sessions.{WritesPart, WritesText}
use Rattle.rbc_session_laws.specs.declared.command.Command.{Command}
use Rattle.rbc_session_laws.specs.declared.command.Command.TheVariants.{Nothing, Event, Authority, Show}
use Rattle.rbc_session_laws.specs.SessionRuns.{entries_of}
use Rattle.rbc_session_laws.specs.Turns.{AnswersCommand}
use Rattle.rbc_sessions.specs.Records.{begin_of, HistoryOnTrack}
use Rattle.rbc_show.specs.Showing.{change_text, has_reply, scene_text}

-- ---- parts of texts

-- a part of a text is a part of a longer one
pub part_more : (a b : Option (List ℕ)) (x y : List ℕ) → WritesPart a b x → WritesPart a b (x ++ y)
part_more a b x y (part, rest, cut, wrote) = (part, rest ++ y, ap (λ t. t ++ y) cut ∙ append_assoc part rest y, wrote)

-- a whole text, and then a part of another
pub part_behind : (a b c : Option (List ℕ)) (x y : List ℕ) → Appends a b x → WritesPart b c y → WritesPart a c (x ++ y)
part_behind a b c x y first (part, rest, cut, wrote) =
    (x ++ part, rest, ap (λ t. x ++ t) cut ∙ sym (append_assoc x part rest), Appends-trans a b c x part first wrote)

pub text_behind : {E : Type 0} (a b c : Option (List ℕ)) (x y : List ℕ) (r : Result (Unit {0}) E) → Appends a b x → WritesText b c y r → WritesText a c (x ++ y) r
text_behind a b c x y (Ok done) first second = Appends-trans a b c x y first second
text_behind a b c x y (Err fault) first second = part_behind a b c x y first second

-- what a call wrote that stopped there
pub stopped : {E : Type 0} (a b : Option (List ℕ)) (x : List ℕ) (r : Result (Unit {0}) E) → WritesPart a b x → IsErr r → WritesText a b x r
stopped a b x (Ok done) wrote failed = absurd cc
stopped a b x (Err fault) wrote failed = wrote

-- what a call wrote that failed, and one that did not
pub failed_part : {E : Type 0} (a b : Option (List ℕ)) (x : List ℕ) (r : Result (Unit {0}) E) → is_err r ≡ true → WritesText a b x r → WritesPart a b x
failed_part a b x (Ok done) failed wrote = absurd (let c : ⊥ = cc in c)
failed_part a b x (Err fault) failed wrote = wrote

pub whole_text : {E : Type 0} (a b : Option (List ℕ)) (x : List ℕ) (r : Result (Unit {0}) E) → is_err r ≡ false → WritesText a b x r → Appends a b x
whole_text a b x (Ok done) going wrote = wrote
whole_text a b x (Err fault) going wrote = absurd (let c : ⊥ = cc in c)

-- ---- what a line adds

-- the scene is written where the history has grown, and else nothing is
pub grown : (before after : HistoryOnTrack) (added : Option Entry) → begin_of after ≡ begin_of before → after.entries ≡ before.entries ++ entries_of added
    → length before.entries < length after.entries → change_text (begin_of before) before.entries added ≡ scene_text (begin_of after) after.entries
grown before after None begin entries more =
    let same : length after.entries ≡ length before.entries = ap length (entries ∙ append-nil before.entries) in
    absurd (omega (arith, same, more))
grown before after (Some entry) begin entries more = λ j. scene_text (sym begin j) (sym entries j)

pub unchanged : (before after : HistoryOnTrack) (added : Option Entry) → after.entries ≡ before.entries ++ entries_of added
    → length after.entries ≤ length before.entries → change_text (begin_of before) before.entries added ≡ []
unchanged before after None entries least = refl
unchanged before after (Some entry) entries least =
    let more : length after.entries ≡ length before.entries + 1 = ap length entries ∙ length-append before.entries (entry ∷ []) in
    absurd (omega (arith, more, least))

-- ---- a line without a reply

pub silent : (begin : Beginning) (before : List Entry) (command : Result Command SessionRefusal) → has_reply command ≡ false → AnswersCommand begin before [] None command
silent begin before (Ok Nothing) none = (refl, refl)
silent begin before (Ok (Event told)) none = absurd (let c : ⊥ = cc in c)
silent begin before (Ok (Authority train)) none = absurd (let c : ⊥ = cc in c)
silent begin before (Ok (Show inquiry)) none = absurd (let c : ⊥ = cc in c)
silent begin before (Err refusal) none = absurd (let c : ⊥ = cc in c)

pub not_told : (b : Bool) (text : List ℕ) → b ≡ false → cond b text [] ≡ []
not_told true text none = absurd (let c : ⊥ = cc in c)
not_told false text none = refl

pub is_told : (b : Bool) (text : List ℕ) → b ≡ true → text ≡ cond b text []
is_told true text told = refl
is_told false text told = absurd (let c : ⊥ = cc in c)

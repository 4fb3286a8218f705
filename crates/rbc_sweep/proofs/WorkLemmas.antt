-- What a worker has done, train by train.
use Rattle.std.proofs.Common.{length, take, ◌≤◌, refl, arith, ◌≡◌, ℕ, List, [], ◌∷◌, ◌++◌, Result, Ok, Err, IfOk, OnErr, OnOk, false, sym, ap, ◌∙◌, subst, append_assoc}
use Rattle.std.specs.Result.{is_err}
use Rattle.std.proofs.lemmas.List.{append-nil, length-take, map_push, take_all, take-take}
use Rattle.rbc_desk.specs.Later.{IsLater}
use Rattle.rbc_desk.specs.Seats.{Seated}
use Rattle.rbc_desk.specs.Asking.{IsAnswered, IsAnsweredThen, after_answer}
use Rattle.rbc_sweep.specs.declared.outcome.Outcome.{Outcome}
use Rattle.std.proofs.lemmas.List.Concat.{flat_map-append}
use Rattle.std.proofs.lemmas.List.Elements.{All-push, All-weaker}
use Rattle.rbc_model.specs.declared.memory.OrMemory.{OrMemory}
use Rattle.rbc_model.specs.Histories.{Receipt}
use Rattle.rbc_desk.specs.Records.{HistoryOnTrack}
use Rattle.rbc_desk.specs.declared.faults.AskFault.{AskFault}
use Rattle.rbc_desk.specs.declared.granted.Granted.{Granted as Grant}
use Rattle.rbc_sweep.specs.declared.jobs.Job.{Job}
use Rattle.rbc_sweep.specs.declared.jobs.Tally.{Tally}
use Rattle.rbc_sweep.specs.declared.order.Done.{Done}
use Rattle.rbc_sweep.specs.declared.outcome.Answer.{Answer}
use Rattle.rbc_sweep.specs.declared.outcome.Answer.TheVariants.{Granted, Blocked, Gone, Full, Memory}
use Rattle.rbc_sweep.specs.Jobs.{tally}
use Rattle.rbc_sweep.specs.Outcomes.{Begins, IsTold, asked, receipts_of}
use Rattle.rbc_sweep.specs.Serving.{HasServed, job_of, jobs, receipts_in}

-- ---- one train

abbrev pub Asked : Type 0
Asked = Result Grant (OrMemory AskFault)

pub receipts_gained : (answer : Answer) (old new : List Receipt) → IfOk (asked answer) (λ (g : Grant). new ≡ old ++ g.receipt ∷ []) → OnErr (asked answer) (new ≡ old)
    → new ≡ old ++ receipts_of answer
receipts_gained (Granted grant) old new ok err = ok
receipts_gained (Blocked obstacle at version) old new ok err = err ∙ sym (append-nil old)
receipts_gained Gone old new ok err = err ∙ sym (append-nil old)
receipts_gained Full old new ok err = err ∙ sym (append-nil old)
receipts_gained Memory old new ok err = err ∙ sym (append-nil old)

-- ---- what is told

pub begins_itself : (h : HistoryOnTrack) → Begins h h
begins_itself h = record { track = refl; begin = refl; most = refl; opening = take_all (length h.entries) h.entries (omega arith) }

begins_length : (a b : HistoryOnTrack) → Begins a b → length a.entries ≤ length b.entries
begins_length a b h =
    omega (arith, ap length h.opening, length-take (length a.entries) b.entries)

pub begins_still : (a b c : HistoryOnTrack) → Begins a b → Begins b c → Begins a c
begins_still a b c ab bc = record {
  track = bc.track ∙ ab.track;
  begin = bc.begin ∙ ab.begin;
  most = bc.most ∙ ab.most;
  opening = sym (take-take (length a.entries) (length b.entries) c.entries (begins_length a b ab)) ∙ ap (take (length a.entries)) bc.opening ∙ ab.opening;
}

pub begins_later : (a b : HistoryOnTrack) → IsLater a b → Begins a b
begins_later a b h = record { track = h.track; begin = h.begin; most = h.most; opening = h.opening }

later_after : (a b c : HistoryOnTrack) → Begins a b → IsLater b c → IsLater a c
later_after a b c ab bc =
    let all = begins_still a b c ab (begins_later b c bc) in
    record { track = all.track; begin = all.begin; most = all.most; right = bc.right; opening = all.opening }

pub told_asked : (had has : Seated) (train : ℕ) (answer : Answer) (desk : Asked) → asked answer ≡ desk → IsAnsweredThen had.told has.told train desk
    → IsTold had has (record { train = train; answer = answer })
told_asked had has train answer desk is since = record {
  history = since.before;
  later = since.later;
  told = subst (λ (a : Asked). Begins (after_answer since.before a) has.told) (sym is) (subst (λ (h : HistoryOnTrack). Begins h has.told) since.told (begins_itself has.told));
  answered = subst (IsAnswered since.before train) (sym is) since.answered;
}

-- who had been told less, and who is told more
pub told_wider : (first had has last : Seated) (outcome : Outcome) → Begins first.told had.told → Begins has.told last.told → IsTold had has outcome → IsTold first last outcome
told_wider first had has last outcome less more t = record {
  history = t.history;
  later = later_after first.told had.told t.history less t.later;
  told = begins_still (after_answer t.history (asked outcome.answer)) has.told last.told t.told more;
  answered = t.answered;
}

-- ---- one train more

pub served_more : (old : Tally) (had : Seated) (new next : Tally) (has gains : Seated) (done : List Done) (one : Done) (job : Job)
    → HasServed old had new has done → next ≡ tally new.parts new.put (new.taken ++ job ∷ []) → job_of one ≡ job
    → gains.receipts ≡ has.receipts ++ receipts_of one.outcome.answer → IsLater has.told gains.told → IsTold has gains one.outcome
    → HasServed old had next gains (done ++ one ∷ [])
served_more old had new next has gains done one job served took same gained later told = record {
  taken = (
      let now : List Job → Tally = λ taken. tally old.parts old.put taken in
      let all : (old.taken ++ jobs done) ++ job ∷ [] ≡ old.taken ++ jobs (done ++ one ∷ []) =
      append_assoc old.taken (jobs done) (job ∷ []) ∙ ap (λ j. old.taken ++ (jobs done ++ j ∷ [])) (sym same) ∙ ap (λ l. old.taken ++ l) (sym (map_push job_of done one)) in
      took ∙ ap (λ (v : Tally). tally v.parts v.put (v.taken ++ job ∷ [])) served.taken ∙ ap now all);
  gained = (
      let mine = receipts_of one.outcome.answer in
      let more : receipts_in (done ++ one ∷ []) ≡ receipts_in done ++ mine =
      flat_map-append (λ (d : Done). receipts_of d.outcome.answer) done (one ∷ []) ∙ ap (λ l. receipts_in done ++ l) (append-nil mine) in
      gained ∙ ap (λ l. l ++ mine) served.gained ∙ append_assoc had.receipts (receipts_in done) mine ∙ ap (λ l. had.receipts ++ l) (sym more));
  begins = begins_still had.told has.told gains.told served.begins (begins_later has.told gains.told later);
  told = All-push (λ (d : Done). IsTold had gains d.outcome) done one
      (All-weaker (λ (d : Done). IsTold had has d.outcome) (λ (d : Done). IsTold had gains d.outcome)
      (λ d t. told_wider had had has gains d.outcome (begins_itself had.told) (begins_later has.told gains.told later) t) done served.told)
      (told_wider had has gains gains one.outcome served.begins (begins_itself gains.told) told);
}

-- ---- room

pub reserved : {A E : Type 0} (P : Type 0) (r : Result A E) → is_err r ≡ false → OnOk r P → P
reserved P (Ok x) passes ok = ok
reserved P (Err e) passes ok = cc

-- What is made of parts table by table is their track, and is sound.
use Rattle.std.proofs.Common.{All, ◌≡◌, ◌≤◌, nat_le, [], Option, Some, None, Result, Ok, Err, List, refl, sym, ap, subst, ◌∙◌}
use Rattle.std.specs.Option.{option_or}
use Rattle.std.specs.Prelude.{IfErr}
use Rattle.rbc_model.specs.Answers.{RefusesOrMemory}
use Rattle.rbc_model.specs.declared.memory.OrMemory.{OrMemory}
use Rattle.rbc_model.specs.declared.memory.OrMemory.TheVariants.{Refused, Memory}
use Rattle.std.proofs.lemmas.List.Sums.{list_all-from_AllPass}
use Rattle.rbc_model.specs.declared.limits.TheConstants.{LONGEST_TRACK, MOST_STEPS}
use Rattle.rbc_model.specs.declared.tracks.TrackRefusal.{TrackRefusal}
use Rattle.rbc_model.specs.Results.{unless, ◌>>=◌, ◌>>◌}
use Rattle.rbc_model.specs.Tracks.{Section, Track}
use Rattle.rbc_model.specs.SoundTracks.{IsSound, first_refusal, section_refusal, link_refusal, group_refusal, route_refusal, size_refusal, track_refusal}
use Rattle.rbc_model.specs.TrackParts.{LinkPart, GroupPart, RoutePart, Parts, resolved, track_of}
use Rattle.rbc_model.proofs.SoundTrackLemmas.{IsSound-track_refusal}
use Rattle.rbc_track.specs.Making.{sizes_of, sound_sections, sound_links, sound_groups, sound_routes, later_tables, made_of, tables_refusal, told_for}
use Rattle.rbc_track.specs.Tables.{IsSectionInForm, IsSoundInForm, track_with}

-- tables that are refused one after the other, and all of them by the first refusal
one_by_one : {S L G R : Type 0} (size s l g r : Option TrackRefusal) (ss : S) (ls : L) (gs : G) (rs : R) (links : S → Result L TrackRefusal)
    (groups : S → Result G TrackRefusal) (routes : S → L → Result R TrackRefusal) (whole : S → L × G × R → Track)
    → links ss ≡ unless l (Ok ls) → groups ss ≡ unless g (Ok gs) → routes ss ls ≡ unless r (Ok rs)
    → (unless {A = Unit {0}} size (Ok tt) >> (unless s (Ok ss) >>= λ a. (links a >>= λ b. groups a >>= λ c. routes a b >>= λ d. Ok (b, c, d)) >>= λ t. Ok (whole a t)))
    ≡ unless (option_or size (option_or s (option_or l (option_or g r)))) (Ok (whole ss (ls, gs, rs)))
one_by_one (Some x) s l g r ss ls gs rs links groups routes whole of_links of_groups of_routes = refl
one_by_one None (Some x) l g r ss ls gs rs links groups routes whole of_links of_groups of_routes = refl
one_by_one None None (Some x) g r ss ls gs rs links groups routes whole of_links of_groups of_routes = rw of_links refl
one_by_one None None None (Some x) r ss ls gs rs links groups routes whole of_links of_groups of_routes = rw (of_links, of_groups) refl
one_by_one None None None None (Some x) ss ls gs rs links groups routes whole of_links of_groups of_routes = rw (of_links, of_groups, of_routes) refl
one_by_one None None None None None ss ls gs rs links groups routes whole of_links of_groups of_routes = rw (of_links, of_groups, of_routes) refl

-- what is made table by table is the track that the parts make, or their first refusal
pub made_of-track_of : (parts : Parts) → made_of parts ≡ track_of parts
unfolding made_of later_tables sizes_of sound_sections sound_links sound_groups sound_routes
made_of-track_of parts =
    let made = resolved parts in
    one_by_one (size_refusal made) (first_refusal section_refusal [] made.sections) (first_refusal (link_refusal made) [] made.links)
    (first_refusal (group_refusal made) [] made.groups) (first_refusal (route_refusal made) [] made.routes)
    made.sections made.links made.groups made.routes
    (λ sections. sound_links sections parts.links) (λ sections. sound_groups sections parts.groups) (λ sections links. sound_routes sections links parts.routes)
    (λ sections tables. track_with parts.format parts.speed_steps parts.grade_steps sections tables.0 tables.1 tables.2) refl refl refl

none_refused : (refusal : Option TrackRefusal) (made track : Track) → unless refusal (Ok made) ≡ Ok track → (refusal ≡ None) × (made ≡ track)
none_refused None made track e = (refl, cc)
none_refused (Some told) made track e = cc

-- a track that is made is sound
pub sound_made : (parts : Parts) (track : Track) → made_of parts ≡ Ok track → All IsSectionInForm track.sections
    → 1 ≤ track.speed_steps → track.speed_steps ≤ MOST_STEPS → 1 ≤ track.grade_steps → track.grade_steps ≤ MOST_STEPS → IsSoundInForm track
sound_made parts track made form some_speeds few_speeds some_grades few_grades =
    let e = none_refused (track_refusal (resolved parts)) (resolved parts) track (sym (made_of-track_of parts) ∙ made) in
    record {
      form = record {
        few_metres = list_all-from_AllPass (λ section. nat_le section.metres LONGEST_TRACK) track.sections (λ k d below. (form k d below).at_most);
        speeds = λ k d below. (form k d below).speeds;
        grades = λ k d below. (form k d below).grades;
        some_speed_steps = some_speeds;
        few_speed_steps = few_speeds;
        some_grade_steps = some_grades;
        few_grade_steps = few_grades;
      };
      sound = subst (λ (t : Track). IsSound t) e.1 (IsSound-track_refusal (resolved parts) e.0);
    }

-- ---- what is told where a table was refused

-- a call that was refused so
abbrev pub refused_so : (X : Type 0) → OrMemory TrackRefusal → Result X (OrMemory TrackRefusal)
refused_so X fault = Err fault

-- what is answered is the answer's refusal, if it is one
abbrev pub IsTold : (X : Type 0) → OrMemory TrackRefusal → Result Track TrackRefusal → Type 0
IsTold X fault answer = RefusesOrMemory fault answer × IfErr answer (λ refusal. refused_so X fault ≡ refused_so X (Refused refusal))

module _ (X : Type 0) (parts : Parts) where
  abbrev first_of : Option TrackRefusal
  first_of = tables_refusal parts.sections parts.links parts.groups parts.routes

  sized : (size later : Option TrackRefusal) → unless {A = Unit {0}} size (Ok tt) ≡ Ok tt → option_or size later ≡ later
  sized None later e = refl
  sized (Some told) later e = cc

  by_first : sizes_of parts ≡ Ok tt → made_of parts ≡ unless first_of (Ok (resolved parts))
  unfolding sizes_of tables_refusal
  by_first few = made_of-track_of parts ∙ ap (λ first. unless first (Ok (resolved parts))) (sized (size_refusal (resolved parts)) _ few)

  told_by : (first : Option TrackRefusal) (fault : OrMemory TrackRefusal) → RefusesOrMemory fault (unless first (Ok (resolved parts)))
      → IsTold X (told_for fault first) (unless first (Ok (resolved parts)))
  told_by None (Refused refusal) h = cc
  told_by (Some other) (Refused refusal) h = let same : refusal ≡ other = cc in (h, ap (λ r. refused_so X (Refused r)) same)
  told_by None Memory h = (tt, tt)
  told_by (Some other) Memory h = (refl, refl)

  -- what is told is the first refusal, or memory where there is none
  told_over : (fault : OrMemory TrackRefusal) → sizes_of parts ≡ Ok tt → RefusesOrMemory fault (made_of parts) → IsTold X (told_for fault first_of) (made_of parts)
  told_over fault few h =
      let e = by_first few in
      subst (λ (answer : Result Track TrackRefusal). IsTold X (told_for fault first_of) answer) (sym e)
      (told_by first_of fault (subst (λ (answer : Result Track TrackRefusal). RefusesOrMemory fault answer) e h))

  sections_first : (fault : OrMemory TrackRefusal) → sizes_of parts ≡ Ok tt → RefusesOrMemory fault (sound_sections parts.sections) → RefusesOrMemory fault (made_of parts)
  unfolding made_of
  sections_first (Refused refusal) few h = rw (few, h) refl
  sections_first Memory few h = tt

  later_first : (fault : OrMemory TrackRefusal) → sizes_of parts ≡ Ok tt → sound_sections parts.sections ≡ Ok parts.sections
      → RefusesOrMemory fault (later_tables parts.sections parts.links parts.groups parts.routes) → RefusesOrMemory fault (made_of parts)
  unfolding made_of
  later_first (Refused refusal) few some h = rw (few, some, h) refl
  later_first Memory few some h = tt

  module _ (sections : List Section) (links : List LinkPart) (groups : List GroupPart) (routes : List RoutePart)
      (of_sections : sections ≡ parts.sections) (of_links : links ≡ parts.links) (of_groups : groups ≡ parts.groups) (of_routes : routes ≡ parts.routes)
      (fault told : OrMemory TrackRefusal) (is : told ≡ told_for fault (tables_refusal sections links groups routes)) (few : sizes_of parts ≡ Ok tt) where
    told_is : told_for fault first_of ≡ told
    told_is = sym (is ∙ rw (of_sections, of_links, of_groups, of_routes) refl)

    -- the sections were refused
    pub told_of_sections : (table : List Section) → table ≡ parts.sections → RefusesOrMemory fault (sound_sections table) → IsTold X told (made_of parts)
    told_of_sections table of_table h =
        subst (λ t. IsTold X t (made_of parts)) told_is
        (told_over fault few (sections_first fault few (subst (λ (s : List Section). RefusesOrMemory fault (sound_sections s)) of_table h)))

    -- or a later table
    pub told_of_later : (table : List Section) → table ≡ parts.sections → sound_sections table ≡ Ok table
        → (later_links : List LinkPart) → later_links ≡ parts.links → (later_groups : List GroupPart) → later_groups ≡ parts.groups → (later_routes : List RoutePart) → later_routes ≡ parts.routes
        → RefusesOrMemory fault (later_tables parts.sections later_links later_groups later_routes) → IsTold X told (made_of parts)
    told_of_later table of_table some later_links of_later_links later_groups of_later_groups later_routes of_later_routes h =
        subst (λ t. IsTold X t (made_of parts)) told_is
        (told_over fault few
        (later_first fault few (subst (λ (s : List Section). sound_sections s ≡ Ok s) of_table some)
        (rw (← of_later_links, ← of_later_groups, ← of_later_routes) h)))

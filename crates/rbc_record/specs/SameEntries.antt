-- Entries compared part by part, and the law that this tells equal entries.
use Rattle.std.specs.Prelude.{◌≡◌, Bool, false, ◌&&◌, ◌==◌}
use Rattle.std.specs.Bool.{Decides}
use Rattle.std.specs.Ordering.{int_eq}
use Rattle.std.specs.Cmp.{IsEquivalence, decided, unsigned_Decides, signed_Decides, booleans_Decides}
use Rattle.std.specs.Cmp.Lexicographic.{pointwise, pointwise_decides}
use Rattle.std.proofs.Common.{ap}
use Rattle.std.proofs.Math.Bool.{beq}
use Rattle.std.proofs.lemmas.Bool.Decides.{Decides-and, Decides-like}
use Rattle.rbc_model.specs.declared.reports.Told.{Told}
use Rattle.rbc_model.specs.declared.reports.Told.TheVariants.{Report as ToldReport, Lock, Free, Leave, GiveBack}
use Rattle.rbc_model.specs.Tracks.{group_name_eq}
use Rattle.rbc_model.specs.Reports.{Report}
use Rattle.rbc_model.specs.Messages.{Authority}
use Rattle.rbc_model.specs.Histories.{Entry, Heard, Granted, Grants}
use Rattle.rbc_grant.specs.SameViews.{group_name_eq-decides, is_same_run, is_same_run-decides, obstacle_eq, obstacle_eq-decides}
use Rattle.rbc_record.specs.declared.entry.Entry.{Entry as EntryHeld}
use Rattle.rbc_record.specs.declared.entry.Entry.TheVariants.{Heard as HeardHeld, Granted as GrantedHeld}
use Rattle.rbc_record.specs.Entries.{entry_of}

-- whether two reports tell the same
abbrev pub is_same_report : Report → Report → Bool
is_same_report a b =
    a.train == b.train && group_name_eq a.group b.group && beq a.nominal b.nominal && a.distance == b.distance
    && a.over == b.over && a.under == b.under && a.length == b.length && a.time == b.time

-- whether the same is told
abbrev pub is_same_told : Told → Told → Bool
is_same_told (ToldReport a) (ToldReport b) = is_same_report a b
is_same_told (Lock a) (Lock b) = a == b
is_same_told (Free a) (Free b) = a == b
is_same_told (Leave a) (Leave b) = a == b
is_same_told (GiveBack a x) (GiveBack b y) = a == b && x == y
is_same_told _ _ = false

-- whether two authorities say the same
abbrev pub is_same_authority : Authority → Authority → Bool
is_same_authority a b =
    a.time == b.time && group_name_eq a.group b.group && beq a.nominal b.nominal && a.end == b.end
    && pointwise (is_same_run (λ v w. v == w)) a.speeds b.speeds && pointwise (is_same_run int_eq) a.grades b.grades

-- whether the same is granted
abbrev pub is_same_grant : Grants → Grants → Bool
is_same_grant a b = a.train == b.train && int_eq a.from b.from && is_same_authority a.authority b.authority && obstacle_eq a.obstacle b.obstacle

-- whether two entries are the same
abbrev pub is_same_entry : Entry → Entry → Bool
is_same_entry (Heard a) (Heard b) = is_same_told a b
is_same_entry (Granted a) (Granted b) = is_same_grant a b
is_same_entry _ _ = false

-- whether a record holds the same at two places
abbrev pub is_same_held : EntryHeld → EntryHeld → Bool
is_same_held a b = is_same_entry (entry_of a) (entry_of b)

-- ---- this tells equal entries

pub is_same_report-decides : (a b : Report) → Decides (is_same_report a b) (a ≡ b)
is_same_report-decides a b =
    Decides-like (is_same_report a b)
    (λ e. λ i. record {
      train = e.0.0.0.0.0.0.0 i;
      group = e.0.0.0.0.0.0.1 i;
      nominal = e.0.0.0.0.0.1 i;
      distance = e.0.0.0.0.1 i;
      over = e.0.0.0.1 i;
      under = e.0.0.1 i;
      length = e.0.1 i;
      time = e.1 i;
    })
    (λ e. (
      ((((((ap (λ r. r.train) e, ap (λ r. r.group) e), ap (λ r. r.nominal) e), ap (λ r. r.distance) e), ap (λ r. r.over) e), ap (λ r. r.under) e), ap (λ r. r.length) e),
      ap (λ r. r.time) e,
    ))
    (Decides-and
    (a.train == b.train && group_name_eq a.group b.group && beq a.nominal b.nominal && a.distance == b.distance && a.over == b.over && a.under == b.under && a.length == b.length) (a.time == b.time)
    (Decides-and
    (a.train == b.train && group_name_eq a.group b.group && beq a.nominal b.nominal && a.distance == b.distance && a.over == b.over && a.under == b.under) (a.length == b.length)
    (Decides-and (a.train == b.train && group_name_eq a.group b.group && beq a.nominal b.nominal && a.distance == b.distance && a.over == b.over) (a.under == b.under)
    (Decides-and (a.train == b.train && group_name_eq a.group b.group && beq a.nominal b.nominal && a.distance == b.distance) (a.over == b.over)
    (Decides-and (a.train == b.train && group_name_eq a.group b.group && beq a.nominal b.nominal) (a.distance == b.distance)
    (Decides-and (a.train == b.train && group_name_eq a.group b.group) (beq a.nominal b.nominal)
    (Decides-and (a.train == b.train) (group_name_eq a.group b.group) (unsigned_Decides a.train b.train) (group_name_eq-decides a.group b.group))
    (booleans_Decides a.nominal b.nominal))
    (unsigned_Decides a.distance b.distance))
    (unsigned_Decides a.over b.over))
    (unsigned_Decides a.under b.under))
    (unsigned_Decides a.length b.length))
    (unsigned_Decides a.time b.time))

pub is_same_told-decides : (a b : Told) → Decides (is_same_told a b) (a ≡ b)
is_same_told-decides (ToldReport a) (ToldReport b) = let same = is_same_report-decides a b in (λ h. ap ToldReport (same.0 h), λ e. same.1 (cc))
is_same_told-decides (Lock a) (Lock b) = let same = unsigned_Decides a b in (λ h. ap Lock (same.0 h), λ e. same.1 (cc))
is_same_told-decides (Free a) (Free b) = let same = unsigned_Decides a b in (λ h. ap Free (same.0 h), λ e. same.1 (cc))
is_same_told-decides (Leave a) (Leave b) = let same = unsigned_Decides a b in (λ h. ap Leave (same.0 h), λ e. same.1 (cc))
is_same_told-decides (GiveBack a x) (GiveBack b y) =
    let same = Decides-and (a == b) (x == y) (unsigned_Decides a b) (unsigned_Decides x y) in
    (λ h. λ i. GiveBack ((same.0 h).0 i) ((same.0 h).1 i), λ e. same.1 (cc, cc))
is_same_told-decides _ _ = (λ h. cc, λ e. cc)

pub is_same_authority-decides : (a b : Authority) → Decides (is_same_authority a b) (a ≡ b)
is_same_authority-decides a b =
    Decides-like (is_same_authority a b)
    (λ e. λ i. record {
      time = e.0.0.0.0.0 i;
      group = e.0.0.0.0.1 i;
      nominal = e.0.0.0.1 i;
      end = e.0.0.1 i;
      speeds = e.0.1 i;
      grades = e.1 i;
    })
    (λ e. (
      ((((ap (λ r. r.time) e, ap (λ r. r.group) e), ap (λ r. r.nominal) e), ap (λ r. r.end) e), ap (λ r. r.speeds) e),
      ap (λ r. r.grades) e,
    ))
    (Decides-and
    (a.time == b.time && group_name_eq a.group b.group && beq a.nominal b.nominal && a.end == b.end && pointwise (is_same_run (λ v w. v == w)) a.speeds b.speeds)
    (pointwise (is_same_run int_eq) a.grades b.grades)
    (Decides-and
    (a.time == b.time && group_name_eq a.group b.group && beq a.nominal b.nominal && a.end == b.end)
    (pointwise (is_same_run (λ v w. v == w)) a.speeds b.speeds)
    (Decides-and (a.time == b.time && group_name_eq a.group b.group && beq a.nominal b.nominal) (a.end == b.end)
    (Decides-and (a.time == b.time && group_name_eq a.group b.group) (beq a.nominal b.nominal)
    (Decides-and (a.time == b.time) (group_name_eq a.group b.group) (unsigned_Decides a.time b.time) (group_name_eq-decides a.group b.group))
    (booleans_Decides a.nominal b.nominal))
    (unsigned_Decides a.end b.end))
    (pointwise_decides (is_same_run-decides (λ v w. v == w) unsigned_Decides) a.speeds b.speeds))
    (pointwise_decides (is_same_run-decides int_eq signed_Decides) a.grades b.grades))

pub is_same_grant-decides : (a b : Grants) → Decides (is_same_grant a b) (a ≡ b)
is_same_grant-decides a b =
    Decides-like (is_same_grant a b)
    (λ e. λ i. record { train = e.0.0.0 i; from = e.0.0.1 i; authority = e.0.1 i; obstacle = e.1 i })
    (λ e. (((ap (λ g. g.train) e, ap (λ g. g.from) e), ap (λ g. g.authority) e), ap (λ g. g.obstacle) e))
    (Decides-and (a.train == b.train && int_eq a.from b.from && is_same_authority a.authority b.authority) (obstacle_eq a.obstacle b.obstacle)
    (Decides-and (a.train == b.train && int_eq a.from b.from) (is_same_authority a.authority b.authority)
    (Decides-and (a.train == b.train) (int_eq a.from b.from) (unsigned_Decides a.train b.train) (signed_Decides a.from b.from))
    (is_same_authority-decides a.authority b.authority))
    (obstacle_eq-decides a.obstacle b.obstacle))

pub is_same_entry-decides : (a b : Entry) → Decides (is_same_entry a b) (a ≡ b)
is_same_entry-decides (Heard a) (Heard b) = let same = is_same_told-decides a b in (λ h. ap Heard (same.0 h), λ e. same.1 (cc))
is_same_entry-decides (Granted a) (Granted b) = let same = is_same_grant-decides a b in (λ h. ap Granted (same.0 h), λ e. same.1 (cc))
is_same_entry-decides _ _ = (λ h. cc, λ e. cc)

held_alike : (a b : EntryHeld) → entry_of a ≡ entry_of b → a ≡ b
held_alike (HeardHeld a) (HeardHeld b) e = ap HeardHeld (cc)
held_alike (GrantedHeld a) (GrantedHeld b) e = ap GrantedHeld (cc)
held_alike _ _ e = cc

pub is_same_held-decides : (a b : EntryHeld) → Decides (is_same_held a b) (a ≡ b)
is_same_held-decides a b = Decides-like (is_same_held a b) (held_alike a b) (λ e. ap entry_of e) (is_same_entry-decides (entry_of a) (entry_of b))

-- so these are equivalences
pub same_grants : IsEquivalence is_same_grant
same_grants = decided is_same_grant is_same_grant-decides

pub same_entries : IsEquivalence is_same_held
same_entries = decided is_same_held is_same_held-decides

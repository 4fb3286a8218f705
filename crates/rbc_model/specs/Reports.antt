-- A train position report, and the numbers that it may have.
use Rattle.std.specs.Prelude.{ℕ, ◌≤◌, nat_le, ◌&&◌, Bool, Option, Some, None, if◌then◌else◌}
use Rattle.rbc_model.specs.declared.limits.TheConstants.{LAST_TRAIN, FARTHEST_REPORT, MOST_DOUBT, LONGEST_TRAIN, LAST_TIME}
use Rattle.rbc_model.specs.declared.reports.ReportFields.{ReportFields}
use Rattle.rbc_model.specs.Results.{is_from_to}
use Rattle.rbc_model.specs.GroupNames.{GroupName, IsGroupName}

-- the train; the group that it counts from, and whether it runs in that group's nominal direction; how many metres past the group its front
-- stands, by how many these may be too many or too few; its length in metres; and the time
pub record Report : Type 0 where
  pub train : ℕ
  pub group : GroupName
  pub nominal : Bool
  pub distance : ℕ
  pub over : ℕ
  pub under : ℕ
  pub length : ℕ
  pub time : ℕ

-- each number of the report is in its range
pub record IsReport (report : Report) : Type 0 where
  pub some_train : 1 ≤ report.train
  pub train : report.train ≤ LAST_TRAIN
  pub group : IsGroupName report.group
  pub distance : report.distance ≤ FARTHEST_REPORT
  pub over : report.over ≤ MOST_DOUBT
  pub under : report.under ≤ MOST_DOUBT
  pub some_length : 1 ≤ report.length
  pub length : report.length ≤ LONGEST_TRAIN
  pub time : report.time ≤ LAST_TIME

-- whether each number that is told is in its range; the group's are so by their type
abbrev pub is_report : ReportFields → Bool
is_report fields =
    is_from_to 1 LAST_TRAIN fields.train
    && nat_le fields.distance FARTHEST_REPORT
    && nat_le fields.over MOST_DOUBT
    && nat_le fields.under MOST_DOUBT
    && is_from_to 1 LONGEST_TRAIN fields.length
    && nat_le fields.time LAST_TIME

-- what is told, as a report
abbrev pub told : ReportFields → Report
told fields =
    record {
      train = fields.train;
      group = fields.group;
      nominal = fields.nominal;
      distance = fields.distance;
      over = fields.over;
      under = fields.under;
      length = fields.length;
      time = fields.time;
    }

-- the report that is told, if it is one
abbrev pub report_of : ReportFields → Option Report
report_of fields = if is_report fields then Some (told fields) else None

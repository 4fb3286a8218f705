mod DutyLemmas
mod StayLemmas
mod VisitLemmas

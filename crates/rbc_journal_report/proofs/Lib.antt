mod TextLemmas
mod ToldLemmas
mod TellLemmas
mod ReportLemmas
mod CopyLemmas
mod FollowLemmas

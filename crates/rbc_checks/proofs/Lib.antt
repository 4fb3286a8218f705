mod LineLemmas
mod TextLemmas
mod RowLemmas
mod TableLemmas
mod VerdictLemmas
mod CheckingLemmas
mod PrintedLemmas

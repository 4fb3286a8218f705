mod ReductionLemmas
mod MadeLemmas

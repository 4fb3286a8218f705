mod WordLemmas
mod LegLemmas
mod SaidLemmas
mod SceneTextLemmas
mod WrittenLemmas

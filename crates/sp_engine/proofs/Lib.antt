mod FirstRunLemmas
mod ReadLemmas
mod SessionLemmas

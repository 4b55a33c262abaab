mod OutputLemmas
mod PrintingLemmas

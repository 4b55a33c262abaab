mod FaultLemmas
mod ModelLemmas
mod MeaningLemmas

use Rattle.sp_model.specs.Models.{root_of}
use Rattle.sp_cover.proofs.CloseLemmas.{closing-screens}
use Rattle.sp_cover.proofs.EndLemmas.{starting-screens}
use Rattle.sp_cover.proofs.ReopenLemmas.{later-screens, reopening-screens}
use Rattle.sp_cover.proofs.SplitLemmas.{splitting-screens}
use Rattle.sp_cover.proofs.cover_laws.screens_last.Goals as goal

pub returns-clause-closing : goal.returns-clause-closing
returns-clause-closing c = closing-screens

pub returns-clause-splitting : goal.returns-clause-splitting
returns-clause-splitting c = λ fs s t id var at left right ext made here h. splitting-screens fs s t id var at left right ext made here.known h

pub returns-clause-reopening : goal.returns-clause-reopening
returns-clause-reopening c = reopening-screens

pub returns-clause-starting : goal.returns-clause-starting
returns-clause-starting c = λ m fs. starting-screens fs (root_of m)

pub returns-clause-filters : goal.returns-clause-filters
returns-clause-filters c = later-screens

use Rattle.sp_decimal.proofs.ReadingLemmas.{reading-iff, reading-unique}
use Rattle.sp_decimal.proofs.numeral_laws.numerals_have_one_reading.Goals as goal

pub returns-clause-says : goal.returns-clause-says
returns-clause-says c = reading-iff

pub returns-clause-one : goal.returns-clause-one
returns-clause-one c = reading-unique

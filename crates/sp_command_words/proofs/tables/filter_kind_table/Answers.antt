-- The table that was made has these rows.
use Rattle.sp_command_words.proofs.TableLemmas.{made}
use Rattle.sp_command_words.specs.Keywords.{filter_kind_rows}
use Rattle.sp_command_words.proofs.tables.filter_kind_table.Goals as goal

pub returns : goal.returns
returns c = record { rows = made 3 filter_kind_rows c.new.result c.unwrap.result c.unwrap.ensures c.new.ensures.rows }

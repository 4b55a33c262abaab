-- The table that was made has these rows.
use Rattle.sp_command_words.proofs.TableLemmas.{made}
use Rattle.sp_command_words.specs.Keywords.{symbol_rows}
use Rattle.sp_command_words.proofs.tables.symbol_table.Goals as goal

pub returns : goal.returns
returns c = record { rows = made 3 symbol_rows c.new.result c.unwrap.result c.unwrap.ensures c.new.ensures.rows }

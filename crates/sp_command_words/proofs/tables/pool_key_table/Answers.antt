-- The table that was made has these rows.
use Rattle.sp_command_words.proofs.TableLemmas.{made}
use Rattle.sp_command_words.specs.Keywords.{pool_key_rows}
use Rattle.sp_command_words.proofs.tables.pool_key_table.Goals as goal

pub returns : goal.returns
returns c = record { rows = made 5 pool_key_rows c.new.result c.unwrap.result c.unwrap.ensures c.new.ensures.rows }

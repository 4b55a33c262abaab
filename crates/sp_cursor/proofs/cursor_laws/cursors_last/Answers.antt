use Rattle.sp_cursor.proofs.CursorLemmas.{cursor-lasts}
use Rattle.sp_cursor.proofs.cursor_laws.cursors_last.Goals as goal

pub returns : goal.returns
returns c = cursor-lasts

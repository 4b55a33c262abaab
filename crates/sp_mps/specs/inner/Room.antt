-- The lists of names have room for one more.
use Rattle.std.specs.Prelude.{◌+◌, ◌<◌, ◌^◌, length}
use Rattle.sp_mps.specs.declared.reader.Reader.{Reader}

pub record HasRoom (s : Reader) : Type 0 where
  pub rows : length s.rows.names + 1 < 2 ^ 32
  pub columns : length s.columns.names + 1 < 2 ^ 32
  pub indicators : length s.indicators.names + 1 < 2 ^ 32

-- All that a front of the lines says.
use Rattle.std.specs.Prelude.{List}
use Rattle.sp_mps_words.specs.Lines.{Line}
use Rattle.sp_mps_sections.specs.Fronts.{heads}
use Rattle.sp_mps_sections.specs.Order.{direction}
use Rattle.sp_mps_sections.specs.Rows.{row_list}
use Rattle.sp_mps_sections.specs.Columns.{column_list}
use Rattle.sp_mps_sections.specs.Sides.{side_list, range_list}
use Rattle.sp_mps_sections.specs.Bounds.{bound_list}
use Rattle.sp_mps_sections.specs.Indicators.{indicator_list}
use Rattle.sp_mps.specs.declared.reader.Reader.{Reader}

unfoldable pub facts : List Line → Reader
facts lines = record {
  heads = heads lines;
  direction = direction lines;
  rows = row_list lines;
  columns = column_list lines;
  sides = side_list lines;
  ranges = range_list lines;
  bounds = bound_list lines;
  indicators = indicator_list lines;
}

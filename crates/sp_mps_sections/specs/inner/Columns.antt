-- What private functions make of columns.
use Rattle.std.specs.Prelude.{List, ◌++◌}
use Rattle.sp_mps_words.specs.Words.{Word}
use Rattle.sp_mps_sections.specs.Columns.{new_integer}
use Rattle.sp_mps_sections.specs.declared.columns.ColumnList.{ColumnList}
use Rattle.sp_mps_sections.specs.declared.columns.Term.{Term}

abbrev pub with_integer : Word → ColumnList → ColumnList
with_integer name columns =
    record columns { integers = columns.integers ++ new_integer columns.names columns.is_open name }

abbrev pub with_terms : List Term → ColumnList → ColumnList
with_terms new columns = record columns { terms = columns.terms ++ new }

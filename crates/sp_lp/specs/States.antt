-- The reader as the state of the machine.
use Rattle.sp_lp_grammar.specs.Meaning.{Said}
use Rattle.sp_lp_grammar.specs.InnerMachine.{State}
use Rattle.sp_lp.specs.RowNames.{names_of}
use Rattle.sp_lp.specs.declared.saying.Saying.{Saying}
use Rattle.sp_lp.specs.declared.reader.Reader.{Reader}

abbrev pub said_of : Saying → Said
said_of s = record {
  maximize = s.maximize;
  names = s.names;
  vars = s.vars.items;
  terms = s.terms;
  cost = s.cost;
  constants = s.constants;
  rows = s.rows;
  indicators = s.indicators;
  set_kind = s.set_kind;
  sets = s.sets;
  row_names = names_of s.row_names.keys;
  set_names = s.set_names;
}

abbrev pub state_of : Reader → State
state_of r = record {
  place = r.place;
  negative = r.negative;
  number = r.number;
  sense = r.sense;
  value = r.value;
  name = r.name.now;
  on = r.on;
  kind = r.kind;
  said = said_of r.said;
}

-- A request whose name of a file isn't copied yet.
use Rattle.sp_model.specs.Cuts.{IsGap}
use Rattle.sp_args.specs.declared.reading.Meant.{Meant}
use Rattle.sp_args.specs.declared.requests.Request.{Request}

abbrev pub asked_by : Meant → Request
asked_by m = record { gaps = m.gaps; nodes = m.nodes; file = m.file.now }

-- its gaps are lawful
abbrev pub IsMeant : Meant → Type 0
IsMeant m = IsGap m.gaps.abs × IsGap m.gaps.rel

use Rattle.std.proofs.Common.{◌<◌, length, refl, arith}
use Rattle.sp_printing.specs.Printing.{named_of, serial_line}
use Rattle.sp_printing.proofs.OutputLemmas.{flat_map_drop, flat_map_end}
use Rattle.sp_printing.proofs.replying.print_serials.Goals as goal

pub loop-serial-init : goal.loop-serial-init
loop-serial-init g c = c.texts_grow.ensures.begins _ _ _ _ refl

pub returns-in-Err : goal.returns-in-Err
returns-in-Err g c =
    let within : c.loop-serial.serial-index < length c.args.serials.now = omega arith in
    record { written = c.texts_grow.ensures.fails _ _ _ _ _ _ _ _ _ _ c.loop-serial.invariant (flat_map_drop (serial_line (named_of c.args.names.now c.args.model.now) c.args.notes.now) c.args.serials.now c.loop-serial.serial-index 0 within) c.in-Err.is c.print_serial.ensures.written }

pub loop-serial-preserved : goal.loop-serial-preserved
loop-serial-preserved g c =
    let within : c.loop-serial.serial-index < length c.args.serials.now = omega arith in
    c.texts_grow.ensures.goes_on _ _ _ _ _ _ _ _ _ c.loop-serial.invariant (flat_map_drop (serial_line (named_of c.args.names.now c.args.model.now) c.args.notes.now) c.args.serials.now c.loop-serial.serial-index 0 within) c.in-Ok.is c.print_serial.ensures.written

pub returns : goal.returns
returns g c = record { written = c.texts_grow.ensures.ends _ _ _ _ _ c.loop-serial.invariant (flat_map_end (serial_line (named_of c.args.names.now c.args.model.now) c.args.notes.now) c.args.serials.now c.loop-serial.serial-index (omega arith)) }

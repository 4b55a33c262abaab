use Rattle.std.proofs.Common.{refl}
use Rattle.sp_decimal.proofs.PowerLemmas.{power_at, power-positive, power-small}
use Rattle.sp_decimal.proofs.rounding.power_of_ten.Goals as goal

pub returns : goal.returns
returns c =
    rw (c.from.ensures, power_at c.args.exponent c.requires)
    (record { value = refl; positive = power-positive c.args.exponent; small = power-small c.args.exponent c.requires })

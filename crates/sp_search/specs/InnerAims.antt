-- What a bound has to pass under an aim, for private functions.
use Rattle.std.specs.Prelude.{Option, None, Some, ℤ, pos, ◌-ℤ◌}
use Rattle.sp_cover.specs.declared.aims.Aim.{Aim}
use Rattle.sp_cover.specs.declared.aims.Aim.TheVariants.{Improve, Collect}

-- what a bound has to pass to close a box under the aim
abbrev pub threshold_of : Aim → Option ℤ → Option ℤ
threshold_of Improve None = None
threshold_of Improve (Some best) = Some (best -ℤ pos 1)
threshold_of (Collect cut) best = Some cut

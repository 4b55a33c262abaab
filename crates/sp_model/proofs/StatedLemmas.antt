-- Stated bounds as two lists.
use Rattle.std.proofs.Common.{◌≡◌, ℕ, ◌<◌, ◌≤◌, length, get_or, Option, None, ℤ, sym, subst, arith}
use Rattle.std.proofs.lemmas.Slice.Zip.{length-zip, get_or-zip}
use Rattle.sp_model.specs.declared.parts.ModelParts.{ModelParts}
use Rattle.sp_model.specs.Stated.{OpenRange, open_at, stated_of}

pub length_stated : (m : ModelParts) → length m.upper ≡ length m.lower → length (stated_of m) ≡ length m.lower
length_stated m e = omega (arith, length-zip m.lower m.upper)

pub stated_at : (m : ModelParts) (j : ℕ) → length m.upper ≡ length m.lower → j < length m.lower → open_at (stated_of m) j ≡ (get_or m.lower j None, get_or m.upper j None)
stated_at m j e h = get_or-zip m.lower m.upper j (None, None) h (omega arith)

pub range_told : (m : ModelParts) (j : ℕ) (P : OpenRange → Type 0) → length m.upper ≡ length m.lower → j < length m.lower → P (get_or m.lower j None, get_or m.upper j None) → P (open_at (stated_of m) j)
range_told m j P e h p = subst P (sym (stated_at m j e h)) p

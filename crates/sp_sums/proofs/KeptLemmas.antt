-- What is kept says which rows are broken over the box.
use Rattle.std.proofs.Common.{◌≡◌, ℕ, ◌<◌, Bool, false, List, length, map, sym, ap, ◌∙◌, arith}
use Rattle.std.specs.List.{count_by}
use Rattle.std.proofs.lemmas.List.{length-map, get_or-map}
use Rattle.sp_model.specs.declared.parts.Row.{Row}
use Rattle.sp_model.specs.Boxes.{Bounds}
use Rattle.sp_sums.specs.declared.spans.Span.{Span}
use Rattle.sp_sums.specs.Extremes.{is_broken_over}
use Rattle.sp_sums.specs.Flags.{true_count, flag_at, IsFirstTrue, IsNoneTrue}
use Rattle.sp_sums.specs.Inner.{IsTally, marks}
use Rattle.sp_sums.specs.Rows.{AreUnbroken, IsFirstBroken, bare_row, row_at}
use Rattle.sp_sums.proofs.FlagLemmas.{count-map}
use Rattle.sp_sums.proofs.MakeLemmas.{marks-over}

pub tally_marks : (b : Bounds) (rows : List Row) (ss : List Span) (bits : List Bool) → IsTally b rows ss bits → bits ≡ map (is_broken_over b) rows
tally_marks b rows ss bits t = t.marked ∙ ap (marks rows) t.spans ∙ marks-over b rows

pub tally_long : (b : Bounds) (rows : List Row) (ss : List Span) (bits : List Bool) → IsTally b rows ss bits → length bits ≡ length rows
tally_long b rows ss bits t = ap length (tally_marks b rows ss bits t) ∙ length-map rows (is_broken_over b)

pub tally_at : (b : Bounds) (rows : List Row) (ss : List Span) (bits : List Bool) (k : ℕ) → IsTally b rows ss bits → k < length rows → flag_at bits k ≡ is_broken_over b (row_at rows k)
tally_at b rows ss bits k t h =
    ap (λ (xs : List Bool). flag_at xs k) (tally_marks b rows ss bits t) ∙ get_or-map (is_broken_over b) rows k bare_row false h

pub tally_count : (b : Bounds) (rows : List Row) (ss : List Span) (bits : List Bool) → IsTally b rows ss bits → true_count bits ≡ count_by (is_broken_over b) rows
tally_count b rows ss bits t = ap true_count (tally_marks b rows ss bits t) ∙ count-map (is_broken_over b) rows

pub tally_none : (b : Bounds) (rows : List Row) (ss : List Span) (bits : List Bool) → IsTally b rows ss bits → IsNoneTrue bits → AreUnbroken b rows
tally_none b rows ss bits t n = record { each = λ k h. sym (tally_at b rows ss bits k t h) ∙ n.each k }

pub tally_first : (b : Bounds) (rows : List Row) (ss : List Span) (bits : List Bool) (k : ℕ) → IsTally b rows ss bits → IsFirstTrue bits k → IsFirstBroken b rows k
tally_first b rows ss bits k t f =
    let long = tally_long b rows ss bits t in
    let known : k < length rows = omega (arith, long, f.known) in
    record {
      here = record { known = known; broken = sym (tally_at b rows ss bits k t known) ∙ f.here };
      before = λ i h. sym (tally_at b rows ss bits i t (omega arith)) ∙ f.before i h;
    }

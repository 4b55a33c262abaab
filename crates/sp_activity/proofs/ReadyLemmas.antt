-- What a lawful model gives to the search for a reason.
use Rattle.std.proofs.Common.{◌≡◌, ◌⊎◌, inl, inr, nat_eq, ◌||◌, ℕ, zero, suc, ◌+◌, ◌<◌, ◌≤◌, Bool, true, false, List, [], ◌∷◌, length, map, get_or, All, AllPairs, refl, arith, pos}
use Rattle.std.proofs.lemmas.Int.{ints}
use Rattle.std.specs.Cmp.{unsigned_Decides}
use Rattle.std.specs.List.{list_any}
use Rattle.std.proofs.lemmas.Bool.Decides.{nat_tests}
use Rattle.std.proofs.lemmas.Map.Made.{IsDistinct-from_AllPairs}
use Rattle.std.proofs.lemmas.Map.Steps.{length-le_from_distinct_below}
use Rattle.sp_model.specs.declared.parts.Row.{Row}
use Rattle.sp_model.specs.declared.parts.Indicator.{Indicator}
use Rattle.sp_model.specs.declared.parts.Sos.{Sos}
use Rattle.sp_model.specs.declared.parts.ModelParts.{ModelParts}
use Rattle.sp_model.specs.Boxes.{Bounds, range_at}
use Rattle.sp_model.specs.Models.{root_of}
use Rattle.sp_model.specs.Rules.{AreCoresLawful, IsLawful, IsRowLawful, IsSetLawful}
use Rattle.sp_model.specs.Stated.{Core, stated_of}
use Rattle.sp_model.specs.Sums.{Term}
use Rattle.sp_sums.specs.Extremes.{AreTermsNarrow}
use Rattle.sp_sums.specs.Ranges.{IsFilled, IsInside}
use Rattle.sp_sums.specs.Rows.{AreRowsFit, IsRowFit}
use Rattle.std.proofs.lemmas.List.{get_or-map, length-map}
use Rattle.sp_activity.specs.Reasons.{bare_indicator}
use Rattle.sp_activity.specs.Stages.{IsReady}
use Rattle.sp_activity.specs.Uses.{core_vars, gate_vars}
use Rattle.sp_activity.specs.Within.{IsCovered, IsUnder}

pub inside_root : (root b : Bounds) → IsUnder root b → IsFilled b → IsInside root b
inside_root root b u f = record {
  long = u.long;
  each = λ j l. (let c : IsCovered (range_at root j) (range_at b j) = u.each j l in record { lower = c.lower; filled = f.each j (omega (arith, u.long)); upper = c.upper });
}

-- what the rules of a model say of its items over the root box
pub record IsFit (m : ModelParts) : Type 0 where
  pub short : length (root_of m) ≤ 2000
  pub rows : AreRowsFit (root_of m) m.rows
  pub gate_few : length m.indicators ≤ 1000
  pub switches : All (λ (i : Indicator). i.var < length (root_of m)) m.indicators
  pub gates : All (λ (i : Indicator). IsRowFit (root_of m) i.row) m.indicators
  pub set_few : length m.sos ≤ 1000
  pub members : All (λ (set : Sos). All (λ v. v < length (root_of m)) set.vars) m.sos
  pub sets_short : All (λ (set : Sos). length set.vars ≤ 2000) m.sos
  pub cores : All (λ (c : Core). c.0 < length (root_of m)) m.semi
  pub rising : AllPairs (λ (c : Core) (d : Core). c.0 < d.0) m.semi
  pub cores_few : length m.semi ≤ 2000

row_fit : (b : Bounds) (row : Row) → IsRowLawful b row → IsRowFit b row
row_fit b row l = record {
  narrow = record { known = l.terms.known; narrow = omega (arith, l.narrow) };
  rising = l.terms.rising;
}

-- members that are known and stand once are at most as many as there are variables
or_cases : (a b : Bool) → a || b ≡ true → (a ≡ true) ⊎ (b ≡ true)
or_cases true b e = inl refl
or_cases false b e = inr e

any_known : (xs : List ℕ) (n q : ℕ) → All (λ (v : ℕ). v < n) xs → list_any (nat_eq q) xs ≡ true → q < n
any_known [] n q h e = cc
any_known (x ∷ xs) n q h e = elim (or_cases (nat_eq q x) (list_any (nat_eq q) xs) e) [
  | inl s ↦ (let same : q ≡ x = same_number q x s in let k = h 0 0 (omega arith) in omega arith)
  | inr r ↦ any_known xs n q (λ i d l. h (suc i) d (omega arith)) r
]
  where
    same_number : (a b : ℕ) → nat_eq a b ≡ true → a ≡ b
    same_number a b e = grind (arith, nat_tests)

few_members : (n : ℕ) (set : Sos) → IsSetLawful n set → length set.vars ≤ n
few_members n set l = length-le_from_distinct_below set.vars n (IsDistinct-from_AllPairs unsigned_Decides set.vars l.once) (λ q e. any_known set.vars n q l.known e)

-- variables that rise are at most as many as there are
rising_from : (low n : ℕ) (cores : List Core) → low ≤ n → All (λ (c : Core). low ≤ c.0) cores → All (λ (c : Core). c.0 < n) cores → AllPairs (λ (c : Core) (d : Core). c.0 < d.0) cores → low + length cores ≤ n
rising_from low n [] b a h r = omega arith
rising_from low n (c ∷ cores) b a h r =
    let here = a 0 c (omega arith) in
    let known = h 0 c (omega arith) in
    let rest = rising_from (suc c.0) n cores (omega arith) (λ i d l. r 0 (suc i) d (omega arith) (omega arith)) (λ i d l. h (suc i) d (omega arith)) (λ i j d l m. r (suc i) (suc j) d (omega arith) (omega arith)) in
    omega arith

few_rising : (n : ℕ) (cores : List Core) → All (λ (c : Core). c.0 < n) cores → AllPairs (λ (c : Core) (d : Core). c.0 < d.0) cores → length cores ≤ n
few_rising n cores h r = omega (arith, rising_from 0 n cores (omega arith) (λ i d l. omega arith) h r)

-- what sp_model says of the length of the root box
pub record AreLong (m : ModelParts) : Type 0 where
  pub stated : length (stated_of m) ≡ length m.lower
  pub root : length (root_of m) ≡ length m.lower
  pub short : length (root_of m) ≤ 2000

pub fit_of : (m : ModelParts) → AreLong m → IsLawful m → IsFit m
fit_of m a l =
    let cores : AreCoresLawful (stated_of m) m.semi = l.box.bounds.cores in
    let known : All (λ (c : Core). c.0 < length (root_of m)) m.semi = λ k d h. omega (arith, (cores.each k d h).known, a.stated, a.root) in
    record {
      short = a.short;
      rows = record { few = l.rows.few; each = λ k d h. row_fit (root_of m) (get_or m.rows k d) (l.rows.each k d h) };
      gate_few = l.indicators.few;
      switches = λ k d h. (l.indicators.each k d h).known;
      gates = λ k d h. row_fit (root_of m) (get_or m.indicators k d).row (l.indicators.each k d h).row;
      set_few = l.sets.few;
      members = λ k d h. (l.sets.each k d h).known;
      sets_short = λ k d h. omega (arith, few_members (length (root_of m)) (get_or m.sos k d) (l.sets.each k d h), a.short);
      cores = known;
      rising = cores.rising;
      cores_few = omega (arith, few_rising (length (root_of m)) m.semi known cores.rising, a.short);
    }

-- fit rows are narrow over each box inside the root
abbrev pub NarrowInside : Type 0
NarrowInside = (root b : Bounds) (row : Row) → IsRowFit root row → IsInside root b → AreTermsNarrow b row.terms

pub ready_of : (m : ModelParts) (b : Bounds) → NarrowInside → IsFit m → IsFilled b → IsInside (root_of m) b → IsReady m b
ready_of m b n f filled h = record {
  filled = filled;
  row_few = f.rows.few;
  rows = λ k d l. n (root_of m) b (get_or m.rows k d) (f.rows.each k d l) h;
  gate_few = f.gate_few;
  switches = λ k d l. omega (arith, f.switches k d l, h.long);
  gates = λ k d l. n (root_of m) b (get_or m.indicators k d).row (f.gates k d l) h;
  set_few = f.set_few;
  members = λ k d l v e g. omega (arith, f.members k d l v e g, h.long);
  short = f.sets_short;
  cores = λ k d l. omega (arith, f.cores k d l, h.long);
  rising = f.rising;
}

-- a box without an empty range lies in itself
pub inside_itself : (b : Bounds) → IsFilled b → IsInside b b
inside_itself b f = record { long = refl; each = λ j l. record { lower = omega (arith, ints); filled = f.each j l; upper = omega (arith, ints) } }

-- the indicators' rows
pub gate_rows_fit : (m : ModelParts) → IsFit m → AreRowsFit (root_of m) (map (λ (i : Indicator). i.row) m.indicators)
gate_rows_fit m f = record {
  few = omega (arith, f.gate_few, length-map m.indicators (λ (i : Indicator). i.row));
  each = λ k d l. gate_at m f k d l;
}
  where
    gate_at : (m : ModelParts) → IsFit m → (k : ℕ) (d : Row) → k < length (map (λ (i : Indicator). i.row) m.indicators) → IsRowFit (root_of m) (get_or (map (λ (i : Indicator). i.row) m.indicators) k d)
    gate_at m f k d l =
        let inside : k < length m.indicators = omega (arith, length-map m.indicators (λ (i : Indicator). i.row)) in
        rw (get_or-map (λ (i : Indicator). i.row) m.indicators k bare_indicator d inside) (f.gates k bare_indicator inside)

-- the variables of an indicator, a core
pub gate_vars_known : (m : ModelParts) → IsFit m → All (λ (i : Indicator). All (λ (v : ℕ). v < length (root_of m)) (gate_vars i)) m.indicators
gate_vars_known m f = λ k d l. vars_known (length (root_of m)) (get_or m.indicators k d) (f.switches k d l) (f.gates k d l).narrow.known
  where
    vars_known : (n : ℕ) (i : Indicator) → i.var < n → All (λ (t : Term). t.0 < n) i.row.terms → All (λ (v : ℕ). v < n) (gate_vars i)
    vars_known n i s h zero e g = s
    vars_known n i s h (suc p) e g =
        let inside : p < length i.row.terms = omega (arith, length-map i.row.terms (λ (t : Term). t.0)) in
        rw (get_or-map (λ (t : Term). t.0) i.row.terms p (0, pos 0) e inside) (h p (0, pos 0) inside)

pub core_vars_known : (m : ModelParts) → IsFit m → All (λ (c : Core). All (λ (v : ℕ). v < length (root_of m)) (core_vars c)) m.semi
core_vars_known m f = λ k d l. only_known (length (root_of m)) (get_or m.semi k d) (f.cores k d l)
  where
    only_known : (n : ℕ) (c : Core) → c.0 < n → All (λ (v : ℕ). v < n) (core_vars c)
    only_known n c s zero e g = s
    only_known n c s (suc p) e g = absurd (omega arith)

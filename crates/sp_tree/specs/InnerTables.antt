-- What a `Table` keeps of its fields.
use Rattle.std.specs.Prelude.{◌≡◌, ℕ, zero, suc, ◌+◌, ◌*◌, ◌%◌, ◌^◌, ◌<◌, nat_eq, cond, List, [], ◌∷◌, length, map, slice_index_or, ℤ, pos, int_lt, unsigned_abs}
use Rattle.sp_dual.specs.Lists.{MultiplierList}
use Rattle.sp_tree.specs.Tables.{IsTable, table_weight}

-- the fingerprint of a list: its divisor, and then each entry mixed in
abbrev pub mixed_with : ℕ → ℕ × ℤ → ℕ
mixed_with print e = (print * 69069 + e.0 % 2 ^ 32 + (2 * (unsigned_abs e.1 % 2 ^ 32) + cond (int_lt e.1 (pos 0)) 1 0)) % 2 ^ 32

abbrev pub print_from : ℕ → List (ℕ × ℤ) → ℕ
print_from print [] = print
print_from print (e ∷ es) = print_from (mixed_with print e) es

abbrev pub print_of : MultiplierList → ℕ
print_of m = print_from (unsigned_abs m.d % 2 ^ 32) m.y

-- the chain of a place, where there are so many chains
abbrev pub chain_of : List ℕ → ℕ → ℕ → ℕ
chain_of prints size k = slice_index_or prints k 0 % size

-- one more than the last place before n in a chain, or 0
abbrev pub latest : List ℕ → ℕ → ℕ → ℕ → ℕ
latest prints size chain zero = 0
latest prints size chain (suc n) = cond (nat_eq (chain_of prints size n) chain) (suc n) (latest prints size chain n)

-- the first n places are in their chains
pub record AreLinked (prints : List ℕ) (size : ℕ) (next heads : List ℕ) (n : ℕ) : Type 0 where
  pub heads_are : (b : ℕ) → b < size → slice_index_or heads b 0 ≡ latest prints size b n
  pub next_are : (p : ℕ) → p < n → slice_index_or next p 0 ≡ latest prints size (chain_of prints size p) p

pub record IsIndex (prints next heads : List ℕ) : Type 0 where
  pub some : 0 < length heads
  pub long : length next ≡ length prints
  pub linked : AreLinked prints (length heads) next heads (length prints)

pub record IsKeptTable (lists : List MultiplierList) (weight : ℕ) (prints : List ℕ) : Type 0 where
  pub table : IsTable lists
  pub weighed : weight ≡ table_weight lists
  pub printed : prints ≡ map print_of lists

-- The longest token at the head of some bytes, kind by kind.
use Rattle.std.proofs.Common.{◌≡◌, ℕ, zero, ◌<◌, ◌≤◌, Bool, List, length, take, refl, Ok, Err, arith}
use Rattle.sp_decimal.specs.declared.numerals.Numeral.{Numeral}
use Rattle.sp_decimal.specs.declared.numerals.NumeralFault.TheVariants as numeral_faults
use Rattle.sp_decimal.specs.Numerals.{numeral}
use Rattle.sp_lp_tokens.specs.declared.token_types.TokenKind.TheVariants.{Name, Number, Symbol}
use Rattle.sp_lp_tokens.specs.declared.token_types.TokenKindFault.TheVariants.{BadByte, Wide, LongName}
use Rattle.sp_lp_tokens.specs.declared.symbols.Symbol as symbols
use Rattle.sp_lp_tokens.specs.Longest.{IsLongest}
use Rattle.sp_lp_tokens.specs.Texts.{is_name, is_number, is_symbol, spelling}
use Rattle.sp_lp_tokens.specs.InnerPieces.{IsPiece, IsFaultyPiece}
use Rattle.sp_lp_tokens.proofs.KindsApartLemmas.{longest_name, longest_number, longest_symbol, no_token}
use Rattle.std.proofs.lemmas.List.{length-take-le}

-- the text of a longest front has its length
length_of : (test : List ℕ → Bool) (bytes : List ℕ) (n : ℕ) → IsLongest test bytes n → length (take n bytes) ≡ n
length_of test bytes n h = length-take-le n bytes h.within

pub name_is_piece : (bytes : List ℕ) (n : ℕ) → 0 < n → n ≤ 255 → IsLongest is_name bytes n → IsPiece bytes (record { kind = Name; length = n })
name_is_piece bytes n some short h = record {
  some = some;
  longest = longest_name bytes n h some;
  kind_is = (h.passes some, omega (arith, length_of is_name bytes n h));
}

pub long_name_is_fault : (bytes : List ℕ) (n : ℕ) → 0 < n → 255 < n → IsLongest is_name bytes n → IsFaultyPiece bytes LongName
long_name_is_fault bytes n some long h = record {
  size = n;
  longest = longest_name bytes n h some;
  fault_is = (h.passes some, omega (arith, length_of is_name bytes n h));
}

pub number_is_piece : (bytes : List ℕ) (n : ℕ) (m : Numeral) → 0 < n → IsLongest is_number bytes n → numeral (take n bytes) ≡ Ok m → IsPiece bytes (record { kind = Number m; length = n })
number_is_piece bytes n m some h e = record { some = some; longest = longest_number bytes n h some; kind_is = (h.passes some, e) }

pub wide_number_is_fault : (bytes : List ℕ) (n : ℕ) → 0 < n → IsLongest is_number bytes n → numeral (take n bytes) ≡ Err numeral_faults.Wide → IsFaultyPiece bytes Wide
wide_number_is_fault bytes n some h e = record { size = n; longest = longest_number bytes n h some; fault_is = (h.passes some, e) }

pub symbol_is_piece : (bytes : List ℕ) (s : symbols.Symbol) → take (length (spelling s)) bytes ≡ spelling s → IsLongest is_symbol bytes (length (spelling s)) → IsPiece bytes (record { kind = Symbol s; length = length (spelling s) })
symbol_is_piece bytes s e h = record { some = some_bytes s; longest = longest_symbol bytes (length (spelling s)) h (some_bytes s); kind_is = e }
  where
    some_bytes : (s : symbols.Symbol) → 0 < length (spelling s)
    some_bytes symbols.TheVariants.Plus = omega arith
    some_bytes s = omega arith

pub nothing_is_fault : (bytes : List ℕ) (name number : ℕ) → name ≤ 0 → number ≤ 0 → IsLongest is_name bytes name → IsLongest is_number bytes number → IsLongest is_symbol bytes 0 → IsFaultyPiece bytes BadByte
nothing_is_fault bytes zero zero p q a b c = record { size = 0; longest = no_token bytes a b c; fault_is = refl }
nothing_is_fault bytes name number p q a b c = absurd (omega arith)

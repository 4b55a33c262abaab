-- What comes next in a file, from the gap and the piece behind it.
use Rattle.std.proofs.Common.{◌≡◌, ◌≢◌, ℕ, ◌+◌, ◌≤◌, false, List, length, take, drop, ap, sym, subst, arith, length-drop}
use Rattle.std.specs.Prelude.{count_by}
use Rattle.std.proofs.Math.Nat.{add-sub_cancel_left}
use Rattle.sp_lp_tokens.specs.declared.token_types.TokenKindFault.{TokenKindFault}
use Rattle.sp_lp_tokens.specs.declared.pieces.Piece.{Piece}
use Rattle.sp_lp_tokens.specs.Gaps.{is_feed, gap_length, line_at}
use Rattle.sp_lp_tokens.specs.Longest.{IsLongest}
use Rattle.sp_lp_tokens.specs.Texts.{is_token_text}
use Rattle.sp_lp_tokens.specs.Tokens.{IsNextText, IsNextToken, IsNextFault, IsKind, IsFaultKind, text_between}
use Rattle.sp_lp_tokens.specs.InnerPieces.{IsPiece, IsFaultyPiece}
use Rattle.sp_lp_tokens.proofs.LineLemmas.{line_at-add}

-- the gap before a place
pub record IsGapAt (source : List ℕ) (place line gap feeds : ℕ) : Type 0 where
  pub within : place ≤ length source
  pub line_is : line ≡ line_at source place
  pub gap_is : gap ≡ gap_length false (drop place source)
  pub feeds_are : feeds ≡ count_by is_feed (take gap (drop place source))
  pub fits : gap ≤ length (drop place source)

start_line : (source : List ℕ) (place line gap feeds : ℕ) → IsGapAt source place line gap feeds → line + feeds ≡ line_at source (place + gap)
start_line source place line gap feeds g = omega (arith, line_at-add source place gap, g.line_is, g.feeds_are)

text_is : (source : List ℕ) (start n : ℕ) → text_between source start (start + n) ≡ take n (drop start source)
text_is source start n = ap (λ k. take k (drop start source)) (add-sub_cancel_left start n)

next_text : (source : List ℕ) (place line gap feeds n : ℕ) → IsGapAt source place line gap feeds → (place + gap) ≢ length source → IsLongest is_token_text (drop (place + gap) source) n → IsNextText source place (place + gap) (place + gap + n)
next_text source place line gap feeds n g more h = record {
  behind_gap = ap (λ k. place + k) g.gap_is;
  some_left = omega (arith, g.within, g.fits, length-drop place source);
  ordered = omega arith;
  longest = subst (λ (k : ℕ). IsLongest is_token_text (drop (place + gap) source) k) (sym (add-sub_cancel_left (place + gap) n)) h;
}

pub token_is_next : (source : List ℕ) (place line gap feeds : ℕ) (piece : Piece) → IsGapAt source place line gap feeds → (place + gap) ≢ length source → IsPiece (drop (place + gap) source) piece →
    IsNextToken source place (record { kind = piece.kind; start = place + gap; end = place + gap + piece.length; line = line + feeds })
token_is_next source place line gap feeds piece g more p = record {
  next = next_text source place line gap feeds piece.length g more p.longest;
  kind = subst (λ (text : List ℕ). IsKind text piece.kind) (sym (text_is source (place + gap) piece.length)) p.kind_is;
  line = start_line source place line gap feeds g;
}

pub fault_is_next : (source : List ℕ) (place line gap feeds : ℕ) (kind : TokenKindFault) → IsGapAt source place line gap feeds → (place + gap) ≢ length source → IsFaultyPiece (drop (place + gap) source) kind →
    IsNextFault source place (line + feeds) kind
fault_is_next source place line gap feeds kind g more p = record {
  start = place + gap;
  end = place + gap + p.size;
  next = next_text source place line gap feeds p.size g more p.longest;
  kind_is = subst (λ (text : List ℕ). IsFaultKind text kind) (sym (text_is source (place + gap) p.size)) p.fault_is;
  line_is = start_line source place line gap feeds g;
}

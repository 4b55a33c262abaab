-- A text that is cut from the left: what is left of it, and one piece more.
use Rattle.std.proofs.Common.{◌≡◌, ℕ, ◌+◌, ◌-◌, ◌<◌, ◌≤◌, ◌≢◌, cond, not, List, [], ◌∷◌, ◌++◌, length, take, drop, get_or, set, slice_range, nat_le, sym, ap, ap₂, ◌∙◌, inl, inr, arith, length-drop}
use Rattle.std.specs.List.{All, zip, slice_split, position_or_len}
use Rattle.std.proofs.lemmas.List.{drop-drop, take_all, take_more_set, drop_more, map-append, append_assoc, append-nil, length-set, take_rest}
use Rattle.std.proofs.lemmas.List.Elements.{All-push}
use Rattle.std.proofs.lemmas.List.Splits.{slice_split_first, slice_split_none}
use Rattle.std.proofs.lemmas.List.Sums.{prefix_len-le-length, fails_before_first}
use Rattle.std.proofs.lemmas.Bool.{cases_lt, cond-true, cond-false, le-leb, lt-leb}
use Rattle.sp_words.specs.Spellings.{is_blank, spellings}
use Rattle.sp_words.specs.Rows.{Row}
use Rattle.sp_words.specs.InnerEntries.{IsWithin, IsCut, row_at, rows_of}
use Rattle.sp_words.specs.declared.entries.Entry.{Entry}

-- the pieces of the text from a place on, which is one past its end when none is left
abbrev pub pieces_from : List ℕ → ℕ → List (List ℕ)
pieces_from text start = cond (nat_le start (length text)) (slice_split is_blank (drop start text)) []

-- the first entries, and what is left of the text, make the rows of the whole
pub record IsCutUpTo (n : ℕ) (text codes : List ℕ) (entries : List Entry) (i start : ℕ) : Type 0 where
  pub room : length entries ≡ n
  pub count : i + length (pieces_from text start) ≡ length (spellings text)
  pub bound : start ≤ length text + 1
  pub within : All (IsWithin text) (take i entries)
  pub rows : rows_of text (take i entries) ++ zip (pieces_from text start) (drop i codes) ≡ zip (spellings text) codes

pub pieces-left : (text : List ℕ) (start : ℕ) → start ≤ length text → pieces_from text start ≡ slice_split is_blank (drop start text)
pieces-left text start h = cond-true (nat_le start (length text)) _ _ (le-leb start (length text) h)

pub pieces-end : (text : List ℕ) (start : ℕ) → length text < start → pieces_from text start ≡ []
pieces-end text start h = cond-false (nat_le start (length text)) _ _ (lt-leb start (length text) h)

-- the first piece of what is left, and the pieces after it
pub first_piece : (text : List ℕ) (start : ℕ) → start ≤ length text
    → pieces_from text start ≡ take (position_or_len is_blank (drop start text)) (drop start text) ∷ pieces_from text (start + position_or_len is_blank (drop start text) + 1)
first_piece text start h =
    let left = drop start text in
    let n = position_or_len is_blank left in
    let short : n ≤ length left = prefix_len-le-length (λ byte. not (is_blank byte)) left in
    let long : length left ≡ length text - start = length-drop start text in
    elim (cases_lt n (length left)) [
      | inl blank ↦
          let after : drop (n + 1) left ≡ drop (start + n + 1) text = drop-drop (n + 1) start text ∙ ap (λ (k : ℕ). drop k text) (omega arith) in
          pieces-left text start h ∙ slice_split_first is_blank left 0 blank
          ∙ ap (λ (ps : List (List ℕ)). take n left ∷ ps) (ap (slice_split is_blank) after ∙ sym (pieces-left text (start + n + 1) (omega arith)))
      | inr last ↦
          let all : take n left ≡ left = take_all n left last in
          pieces-left text start h
          ∙ slice_split_none is_blank left (λ k d within. fails_before_first is_blank left k d (omega arith))
          ∙ ap₂ (λ (p : List ℕ) (ps : List (List ℕ)). p ∷ ps) (sym all) (sym (pieces-end text (start + n + 1) (omega arith)))
    ]

pub goes_on : (n : ℕ) (text codes : List ℕ) (entries : List Entry) (i start len : ℕ) → IsCutUpTo n text codes entries i start
    → start ≤ length text → i < n → length codes ≡ n
    → len ≡ position_or_len is_blank (take (length text - start) (drop start text))
    → IsCutUpTo n text codes (set entries i record { start = start; end = start + len; code = get_or codes i 0 }) (i + 1) (start + len + 1)
goes_on n text codes entries i start len h left more full read =
    let entry : Entry = record { start = start; end = start + len; code = get_or codes i 0 } in
    let is : len ≡ position_or_len is_blank (drop start text) = read ∙ ap (position_or_len is_blank) (take_rest text start) in
    let long : length (drop start text) ≡ length text - start = length-drop start text in
    let short : position_or_len is_blank (drop start text) ≤ length (drop start text) = prefix_len-le-length (λ byte. not (is_blank byte)) (drop start text) in
    let first : pieces_from text start ≡ take len (drop start text) ∷ pieces_from text (start + len + 1) =
    first_piece text start left ∙ ap (λ (k : ℕ). take k (drop start text) ∷ pieces_from text (start + k + 1)) (sym is) in
    let taken : take (i + 1) (set entries i entry) ≡ take i entries ++ entry ∷ [] = take_more_set entries i entry (omega (arith, h.room)) in
    let codes_left : drop i codes ≡ get_or codes i 0 ∷ drop (i + 1) codes = drop_more codes i 0 (omega arith) in
    let inside : IsWithin text entry = record { rising = omega arith; ends = omega arith } in
    let piece : slice_range text start (start + len) ≡ take len (drop start text) = ap (λ (k : ℕ). take k (drop start text)) (omega arith) in
    let rest = zip (pieces_from text (start + len + 1)) (drop (i + 1) codes) in
    let joined : zip (pieces_from text start) (drop i codes) ≡ row_at text entry ∷ rest =
    ap₂ (λ (ps : List (List ℕ)) (cs : List ℕ). zip ps cs) first codes_left ∙ ap (λ (w : List ℕ). (w, get_or codes i 0) ∷ rest) (sym piece) in
    record {
      room = length-set entries i entry ∙ h.room;
      count = omega (arith, h.count, ap length first);
      bound = omega arith;
      within = rw taken (All-push (IsWithin text) (take i entries) entry h.within inside);
      rows = ap (λ (es : List Entry). rows_of text es ++ rest) taken
          ∙ ap (λ (rows : List Row). rows ++ rest) (map-append (row_at text) (take i entries) (entry ∷ []))
          ∙ append_assoc (rows_of text (take i entries)) (row_at text entry ∷ []) rest
          ∙ ap (λ (rows : List Row). rows_of text (take i entries) ++ rows) (sym joined)
          ∙ h.rows;
    }

pub ends : (n : ℕ) (text codes : List ℕ) (entries : List Entry) (i start : ℕ) → IsCutUpTo n text codes entries i start
    → i ≤ n → n ≤ i → length text < start → IsCut n text codes entries
ends n text codes entries i start h below above past =
    let none = pieces-end text start past in
    let all : take i entries ≡ entries = take_all i entries (omega (arith, h.room)) in
    record {
      count = omega (arith, h.count, ap length none);
      room = h.room;
      within = rw (← all) h.within;
      rows = sym (append-nil (rows_of text entries)) ∙ ap (λ (es : List Entry). rows_of text es ++ []) (sym all)
          ∙ ap (λ (ps : List (List ℕ)). rows_of text (take i entries) ++ zip ps (drop i codes)) (sym none) ∙ h.rows;
    }

pub too_many : (n : ℕ) (text codes : List ℕ) (entries : List Entry) (i start : ℕ) → IsCutUpTo n text codes entries i start
    → n ≤ i → start ≤ length text → length (spellings text) ≢ n
too_many n text codes entries i start h all left e = omega (arith, h.count, ap length (first_piece text start left))

use Rattle.std.proofs.Common.{◌≡◌, ◌∙◌, ◌<◌, ◌+◌, ℕ, List, [], ◌∷◌, ◌++◌, ap, ap₂, sym, subst, map, take, length, get_or, arith, Bor}
use Rattle.std.specs.List.{All}
use Rattle.std.specs.Str.{IsUtf8}
use Rattle.std.proofs.lemmas.List.{map-append, take_more}
use Rattle.std.proofs.lemmas.List.Elements.{All-from_recursion, All-push}
use Rattle.std.proofs.lemmas.Str.{IsUtf8-nil}
use Rattle.sp_args.proofs.reading.texts_of_words.Goals as goal

-- one more text joins the name and the words before it
joined : (items new : List (Bor (List ℕ))) (r : Bor (List ℕ)) (name : List ℕ) (words : List (List ℕ)) (i : ℕ) (x : List ℕ) → i < length words
    → x ≡ get_or words i x → r.now ≡ x → new ≡ items ++ r ∷ [] → map (λ s. s.now) items ≡ name ∷ take i words
    → map (λ s. s.now) new ≡ name ∷ take (i + 1) words
joined items new r name words i x lt at is made same =
    ap (map (λ s. s.now)) made ∙ map-append (λ s. s.now) items (r ∷ []) ∙ ap₂ (λ (a : List (List ℕ)) (b : List ℕ). a ++ b ∷ []) same (is ∙ at)
    ∙ ap (λ (l : List (List ℕ)). name ∷ l) (sym (take_more words i x lt))

each : (items new : List (Bor (List ℕ))) (r : Bor (List ℕ)) → new ≡ items ++ r ∷ [] → All IsUtf8 (map (λ s. s.now) items) → IsUtf8 r.now → All IsUtf8 (map (λ s. s.now) new)
each items new r made h u =
    subst (All IsUtf8) (sym (ap (map (λ (s : Bor (List ℕ)). s.now)) made ∙ map-append (λ (s : Bor (List ℕ)). s.now) items (r ∷ []))) (All-push IsUtf8 (map (λ s. s.now) items) r.now h u)

-- the name alone
begun : (items new : List (Bor (List ℕ))) (r : Bor (List ℕ)) → new ≡ items ++ r ∷ [] → items ≡ [] → map (λ s. s.now) new ≡ r.now ∷ []
begun items new r made none = ap (map (λ (s : Bor (List ℕ)). s.now)) (made ∙ ap (λ (l : List (Bor (List ℕ))). l ++ r ∷ []) none)

empty_is_text : All IsUtf8 ([] ∷ [])
empty_is_text = All-from_recursion IsUtf8 ([] ∷ []) (IsUtf8-nil, tt)

pub loop-word-init : goal.loop-word-init
loop-word-init c =
    let same : map (λ s. s.now) c.push.new.self.items ≡ [] ∷ [] = begun _ _ _ c.in_ok-push.ensures.items c.new-texts.ensures.items in
    record { same = same; texts = subst (All IsUtf8) (sym same) empty_is_text }

pub returns-in_default : goal.returns-in_default
returns-in_default c =
    λ all. c.in_default.ensures.cases.0 (subst IsUtf8 (sym c.word-item.is ∙ sym c.as_slice.ensures) (all c.loop-word.word-index c.word-item.result (omega arith)))

pub loop-word-preserved : goal.loop-word-preserved
loop-word-preserved c = record {
  same = joined c.loop-word.texts.items c.push-in-loop-word.new.self.items c.in-Ok.text ([]) c.args.words.now c.loop-word.word-index c.word-item.result (omega arith) c.word-item.is
      (c.in-Ok.ensures.cases.0 ∙ c.as_slice.ensures) c.in_ok-push-2.ensures.items c.loop-word.invariant.same;
  texts = each c.loop-word.texts.items c.push-in-loop-word.new.self.items c.in-Ok.text c.in_ok-push-2.ensures.items c.loop-word.invariant.texts
      (subst IsUtf8 (sym c.in-Ok.ensures.cases.0) c.in-Ok.ensures.cases.1);
}

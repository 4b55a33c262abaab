-- What no call changes, and complete trees.
use Rattle.std.proofs.Common.{◌≡◌, ◌≢◌, ℕ, suc, ◌+◌, ◌<◌, ◌↔◌, inl, inr, Bool, false, None, List, [], ◌∷◌, ◌++◌, map, length, slice_set, ℤ, refl, sym, ap, ◌∙◌, arith, length-append}
use Rattle.std.proofs.lemmas.List.{length-set, length-map, get_or_append_left}
use Rattle.sp_tree.specs.declared.nodes.Node.{Node}
use Rattle.sp_tree.specs.declared.nodes.Kind.{Kind}
use Rattle.sp_tree.specs.declared.nodes.Kind.TheVariants.{Split, Open, Dead, Bounded, Screened, Point}
use Rattle.sp_tree.specs.Trees.{split_of, node_at, open_node, IsLicensed, IsComplete, is_reopened, is_reopened_kind, reopened}
use Rattle.sp_tree.specs.Laws.{IsFinal, KeepsFinal}
use Rattle.sp_tree.proofs.ListLemmas.{each-item}
use Rattle.sp_tree.proofs.KeepLemmas.{node-reopened}
use Rattle.sp_tree.proofs.LicenceLemmas.{spared, settled, chosen-no}

open-not_final : (kind : Kind) → kind ≡ Open → IsFinal kind → ⊥
open-not_final kind is f = rw is at f

-- node id, which was open, is another
pub keeps-set : (nodes : List Node) (id : ℕ) (n : Node) → (node_at nodes id).kind ≡ Open → KeepsFinal nodes (slice_set nodes id n)
keeps-set nodes id n is =
    let long : length (slice_set nodes id n) ≡ length nodes = length-set nodes id n in
    record {
      known = omega (arith, long);
      same = each-item (λ j m. m ≡ node_at nodes j) (λ j m. IsFinal (node_at nodes j).kind → m ≡ node_at nodes j) nodes id n open_node
          (λ j m b e f. e)
          (λ f. absurd (open-not_final (node_at nodes id).kind is f))
          (λ j b. refl);
    }

-- and more nodes stand behind
pub keeps-more : (nodes behind : List Node) (id : ℕ) (n : Node) → (node_at nodes id).kind ≡ Open → KeepsFinal nodes (slice_set nodes id n ++ behind)
keeps-more nodes behind id n is =
    let set = slice_set nodes id n in
    let long : length set ≡ length nodes = length-set nodes id n in
    let longer : length (set ++ behind) ≡ length set + length behind = length-append set behind in
    let kept = keeps-set nodes id n is in
    record {
      known = omega (arith, long, longer);
      same = λ i i-in f. get_or_append_left set behind open_node i (omega (arith, long, i-in)) ∙ kept.same i i-in f;
    }

final-stays : (cut : ℤ) (held : ℕ → Bool) (kind : Kind) → IsFinal kind → is_reopened_kind cut held kind ≡ false
final-stays cut held (Split var at left right) f = refl
final-stays cut held Open f = absurd f
final-stays cut held (Dead reason) f = refl
final-stays cut held (Bounded bound) f = absurd f
final-stays cut held (Screened filter) f = absurd f
final-stays cut held (Point serial) f = refl

pub keeps-reopened : (cut : ℤ) (held : ℕ → Bool) (nodes : List Node) → KeepsFinal nodes (map (reopened cut held) nodes)
keeps-reopened cut held nodes =
    let long : length (map (reopened cut held) nodes) ≡ length nodes = length-map nodes (reopened cut held) in
    record {
      known = omega (arith, long);
      same = λ i i-in f. node-reopened cut held nodes i i-in ∙ chosen-no (node_at nodes i) (is_reopened cut held (node_at nodes i)) (final-stays cut held (node_at nodes i).kind f);
    }

pub keeps-self : (nodes : List Node) → KeepsFinal nodes nodes
keeps-self nodes = record { known = omega arith; same = λ i i-in f. refl }

pub keeps-joined : (a b c : List Node) → KeepsFinal a b → KeepsFinal b c → KeepsFinal a c
keeps-joined a b c h k =
    let first = h.known in
    let second = k.known in
    record {
      known = omega (arith, first, second);
      same = λ i i-in f.
          let is : node_at b i ≡ node_at a i = h.same i i-in f in
          k.same i (omega (arith, first, i-in)) (rw is f) ∙ is;
    }

-- ---- complete trees

split-stays : (cut : ℤ) (held : ℕ → Bool) (n : Node) → (kind : Kind) → n.kind ≡ kind → (split_of kind ≡ None → IsLicensed cut held kind) → reopened cut held n ≡ n
split-stays cut held n (Split var at left right) is h = chosen-no n (is_reopened cut held n) (rw is refl)
split-stays cut held n Open is h = absurd (h refl)
split-stays cut held n (Dead reason) is h = spared cut held n (rw is tt)
split-stays cut held n (Bounded bound) is h = spared cut held n (rw is (h refl))
split-stays cut held n (Screened filter) is h = spared cut held n (rw is (h refl))
split-stays cut held n (Point serial) is h = spared cut held n (rw is tt)

each-stays : (f : Node → Node) (nodes : List Node) → ((i : ℕ) → i < length nodes → f (node_at nodes i) ≡ node_at nodes i) → map f nodes ≡ nodes
each-stays f [] h = refl
each-stays f (n ∷ nodes) h = rw (h 0 (omega arith), each-stays f nodes (λ i i-in. h (suc i) (omega (arith, i-in)))) refl

open-unlicensed : (cut : ℤ) (held : ℕ → Bool) (kind : Kind) → (split_of kind ≡ None → IsLicensed cut held kind) → kind ≢ Open
open-unlicensed cut held kind h is = absurd ((rw is at h) refl)

stays-open : (cut : ℤ) (held : ℕ → Bool) (n : Node) → n.kind ≢ Open → reopened cut held n ≡ n → split_of n.kind ≡ None → IsLicensed cut held n.kind
stays-open cut held n shut same leaf = elim (settled cut held n leaf) [
  | inl is ↦ absurd (shut (rw same at is))
  | inr l ↦ rw same at l
]

pub complete-stays : (cut : ℤ) (held : ℕ → Bool) (nodes : List Node) → IsComplete cut held nodes
    ↔ (((i : ℕ) → i < length nodes → (node_at nodes i).kind ≢ Open) × (map (reopened cut held) nodes ≡ nodes))
complete-stays cut held nodes = (
  λ all. (λ i i-in. open-unlicensed cut held (node_at nodes i).kind (all i i-in), each-stays (reopened cut held) nodes (λ i i-in. split-stays cut held (node_at nodes i) (node_at nodes i).kind refl (all i i-in))),
  λ both i i-in leaf. stays-open cut held (node_at nodes i) (both.0 i i-in) (sym (node-reopened cut held nodes i i-in) ∙ ap (λ ns. node_at ns i) both.1) leaf,
)

-- Files in byte order of their names: where a name is, and what putting a file does.
use Rattle.std.proofs.Common.{◌≡◌, ℕ, zero, suc, ◌+◌, ◌<◌, ◌≤◌, List, [], ◌∷◌, length, get_or, set, Option, Some, None, Result, Ok, Err, refl, sym, ap, subst, ◌∙◌, arith}
use Rattle.std.specs.Prelude.{Bool, true, false, not, cond, slice_get}
use Rattle.std.specs.Option.{option_map}
use Rattle.std.specs.declared.cmp.Ordering.TheVariants.{Less, Equal, Greater}
use Rattle.std.specs.Ordering.{match_ordering, ordering_reverse, ordering_index, is_eq, is_lt}
use Rattle.std.specs.Cmp.{IsTotalOrder}
use Rattle.std.specs.Cmp.Lexicographic.{texts_ties}
use Rattle.std.specs.List.{insert, remove, HoldsAt}
use Rattle.std.specs.List.Sorted.{IsNonDecreasingBy, IsPartitionPoint, IsSearchInRange, IsBinarySearchResult}
use Rattle.std.proofs.lemmas.Cmp.{nat_list_cmp_total, tied_back, alike_right}
use Rattle.std.proofs.lemmas.List.Sorted.{searchable_from_sorted}
use Rattle.std.proofs.lemmas.Map.Lookups.{exact_bytes}
use Rattle.qs_base.specs.Order.{bytes_cmp, same_bytes}
use Rattle.qs_base.proofs.Same.{same_bytes-true, same_bytes-self}
use Rattle.qs_ops.specs.declared.file.File.{File}
use Rattle.qs_ops.specs.Files.{file_text, put_file}
use Rattle.qs_ops.specs.Table.{remove_file}
use Rattle.qs_ops.specs.Places.{IsBelowAll, IsInOrder, one_further, place_of, with_file}

-- ---- the order

pub bytes_total : IsTotalOrder bytes_cmp
bytes_total = nat_list_cmp_total

pub greater_from_less : (x y : List ℕ) → bytes_cmp x y ≡ Less → bytes_cmp y x ≡ Greater
greater_from_less x y lt = bytes_total.antisymm y x ∙ ap ordering_reverse lt

-- names that are the same byte by byte are those that compare equal
same_bytes-cmp : (x y : List ℕ) → same_bytes x y ≡ is_eq (bytes_cmp x y)
same_bytes-cmp = texts_ties

same_bytes-apart : (x y : List ℕ) → bytes_cmp x y ≡ Greater → same_bytes x y ≡ false
same_bytes-apart x y gt = same_bytes-cmp x y ∙ ap is_eq gt

pub same_bytes-less : (x y : List ℕ) → bytes_cmp x y ≡ Less → same_bytes x y ≡ false
same_bytes-less x y lt = same_bytes-cmp x y ∙ ap is_eq lt

same_bytes-alike : (x y : List ℕ) → bytes_cmp x y ≡ Equal → same_bytes x y ≡ true
same_bytes-alike x y eq = same_bytes-cmp x y ∙ ap is_eq eq

less_from_greater : (x y : List ℕ) → bytes_cmp x y ≡ Greater → bytes_cmp y x ≡ Less
less_from_greater x y gt = bytes_total.antisymm y x ∙ ap ordering_reverse gt

below_all-trans : (x y : List ℕ) (fs : List File) → bytes_cmp x y ≡ Less → IsBelowAll y fs → IsBelowAll x fs
below_all-trans x y [] lt all = tt
below_all-trans x y (f ∷ fs) lt all = (bytes_total.trans x y f.name lt all.0, below_all-trans x y fs lt all.1)

below_all-at : (x : List ℕ) (fs : List File) (i : ℕ) (d : File) → IsBelowAll x fs → i < length fs → bytes_cmp x (get_or fs i d).name ≡ Less
below_all-at x [] i d all lt = absurd (omega arith)
below_all-at x (f ∷ fs) zero d all lt = all.0
below_all-at x (f ∷ fs) (suc i) d all lt = below_all-at x fs i d all.1 (omega arith)

-- ---- putting a file keeps the order

abbrev pub new_file : List ℕ → List ℕ → File
new_file name text = record { name = name; content = text }

below_all-put_file : (x : List ℕ) (fs : List File) (name text : List ℕ) → bytes_cmp x name ≡ Less → IsBelowAll x fs → IsBelowAll x (put_file fs name text)
below_all-put_file x [] name text lt all = (lt, tt)
below_all-put_file x (f ∷ fs) name text lt all =
    elim (bytes_cmp name f.name) as (λ o. IsBelowAll x (match_ordering o (new_file name text ∷ f ∷ fs) (new_file name text ∷ fs) (f ∷ put_file fs name text))) [
      | Less ↦ (lt, all)
      | Equal ↦ (lt, all.1)
      | Greater ↦ (all.0, below_all-put_file x fs name text lt all.1)
    ]

pub in_order-put_file : (fs : List File) (name text : List ℕ) → IsInOrder fs → IsInOrder (put_file fs name text)
in_order-put_file [] name text sorted = (tt, tt)
in_order-put_file (f ∷ fs) name text sorted =
    (elim (bytes_cmp name f.name) as (λ o. bytes_cmp name f.name ≡ o → IsInOrder (match_ordering o (new_file name text ∷ f ∷ fs) (new_file name text ∷ fs) (f ∷ put_file fs name text))) [
      | Less ↦ λ is. ((is, below_all-trans name f.name fs is sorted.0), sorted)
      | Equal ↦ λ is. (subst (λ n. IsBelowAll n fs) (sym (exact_bytes name f.name is)) sorted.0, sorted.1)
      | Greater ↦ λ is. (below_all-put_file f.name fs name text (less_from_greater name f.name is) sorted.0, in_order-put_file fs name text sorted.1)
    ]) refl

-- ---- what a place says

with_file-further : (at : Result ℕ ℕ) (file f : File) (fs : List File) → with_file (one_further at) file (f ∷ fs) ≡ f ∷ with_file at file fs
with_file-further (Ok at) file f fs = refl
with_file-further (Err at) file f fs = refl

pub put_file-place : (fs : List File) (name text : List ℕ) → put_file fs name text ≡ with_file (place_of fs name) (new_file name text) fs
put_file-place [] name text = refl
put_file-place (f ∷ fs) name text =
    elim (bytes_cmp name f.name) as (λ o. match_ordering o (new_file name text ∷ f ∷ fs) (new_file name text ∷ fs) (f ∷ put_file fs name text) ≡ with_file (match_ordering o (Err 0) (Ok 0) (one_further (place_of fs name))) (new_file name text) (f ∷ fs)) [
      | Less ↦ refl
      | Equal ↦ refl
      | Greater ↦ ap (λ l. f ∷ l) (put_file-place fs name text) ∙ sym (with_file-further (place_of fs name) (new_file name text) f fs)
    ]

-- the text of the file at a place
abbrev pub text_of_place : Result ℕ ℕ → List File → Option (List ℕ)
text_of_place (Ok at) files = option_map (λ f. f.content) (slice_get files at)
text_of_place (Err at) files = None

text_of_place-further : (at : Result ℕ ℕ) (f : File) (fs : List File) → text_of_place (one_further at) (f ∷ fs) ≡ text_of_place at fs
text_of_place-further (Ok at) f fs = refl
text_of_place-further (Err at) f fs = refl

-- no file has a name below all of them
file_text-below_all : (name : List ℕ) (fs : List File) → IsBelowAll name fs → file_text fs name ≡ None
file_text-below_all name [] all = refl
file_text-below_all name (f ∷ fs) all = rw (same_bytes-apart f.name name (greater_from_less name f.name all.0)) (file_text-below_all name fs all.1)

pub file_text-place : (fs : List File) (name : List ℕ) → IsInOrder fs → file_text fs name ≡ text_of_place (place_of fs name) fs
file_text-place [] name sorted = refl
file_text-place (f ∷ fs) name sorted =
    (elim (bytes_cmp name f.name) as (λ o. bytes_cmp name f.name ≡ o → file_text (f ∷ fs) name ≡ text_of_place (match_ordering o (Err 0) (Ok 0) (one_further (place_of fs name))) (f ∷ fs)) [
      | Less ↦ λ is. file_text-below_all name (f ∷ fs) (is, below_all-trans name f.name fs is sorted.0)
      | Equal ↦ λ is. rw (same_bytes-alike f.name name (tied_back bytes_total name f.name is)) refl
      | Greater ↦ λ is. rw (same_bytes-less f.name name (less_from_greater name f.name is)) (file_text-place fs name sorted.1 ∙ sym (text_of_place-further (place_of fs name) f fs))
    ]) refl

-- ---- what a binary search finds

place_from_found : (fs : List File) (name : List ℕ) (i : ℕ) → IsInOrder fs → i < length fs → HoldsAt (λ f. bytes_cmp f.name name ≡ Equal) fs i → place_of fs name ≡ Ok i
place_from_found [] name i sorted lt here = absurd (omega arith)
place_from_found (f ∷ fs) name zero sorted lt here = rw (tied_back bytes_total f.name name (here f)) refl
place_from_found (f ∷ fs) name (suc i) sorted lt here =
    let below : bytes_cmp f.name (get_or fs i f).name ≡ Less = below_all-at f.name fs i f sorted.0 (omega arith) in
    let less : bytes_cmp f.name name ≡ Less = sym (alike_right bytes_total (get_or fs i f).name name f.name (here f)) ∙ below in
    rw (greater_from_less f.name name less) (ap one_further (place_from_found fs name i sorted.1 (omega arith) here))

place_from_gap : (fs : List File) (name : List ℕ) (i : ℕ) → i ≤ length fs → IsPartitionPoint (λ f. bytes_cmp f.name name ≡ Less) (λ f. bytes_cmp f.name name ≡ Greater) fs i → place_of fs name ≡ Err i
place_from_gap [] name zero le parts = refl
place_from_gap [] name (suc i) le parts = absurd (omega arith)
place_from_gap (f ∷ fs) name zero le parts = rw (less_from_greater f.name name (parts.1 0 f (omega arith) (omega arith))) refl
place_from_gap (f ∷ fs) name (suc i) le parts =
    rw (greater_from_less f.name name (parts.0 0 f (omega arith) (omega arith)))
    (ap one_further (place_from_gap fs name i (omega arith) (λ k d low high. parts.0 (suc k) d (omega arith) (omega arith), λ k d low high. parts.1 (suc k) d (omega arith) (omega arith))))

adjacent_from_order : (fs : List File) (k : ℕ) (d : File) → IsInOrder fs → k + 1 < length fs → bytes_cmp (get_or fs k d).name (get_or fs (k + 1) d).name ≡ Less
adjacent_from_order [] k d sorted lt = absurd (omega arith)
adjacent_from_order (f ∷ fs) zero d sorted lt = below_all-at f.name fs 0 d sorted.0 (omega arith)
adjacent_from_order (f ∷ fs) (suc k) d sorted lt =
    let e : suc k + 1 ≡ suc (k + 1) = omega arith in
    rw e (adjacent_from_order fs k d sorted.1 (omega arith))

falls_not : (x y : List ℕ) → bytes_cmp x y ≡ Less → is_lt (bytes_cmp y x) ≡ false
falls_not x y lt = rw (greater_from_less x y lt) refl

searchable : (fs : List File) (name : List ℕ) → IsInOrder fs → IsNonDecreasingBy (λ f. ordering_index (bytes_cmp f.name name)) fs
searchable fs name sorted = searchable_from_sorted bytes_total (λ f. f.name) fs name (λ k d low high. falls_not (get_or fs k d).name (get_or fs (k + 1) d).name (adjacent_from_order fs k d sorted high))

pub place_from_search : (fs : List File) (name : List ℕ) (r : Result ℕ ℕ) → IsInOrder fs → IsSearchInRange r (length fs) → IsBinarySearchResult (λ f. bytes_cmp f.name name) fs r → r ≡ place_of fs name
place_from_search fs name (Ok i) sorted range found = sym (place_from_found fs name i sorted range found)
place_from_search fs name (Err i) sorted range found = sym (place_from_gap fs name i range (found (searchable fs name sorted)))

-- ---- the answers of a search, used

pub put_file-found : (fs : List File) (name text : List ℕ) (at : ℕ) → Ok at ≡ place_of fs name → set fs at (new_file name text) ≡ put_file fs name text
put_file-found fs name text at e = ap (λ (r : Result ℕ ℕ). with_file r (new_file name text) fs) e ∙ sym (put_file-place fs name text)

pub put_file-gap : (fs : List File) (name text : List ℕ) (at : ℕ) → Err at ≡ place_of fs name → insert fs at (new_file name text) ≡ put_file fs name text
put_file-gap fs name text at e = ap (λ (r : Result ℕ ℕ). with_file r (new_file name text) fs) e ∙ sym (put_file-place fs name text)

slice_get-in : (fs : List File) (at : ℕ) (d : File) → at < length fs → slice_get fs at ≡ Some (get_or fs at d)
slice_get-in [] at d lt = absurd (omega arith)
slice_get-in (f ∷ fs) zero d lt = refl
slice_get-in (f ∷ fs) (suc at) d lt = slice_get-in fs at d (omega arith)

pub file_text-found : (fs : List File) (name : List ℕ) (at : ℕ) (d : File) → IsInOrder fs → at < length fs → Ok at ≡ place_of fs name → Some (get_or fs at d).content ≡ file_text fs name
file_text-found fs name at d sorted lt e =
    sym (file_text-place fs name sorted ∙ sym (ap (λ (r : Result ℕ ℕ). text_of_place r fs) e) ∙ ap (option_map (λ (f : File). f.content)) (slice_get-in fs at d lt))

pub file_text-gap : (fs : List File) (name : List ℕ) (at : ℕ) → IsInOrder fs → Err at ≡ place_of fs name → None ≡ file_text fs name
file_text-gap fs name at sorted e = sym (file_text-place fs name sorted ∙ sym (ap (λ (r : Result ℕ ℕ). text_of_place r fs) e))

-- ---- taking a file out

kept_all : (name : List ℕ) (fs : List File) → IsBelowAll name fs → remove_file fs name ≡ fs
kept_all name [] all = refl
kept_all name (f ∷ fs) all = rw (same_bytes-apart f.name name (greater_from_less name f.name all.0)) (ap (λ l. f ∷ l) (kept_all name fs all.1))

abbrev without_place : Result ℕ ℕ → List File → List File
without_place (Ok at) fs = remove fs at
without_place (Err at) fs = fs

without_place-further : (at : Result ℕ ℕ) (f : File) (fs : List File) → without_place (one_further at) (f ∷ fs) ≡ f ∷ without_place at fs
without_place-further (Ok at) f fs = refl
without_place-further (Err at) f fs = refl

remove_file-place : (fs : List File) (name : List ℕ) → IsInOrder fs → remove_file fs name ≡ without_place (place_of fs name) fs
remove_file-place [] name sorted = refl
remove_file-place (f ∷ fs) name sorted =
    (elim (bytes_cmp name f.name) as (λ o. bytes_cmp name f.name ≡ o → remove_file (f ∷ fs) name ≡ without_place (match_ordering o (Err 0) (Ok 0) (one_further (place_of fs name))) (f ∷ fs)) [
      | Less ↦ λ is. kept_all name (f ∷ fs) (is, below_all-trans name f.name fs is sorted.0)
      | Equal ↦ λ is. rw (same_bytes-alike f.name name (tied_back bytes_total name f.name is)) (kept_all name fs (subst (λ n. IsBelowAll n fs) (sym (exact_bytes name f.name is)) sorted.0))
      | Greater ↦ λ is. rw (same_bytes-less f.name name (less_from_greater name f.name is)) (ap (λ l. f ∷ l) (remove_file-place fs name sorted.1) ∙ sym (without_place-further (place_of fs name) f fs))
    ]) refl

pub remove_file-found : (fs : List File) (name : List ℕ) (at : ℕ) → IsInOrder fs → Ok at ≡ place_of fs name → remove fs at ≡ remove_file fs name
remove_file-found fs name at sorted e = ap (λ (r : Result ℕ ℕ). without_place r fs) e ∙ sym (remove_file-place fs name sorted)

pub remove_file-gap : (fs : List File) (name : List ℕ) (at : ℕ) → IsInOrder fs → Err at ≡ place_of fs name → fs ≡ remove_file fs name
remove_file-gap fs name at sorted e = ap (λ (r : Result ℕ ℕ). without_place r fs) e ∙ sym (remove_file-place fs name sorted)

below_all-remove_file : (x : List ℕ) (fs : List File) (name : List ℕ) → IsBelowAll x fs → IsBelowAll x (remove_file fs name)
below_all-remove_file x [] name all = tt
below_all-remove_file x (f ∷ fs) name all =
    elim (same_bytes f.name name) as (λ b. IsBelowAll x (cond (not b) (f ∷ remove_file fs name) (remove_file fs name))) [
      | true ↦ below_all-remove_file x fs name all.1
      | false ↦ (all.0, below_all-remove_file x fs name all.1)
    ]

pub in_order-remove_file : (fs : List File) (name : List ℕ) → IsInOrder fs → IsInOrder (remove_file fs name)
in_order-remove_file [] name sorted = tt
in_order-remove_file (f ∷ fs) name sorted =
    elim (same_bytes f.name name) as (λ b. IsInOrder (cond (not b) (f ∷ remove_file fs name) (remove_file fs name))) [
      | true ↦ in_order-remove_file fs name sorted.1
      | false ↦ (below_all-remove_file f.name fs name sorted.0, in_order-remove_file fs name sorted.1)
    ]

-- ---- files in order are told by the texts under their names

tail_texts : (f g : File) (fs gs : List File) (q : List ℕ) → IsBelowAll f.name fs → IsBelowAll g.name gs → f.name ≡ g.name
    → file_text (f ∷ fs) q ≡ file_text (g ∷ gs) q → file_text fs q ≡ file_text gs q
tail_texts f g fs gs q low below head same = by (same_bytes f.name q) refl
  where
    by : (b : Bool) → same_bytes f.name q ≡ b → file_text fs q ≡ file_text gs q
    by true is =
        let at : f.name ≡ q = same_bytes-true f.name q is in
        file_text-below_all q fs (subst (λ n. IsBelowAll n fs) at low) ∙ sym (file_text-below_all q gs (subst (λ n. IsBelowAll n gs) (sym head ∙ at) below))
    by false is =
        let left : file_text (f ∷ fs) q ≡ file_text fs q = rw is refl in
        let right : file_text (g ∷ gs) q ≡ file_text gs q = rw (ap (λ (n : List ℕ). same_bytes n q) (sym head) ∙ is) refl in
        sym left ∙ same ∙ right

first_text : (f : File) (fs : List File) → file_text (f ∷ fs) f.name ≡ Some f.content
first_text f fs = rw (same_bytes-self f.name) refl

same_file : (f g : File) → f.name ≡ g.name → f.content ≡ g.content → f ≡ g
same_file f g name content = ap (λ (n : List ℕ). new_file n f.content) name ∙ ap (λ (t : List ℕ). new_file g.name t) content

pub same_files : (fs gs : List File) → IsInOrder fs → IsInOrder gs → ((q : List ℕ) → file_text fs q ≡ file_text gs q) → fs ≡ gs
same_files [] [] low below same = refl
same_files [] (g ∷ gs) low below same = let e = same g.name ∙ first_text g gs in absurd (cc)
same_files (f ∷ fs) [] low below same = let e = sym (first_text f fs) ∙ same f.name in absurd (cc)
same_files (f ∷ fs) (g ∷ gs) low below same =
    (elim (bytes_cmp f.name g.name) as (λ o. bytes_cmp f.name g.name ≡ o → f ∷ fs ≡ g ∷ gs) [
      | Less ↦ λ is. let e = sym (first_text f fs) ∙ same f.name ∙ file_text-below_all f.name (g ∷ gs) (is, below_all-trans f.name g.name gs is below.0) in absurd (cc)
      | Equal ↦ λ is.
          let head : f.name ≡ g.name = exact_bytes f.name g.name is in
          let content : Some f.content ≡ Some g.content = sym (first_text f fs) ∙ same f.name ∙ ap (λ (n : List ℕ). file_text (g ∷ gs) n) head ∙ first_text g gs in
          let text : f.content ≡ g.content = cc content in
          let file : f ≡ g = same_file f g head text in
          let tail : fs ≡ gs = same_files fs gs low.1 below.1 (λ q. tail_texts f g fs gs q low.0 below.0 head (same q)) in
          cc (file, tail)
      | Greater ↦ λ is.
          let lt = less_from_greater f.name g.name is in
          let e = sym (first_text g gs) ∙ sym (same g.name) ∙ file_text-below_all g.name (f ∷ fs) (lt, below_all-trans g.name f.name fs lt low.0) in absurd (cc)
    ]) refl

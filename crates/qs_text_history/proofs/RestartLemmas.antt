-- Facts about what a restart found, word by word.
use Rattle.std.proofs.Common.{◌≡◌, ◌<◌, ◌≤◌, ℕ, ◌+◌, suc, true, false, List, [], ◌∷◌, ◌++◌, length, map, drop, get_or, Option, Some, None, refl, sym, ◌∙◌, ap, arith, append_assoc, drop-cons, add-one}
use Rattle.std.proofs.Math.ListN.{drop_of_length-le}
use Rattle.std.proofs.lemmas.List.{append-nil}
use Rattle.qs_text_history.specs.Inner.Acts.{all_of, done_place}
use Rattle.qs_text_history.specs.Inner.Lifts.{lift1, lift2}
use Rattle.qs_text_history.specs.Inner.Words.{is_done}

-- ---- reading all words

joined_one : {A : Type 0} (list : List A) (x : A) (more : Option (List A)) → lift1 (λ rest. (list ++ x ∷ []) ++ rest) more ≡ lift1 (λ rest. list ++ rest) (lift2 (λ one rest. one ∷ rest) (Some x) more)
joined_one list x None = refl
joined_one list x (Some more) = ap Some (append_assoc list (x ∷ []) more)

pub all_next : {A W : Type 0} (read : List ℕ → Option A) (f : W → List ℕ) (words : List W) (at : ℕ) (d : W) (x : A) (list : List A) (whole : Option (List A)) → at < length words
    → read (f (get_or words at d)) ≡ Some x → lift1 (λ more. list ++ more) (all_of read (map f (drop at words))) ≡ whole
    → lift1 (λ more. (list ++ x ∷ []) ++ more) (all_of read (map f (drop (at + 1) words))) ≡ whole
unfolding all_of
all_next read f words at d x list whole inside reads is =
    rw add-one (joined_one list x (all_of read (map f (drop (suc at) words))) ∙ (rw (drop-cons words at d, reads) at is))

none_joined : {A : Type 0} (list : List A) (more : Option (List A)) → lift1 (λ rest. list ++ rest) (lift2 (λ one rest. one ∷ rest) None more) ≡ None
none_joined list None = refl
none_joined list (Some more) = refl

pub all_lost : {A W : Type 0} (read : List ℕ → Option A) (f : W → List ℕ) (words : List W) (at : ℕ) (d : W) (list : List A) (whole : Option (List A)) → at < length words
    → read (f (get_or words at d)) ≡ None → lift1 (λ more. list ++ more) (all_of read (map f (drop at words))) ≡ whole → None ≡ whole
unfolding all_of
all_lost read f words at d list whole inside reads is =
    sym (none_joined list (all_of read (map f (drop (suc at) words)))) ∙ (rw (drop-cons words at d, reads) at is)

pub all_read : {A W : Type 0} (read : List ℕ → Option A) (f : W → List ℕ) (words : List W) (at : ℕ) (list : List A) (whole : Option (List A)) → length words ≤ at
    → lift1 (λ more. list ++ more) (all_of read (map f (drop at words))) ≡ whole → Some list ≡ whole
unfolding all_of
all_read read f words at list whole end is = ap Some (sym (append-nil list)) ∙ (rw (drop_of_length-le words end) at is)

-- ---- the first done:

pub place_next : {W : Type 0} (f : W → List ℕ) (words : List W) (at next : ℕ) (d : W) (whole : ℕ) → at < length words → next ≡ at + 1
    → is_done (f (get_or words at d)) ≡ false → at + done_place (map f (drop at words)) ≡ whole → next + done_place (map f (drop next words)) ≡ whole
unfolding done_place
place_next f words at next d whole inside step here is =
    let h = rw (drop-cons words at d, here) at is in
    rw (step, add-one) (omega (arith, h))

pub place_here : {W : Type 0} (f : W → List ℕ) (words : List W) (at : ℕ) (d : W) (whole : ℕ) → at < length words
    → is_done (f (get_or words at d)) ≡ true → at + done_place (map f (drop at words)) ≡ whole → at ≡ whole
unfolding done_place
place_here f words at d whole inside here is = let h = rw (drop-cons words at d, here) at is in omega (arith, h)

pub place_end : {W : Type 0} (f : W → List ℕ) (words : List W) (at : ℕ) (whole : ℕ) → length words ≤ at
    → at + done_place (map f (drop at words)) ≡ whole → at ≡ whole
unfolding done_place
place_end f words at whole end is = let h = rw (drop_of_length-le words end) at is in omega (arith, h)

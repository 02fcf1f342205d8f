-- What a member did is changed: what is held of every other member is held on.
use Rattle.qs_world_lawful.proofs.Words.{◌≡◌, ◌≢◌, ◌⊎◌, inl, inr, ℕ, ◌+◌, ◌==◌, ◌≤◌, ◌<◌, Bool, true, List, [], ◌∷◌, Option, zero, suc, refl, sym, ap, subst, ◌∙◌, arith, length, nat_lt, nat_tests, unwrap_or, ◌||◌, slice_index_or, slice_set, list_any, lookup, insert_entry, is_at, Member, NodeNo, ServerNo, lookup_put_apart, changed_apart, TransactionValue, no_part, life, life_cmp, is_start, may_learn_still, learnt_abort, changed_value, Life, Part, names_no, windows_no, scratch_no, member_of}
use Rattle.qs_world_lawful.proofs.Words.{with_member, MemberPart, Participant, HoldsVoter, HoldsMember}
use Rattle.qs_book_machine.specs.Transaction.{part_of}
use Rattle.qs_ops.specs.Servers.{files_no, audit_no, extra_no}
use Rattle.qs_tm.specs.Members as rules
use Rattle.qs_world_lawful.specs.Holds.{is_kept}
use Rattle.qs_world_lawful.proofs.Keys.{KeyApart, same_key_or, life_exact, life_itself}

-- ---- a member that is left

pub member_like : (tx now : TransactionValue) (member : Member) (inc : ℕ) (m : MemberPart) → part_of now member inc ≡ part_of tx member inc
    → ((served covers : ℕ) → list_any (is_start member inc served covers) now.starts ≡ list_any (is_start member inc served covers) tx.starts) → HoldsMember tx member inc m → HoldsMember now member inc m
member_like tx now member inc m same starts h = record {
  covers = λ two. rw same (covers_on (part_of tx member inc) (h.covers two));
  voted = subst (λ (p : Part). p.voted ≤ p.served) (sym same) h.voted;
  votes = λ two. subst (λ (p : Part). HoldsVoter p m) (sym same) (h.votes two);
  learns = λ told. ap may_learn_still same ∙ h.learns told;
  ends = λ is. ap (λ (p : Part). p.due) same ∙ h.ends is;
}
  where
    covers_on : (p : Part) → ((m.served == p.served + p.found) || list_any (is_start member inc p.served m.served) tx.starts) ≡ true → ((m.served == p.served + p.found) || list_any (is_start member inc p.served m.served) now.starts) ≡ true
    covers_on p c = rw (starts p.served m.served) c

-- ---- parts that are put in or changed at one life

abbrev pub LivesApart : Life → Life → Type 0
LivesApart a b = KeyApart life_cmp life_exact life_itself a b

pub put_part_apart : (l : Life) (part : Part) (parts : List (Life × Part)) (member : Member) (inc : ℕ) → LivesApart l (life member inc)
    → unwrap_or (lookup (is_at (life_cmp (life member inc))) (insert_entry life_cmp parts l part)) no_part ≡ unwrap_or (lookup (is_at (life_cmp (life member inc))) parts) no_part
put_part_apart l part parts member inc far = ap (λ (o : Option Part). unwrap_or o no_part) (lookup_put_apart life_cmp l part (life_exact l) (is_at (life_cmp (life member inc))) far.at parts)

pub changed_part_apart : (l : Life) (f : Part → Part) (parts : List (Life × Part)) (member : Member) (inc : ℕ) → LivesApart l (life member inc)
    → unwrap_or (lookup (is_at (life_cmp (life member inc))) (changed_value (is_at (life_cmp l)) f parts)) no_part ≡ unwrap_or (lookup (is_at (life_cmp (life member inc))) parts) no_part
changed_part_apart l f parts member inc far = ap (λ (o : Option Part). unwrap_or o no_part) (changed_apart (is_at (life_cmp l)) (is_at (life_cmp (life member inc))) far.keys f parts)

pub same_life_or : (m n : Member) (inc : ℕ) → (m ≡ n) ⊎ LivesApart (life m inc) (life n inc)
same_life_or m n inc = by (same_key_or life_cmp life_exact life_itself (life m inc) (life n inc))
  where
    by : (life m inc ≡ life n inc) ⊎ LivesApart (life m inc) (life n inc) → (m ≡ n) ⊎ LivesApart (life m inc) (life n inc)
    by (inl same) = inl (ap (λ (l : Life). l.member) same)
    by (inr far) = inr far

-- ---- whether a member learnt abort

pub aborts_alike : (tx now : TransactionValue) (here : NodeNo) (inc : ℕ) → ((member : Member) → (part_of now member inc).aborted ≡ (part_of tx member inc).aborted) → learnt_abort now here inc ≡ learnt_abort tx here inc
aborts_alike tx now here inc same = any_alike (λ server. (part_of now (record { node = here; server = record { 0 = server } }) inc).aborted) (λ server. (part_of tx (record { node = here; server = record { 0 = server } }) inc).aborted) (λ server. same (record { node = here; server = record { 0 = server } })) (files_no ∷ audit_no ∷ names_no ∷ windows_no ∷ scratch_no ∷ extra_no ∷ [])
  where
    any_alike : (p q : ℕ → Bool) → ((n : ℕ) → p n ≡ q n) → (ns : List ℕ) → list_any p ns ≡ list_any q ns
    any_alike p q e [] = refl
    any_alike p q e (n ∷ ns) = rw (e n, any_alike p q e ns) refl

-- ---- what a node keeps of its members

pub index_set : {A : Type 0} (xs : List A) (i : ℕ) (x d : A) → i < length xs → slice_index_or (slice_set xs i x) i d ≡ x
index_set [] i x d less = absurd (none less)
  where
    none : {n : ℕ} → n < 0 → ⊥
    none {n} e = grind (arith, e)
index_set (y ∷ ys) zero x d less = refl
index_set (y ∷ ys) (suc i) x d less = index_set ys i x d (fall less)
  where
    fall : {a b : ℕ} → suc a < suc b → a < b
    fall {a} {b} e = grind (arith, e)

pub index_apart : {A : Type 0} (xs : List A) (i j : ℕ) (x d : A) → i ≢ j → slice_index_or (slice_set xs i x) j d ≡ slice_index_or xs j d
index_apart [] i j x d far = refl
index_apart (y ∷ ys) zero zero x d far = absurd (far refl)
index_apart (y ∷ ys) zero (suc j) x d far = refl
index_apart (y ∷ ys) (suc i) zero x d far = refl
index_apart (y ∷ ys) (suc i) (suc j) x d far = index_apart ys i j x d (λ e. far (ap suc e))

pub set_size : {A : Type 0} (i : ℕ) (x : A) (xs : List A) → length (slice_set xs i x) ≡ length xs
set_size i x [] = refl
set_size zero x (y ∷ ys) = refl
set_size (suc i) x (y ∷ ys) = ap suc (set_size i x ys)

-- the member that is put is kept, ..
pub with_own : (server : ServerNo) (m : MemberPart) (part : Participant) → length part.members ≡ 7 → is_kept server ≡ true → member_of (with_member server m part) server ≡ m
with_own server m part size kept = index_set part.members server.0 m rules.no_member (within server.0 (length part.members) size kept)
  where
    within : (n k : ℕ) → k ≡ 7 → nat_lt n 7 ≡ true → n < k
    within n k e is = grind (arith, nat_tests, e, is)

-- .. and others are as before
pub with_other : (server other : ServerNo) (m : MemberPart) (part : Participant) → server.0 ≢ other.0 → member_of (with_member server m part) other ≡ member_of part other
with_other server other m part far = index_apart part.members server.0 other.0 m rules.no_member far

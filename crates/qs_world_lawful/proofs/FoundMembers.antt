-- A member of a node in a new incarnation: its vote was found, or it did nothing yet.
use Rattle.qs_world_lawful.proofs.Words.{◌≡◌, ◌⊎◌, inl, inr, ℕ, ◌≤◌, ◌==◌, ◌+◌, ◌&&◌, ◌||◌, Bool, true, false, List, [], ◌∷◌, Some, refl, sym, ap, subst, arith, nat_tests, filter, list_all, list_any, same_tid, same_tid-true, Class, Member, Tid, is_recoverable, is_among, TransactionValue, found_part, is_start, may_learn_still, no_part, Part, class_of, Prepared, no_member, member_as, HoldsMember, HoldsVoter, Every, eqb-true, or_left, eqb-self}
use Rattle.qs_base.specs.declared.identifiers.Class.TheVariants as classes
use Rattle.qs_book_machine.specs.Transaction.{part_of}
use Rattle.qs_tm.specs.Members as rules

-- ---- lists

pub every_two : {A : Type 0} (P Q R : A → Type 0) → ((x : A) → P x → Q x → R x) → (xs : List A) → Every P xs → Every Q xs → Every R xs
every_two P Q R gives [] p q = tt
every_two P Q R gives (x ∷ xs) p q = (gives x p.0 q.0, every_two P Q R gives xs p.1 q.1)

pub every_among : (P : Tid → Type 0) (tids : List Tid) (tid : Tid) → Every P tids → is_among tids tid ≡ true → P tid
every_among P [] tid all is = absurd (cc is)
every_among P (t ∷ tids) tid all is = by (same_tid tid t) refl (every_among P tids tid all.1)
  where
    by : (b : Bool) → same_tid tid t ≡ b → (is_among tids tid ≡ true → P tid) → P tid
    by true same more = subst P (sym (same_tid-true tid t same)) all.0
    by false far more = more (rw far at is)

pub all_true : {A : Type 0} (p : A → Bool) (xs : List A) → Every (λ (x : A). p x ≡ true) xs → list_all p xs ≡ true
all_true p [] all = refl
all_true p (x ∷ xs) all = let first : p x ≡ true = all.0 in rw first (all_true p xs all.1)

-- none of these passes
pub none_pass : {A : Type 0} (p : A → Bool) (xs : List A) → Every (λ (x : A). p x ≡ false) xs → filter p xs ≡ []
none_pass p [] all = refl
none_pass p (x ∷ xs) all = let first : p x ≡ false = all.0 in rw first (none_pass p xs all.1)

pub every_passed : {A : Type 0} (P : A → Type 0) (p : A → Bool) (xs : List A) → Every P xs → Every P (filter p xs)
every_passed P p [] all = tt
every_passed P p (x ∷ xs) all = by (p x) refl (every_passed P p xs all.1)
  where
    by : (b : Bool) → p x ≡ b → Every P (filter p xs) → Every P (filter p (x ∷ xs))
    by true is more = rw is (all.0, more)
    by false is more = rw is more

-- ---- a member in the new incarnation

pub and_both : (a b : Bool) → (a && b) ≡ true → (a ≡ true) × (b ≡ true)
and_both true b e = (refl, e)
and_both false b e = absurd (cc e)

three : (s : ℕ) → is_recoverable s ≡ true → (s ≡ 0) ⊎ ((s ≡ 1) ⊎ (s ≡ 6))
three s kept = by (s == 0) (s == 1) refl refl
  where
    last : (n : ℕ) → is_recoverable n ≡ true → (n == 0) ≡ false → (n == 1) ≡ false → n ≡ 6
    last n k e f = grind (arith, nat_tests, k, e, f)

    by : (a b : Bool) → (s == 0) ≡ a → (s == 1) ≡ b → (s ≡ 0) ⊎ ((s ≡ 1) ⊎ (s ≡ 6))
    by true b is _ = inl (eqb-true s 0 is)
    by false true _ is = inr (inl (eqb-true s 1 is))
    by false false far other = inr (inr (last s kept far other))

unlearnt : (c : Class) → rules.is_to_learn c no_member ≡ false
unlearnt classes.Recoverable = refl
unlearnt classes.Volatile = refl
unlearnt classes.Standard = refl
unlearnt classes.Delayed = refl
unlearnt classes.Immediate = refl
unlearnt classes.Activity = refl

pub member_none : (tx : TransactionValue) (member : Member) (inc : ℕ) → part_of tx member inc ≡ no_part → HoldsMember tx member inc no_member
member_none tx member inc none = record {
  covers = λ two. subst (λ (p : Part). ((0 == p.served + p.found) || list_any (is_start member inc p.served 0) tx.starts) ≡ true) (sym none) refl;
  voted = subst (λ (p : Part). p.voted ≤ p.served) (sym none) (grind (arith));
  votes = λ two. subst (λ (p : Part). HoldsVoter p no_member) (sym none) (record { covers = tt; is_due = refl });
  learns = λ told. subst (λ (p : Part). may_learn_still p ≡ rules.is_to_learn (class_of member.server.0) no_member) (sym none) (sym (unlearnt (class_of member.server.0)));
  ends = λ is. ap (λ (p : Part). p.due) none;
}

pub member_found : (tx : TransactionValue) (member : Member) (inc count : ℕ) (v : Prepared) → is_recoverable member.server.0 ≡ true → part_of tx member inc ≡ found_part v.covers count → HoldsMember tx member inc (member_as (Some v))
member_found tx member inc count v kept is = record {
  covers = λ two. subst (λ (p : Part). ((v.covers == p.served + p.found) || list_any (is_start member inc p.served v.covers) tx.starts) ≡ true) (sym is) (or_left (v.covers == 0 + v.covers) _ (grind (arith, nat_tests)));
  voted = subst (λ (p : Part). p.voted ≤ p.served) (sym is) (grind (arith));
  votes = λ two. subst (λ (p : Part). HoldsVoter p (member_as (Some v))) (sym is) (record { covers = grind (arith); is_due = rw (eqb-self v.covers) refl });
  learns = λ told. subst (λ (p : Part). may_learn_still p ≡ rules.is_to_learn (class_of member.server.0) (member_as (Some v))) (sym is) (learn (three member.server.0 kept));
  ends = λ immediate. absurd (never (three member.server.0 kept) immediate);
}
  where
    learn : (member.server.0 ≡ 0) ⊎ ((member.server.0 ≡ 1) ⊎ (member.server.0 ≡ 6)) → true ≡ rules.is_to_learn (class_of member.server.0) (member_as (Some v))
    learn (inl e) = rw e refl
    learn (inr (inl e)) = rw e refl
    learn (inr (inr e)) = rw e refl

    never : (member.server.0 ≡ 0) ⊎ ((member.server.0 ≡ 1) ⊎ (member.server.0 ≡ 6)) → rules.is_immediate (class_of member.server.0) ≡ true → ⊥
    never (inl e) h = cc (rw e at h)
    never (inr (inl e)) h = cc (rw e at h)
    never (inr (inr e)) h = cc (rw e at h)

-- A vote and a notice leave the machine and its node with the same of a member.
use Rattle.qs_world_lawful.proofs.Words.{◌≡◌, ℕ, ◌+◌, ◌==◌, Bool, true, false, List, [], ◌∷◌, Option, Some, None, Less, Equal, Greater, refl, sym, ap, ◌∙◌, arith, nat_lt, le_refl, nat_tests, not, ◌&&◌, ◌||◌, unwrap_or, list_any, lookup, is_at, insert_key, Ordering, Class, Member, Outcome, class_of, is_two_phase, learns_outcome, Vote, TransactionValue, no_part, life, life_cmp, is_covering, is_start, may_learn_still, voted_part, voted, starts_after, start_cmp, learnt, learnt_part, changed_value}
use Rattle.qs_world_lawful.proofs.Words.{Life, Part, Start, MemberPart, HoldsVoter, HoldsMember, lookup_changed, eqb-self, and_false, or-true}
use Rattle.qs_base.specs.declared.identifiers.Class.TheVariants as classes
use Rattle.qs_base.specs.declared.identifiers.Outcome.TheVariants as outcomes
use Rattle.qs_ops.specs.declared.vote.Vote.TheVariants as votes
use Rattle.qs_book_machine.specs.Transaction.{part_of}
use Rattle.qs_tm.specs.Members as rules
use Rattle.qs_world_lawful.proofs.Served.{not_let_go}
use Rattle.qs_base_lemmas.proofs.Tests.{ltb_apart}

-- ---- a vote

abbrev pub cast : Vote → MemberPart → MemberPart
cast ballot m = record m { vote = Some (record { ballot = rules.ballot_of ballot; covers = m.served }) }

-- where something was served in this incarnation, the machine has something of the member
some_part : (tx : TransactionValue) (member : Member) (inc : ℕ) → nat_lt (part_of tx member inc).voted (part_of tx member inc).served ≡ true
    → lookup (is_at (life_cmp (life member inc))) tx.parts ≡ Some (part_of tx member inc)
some_part tx member inc due = by (lookup (is_at (life_cmp (life member inc))) tx.parts) due
  where
    by : (o : Option Part) → nat_lt (unwrap_or o no_part).voted (unwrap_or o no_part).served ≡ true → o ≡ Some (unwrap_or o no_part)
    by None h = absurd (cc h)
    by (Some part) h = refl

changed_part : (f : Part → Part) (tx : TransactionValue) (member : Member) (inc : ℕ) (part : Part) → lookup (is_at (life_cmp (life member inc))) tx.parts ≡ Some part
    → unwrap_or (lookup (is_at (life_cmp (life member inc))) (changed_value (is_at (life_cmp (life member inc))) f tx.parts)) no_part ≡ f part
changed_part f tx member inc part is = ap (λ (o : Option Part). unwrap_or o no_part) (lookup_changed (is_at (life_cmp (life member inc))) f tx.parts part is)

not_less : (n : ℕ) → nat_lt n n ≡ false
not_less n = grind (arith, nat_tests)

voted_is : (ballot : Vote) (part : Part) → (voted_part ballot part).voted ≡ part.served
voted_is (votes.Abort reason) part = refl
voted_is votes.ReadOnly part = refl
voted_is votes.Volatile part = refl
voted_is votes.Recoverable part = refl

served_is : (ballot : Vote) (part : Part) → (voted_part ballot part).served ≡ part.served
served_is (votes.Abort reason) part = refl
served_is votes.ReadOnly part = refl
served_is votes.Volatile part = refl
served_is votes.Recoverable part = refl

found_is : (ballot : Vote) (part : Part) → (voted_part ballot part).found ≡ part.found
found_is (votes.Abort reason) part = refl
found_is votes.ReadOnly part = refl
found_is votes.Volatile part = refl
found_is votes.Recoverable part = refl

cast_voter : (ballot : Vote) (part : Part) (m : MemberPart) → HoldsVoter (voted_part ballot part) (cast ballot m)
cast_voter ballot part m = record {
  covers = le_refl m.served;
  is_due = rw (voted_is ballot part, served_is ballot part, not_less part.served, eqb-self m.served) refl;
}

-- a vote that was due: what was to be told of still is, unless the vote is read-only
voter_fresh : (part : Part) (m : MemberPart) → nat_lt part.voted part.served ≡ true → HoldsVoter part m → may_learn_still part ≡ (m.fresh && not (rules.is_let_go m)) → part.due ≡ m.fresh
voter_fresh part m due h same =
    let open_vote : rules.is_covering m ≡ false = turned (rules.is_covering m) (sym due ∙ h.is_due) in
    let apart : (part.voted == part.served) ≡ false = ltb_apart part.voted part.served due in
    kept part.due m.fresh part.read_only (part.voted == part.served) (rules.is_let_go m) apart (not_let_go m.served m.fresh m.vote open_vote) same
  where
    turned : (b : Bool) → true ≡ not b → b ≡ false
    turned true h = absurd (cc h)
    turned false h = refl

    kept : (a b x v g : Bool) → v ≡ false → g ≡ false → (a && not (x && v)) ≡ (b && not g) → a ≡ b
    kept true true x v g ev eg h = refl
    kept false false x v g ev eg h = refl
    kept true false x v g ev eg h = absurd (cc (rw (ev, and_false x) at h))
    kept false true x v g ev eg h = absurd (cc (rw eg at h))

-- ---- a vote that was due, as a whole

pub any_insert : {K : Type 0} (cmp : K → K → Ordering) (p : K → Bool) (k : K) (xs : List K) → list_any p xs ≡ true → list_any p (insert_key cmp xs k) ≡ true
any_insert cmp p k [] h = absurd (cc h)
any_insert cmp p k (x ∷ xs) h = by (cmp k x) refl (p x) refl (any_insert cmp p k xs)
  where
    by : (r : Ordering) → cmp k x ≡ r → (b : Bool) → p x ≡ b → (list_any p xs ≡ true → list_any p (insert_key cmp xs k) ≡ true) → list_any p (insert_key cmp (x ∷ xs) k) ≡ true
    by Less is b has more = rw is (rw h (or-true (p k)))
    by Equal is b has more = rw is h
    by Greater is true has more = rw (is, has) refl
    by Greater is false has more = rw (is, has) (more (rw has at h))

pub starts_grow : (ballot : Vote) (at : Life) (n : ℕ) (p : Start → Bool) (starts : List Start) → list_any p starts ≡ true → list_any p (starts_after ballot at n starts) ≡ true
starts_grow (votes.Abort reason) at n p starts h = h
starts_grow votes.ReadOnly at n p starts h = any_insert start_cmp p (record { life = at; served = n }) starts h
starts_grow votes.Volatile at n p starts h = h
starts_grow votes.Recoverable at n p starts h = h

plain : (a b x : Bool) (n k : ℕ) → a ≡ b → (a && not (x && (n == n))) ≡ (b && not (x && (k == k)))
plain a b x n k same = rw (eqb-self n, eqb-self k) (ap (λ (c : Bool). c && not (x && true)) same)

ballot_learns : (ballot : Vote) (part : Part) (m : MemberPart) → part.due ≡ m.fresh → may_learn_still (voted_part ballot part) ≡ ((cast ballot m).fresh && not (rules.is_let_go (cast ballot m)))
ballot_learns (votes.Abort reason) part m same = plain part.due m.fresh false part.served m.served same
ballot_learns votes.ReadOnly part m same = plain part.due m.fresh true part.served m.served same
ballot_learns votes.Volatile part m same = plain part.due m.fresh false part.served m.served same
ballot_learns votes.Recoverable part m same = plain part.due m.fresh false part.served m.served same

cast_learns : (c : Class) (ballot : Vote) (part : Part) (m : MemberPart) → is_two_phase c ≡ true → part.due ≡ m.fresh → may_learn_still (voted_part ballot part) ≡ rules.is_to_learn c (cast ballot m)
cast_learns classes.Recoverable ballot part m two same = ballot_learns ballot part m same
cast_learns classes.Volatile ballot part m two same = ballot_learns ballot part m same
cast_learns classes.Immediate ballot part m two same = absurd (cc two)
cast_learns classes.Standard ballot part m two same = absurd (cc two)
cast_learns classes.Delayed ballot part m two same = absurd (cc two)
cast_learns classes.Activity ballot part m two same = absurd (cc two)

fresh_of : (c : Class) (part : Part) (m : MemberPart) → is_two_phase c ≡ true → nat_lt part.voted part.served ≡ true → HoldsVoter part m → (learns_outcome c ≡ true → may_learn_still part ≡ rules.is_to_learn c m) → part.due ≡ m.fresh
fresh_of classes.Recoverable part m two due h learns = voter_fresh part m due h (learns refl)
fresh_of classes.Volatile part m two due h learns = voter_fresh part m due h (learns refl)
fresh_of classes.Immediate part m two due h learns = absurd (cc two)
fresh_of classes.Standard part m two due h learns = absurd (cc two)
fresh_of classes.Delayed part m two due h learns = absurd (cc two)
fresh_of classes.Activity part m two due h learns = absurd (cc two)

no_ending : (c : Class) → is_two_phase c ≡ true → rules.is_immediate c ≡ true → ⊥
no_ending classes.Recoverable two is = cc is
no_ending classes.Volatile two is = cc is
no_ending classes.Immediate two is = cc two
no_ending classes.Standard two is = cc is
no_ending classes.Delayed two is = cc is
no_ending classes.Activity two is = cc is

module _ (tx : TransactionValue) (member : Member) (inc : ℕ) (ballot : Vote) (m : MemberPart) (h : HoldsMember tx member inc m)
    (two : is_two_phase (class_of member.server.0) ≡ true) (due : nat_lt (part_of tx member inc).voted (part_of tx member inc).served ≡ true) where
  pub part_voted : part_of (voted member inc ballot tx) member inc ≡ voted_part ballot (part_of tx member inc)
  part_voted = changed_part (voted_part ballot) tx member inc (part_of tx member inc) (some_part tx member inc due)

  covers_still : is_covering (voted member inc ballot tx) member inc m.served ≡ true
  covers_still = rw (part_voted, served_is ballot (part_of tx member inc), found_is ballot (part_of tx member inc)) (by (m.served == (part_of tx member inc).served + (part_of tx member inc).found) refl)
    where
      by : (b : Bool) → (m.served == (part_of tx member inc).served + (part_of tx member inc).found) ≡ b
          → ((m.served == (part_of tx member inc).served + (part_of tx member inc).found) || list_any (is_start member inc (part_of tx member inc).served m.served) (voted member inc ballot tx).starts) ≡ true
      by true is = rw is refl
      by false is = rw is (starts_grow ballot (life member inc) (part_of tx member inc).served (is_start member inc (part_of tx member inc).served m.served) tx.starts (rw is at (h.covers two)))

  pub voted_member : HoldsMember (voted member inc ballot tx) member inc (cast ballot m)
  voted_member = record {
    covers = λ both. covers_still;
    voted = rw (part_voted, voted_is ballot (part_of tx member inc), served_is ballot (part_of tx member inc)) (le_refl (part_of tx member inc).served);
    votes = λ both. rw part_voted (cast_voter ballot (part_of tx member inc) m);
    learns = λ told. rw part_voted (cast_learns (class_of member.server.0) ballot (part_of tx member inc) m two (fresh_of (class_of member.server.0) (part_of tx member inc) m two due (h.votes two) h.learns));
    ends = λ is. absurd (no_ending (class_of member.server.0) two is);
  }

-- ---- a notice

-- the member is told nothing more of it
abbrev pub told_all : MemberPart → MemberPart
told_all m = record m { fresh = false }

not_learning : (outcome : Outcome) (part : Part) → may_learn_still (learnt_part outcome part) ≡ false
not_learning outcomes.Commit part = refl
not_learning outcomes.Abort part = refl

nothing_to_learn : (c : Class) (m : MemberPart) → rules.is_to_learn c (told_all m) ≡ false
nothing_to_learn classes.Recoverable m = refl
nothing_to_learn classes.Volatile m = refl
nothing_to_learn classes.Immediate m = refl
nothing_to_learn classes.Standard m = refl
nothing_to_learn classes.Delayed m = refl
nothing_to_learn classes.Activity m = refl

learnt_counts : (outcome : Outcome) (part : Part) → ((learnt_part outcome part).served ≡ part.served) × (((learnt_part outcome part).voted ≡ part.voted) × ((learnt_part outcome part).found ≡ part.found))
learnt_counts outcomes.Commit part = (refl, (refl, refl))
learnt_counts outcomes.Abort part = (refl, (refl, refl))

due_part : (tx : TransactionValue) (member : Member) (inc : ℕ) → (part_of tx member inc).due ≡ true → lookup (is_at (life_cmp (life member inc))) tx.parts ≡ Some (part_of tx member inc)
due_part tx member inc due = by (lookup (is_at (life_cmp (life member inc))) tx.parts) due
  where
    by : (o : Option Part) → (unwrap_or o no_part).due ≡ true → o ≡ Some (unwrap_or o no_part)
    by None h = absurd (cc h)
    by (Some part) h = refl

no_immediate : (c : Class) → learns_outcome c ≡ true → rules.is_immediate c ≡ true → ⊥
no_immediate classes.Recoverable told is = cc is
no_immediate classes.Volatile told is = cc is
no_immediate classes.Immediate told is = cc told
no_immediate classes.Standard told is = cc is
no_immediate classes.Delayed told is = cc is
no_immediate classes.Activity told is = cc is

module _ (tx : TransactionValue) (member : Member) (inc : ℕ) (outcome : Outcome) (m : MemberPart) (h : HoldsMember tx member inc m)
    (told : learns_outcome (class_of member.server.0) ≡ true) (due : (part_of tx member inc).due ≡ true) where
  pub part_learnt : part_of (learnt member inc outcome tx) member inc ≡ learnt_part outcome (part_of tx member inc)
  part_learnt = of_parts outcome ∙ changed_part (learnt_part outcome) tx member inc (part_of tx member inc) (due_part tx member inc due)
    where
      of_parts : (o : Outcome) → part_of (learnt member inc o tx) member inc ≡ unwrap_or (lookup (is_at (life_cmp (life member inc))) (changed_value (is_at (life_cmp (life member inc))) (learnt_part o) tx.parts)) no_part
      of_parts outcomes.Commit = refl
      of_parts outcomes.Abort = refl

  same_starts : (o : Outcome) → (learnt member inc o tx).starts ≡ tx.starts
  same_starts outcomes.Commit = refl
  same_starts outcomes.Abort = refl

  voter_on : (c : Class) → is_two_phase c ≡ true → HoldsVoter (part_of tx member inc) m → HoldsVoter (learnt_part outcome (part_of tx member inc)) (told_all m)
  voter_on c two v = record { covers = v.covers; is_due = rw ((learnt_counts outcome (part_of tx member inc)).0, (learnt_counts outcome (part_of tx member inc)).1.0) v.is_due }

  pub learnt_member : HoldsMember (learnt member inc outcome tx) member inc (told_all m)
  learnt_member = record {
    covers = λ two. rw (part_learnt, same_starts outcome, (learnt_counts outcome (part_of tx member inc)).0, (learnt_counts outcome (part_of tx member inc)).1.1) (h.covers two);
    voted = rw (part_learnt, (learnt_counts outcome (part_of tx member inc)).0, (learnt_counts outcome (part_of tx member inc)).1.0) h.voted;
    votes = λ two. rw part_learnt (voter_on (class_of member.server.0) two (h.votes two));
    learns = λ is. rw (part_learnt, not_learning outcome (part_of tx member inc)) (sym (nothing_to_learn (class_of member.server.0) m));
    ends = λ is. absurd (no_immediate (class_of member.server.0) told is);
  }

-- A serve of a member leaves the machine and its node with the same of it.
use Rattle.qs_world_lawful.proofs.Words.{◌≡◌, ℕ, ◌+◌, ◌==◌, ◌≤◌, Bool, true, false, List, [], ◌∷◌, Option, Some, None, Equal, refl, sym, ap, ◌∙◌, arith, nat_lt, nat_tests, not, unwrap_or, list_any, tied_itself, nat_cmp_total, Class, Member, class_of, is_two_phase, learns_outcome, TransactionValue, no_part, life, life_cmp, is_covering, is_start, may_learn_still, serving_part, served_in, Life, Part, RequestNo, Start, MemberPart, HoldsVoter, HoldsMember, covers_at_most, lookup_put, and_false}
use Rattle.qs_base.specs.declared.identifiers.Class.TheVariants as classes
use Rattle.qs_book_machine.specs.Transaction.{part_of, served_part}
use Rattle.qs_tm.specs.declared.members.Cast.{Cast}
use Rattle.qs_tm.specs.Members as rules

pub life_itself : (l : Life) → life_cmp l l ≡ Equal
life_itself l = rw (tied_itself nat_cmp_total l.member.node.0, tied_itself nat_cmp_total l.member.server.0, tied_itself nat_cmp_total l.inc) refl

-- ---- a serve

abbrev pub one_more : MemberPart → MemberPart
one_more m = record m { served = m.served + 1; fresh = true }

not_covering : (served : ℕ) (fresh : Bool) (vote : Option Cast) → covers_at_most served vote → rules.is_covering (record { served = served + 1; fresh = fresh; vote = vote }) ≡ false
not_covering served fresh None h = grind (arith, nat_tests)
not_covering served fresh (Some cast) h = grind (arith, nat_tests, h)

-- who served since the last vote is not let go
pub not_let_go : (served : ℕ) (fresh : Bool) (vote : Option Cast) → rules.is_covering (record { served = served; fresh = fresh; vote = vote }) ≡ false → rules.is_let_go (record { served = served; fresh = fresh; vote = vote }) ≡ false
not_let_go served fresh None h = refl
not_let_go served fresh (Some cast) h = rw h (and_false (rules.is_read_only cast.ballot))

pub newly_served : (m : MemberPart) → covers_at_most m.served m.vote → rules.is_let_go (one_more m) ≡ false
newly_served m h = not_let_go (m.served + 1) true m.vote (not_covering m.served true m.vote h)

lesser : (a b : ℕ) → a ≤ b → nat_lt a (b + 1) ≡ true
lesser a b h = grind (arith, nat_tests, h)

unequal : (a b : ℕ) → a ≤ b → (a == b + 1) ≡ false
unequal a b h = grind (arith, nat_tests, h)

later : (served : ℕ) (vote : Option Cast) → covers_at_most served vote → covers_at_most (served + 1) vote
later served None h = tt
later served (Some cast) h = grind (arith, h)

served_voter : (stamp : ℕ) (done : Bool) (part : Part) (m : MemberPart) → part.voted ≤ part.served → HoldsVoter part m → HoldsVoter (served_part stamp done part) (one_more m)
served_voter stamp done part m most h = record {
  covers = later m.served m.vote h.covers;
  is_due = lesser part.voted part.served most ∙ sym (ap not (not_covering m.served true m.vote h.covers));
}

-- whatever the class, one more was served
more_served : (c : Class) (stamp : ℕ) (done : Bool) (part : Part) → (serving_part c stamp done part).served ≡ part.served + 1
more_served classes.Recoverable stamp done part = refl
more_served classes.Volatile stamp done part = refl
more_served classes.Immediate stamp done part = refl
more_served classes.Standard stamp done part = refl
more_served classes.Delayed stamp done part = refl
more_served classes.Activity stamp done part = refl

same_found : (c : Class) (stamp : ℕ) (done : Bool) (part : Part) → (serving_part c stamp done part).found ≡ part.found
same_found classes.Recoverable stamp done part = refl
same_found classes.Volatile stamp done part = refl
same_found classes.Immediate stamp done part = refl
same_found classes.Standard stamp done part = refl
same_found classes.Delayed stamp done part = refl
same_found classes.Activity stamp done part = refl

same_voted : (c : Class) (stamp : ℕ) (done : Bool) (part : Part) → (serving_part c stamp done part).voted ≡ part.voted
same_voted classes.Recoverable stamp done part = refl
same_voted classes.Volatile stamp done part = refl
same_voted classes.Immediate stamp done part = refl
same_voted classes.Standard stamp done part = refl
same_voted classes.Delayed stamp done part = refl
same_voted classes.Activity stamp done part = refl

serve_votes : (c : Class) (stamp : ℕ) (done : Bool) (part : Part) (m : MemberPart) → part.voted ≤ part.served → (is_two_phase c ≡ true → HoldsVoter part m) → is_two_phase c ≡ true → HoldsVoter (serving_part c stamp done part) (one_more m)
serve_votes classes.Recoverable stamp done part m most h two = served_voter stamp done part m most (h two)
serve_votes classes.Volatile stamp done part m most h two = served_voter stamp done part m most (h two)
serve_votes classes.Immediate stamp done part m most h two = absurd (cc two)
serve_votes classes.Standard stamp done part m most h two = absurd (cc two)
serve_votes classes.Delayed stamp done part m most h two = absurd (cc two)
serve_votes classes.Activity stamp done part m most h two = absurd (cc two)

-- whatever was served is to be told of
serve_learns : (c : Class) (stamp : ℕ) (done : Bool) (part : Part) (m : MemberPart) → part.voted ≤ part.served → (is_two_phase c ≡ true → HoldsVoter part m) → learns_outcome c ≡ true → may_learn_still (serving_part c stamp done part) ≡ rules.is_to_learn c (one_more m)
serve_learns classes.Recoverable stamp done part m most h two =
    rw (unequal part.voted part.served most, newly_served m (h refl).covers, and_false part.read_only) refl
serve_learns classes.Volatile stamp done part m most h two =
    rw (unequal part.voted part.served most, newly_served m (h refl).covers, and_false part.read_only) refl
serve_learns classes.Immediate stamp done part m most h two = absurd (cc two)
serve_learns classes.Standard stamp done part m most h two = rw (unequal part.voted part.served most, and_false part.read_only) refl
serve_learns classes.Delayed stamp done part m most h two = rw (unequal part.voted part.served most, and_false part.read_only) refl
serve_learns classes.Activity stamp done part m most h two = absurd (cc two)

serve_ends : (c : Class) (stamp : ℕ) (done : Bool) (part : Part) → rules.is_immediate c ≡ true → (serving_part c stamp done part).due ≡ true
serve_ends classes.Immediate stamp done part is = refl
serve_ends classes.Recoverable stamp done part is = absurd (cc is)
serve_ends classes.Volatile stamp done part is = absurd (cc is)
serve_ends classes.Standard stamp done part is = absurd (cc is)
serve_ends classes.Delayed stamp done part is = absurd (cc is)
serve_ends classes.Activity stamp done part is = absurd (cc is)

-- ---- clause 41: both counts go on together

start_on : (member : Member) (inc served covers : ℕ) (start : Start) → is_start member inc (served + 1) (covers + 1) start ≡ is_start member inc served covers start
start_on member inc served covers start = grind (arith, nat_tests)

starts_on : (member : Member) (inc served covers : ℕ) (starts : List Start) → list_any (is_start member inc (served + 1) (covers + 1)) starts ≡ list_any (is_start member inc served covers) starts
starts_on member inc served covers [] = refl
starts_on member inc served covers (start ∷ starts) = rw (start_on member inc served covers start, starts_on member inc served covers starts) refl

sums_on : (a b c : ℕ) → (a + 1 == b + 1 + c) ≡ (a == b + c)
sums_on a b c = grind (arith, nat_tests)

-- ---- all of it

module _ (at : RequestNo) (tx : TransactionValue) (member : Member) (inc stamp : ℕ) (done : Bool) where
  -- what a serve leaves of the member in its incarnation
  pub part_served : part_of (served_in at member inc stamp done tx) member inc ≡ serving_part (class_of member.server.0) stamp done (part_of tx member inc)
  part_served = ap (λ (o : Option Part). unwrap_or o no_part) (lookup_put life_cmp (life member inc) (serving_part (class_of member.server.0) stamp done (part_of tx member inc)) (life_itself (life member inc)) tx.parts)

  serve_covers : (covers : ℕ) → is_covering tx member inc covers ≡ true → is_covering (served_in at member inc stamp done tx) member inc (covers + 1) ≡ true
  serve_covers covers h =
      rw (part_served, more_served (class_of member.server.0) stamp done (part_of tx member inc), same_found (class_of member.server.0) stamp done (part_of tx member inc), sums_on covers (part_of tx member inc).served (part_of tx member inc).found, starts_on member inc (part_of tx member inc).served covers tx.starts) h

  pub served_member : (m : MemberPart) → HoldsMember tx member inc m → HoldsMember (served_in at member inc stamp done tx) member inc (one_more m)
  served_member m h = record {
    covers = λ two. serve_covers m.served (h.covers two);
    voted = rw (part_served, more_served (class_of member.server.0) stamp done (part_of tx member inc), same_voted (class_of member.server.0) stamp done (part_of tx member inc)) (up (part_of tx member inc) h.voted);
    votes = λ two. rw part_served (serve_votes (class_of member.server.0) stamp done (part_of tx member inc) m h.voted h.votes two);
    learns = λ told. rw part_served (serve_learns (class_of member.server.0) stamp done (part_of tx member inc) m h.voted h.votes told);
    ends = λ is. rw part_served (serve_ends (class_of member.server.0) stamp done (part_of tx member inc) is);
  }
    where
      up : (part : Part) → part.voted ≤ part.served → part.voted ≤ part.served + 1
      up part most = grind (arith, most)

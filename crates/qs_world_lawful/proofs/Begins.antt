-- A transaction begins: the rule as a whole, but for its answer.
use Rattle.qs_world_lawful.proofs.Words.{◌≡◌, ◌⊎◌, inl, inr, ℕ, Bool, true, false, List, [], ◌∷◌, ◌++◌, Some, None, zero, suc, refl, sym, ap, subst, arith, length, replicate, slice_index_or, if◌then◌else◌, find, filter, Class, ClientNo, Member, NodeNo, ServerNo, Tid, class_of, begun, no_peer, peer_of, new_engage, new_participant, begun_participant, member_of, MemberPart, Participant, KeptLabel, has_label, is_loan_here, is_given_back, IsEmpty, HoldsMember, HoldsTid, some_same, zero_le}
use Rattle.qs_base.specs.declared.identifiers.Class.TheVariants as classes
use Rattle.qs_tm.specs.Members as rules
use Rattle.qs_world_lawful.specs.Face.{Face}

-- ---- a transaction of which nothing was done yet

index_replicate : {A : Type 0} (n i : ℕ) (x : A) → slice_index_or (replicate n x) i x ≡ x
index_replicate zero i x = refl
index_replicate (suc n) zero x = refl
index_replicate (suc n) (suc i) x = index_replicate n i x

pub new_member : (home : Bool) (server : ServerNo) → member_of (new_participant home) server ≡ rules.no_member
new_member home server = index_replicate 7 server.0 rules.no_member

pub new_peer : (home : Bool) (peer : NodeNo) → peer_of (new_engage home) peer ≡ no_peer
new_peer home peer = index_replicate 16 peer.0 no_peer

nothing_to_learn : (c : Class) → rules.is_to_learn c rules.no_member ≡ false
nothing_to_learn classes.Recoverable = refl
nothing_to_learn classes.Volatile = refl
nothing_to_learn classes.Immediate = refl
nothing_to_learn classes.Standard = refl
nothing_to_learn classes.Delayed = refl
nothing_to_learn classes.Activity = refl

none_served : (label : List ℕ) (client : ClientNo) (ticks : ℕ) (member : Member) (inc : ℕ) → HoldsMember (begun label client ticks) member inc rules.no_member
none_served label client ticks member inc = record {
  covers = λ two. refl;
  voted = grind arith;
  votes = λ two. record { covers = tt; is_due = refl };
  learns = λ told. sym (nothing_to_learn (class_of member.server.0));
  ends = λ is. refl;
}

pub begun_tid : (here : NodeNo) (inc : ℕ) (tid : Tid) (label : List ℕ) (client : ClientNo) (ticks own_ticks : ℕ) (face : Face) → IsEmpty face
    → HoldsTid here inc tid (begun label client ticks) (record face { known = Some (begun_participant client own_ticks) })
begun_tid here inc tid label client ticks own_ticks face none = record {
  sized = refl;
  members = λ held server kept. subst (λ (m : MemberPart). HoldsMember (begun label client ticks) (record { node = here; server = server }) inc m) (sym (new_member true server)) (none_served label client ticks _ inc);
  asked = λ is. absurd (cc is);
  outcome = λ o is. absurd (cc is);
  silent = λ is. absurd (cc is);
  local = sym none.local;
  sent = λ held peer far. sym (ap (λ p. p.sent) (new_peer true peer));
  pending = sym none.changes;
  noted = λ held count some is. absurd (cc is);
  queued = λ server at near. rw (none.waiting server) (zero_le _);
  made = λ c small. sym (ap (λ ls. length (filter (is_loan_here c inc) ls)) none.loans);
  yielded = λ c small. sym (ap (λ ls. length (filter (is_given_back c inc) ls)) none.loans);
  home = λ at in_inc. record { runs = λ is. refl; undecided = λ part is unknown. refl; asked = λ part same is. asked_as part same };
}
  where
    asked_as : (part : Participant) → Some (begun_participant client own_ticks) ≡ Some part → false ≡ part.asked
    asked_as part same = ap (λ (p : Participant). p.asked) (some_same same)

-- ---- labels

-- a label that is found is found with one more
pub label_stays : (label : List ℕ) (b : KeptLabel) (labels : List KeptLabel) (was : KeptLabel) → find (has_label label) labels ≡ Some was → find (has_label label) (labels ++ b ∷ []) ≡ Some was
label_stays label b [] was is = absurd (cc is)
label_stays label b (x ∷ labels) was is = by (has_label label x) refl (label_stays label b labels was)
  where
    by : (t : Bool) → has_label label x ≡ t → (find (has_label label) labels ≡ Some was → find (has_label label) (labels ++ b ∷ []) ≡ Some was) → find (has_label label) ((x ∷ labels) ++ b ∷ []) ≡ Some was
    by true so more = rw so (rw so at is)
    by false so more = rw so (more (rw so at is))

-- and what is found with one more was there, or is that one
pub label_more : (label : List ℕ) (b : KeptLabel) (labels : List KeptLabel) (now : KeptLabel) → find (has_label label) (labels ++ b ∷ []) ≡ Some now → (find (has_label label) labels ≡ Some now) ⊎ (b ≡ now)
label_more label b [] now is = by (has_label label b) is
  where
    by : (t : Bool) → (if t then Some b else None) ≡ Some now → (None ≡ Some now) ⊎ (b ≡ now)
    by true e = inr (some_same e)
    by false e = absurd (cc e)
label_more label b (x ∷ labels) now is = by (has_label label x) refl (label_more label b labels now)
  where
    by : (t : Bool) → has_label label x ≡ t → (find (has_label label) (labels ++ b ∷ []) ≡ Some now → (find (has_label label) labels ≡ Some now) ⊎ (b ≡ now)) → (find (has_label label) (x ∷ labels) ≡ Some now) ⊎ (b ≡ now)
    by true so more = inl (rw so (rw so at is))
    by false so more = past (more (rw so at is))
      where
        past : (find (has_label label) labels ≡ Some now) ⊎ (b ≡ now) → (find (has_label label) (x ∷ labels) ≡ Some now) ⊎ (b ≡ now)
        past (inl e) = inl (rw so e)
        past (inr e) = inr e

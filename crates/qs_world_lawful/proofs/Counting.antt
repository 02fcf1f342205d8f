-- A peer answers for what was sent to it: the rule as a whole.
use Rattle.qs_world_lawful.proofs.Words.{◌≡◌, ℕ, ◌==◌, ◌≤◌, Bool, true, false, List, [], ◌∷◌, Option, Some, None, zero, suc, refl, sym, ap, subst, ◌∙◌, nat_lt, ◌&&◌, is_some, slice_set, slice_index_or, if◌then◌else◌, option_map, lookup, is_at, tid_cmp, Member, NodeNo, Tid, peer_of, no_peer, Engage, PeerPart, changed_alike, BookValue, find_transaction, inc_at, TransactionValue, link_cmp, sent_in, Link, Sent, closer_came, Work, is_undecided, MemberPart, Participant, face_of, part_or_new, HoldsTid}
use Rattle.qs_world_lawful.proofs.Words.{HoldsHome, HoldsMember, HoldsWork, book_at, some_same}
use Rattle.std.specs.Prelude.{max}
use Rattle.qs_engage.specs.Engage.{covered}
use Rattle.qs_book_journal.specs.declared.entry.Act.TheVariants as acts
use Rattle.qs_book_machine.specs.Transaction.{counted, with_counted}
use Rattle.qs_node_step.specs.Asking.{count}
use Rattle.qs_node_step.specs.State.{NodeValue}
use Rattle.qs_tm.specs.Manager as tm
use Rattle.qs_tm.specs.Participant as participant
use Rattle.qs_world_lawful.specs.Face.{Face}
use Rattle.qs_world_lawful.proofs.Apart.{Apart}
use Rattle.qs_world_lawful.proofs.Clauses.{may_count, of_tid}
use Rattle.qs_world_lawful.proofs.Faces.{part_apart, part_changed}
use Rattle.qs_world_lawful.proofs.Frames.{SameFace, clients_on, told_of}
use Rattle.qs_world_lawful.proofs.Growing.{entered, book_with}
use Rattle.qs_world_lawful.proofs.ServingNext.{found_of}
use Rattle.qs_world_lawful.proofs.Steps.{one_changed, same_owners, servers_still, tx_seen, waits_of}

-- what a change of an item leaves of it, each look-up finds as before
pub index_alike : {A B : Type 0} (of : A → B) (xs : List A) (i j : ℕ) (x d : A) → of x ≡ of (slice_index_or xs i d) → of (slice_index_or (slice_set xs i x) j d) ≡ of (slice_index_or xs j d)
index_alike of [] i j x d same = refl
index_alike of (y ∷ ys) zero zero x d same = same
index_alike of (y ∷ ys) zero (suc j) x d same = refl
index_alike of (y ∷ ys) (suc i) zero x d same = refl
index_alike of (y ∷ ys) (suc i) (suc j) x d same = index_alike of ys i j x d same

covered_sent : (from peer : NodeNo) (up_to : ℕ) (engage : Engage) → (peer_of (covered from up_to engage) peer).sent ≡ (peer_of engage peer).sent
covered_sent from peer up_to engage = index_alike (λ (p : PeerPart). p.sent) engage.peers from.0 peer.0 (record (peer_of engage from) { covered = max (peer_of engage from).covered up_to }) no_peer refl

-- ---- the machine's transaction

abbrev number_of : Sent → ℕ × ℕ
number_of sent = (sent.inc, sent.count)

counted_number : (inc up_to : ℕ) (sent : Sent) → number_of (with_counted inc up_to sent) ≡ number_of sent
counted_number inc up_to sent = by ((sent.inc == inc) && nat_lt sent.counted up_to)
  where
    by : (b : Bool) → number_of (if b then record sent { counted = up_to } else sent) ≡ number_of sent
    by true = refl
    by false = refl

sent_alike : (inc : ℕ) (a b : Option Sent) → option_map number_of a ≡ option_map number_of b → sent_in inc a ≡ sent_in inc b
sent_alike inc None None e = refl
sent_alike inc None (Some y) e = absurd (cc e)
sent_alike inc (Some x) None e = absurd (cc e)
sent_alike inc (Some x) (Some y) e = ap (λ (p : ℕ × ℕ). if p.0 == inc then p.1 else 0) (some_same e)

module _ (link : Link) (own_inc up_to peer_inc : ℕ) (tx : TransactionValue) where
  abbrev now : TransactionValue
  now = counted link own_inc up_to peer_inc tx

  sent_on_link : (inc : ℕ) (other : Link) → sent_in inc (lookup (is_at (link_cmp other)) now.sent) ≡ sent_in inc (lookup (is_at (link_cmp other)) tx.sent)
  sent_on_link inc other = sent_alike inc _ _ (changed_alike (is_at (link_cmp link)) number_of (with_counted own_inc up_to) (counted_number own_inc up_to) (is_at (link_cmp other)) tx.sent)

  counted_member : (member : Member) (inc : ℕ) (m : MemberPart) → HoldsMember tx member inc m → HoldsMember now member inc m
  counted_member member inc m h = record { covers = h.covers; voted = h.voted; votes = h.votes; learns = h.learns; ends = h.ends }

  counted_tid : (here : NodeNo) (inc : ℕ) (tid : Tid) (face : Face) (part : Participant) (peer : NodeNo) (told : List NodeNo) → HoldsTid here inc tid tx (record face { known = Some part })
      → HoldsTid here inc tid now (record face { known = Some (participant.counted tid.home peer up_to told part) })
  counted_tid here inc tid face part peer told h = record {
    sized = h.sized;
    members = λ held server kept. counted_member _ inc _ (h.members refl server kept);
    asked = h.asked;
    outcome = h.outcome;
    silent = h.silent;
    local = sent_on_link inc (record { from = here; to = here }) ∙ h.local;
    sent = λ held other far. sent_on_link inc (record { from = here; to = other }) ∙ (h.sent refl other far ∙ sym (covered_sent peer other up_to part.engage));
    pending = h.pending;
    noted = λ held. h.noted refl;
    queued = h.queued;
    made = h.made;
    yielded = h.yielded;
    home = λ at in_inc. counted_home (h.home at in_inc);
  }
    where
      counted_home : HoldsHome tx (Some part) → HoldsHome now (Some (participant.counted tid.home peer up_to told part))
      counted_home k = record {
        runs = λ is. refl;
        undecided = λ p same unknown. k.undecided part refl (ap (λ q. q.outcome) (some_same same) ∙ unknown);
        asked = λ p same still. k.asked part refl still ∙ ap (λ q. q.asked) (some_same same);
      }

-- ---- the rule

module _ (stamp : ℕ) (before : BookValue) (work : Work) (tid : Tid) (peer : NodeNo) (up_to : ℕ) (told : List NodeNo) (part : Participant) (tx : TransactionValue) (h : HoldsWork stamp before work)
    (known : tm.part_of tid work.node.manager ≡ Some part) (found : find_transaction (book_at stamp before work) tid ≡ Some tx) where
  abbrev node : NodeValue
  node = work.node

  abbrev here : NodeNo
  here = node.setting.node

  abbrev new : NodeValue
  new = record node { manager = tm.counted tid peer up_to told node.manager }

  abbrev book : BookValue
  book = book_at stamp before work

  abbrev new_book : BookValue
  new_book = book_with stamp before work (acts.Counted tid peer up_to)

  abbrev f : TransactionValue → TransactionValue
  f = counted (record { from = record { 0 = here.0 }; to = peer }) (inc_at book (record { 0 = here.0 })) up_to (inc_at book peer)

  abbrev g : Participant → Participant
  g = participant.counted tid.home peer up_to told

  faces : (t : Tid) → Apart tid t → SameFace (face_of node t) (face_of new t)
  faces t far = record { known = part_apart tid t g node.manager far; local = refl; changes = refl; loans = refl; waiting = λ server. refl }

  own : HoldsTid here node.setting.inc tid (f tx) (face_of new tid)
  own =
      subst (λ (o : Option Participant). HoldsTid here node.setting.inc tid (f tx) (record (face_of node tid) { known = o })) (sym (part_changed tid g node.manager part known))
      (counted_tid (record { from = record { 0 = here.0 }; to = peer }) (inc_at book (record { 0 = here.0 })) up_to (inc_at book peer) tx here node.setting.inc tid (face_of node tid) part peer told
      (subst (λ (o : Option Participant). HoldsTid here node.setting.inc tid tx (record (face_of node tid) { known = o })) known (of_tid stamp book node h.holds tid tx found)))

  -- for no more than was sent to it
  pub by_count : (peer.0 == here.0) ≡ false → nat_lt peer.0 node.setting.nodes ≡ true → up_to ≤ (peer_of part.engage peer).sent → HoldsWork stamp before (count peer tid up_to told work)
  by_count other in_run most = entered stamp before work (count peer tid up_to told work) (acts.Counted tid peer up_to) h refl refl
      (may_count stamp book node h.holds tid tx found peer up_to (ap is_some known) other in_run (subst (λ (p : Participant). up_to ≤ (peer_of p.engage peer).sent) (sym (ap part_or_new known)) most))
      (one_changed stamp book new_book node new h.holds tid f tx found refl h.holds.state (record { up = refl; inc = refl; begun = refl; format = refl }) h.holds.there refl refl refl
      (record { setting = refl; at = refl; in_inc = refl }) refl faces own
      (clients_on book new_book node new (tx_seen tid f (λ x. refl) book new_book refl) (same_owners book new_book refl) (record { setting = refl; at = refl; in_inc = refl }) (record { commands = refl; labels = refl; outcomes = refl }) h.holds.clients
      (λ t. changed_alike (is_at (tid_cmp tid)) told_of g (λ p. refl) (is_at (tid_cmp t)) node.manager.known))
      (servers_still tid f (λ x. refl) book new_book refl here h.holds.state node.servers h.holds.servers) (λ t far. refl)
      (let k = waits_of stamp book node h.holds tid tx found in record { whole = k.whole; due = k.due; within = k.within; once = k.once; fits = k.fits }))

-- of what is unknown here, or decided, nothing is counted
pub by_closer : (stamp : ℕ) (before : BookValue) (work : Work) → HoldsWork stamp before work → (peer : NodeNo) (tid : Tid) (up_to : ℕ) (told : List NodeNo) → (peer.0 == work.node.setting.node.0) ≡ false → nat_lt peer.0 work.node.setting.nodes ≡ true
    → ((part : Participant) → tm.part_of tid work.node.manager ≡ Some part → is_undecided part ≡ true → up_to ≤ (peer_of part.engage peer).sent) → HoldsWork stamp before (closer_came peer tid up_to told work)
by_closer stamp before work h peer tid up_to told other in_run most = by (tm.part_of tid work.node.manager) refl
  where
    of : (part : Participant) → tm.part_of tid work.node.manager ≡ Some part → (b : Bool) → is_undecided part ≡ b → HoldsWork stamp before (if b then count peer tid up_to told work else work)
    of part known true open_still = let tx = found_of stamp before work h tid part known in by_count stamp before work tid peer up_to told part tx.0 h known tx.1 other in_run (most part known open_still)
    of part known false decided = h

    by : (o : Option Participant) → tm.part_of tid work.node.manager ≡ o → HoldsWork stamp before (elim o [ None ↦ work | Some part ↦ if is_undecided part then count peer tid up_to told work else work ])
    by None is = h
    by (Some part) is = of part is (is_undecided part) refl

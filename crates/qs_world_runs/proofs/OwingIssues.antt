-- What a node waits for stands on as a request is issued, which stands in the history then, as a peer answers for what was sent to it, and as a reply comes.
use Rattle.qs_world_runs.proofs.Words.{◌≡◌, ℕ, ◌+◌, ◌==◌, ◌&&◌, ◌||◌, Bool, true, false, not, List, [], ◌∷◌, ◌++◌, zero, suc, Option, Some, None, refl, sym, ap, subst, ◌∙◌, arith, nat_le, if◌then◌else◌, eqb-true, eqb-false, or_right, nat_tests, slice_index_or, slice_set, same_tid-self, same_tid, Member, NodeNo, Tid, is_covered, is_open_to, last_number, next_sent, no_peer, peer_of, with_peer, Engage, PeerPart, Entry, is_count_of, is_client_no, Op, Manager, Outstanding, Participant, Every}
use Rattle.qs_world_runs.proofs.Words.{index_alike, every_append, clash, of_some, same_self, stands_awaited, stands_uncounted, Around, IsCommanded, IsHeld, LeavesWaits, StandsSo, Waits}
use Rattle.std.proofs.Common.{max}
use Rattle.std.proofs.lemmas.Bool.{not_from_false}
use Rattle.qs_engage.specs.Engage as engage
use Rattle.qs_book_journal.specs.declared.entry.Act.TheVariants as acts
use Rattle.qs_ops.specs.Servers.{files_no}
use Rattle.qs_tm.specs.Manager as tm
use Rattle.qs_tm.specs.Participant as participant
use Rattle.qs_world_lawful.proofs.Apart.{Apart}
use Rattle.qs_world_lawful.proofs.Parts.{index_apart}
use Rattle.qs_world_lawful.proofs.Replied.{part_twice}
use Rattle.qs_world_lawful.proofs.Truths.{node_is, not_true}
use Rattle.qs_world_runs.specs.Owing.{is_awaited, is_uncounted}
use Rattle.qs_world_runs.proofs.OwingParts.{WaitsOn, every_each, so_left, so_on, waits_changed}

-- ---- what stands last in a history

stands_last : (tid : Tid) (peer here : NodeNo) (number : ℕ) (history : List Entry) (entry : Entry) → is_uncounted tid peer here number entry.node entry.act [] ≡ true → stands_uncounted tid peer here number (history ++ entry ∷ []) ≡ true
stands_last tid peer here number [] entry is = rw is refl
stands_last tid peer here number (first ∷ rest) entry is = or_right (is_uncounted tid peer here number first.node first.act (rest ++ entry ∷ [])) _ (stands_last tid peer here number rest entry is)

awaits_last : (tid : Tid) (peer : NodeNo) (server : ℕ) (history : List Entry) (entry : Entry) → is_awaited tid peer server entry.act [] ≡ true → stands_awaited tid peer server (history ++ entry ∷ []) ≡ true
awaits_last tid peer server [] entry is = rw is refl
awaits_last tid peer server (first ∷ rest) entry is = or_right (is_awaited tid peer server first.act (rest ++ entry ∷ [])) _ (awaits_last tid peer server rest entry is)

-- ---- the places of peers

-- what was put there is there, where it is open
set_above : (ps : List PeerPart) (i : ℕ) (v : PeerPart) → is_covered (slice_index_or (slice_set ps i v) i no_peer) ≡ false → slice_index_or (slice_set ps i v) i no_peer ≡ v
set_above [] i v is = absurd (cc is)
set_above (p ∷ ps) zero v is = refl
set_above (p ∷ ps) (suc i) v is = set_above ps i v is

-- what is open was open, where what was put there is
set_opens : (ps : List PeerPart) (i j : ℕ) (v : PeerPart) → (is_covered (slice_index_or ps i no_peer) ≡ true → is_covered v ≡ true) → is_covered (slice_index_or (slice_set ps i v) j no_peer) ≡ false → is_covered (slice_index_or ps j no_peer) ≡ false
set_opens [] i j v more is = is
set_opens (p ∷ ps) zero zero v more is = by (is_covered p) refl
  where
    by : (b : Bool) → is_covered p ≡ b → b ≡ false
    by false so = refl
    by true so = absurd (clash (sym is ∙ more so))
set_opens (p ∷ ps) zero (suc j) v more is = is
set_opens (p ∷ ps) (suc i) zero v more is = is
set_opens (p ∷ ps) (suc i) (suc j) v more is = set_opens ps i j v more is

-- ---- a peer answers

module _ (a b : Around) (entry : Entry) (me : b.me ≡ a.me) (history : b.history ≡ a.history ++ entry ∷ []) (peer : NodeNo) (tid : Tid) (up_to : ℕ) (told : List NodeNo) (act : entry.act ≡ acts.Counted tid peer up_to)
    (same : (t : Tid) (request : Outstanding) → IsCommanded a t request → IsCommanded b t request) where
  answers_nobody : (t : Tid) (requests : List Outstanding) → Every (WaitsOn a b t (entry ∷ [])) requests
  answers_nobody t = every_each (WaitsOn a b t (entry ∷ [])) (λ request other c. (rw act refl, same t request c))

  counted_left : LeavesWaits (participant.counted tid.home peer up_to told)
  counted_left = record { opens = λ p q h. not_from_false _ (set_opens p.engage.peers peer.0 q.0 (new p) (more p) (not_true _ h)); sent = λ p q. index_alike (λ (x : PeerPart). x.sent) p.engage.peers peer.0 q.0 (new p) no_peer refl; waiting = λ p. refl; outcome = λ p h. h }
    where
      new : Participant → PeerPart
      new p = record (peer_of p.engage peer) { covered = max (peer_of p.engage peer).covered up_to }

      rise : (s c u : ℕ) → nat_le s c ≡ true → nat_le s (max c u) ≡ true
      rise s c u e = grind (arith, nat_tests, e)

      more : (p : Participant) → is_covered (peer_of p.engage peer) ≡ true → is_covered (new p) ≡ true
      more p e = rise (peer_of p.engage peer).sent (peer_of p.engage peer).covered up_to e

  pub waits_counted : (m : Manager) → Waits a m → Waits b (tm.counted tid peer up_to told m)
  waits_counted m = waits_changed a b tid (participant.counted tid.home peer up_to told) m others own
    where
      others : (t : Tid) (p : Participant) → Apart tid t → tm.part_of t m ≡ Some p → StandsSo a t p → StandsSo b t p
      others t p far known = so_on a b (entry ∷ []) me history t p (λ q open_to. none q (entry.node.0 == a.me.0) (peer.0 == q.0)) (λ undecided. answers_nobody t p.waiting)
        where
          none : (q : NodeNo) (x y : Bool) → ((x && is_count_of t q (peer_of p.engage q).sent entry.act) || false) ≡ false
          none q x y = rw (act, far.by) (of x)
            where
              of : (x : Bool) → ((x && false) || false) ≡ false
              of true = refl
              of false = refl

      own : (p : Participant) → tm.part_of tid m ≡ Some p → StandsSo a tid p → StandsSo b tid (participant.counted tid.home peer up_to told p)
      own p known s = so_on a b (entry ∷ []) me history tid (participant.counted tid.home peer up_to told p) none (λ undecided. answers_nobody tid p.waiting) (so_left (participant.counted tid.home peer up_to told) counted_left a tid p s)
        where
          now : Engage
          now = engage.covered peer up_to p.engage

          above : (s c u : ℕ) → nat_le s (max c u) ≡ false → nat_le s u ≡ false
          above s c u e = grind (arith, nat_tests, e)

          -- what is open to that peer still was sent after what it answered for
          later : (q : NodeNo) → is_open_to q now ≡ true → peer.0 ≡ q.0 → nat_le (peer_of now q).sent up_to ≡ false
          later q open_to is = subst (λ (n : NodeNo). nat_le (peer_of now n).sent up_to ≡ false) (node_is peer q is) (at (subst (λ (n : NodeNo). is_open_to n now ≡ true) (sym (node_is peer q is)) open_to))
            where
              new : PeerPart
              new = record (peer_of p.engage peer) { covered = max (peer_of p.engage peer).covered up_to }

              at : is_open_to peer now ≡ true → nat_le (peer_of now peer).sent up_to ≡ false
              at open_now =
                  let there : peer_of now peer ≡ new = set_above p.engage.peers peer.0 new (not_true _ open_now) in
                  subst (λ (x : PeerPart). nat_le x.sent up_to ≡ false) (sym there) (above (peer_of p.engage peer).sent (peer_of p.engage peer).covered up_to (not_true _ (subst (λ (x : PeerPart). not (is_covered x) ≡ true) there open_now)))

          none : (q : NodeNo) → is_open_to q now ≡ true → ((entry.node.0 == a.me.0) && is_count_of tid q (peer_of now q).sent entry.act || false) ≡ false
          none q open_to = rw act (by (peer.0 == q.0) refl (entry.node.0 == a.me.0) (same_tid tid tid))
            where
              by : (near : Bool) → (peer.0 == q.0) ≡ near → (x y : Bool) → ((x && ((y && near) && nat_le (peer_of now q).sent up_to)) || false) ≡ false
              by true is x y = rw (later q open_to (eqb-true peer.0 q.0 is)) (of x y)
                where
                  of : (x y : Bool) → ((x && ((y && true) && false)) || false) ≡ false
                  of true true = refl
                  of true false = refl
                  of false y = refl
              by false is x y = of x y
                where
                  of : (x y : Bool) → ((x && ((y && false) && nat_le (peer_of now q).sent up_to)) || false) ≡ false
                  of true true = refl
                  of true false = refl
                  of false y = refl

-- ---- a request is issued: its entry stands last

module _ (a : Around) (before : List Entry) (entry : Entry) (at : entry.node.0 ≡ a.me.0) (last : a.history ≡ before ++ entry ∷ []) (tid : Tid) (request : Outstanding) (issuer : Member) (server : issuer.server ≡ request.issuer)
    (op : Op) (act : entry.act ≡ acts.Issue tid issuer request.member request.number op) (client : (request.issuer.0 == files_no) ≡ false → IsCommanded a tid request × (is_client_no request.issuer.0 ≡ true)) where
  held : IsHeld a tid request
  held = record {
    stands = subst (λ (h : List Entry). stands_awaited tid request.member.node request.issuer.0 h ≡ true) (sym last) (awaits_last tid request.member.node request.issuer.0 before entry stands);
    commanded = λ other. (client other).0;
  }
    where
      by : (f : Bool) → (request.issuer.0 == files_no) ≡ f → (f || (is_client_no request.issuer.0 && true)) ≡ true
      by true is = refl
      by false is = rw ((client is).1) refl

      stands : is_awaited tid request.member.node request.issuer.0 entry.act [] ≡ true
      stands = rw (act, server, same_tid-self tid, same_self request.member.node.0, same_self request.issuer.0) (by (request.issuer.0 == files_no) refl)

  -- to a server here it is not counted
  own_here : (p : Participant) → StandsSo a tid p → StandsSo a tid (participant.issued request p)
  own_here p s = record { uncounted = s.uncounted; awaited = λ undecided. every_append (IsHeld a tid) p.waiting (request ∷ []) (s.awaited undecided) (held, tt) }

  pub waits_issued : (m : Manager) → Waits a m → Waits a (tm.issued tid request m)
  waits_issued m = waits_changed a a tid (participant.issued request) m (λ t p far known s. s) (λ p known. own_here p)

  own_away : (p : Participant) → next_sent request.member.node p.engage ≡ Some request.number → StandsSo a tid p → StandsSo a tid (participant.sent request.member.node (participant.issued request p))
  own_away p next s = record { uncounted = sends (next_after ((peer_of p.engage to).sent == last_number) refl next); awaited = (own_here p s).awaited }
    where
      to : NodeNo
      to = request.member.node

      next_after : (b : Bool) → ((peer_of p.engage to).sent == last_number) ≡ b → (if b then None else Some ((peer_of p.engage to).sent + 1)) ≡ Some request.number → (((peer_of p.engage to).sent == last_number) ≡ false) × ((peer_of p.engage to).sent + 1 ≡ request.number)
      next_after true is e = absurd (cc e)
      next_after false is e = (is, of_some e)

      new : PeerPart
      new = record (peer_of p.engage to) { sent = (peer_of p.engage to).sent + 1 }

      last_stands : stands_uncounted tid to a.me request.number a.history ≡ true
      last_stands = subst (λ (h : List Entry). stands_uncounted tid to a.me request.number h ≡ true) (sym last) (stands_last tid to a.me request.number before entry
          (rw (act, at, same_tid-self tid, same_self request.member.node.0, same_self a.me.0, same_self request.number) refl))

      sends : (((peer_of p.engage to).sent == last_number) ≡ false) × ((peer_of p.engage to).sent + 1 ≡ request.number) → (q : NodeNo) → is_open_to q (engage.sent to p.engage) ≡ true → stands_uncounted tid q a.me (peer_of (engage.sent to p.engage) q).sent a.history ≡ true
      sends both q = subst (λ (e : Engage). is_open_to q e ≡ true → stands_uncounted tid q a.me (peer_of e q).sent a.history ≡ true) (sym (ap (λ (b : Bool). if b then p.engage else with_peer to new p.engage) both.0)) (by (to.0 == q.0) refl)
        where
          by : (b : Bool) → (to.0 == q.0) ≡ b → is_open_to q (with_peer to new p.engage) ≡ true → stands_uncounted tid q a.me (peer_of (with_peer to new p.engage) q).sent a.history ≡ true
          by true is = subst (λ (n : NodeNo). is_open_to n (with_peer to new p.engage) ≡ true → stands_uncounted tid n a.me (peer_of (with_peer to new p.engage) n).sent a.history ≡ true) (node_is to q (eqb-true to.0 q.0 is))
              (λ open_to. subst (λ (x : PeerPart). stands_uncounted tid to a.me x.sent a.history ≡ true) (sym (set_above p.engage.peers to.0 new (not_true _ open_to))) (subst (λ (k : ℕ). stands_uncounted tid to a.me k a.history ≡ true) (sym both.1) last_stands))
          by false is = subst (λ (x : PeerPart). not (is_covered x) ≡ true → stands_uncounted tid q a.me x.sent a.history ≡ true) (sym (index_apart p.engage.peers to.0 q.0 new no_peer (λ e. eqb-false to.0 q.0 is e))) (s.uncounted q)

  pub waits_sent : (m : Manager) → tm.sent_as tid request.member.node m ≡ Some request.number → Waits a m → Waits a (tm.sent tid request.member.node (tm.issued tid request m))
  waits_sent m next w = subst (Waits a) (sym (part_twice tid (participant.sent request.member.node) (participant.issued request) m))
      (waits_changed a a tid (λ (p : Participant). participant.sent request.member.node (participant.issued request p)) m (λ t p far known s. s)
      (λ p known. own_away p (sym (ap (λ (o : Option Participant). elim o [ None ↦ None | Some q ↦ next_sent request.member.node q.engage ]) known) ∙ next)) w)

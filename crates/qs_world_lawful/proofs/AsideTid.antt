-- What an entry of another node makes of a transaction leaves what is held of it at a node: what its members did, what it sent and what it
-- learnt; more may wait for it, and a note that counts as served was issued.
use Rattle.qs_world_lawful.proofs.Words.{◌≡◌, ◌⊎◌, inl, inr, ℕ, ◌≤◌, ◌==◌, ◌||◌, not, Bool, true, false, List, [], ◌∷◌, ◌++◌, length, map, Some, None, refl, sym, ap, subst, ◌∙◌, is_some, suc, filter, list_any, ClientNo, NodeNo, Outcome, ServerNo, Tid, Delivery, TransactionValue, begun, has_note, is_commit, is_open, is_outcome, is_standing, is_start, learnt_abort, requests_at, sent_in, sent_on, Cell, Part, Request, RequestNo, client_no, ServersValue, awaits_note, begun_participant, has_noted}
use Rattle.qs_world_lawful.proofs.Words.{member_of, MemberPart, has_issued, IsEmpty, at_server, is_held, part_in, HoldsHome, HoldsMember, HoldsTid, StandsOnce, HoldsWaits, IsWithin, op_in, waiting_ops, eqb-self, le_suc, or-true}
use Rattle.qs_base.specs.declared.identifiers.Outcome.TheVariants as outcomes
use Rattle.qs_book_machine.specs.Clauses.{note_text}
use Rattle.qs_book_machine.specs.Transaction.{part_of}
use Rattle.qs_book_machine.specs.declared.transaction.Cell.TheVariants as cells
use Rattle.qs_tm.specs.Members as rules
use Rattle.qs_world_lawful.specs.Aside.{HoldsIssuedOf}
use Rattle.qs_world_lawful.specs.Face.{Face}
use Rattle.qs_world_lawful.proofs.Begins.{begun_tid, new_member, new_peer}
use Rattle.qs_world_lawful.proofs.Faces.{filter_last, filter_more}
use Rattle.qs_world_lawful.proofs.Parts.{member_like}
use Rattle.qs_world_lawful.proofs.TurnedRequests.{AtNumber, OneServed, at_number}
use Rattle.qs_world_lawful.proofs.Turning.{IsFar, Turns}
use Rattle.qs_world_lawful.proofs.Within.{map_last, within_right}

module _ (acting now place : ℕ) (here : NodeNo) (i : ℕ) (tid : Tid) (tx later : TransactionValue) (t : Turns acting now place tid tx later) (far : (here.0 == acting) ≡ false) where
  pub other : (j : ℕ) → IsFar acting now here j
  other j = rw far refl

  pub part_same : (server : ServerNo) (j : ℕ) → part_of later (record { node = here; server = server }) j ≡ part_of tx (record { node = here; server = server }) j
  part_same server j = t.parts (record { node = here; server = server }) j (other j)

  pub starts_same : (server : ServerNo) (j served covers : ℕ) → list_any (is_start (record { node = here; server = server }) j served covers) later.starts ≡ list_any (is_start (record { node = here; server = server }) j served covers) tx.starts
  starts_same server j served covers = t.starts (record { node = here; server = server }) j served covers (other j)

  sent_same : (peer : NodeNo) → sent_in i (sent_on later (record { from = here; to = peer })) ≡ sent_in i (sent_on tx (record { from = here; to = peer }))
  sent_same peer = by (t.sent (record { from = here; to = peer }) i (other i))
    where
      by : (sent_in i (sent_on later (record { from = here; to = peer })) ≡ sent_in i (sent_on tx (record { from = here; to = peer }))) ⊎ (((here.0 == acting) ≡ true) × (sent_in i (sent_on later (record { from = here; to = peer })) ≡ 0))
          → sent_in i (sent_on later (record { from = here; to = peer })) ≡ sent_in i (sent_on tx (record { from = here; to = peer }))
      by (inl same) = same
      by (inr none) = absurd (cc (far, none.0))

  aborts_same : learnt_abort later here i ≡ learnt_abort tx here i
  aborts_same = rw (part_same (record { 0 = 0 }) i, part_same (record { 0 = 1 }) i, part_same (record { 0 = 2 }) i, part_same (record { 0 = 4 }) i, part_same (record { 0 = 5 }) i, part_same (record { 0 = 6 }) i) refl

  commit_not : (c : Cell) → is_commit c ≡ true → is_open c ≡ false
  commit_not cells.Commit e = refl
  commit_not cells.Open e = absurd (cc e)
  commit_not cells.Abort e = refl

  pub held_back : (face : Face) → is_held later face ≡ true → is_held tx face ≡ true
  held_back face h = by (is_commit tx.cell) refl
    where
      by : (b : Bool) → is_commit tx.cell ≡ b → is_held tx face ≡ true
      by false e = rw e (or-true (is_some face.known))
      by true e = ap (λ (c : Cell). is_some face.known || not (is_commit c)) (sym (t.decided (commit_not tx.cell e))) ∙ h

  shut : (o : Outcome) (c : Cell) → is_outcome o c ≡ true → is_open c ≡ false
  shut o cells.Commit e = refl
  shut o cells.Abort e = refl
  shut outcomes.Commit cells.Open e = absurd (cc e)
  shut outcomes.Abort cells.Open e = absurd (cc e)

  pub asked_on : is_some tx.asked ≡ true → is_some later.asked ≡ true
  asked_on is = by t.asked
    where
      by : (later.asked ≡ tx.asked) ⊎ (((tid.home.0 == acting) ≡ true) × ((tx.asked ≡ None) × (later.asked ≡ Some place))) → is_some later.asked ≡ true
      by (inl same) = ap is_some same ∙ is
      by (inr new) = ap is_some new.1.1

  -- ---- what waits here stands

  length_more : (xs : List Request) (x : Request) → length (xs ++ x ∷ []) ≡ suc (length xs)
  length_more [] x = refl
  length_more (y ∷ ys) x = ap suc (length_more ys x)

  not_served : (at : RequestNo) → at.link.to ≡ here → OneServed acting tx later at → ⊥
  not_served at to s = cc (far, near)
    where
      near : (here.0 == acting) ≡ true
      near = subst (λ (n : NodeNo). (n.0 == acting) ≡ true) (sym s.to ∙ to) (subst (λ (k : ℕ). (k == acting) ≡ true) (sym s.own) (eqb-self acting))

  pub queued_on : (server : ServerNo) (at : RequestNo) → at.link.to ≡ here → (n : ℕ) → n ≤ length (filter (is_standing (at_server here server)) (requests_at tx at)) → n ≤ length (filter (is_standing (at_server here server)) (requests_at later at))
  queued_on server at to n h = by (at_number acting now place tx later t.requests at)
    where
      by : AtNumber acting tx later at → n ≤ length (filter (is_standing (at_server here server)) (requests_at later at))
      by (inl same) = subst (λ (rs : List Request). n ≤ length (filter (is_standing (at_server here server)) rs)) (sym same) h
      by (inr (inr s)) = absurd (not_served at to s)
      by (inr (inl m)) = subst (λ (rs : List Request). n ≤ length (filter (is_standing (at_server here server)) rs)) (sym m.requests) (of (is_standing (at_server here server) m.request) refl)
        where
          of : (b : Bool) → is_standing (at_server here server) m.request ≡ b → n ≤ length (filter (is_standing (at_server here server)) (requests_at tx at ++ m.request ∷ []))
          of false is = rw (filter_more (is_standing (at_server here server)) (requests_at tx at) m.request is) h
          of true is = rw (filter_last (is_standing (at_server here server)) (requests_at tx at) m.request is, length_more (filter (is_standing (at_server here server)) (requests_at tx at)) m.request) (le_suc n _ h)

  pub within_on : (server : ServerNo) (at : RequestNo) → at.link.to ≡ here → (ops : List _) → IsWithin ops (map op_in (filter (is_standing (at_server here server)) (requests_at tx at))) → IsWithin ops (map op_in (filter (is_standing (at_server here server)) (requests_at later at)))
  within_on server at to ops h = by (at_number acting now place tx later t.requests at)
    where
      by : AtNumber acting tx later at → IsWithin ops (map op_in (filter (is_standing (at_server here server)) (requests_at later at)))
      by (inl same) = subst (λ (rs : List Request). IsWithin ops (map op_in (filter (is_standing (at_server here server)) rs))) (sym same) h
      by (inr (inr s)) = absurd (not_served at to s)
      by (inr (inl m)) = subst (λ (rs : List Request). IsWithin ops (map op_in (filter (is_standing (at_server here server)) rs))) (sym m.requests) (of (is_standing (at_server here server) m.request) refl)
        where
          of : (b : Bool) → is_standing (at_server here server) m.request ≡ b → IsWithin ops (map op_in (filter (is_standing (at_server here server)) (requests_at tx at ++ m.request ∷ [])))
          of false is = rw (filter_more (is_standing (at_server here server)) (requests_at tx at) m.request is) h
          of true is = rw (filter_last (is_standing (at_server here server)) (requests_at tx at) m.request is, map_last op_in (filter (is_standing (at_server here server)) (requests_at tx at)) m.request) (within_right ops _ (op_in m.request) h)

  -- ---- all that is held of it

  pub tid_on : (face : Face) → HoldsIssuedOf here i tid tx face → HoldsTid here i tid tx face → HoldsTid here i tid later face
  tid_on face issued h = record {
    sized = h.sized;
    members = λ held server kept. member_like tx later (at_server here server) i (member_of (part_in face) server) (part_same server i) (λ served covers. starts_same server i served covers) (h.members (held_back face held) server kept);
    asked = λ is. asked_on (h.asked is);
    outcome = λ o is. ap (is_outcome o) (t.decided (shut o tx.cell (h.outcome o is))) ∙ h.outcome o is;
    silent = λ is. h.silent (sym aborts_same ∙ is);
    local = sent_same here ∙ h.local;
    sent = λ held peer apart. sent_same peer ∙ h.sent (held_back face held) peer apart;
    pending = ap (λ (p : Part). p.pending) (part_same rules.files_no i) ∙ h.pending;
    noted = λ held count low is. noted_on held count low (t.noted here i (note_text tid here.0 count) is);
    queued = λ server at to. queued_on server at to _ (h.queued server at to);
    made = λ client small. ap (λ (p : Part). p.made) (part_same (record { 0 = client_no client.0 }) i) ∙ h.made client small;
    yielded = λ client small. ap (λ (p : Part). p.yielded) (part_same (record { 0 = client_no client.0 }) i) ∙ h.yielded client small;
    home = λ home is. home_on home (h.home home is);
  }
    where
      noted_on : is_held later face ≡ true → (count : ℕ) → 1 ≤ count → (has_note tx (record { node = here; inc = i; text = note_text tid here.0 count }) ≡ true) ⊎ (has_issued tx here i (note_text tid here.0 count) ≡ true)
          → (has_noted count (part_in face) ≡ true) ⊎ (awaits_note (part_in face) ≡ true)
      noted_on held count low (inl was) = h.noted (held_back face held) count low was
      noted_on held count low (inr some) = issued (held_back face held) count low some

      home_on : tid.home ≡ here → HoldsHome tx face.known → HoldsHome later face.known
      home_on home h = record {
        runs = λ e. h.runs (sym (ap is_open same) ∙ e);
        undecided = λ part known none. ap is_open same ∙ h.undecided part known none;
        asked = λ part known e. ap is_some asked_same ∙ h.asked part known (sym (ap is_open same) ∙ e);
      }
        where
          away : (tid.home.0 == acting) ≡ false
          away = ap (λ (n : NodeNo). n.0 == acting) home ∙ far

          same : later.cell ≡ tx.cell
          same = t.away away

          asked_same : later.asked ≡ tx.asked
          asked_same = by t.asked
            where
              by : (later.asked ≡ tx.asked) ⊎ (((tid.home.0 == acting) ≡ true) × ((tx.asked ≡ None) × (later.asked ≡ Some place))) → later.asked ≡ tx.asked
              by (inl e) = e
              by (inr e) = absurd (cc (away, e.0))

  pub issued_on : (face : Face) → HoldsIssuedOf here i tid tx face → HoldsIssuedOf here i tid later face
  issued_on face issued held count low is = issued (held_back face held) count low (sym (t.issued here i (note_text tid here.0 count) (other i)) ∙ is)

  pub waits_on : StandsOnce later → (waiting : ServerNo → List Delivery) (servers : ServersValue) → HoldsWaits here i tid tx waiting servers → HoldsWaits here i tid later waiting servers
  waits_on once waiting servers h = record {
    whole = once.whole;
    due = λ busy. ap (λ (p : Part). p.due) (part_same rules.files_no i) ∙ h.due busy;
    within = λ server at to. within_on server at to (waiting_ops at (waiting server)) (h.within server at to);
    once = λ server at clean. once.once (at_server here server) at clean;
    fits = λ server at to. once.fits (at_server here server) at;
  }

-- ---- a transaction that another node begins

pub begun_away : (here : NodeNo) (inc : ℕ) (tid : Tid) (label : List ℕ) (client : ClientNo) (ticks : ℕ) (face : Face) → IsEmpty face → (tid.home ≡ here → ⊥) → HoldsTid here inc tid (begun label client ticks) (record face { known = None })
begun_away here inc tid label client ticks face none far = record {
  sized = refl;
  members = λ held server kept. subst (λ (m : MemberPart). HoldsMember (begun label client ticks) (at_server here server) inc m) (new_member true server ∙ sym (new_member false server)) (b.members refl server kept);
  asked = λ is. absurd (cc is);
  outcome = λ o is. absurd (cc is);
  silent = λ is. absurd (cc is);
  local = b.local;
  sent = λ held peer apart. sym (ap (λ p. p.sent) (new_peer false peer));
  pending = b.pending;
  noted = λ held count some is. absurd (cc is);
  queued = b.queued;
  made = b.made;
  yielded = b.yielded;
  home = λ at. absurd (far at);
}
  where
    b : HoldsTid here inc tid (begun label client ticks) (record face { known = Some (begun_participant client 0) })
    b = begun_tid here inc tid label client ticks 0 face none

-- A restart of another node leaves what is held of each transaction at a node.
use Rattle.qs_world_lawful.proofs.Words.{◌≡◌, ℕ, ◌≤◌, ◌==◌, ◌||◌, not, Bool, true, false, List, length, map, refl, sym, ap, subst, ◌∙◌, is_some, filter, list_any, lookup, is_at, member_cmp, Member, NodeNo, Outcome, ServerNo, Tid, Delivery, TransactionValue, is_commit, is_crossed, is_empty, is_open, is_outcome, is_standing, is_start, learnt_abort, requests_at, requests_in, sent_in, sent_on, Cell, Link, Noted, Part, Request, RequestNo, client_no, ServersValue, member_of, at_server, is_held, part_in}
use Rattle.qs_world_lawful.proofs.Words.{HoldsHome, HoldsTid, AreFor, HoldsWaits, IsWithin, op_in, waiting_ops, or-true}
use Rattle.qs_base.specs.declared.identifiers.Outcome.TheVariants as outcomes
use Rattle.qs_book_machine.specs.Clauses.{note_text}
use Rattle.qs_book_machine.specs.Transaction.{part_of}
use Rattle.qs_book_machine.specs.Transaction as transaction
use Rattle.qs_book_machine.specs.declared.transaction.Cell.TheVariants as cells
use Rattle.qs_tm.specs.Members as rules
use Rattle.qs_world_lawful.specs.Face.{Face, is_numbered}
use Rattle.qs_world_lawful.proofs.Parts.{member_like}
use Rattle.qs_world_lawful.proofs.RestartGoes.{Goes, IsElsewhere}

module _ (risen inc place : ℕ) (here : NodeNo) (i : ℕ) (tid : Tid) (tx later : TransactionValue) (g : Goes risen (IsElsewhere risen inc) place tid tx later) (far : (here.0 == risen) ≡ false) where
  -- its members at this node
  part_same : (server : ServerNo) → part_of later (record { node = here; server = server }) i ≡ part_of tx (record { node = here; server = server }) i
  part_same server = g.parts (record { node = here; server = server }) i (rw far refl)

  sent_same : (link : Link) → sent_on later link ≡ sent_on tx link
  sent_same link = ap (λ sent. lookup (is_at (transaction.link_cmp link)) sent) g.sent

  requests_same : (at : RequestNo) → requests_at later at ≡ requests_at tx at
  requests_same at = ap (λ requests. requests_in requests at) g.requests

  noted_same : (note : Noted) → transaction.has_note later note ≡ transaction.has_note tx note
  noted_same note = ap (λ noted. list_any (is_at (transaction.noted_cmp note)) noted) g.noted

  crossed_same : (member : Member) → is_crossed later member ≡ is_crossed tx member
  crossed_same member = ap (λ crossed. is_some (lookup (is_at (member_cmp member)) crossed)) g.crossed

  aborts_same : learnt_abort later here i ≡ learnt_abort tx here i
  aborts_same = rw (part_same (record { 0 = 0 }), part_same (record { 0 = 1 }), part_same (record { 0 = 2 }), part_same (record { 0 = 4 }), part_same (record { 0 = 5 }), part_same (record { 0 = 6 })) refl

  open_not : (c : Cell) → is_open c ≡ true → is_commit c ≡ false
  open_not cells.Open e = refl
  open_not cells.Commit e = absurd (cc e)
  open_not cells.Abort e = refl

  held_back : (face : Face) → is_held later face ≡ true → is_held tx face ≡ true
  held_back face h = by (is_open tx.cell) refl
    where
      by : (b : Bool) → is_open tx.cell ≡ b → is_held tx face ≡ true
      by true e = rw (open_not tx.cell e) (or-true (is_some face.known))
      by false e = ap (λ (c : Cell). is_some face.known || not (is_commit c)) (sym (g.decided e)) ∙ h

  shut : (o : Outcome) (c : Cell) → is_outcome o c ≡ true → is_open c ≡ false
  shut o cells.Commit e = refl
  shut o cells.Abort e = refl
  shut outcomes.Commit cells.Open e = absurd (cc e)
  shut outcomes.Abort cells.Open e = absurd (cc e)

  pub tid_on : (face : Face) → HoldsTid here i tid tx face → HoldsTid here i tid later face
  tid_on face h = record {
    sized = h.sized;
    members = λ held server kept. member_like tx later (at_server here server) i (member_of (part_in face) server) (part_same server) (λ served covers. ap (λ starts. list_any (is_start (at_server here server) i served covers) starts) g.starts) (h.members (held_back face held) server kept);
    asked = λ is. ap is_some g.asked ∙ h.asked is;
    outcome = λ o is. ap (is_outcome o) (g.decided (shut o tx.cell (h.outcome o is))) ∙ h.outcome o is;
    silent = λ is. h.silent (sym aborts_same ∙ is);
    local = ap (sent_in i) (sent_same (record { from = here; to = here })) ∙ h.local;
    sent = λ held peer apart. ap (sent_in i) (sent_same (record { from = here; to = peer })) ∙ h.sent (held_back face held) peer apart;
    pending = ap (λ (p : Part). p.pending) (part_same rules.files_no) ∙ h.pending;
    noted = λ held count low is. h.noted (held_back face held) count low (sym (noted_same (record { node = here; inc = i; text = note_text tid here.0 count })) ∙ is);
    queued = λ server at to. subst (λ (rs : List Request). length (filter (is_numbered at) (face.waiting server)) ≤ length (filter (is_standing (at_server here server)) rs)) (sym (requests_same at)) (h.queued server at to);
    made = λ client small. ap (λ (p : Part). p.made) (part_same (record { 0 = client_no client.0 })) ∙ h.made client small;
    yielded = λ client small. ap (λ (p : Part). p.yielded) (part_same (record { 0 = client_no client.0 })) ∙ h.yielded client small;
    home = λ home is. home_on home (h.home home is);
  }
    where
      home_on : tid.home ≡ here → HoldsHome tx face.known → HoldsHome later face.known
      home_on home h = record {
        runs = λ e. h.runs (sym (ap is_open same) ∙ e);
        undecided = λ part known none. ap is_open same ∙ h.undecided part known none;
        asked = λ part known e. ap is_some g.asked ∙ h.asked part known (sym (ap is_open same) ∙ e);
      }
        where
          same : later.cell ≡ tx.cell
          same = g.away (ap (λ (n : NodeNo). n.0 == risen) home ∙ far)

  pub waits_on : (whole : is_commit later.cell ≡ true → is_empty later.crossed ≡ true) (waiting : ServerNo → List Delivery) (servers : ServersValue) → HoldsWaits here i tid tx waiting servers → HoldsWaits here i tid later waiting servers
  waits_on whole waiting servers h = record {
    whole = whole;
    due = λ busy. ap (λ (p : Part). p.due) (part_same rules.files_no) ∙ h.due busy;
    within = λ server at to. subst (λ (rs : List Request). IsWithin (waiting_ops at (waiting server)) (map op_in (filter (is_standing (at_server here server)) rs))) (sym (requests_same at)) (h.within server at to);
    once = λ server at clean. subst (λ (rs : List Request). length (filter (is_standing (at_server here server)) rs) ≤ 1) (sym (requests_same at)) (h.once server at (sym (crossed_same (at_server here server)) ∙ clean));
    fits = λ server at to. subst (λ (rs : List Request). AreFor server (map op_in (filter (is_standing (at_server here server)) rs))) (sym (requests_same at)) (h.fits server at to);
  }

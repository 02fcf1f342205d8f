-- What serving is given: a note that is served is waited for, and so is the reply where it was issued here.
use Rattle.qs_world_lawful.proofs.Words.{◌≡◌, ◌⊎◌, inl, inr, ℕ, ◌+◌, ◌==◌, ◌≤◌, Bool, true, false, List, [], ◌∷◌, ◌++◌, Option, Some, None, refl, sym, ap, subst, ◌∙◌, list_any, is_at, ◌||◌, if◌then◌else◌, ClientNo, Member, NodeNo, ServerNo, Tid, last_number, same_node, Delivery, Act, BookValue, find_transaction, inc_at, loan_to, borrower_at, TransactionValue, has_note, lent, noted_cmp, served_in, Noted, Request, RequestNo, Reply, is_client, member_here, enter_serve, lent_to, make_loan, reply_here}
use Rattle.qs_world_lawful.proofs.Words.{Work, change_server, here, with_queues, Setting, after_serving, class_here, is_told_class, awaits_note, has_noted, is_count, member_of, waiting_for, Participant, HoldsNotes, awaits_count, has_issued, has_note_in, is_note_with, book_at, at_server, AreNoted, MayServe, AreApart, CanCount, Stands}
use Rattle.qs_ipc.specs.Ipc as ipc
use Rattle.qs_book_journal.specs.declared.entry.Act.TheVariants as acts
use Rattle.qs_book_machine.specs.Book.{is_done}
use Rattle.qs_book_machine.specs.Clauses.{note_text}
use Rattle.qs_node_step.specs.State.{NodeValue}
use Rattle.qs_tm.specs.Manager as tm
use Rattle.qs_tm.specs.Participant as participant
use Rattle.qs_world_lawful.specs.Given.{MayReply, replied}
use Rattle.qs_world_lawful.proofs.Faces.{part_changed, part_unknown}
use Rattle.qs_world_lawful.proofs.GivenReplies.{awaits_some, replied_notes}
use Rattle.qs_world_lawful.proofs.Growing.{book_now}
use Rattle.qs_world_lawful.proofs.LearningAll.{stands}
use Rattle.qs_world_lawful.proofs.NotesServed.{served_issued, served_note}
use Rattle.qs_world_lawful.proofs.ServingNext.{after_serve, loan_alike, served_waiting}
use Rattle.qs_world_lawful.proofs.Steps.{tx_changed}
use Rattle.qs_world_lawful.proofs.Truths.{of_some}

pub served_noted : (server : ServerNo) (part : Participant) → (participant.served server part).noted ≡ part.noted
served_noted server part = by ((member_of part server).served == last_number)
  where
    by : (b : Bool) → (if b then part else record (participant.with_member server (record (member_of part server) { served = (member_of part server).served + 1; fresh = true }) part) { involved = part.involved || is_told_class (class_here server) }).noted ≡ part.noted
    by true = refl
    by false = refl

-- the notes of a transaction, as they are seen
pub record SameNotes (a b : TransactionValue) : Type 0 where
  pub noted : a.noted ≡ b.noted
  pub requests : a.requests ≡ b.requests

-- after a serve and its loan
module _ (stamp : ℕ) (before : BookValue) (work : Work) (server : ServerNo) (delivery : Delivery) (reply : Reply) (tx : TransactionValue) (found : find_transaction (book_at stamp before work) delivery.tid ≡ Some tx) where
  abbrev at : RequestNo
  at = record { link = record { from = delivery.from; to = work.node.setting.node }; number = delivery.number }

  abbrev act : Act
  act = acts.Serve delivery.tid (member_here work server) delivery.from delivery.number reply

  abbrev entered : Work
  entered = enter_serve server delivery reply work

  abbrev inc : ℕ
  inc = inc_at (book_at stamp before work) (record { 0 = work.node.setting.node.0 })

  abbrev served_tx : TransactionValue
  served_tx = served_in at (member_here work server) inc stamp (is_done reply) tx

  setting_is : entered.node.setting ≡ work.node.setting
  setting_is = by (is_client server)
    where
      by : (b : Bool) → (if b then work else change_server server (λ value. after_serving value delivery.tid delivery.op reply) work).node.setting ≡ work.node.setting
      by true = refl
      by false = refl

  entries_are : entered.out.entries ≡ work.out.entries ++ act ∷ []
  entries_are = by (is_client server)
    where
      by : (b : Bool) → (if b then work else change_server server (λ value. after_serving value delivery.tid delivery.op reply) work).out.entries ++ act ∷ [] ≡ work.out.entries ++ act ∷ []
      by true = refl
      by false = refl

  found_served : find_transaction (book_at stamp before entered) delivery.tid ≡ Some served_tx
  found_served = ap (λ (b : BookValue). find_transaction b delivery.tid) (book_now stamp before work entered act setting_is entries_are)
      ∙ tx_changed delivery.tid (served_in at (member_here work server) inc stamp (is_done reply)) (book_at stamp before work).transactions tx found

  abbrev now_inc : ℕ
  now_inc = inc_at (book_at stamp before entered) (record { 0 = (here entered).0 })

  -- the loan changes no note
  lent_found : (m : Option Member) → (tx3 : TransactionValue) × (find_transaction (loan_to now_inc delivery.tid m (book_at stamp before entered)) delivery.tid ≡ Some tx3) × SameNotes tx3 served_tx
  lent_found None = (served_tx, found_served, record { noted = refl; requests = refl })
  lent_found (Some member) = (lent member now_inc served_tx, tx_changed delivery.tid (lent member now_inc) (book_at stamp before entered).transactions served_tx found_served, record { noted = refl; requests = refl })

  pub found_lent : (o : Option ClientNo) → (tx3 : TransactionValue) × (find_transaction (book_at stamp before (make_loan delivery.tid o entered)) delivery.tid ≡ Some tx3) × SameNotes tx3 served_tx
  found_lent None = (served_tx, found_served, record { noted = refl; requests = refl })
  found_lent (Some client) = let l : (tx3 : TransactionValue) × (find_transaction (loan_to now_inc delivery.tid (borrower_at client (here entered).0) (book_at stamp before entered)) delivery.tid ≡ Some tx3) × SameNotes tx3 served_tx = lent_found (borrower_at client (here entered).0) in
      (l.0, ap (λ (b : BookValue). find_transaction b delivery.tid) (book_now stamp before entered (make_loan delivery.tid (Some client) entered) (acts.Loan delivery.tid client) refl refl) ∙ l.1, l.2)

-- what is noted of one transaction is noted of another with the same notes
pub notes_alike : (here : NodeNo) (inc : ℕ) (tid : Tid) (a b : TransactionValue) (p q : Participant) → SameNotes a b → q.noted ≡ p.noted → q.waiting ≡ p.waiting → HoldsNotes here inc tid b p → HoldsNotes here inc tid a q
notes_alike here inc tid a b p q same noted waiting h = record {
  issued = λ count one is. turned count (h.issued count one (ap (λ (rs : List (RequestNo × List Request)). list_any (has_note_in here inc (note_text tid here.0 count)) rs) (sym same.requests) ∙ is));
  served = λ count one is. ap (λ (rs : List (RequestNo × List Request)). list_any (has_note_in here inc (note_text tid here.0 count)) rs) same.requests
      ∙ h.served count one (ap (λ (ns : List Noted). list_any (is_at (noted_cmp (record { node = here; inc = inc; text = note_text tid here.0 count }))) ns) (sym same.noted) ∙ is);
}
  where
    turned : (count : ℕ) → (has_noted count p ≡ true) ⊎ (awaits_count count p ≡ true) → (has_noted count q ≡ true) ⊎ (awaits_count count q ≡ true)
    turned count (inl is) = inl (ap (list_any (is_count count)) noted ∙ is)
    turned count (inr is) = inr (ap (list_any (is_note_with count)) waiting ∙ is)

-- after a serve
pub notes_served : (here : NodeNo) (inc : ℕ) (tid : Tid) (tx : TransactionValue) (part : Participant) → HoldsNotes here inc tid tx part → (at : RequestNo) (member : Member) (i stamp : ℕ) (done : Bool) → HoldsNotes here inc tid (served_in at member i stamp done tx) part
notes_served here inc tid tx part h at member i stamp done = record {
  issued = λ count one is. h.issued count one (sym (served_issued at member i stamp done tx here inc (note_text tid here.0 count)) ∙ is);
  served = λ count one is. served_issued at member i stamp done tx here inc (note_text tid here.0 count) ∙ of count (served_note at member i stamp done tx here inc (note_text tid here.0 count) is) (h.served count one);
}
  where
    of : (count : ℕ) → (has_note tx (record { node = here; inc = inc; text = note_text tid here.0 count }) ≡ true) ⊎ (has_issued tx here inc (note_text tid here.0 count) ≡ true)
        → (has_note tx (record { node = here; inc = inc; text = note_text tid here.0 count }) ≡ true → has_issued tx here inc (note_text tid here.0 count) ≡ true) → has_issued tx here inc (note_text tid here.0 count) ≡ true
    of count (inl before) known = known before
    of count (inr now) known = now

module _ (stamp : ℕ) (before : BookValue) (size : ℕ) (nodes : ℕ → NodeValue) (n : ℕ) (work : Work) (s : Stands stamp before size nodes n work) where
  notes_of : (tid : Tid) (tx : TransactionValue) (part : Participant) → find_transaction (book_at stamp before work) tid ≡ Some tx → tm.part_of tid work.node.manager ≡ Some part → HoldsNotes work.node.setting.node work.node.setting.inc tid tx part
  notes_of tid tx part found known = ((s.by.beside.at tid).parts tx part found known).notes

  -- a reply may come, whichever it is
  pub may_reply : (tid : Tid) (member : Member) (number : ℕ) → MayReply stamp before work tid member number
  may_reply tid member number part tx request known found waits =
      replied_notes work.node.setting.node work.node.setting.inc tid tx part (notes_of tid tx part found known) (s.by.facts.parts tid part known).numbered.apart member number request waits

  -- what waits first at a server may be served
  pub may_serve : (server : ServerNo) → CanCount work server → MayServe stamp before work server
  may_serve server room = record {
    room = room;
    noted = λ delivery reply part tx next known found says count one has. waits_for part count (notes_of delivery.tid tx part found known)
        one (served_note (record { link = record { from = delivery.from; to = work.node.setting.node }; number = delivery.number }) (at_server work.node.setting.node server) work.node.setting.inc stamp (is_done reply) tx
        work.node.setting.node work.node.setting.inc (note_text delivery.tid work.node.setting.node.0 count) has);
    reply = replied_after;
  }
    where
      waits_for : {tid : Tid} {tx : TransactionValue} (part : Participant) (count : ℕ) → HoldsNotes work.node.setting.node work.node.setting.inc tid tx part → 1 ≤ count
          → (has_note tx (record { node = work.node.setting.node; inc = work.node.setting.inc; text = note_text tid work.node.setting.node.0 count }) ≡ true) ⊎ (has_issued tx work.node.setting.node work.node.setting.inc (note_text tid work.node.setting.node.0 count) ≡ true)
          → (has_noted count part ≡ true) ⊎ (awaits_note part ≡ true)
      waits_for part count notes one (inl before_it) = of (notes.issued count one (notes.served count one before_it))
        where
          of : (has_noted count part ≡ true) ⊎ (awaits_count count part ≡ true) → (has_noted count part ≡ true) ⊎ (awaits_note part ≡ true)
          of (inl noted) = inl noted
          of (inr awaits) = inr (awaits_some count part.waiting awaits)
      waits_for part count notes one (inr now) = of (notes.issued count one now)
        where
          of : (has_noted count part ≡ true) ⊎ (awaits_count count part ≡ true) → (has_noted count part ≡ true) ⊎ (awaits_note part ≡ true)
          of (inl noted) = inl noted
          of (inr awaits) = inr (awaits_some count part.waiting awaits)

      replied_after : (delivery : Delivery) (said : Reply) → ipc.next server work.node.queues ≡ Some delivery → reply_here server delivery.tid delivery.op work.node ≡ Some said → same_node delivery.from work.node.setting.node ≡ true
          → MayReply stamp before (make_loan delivery.tid (lent_to delivery.op) (enter_serve server delivery said (with_queues (ipc.after_next server) work))) delivery.tid (at_server work.node.setting.node server) delivery.number
      replied_after delivery said next says near part3 tx3 request known3 found3 waits = by (tm.part_of delivery.tid work.node.manager) refl
        where
          alike : ((after_serve server delivery said (with_queues (ipc.after_next server) work)).node.setting ≡ work.node.setting) × ((after_serve server delivery said (with_queues (ipc.after_next server) work)).node.manager ≡ tm.served delivery.tid server work.node.manager)
          alike = loan_alike server delivery said (with_queues (ipc.after_next server) work) (lent_to delivery.op)

          known_now : tm.part_of delivery.tid (tm.served delivery.tid server work.node.manager) ≡ Some part3
          known_now = ap (tm.part_of delivery.tid) (sym alike.1) ∙ known3

          of_tx : (tx : TransactionValue) → find_transaction (book_at stamp before work) delivery.tid ≡ Some tx → (part : Participant) → tm.part_of delivery.tid work.node.manager ≡ Some part → participant.served server part ≡ part3
              → HoldsNotes work.node.setting.node work.node.setting.inc delivery.tid tx3 part3
          of_tx tx found part known is = let l : (t : TransactionValue) × (find_transaction (book_at stamp before (after_serve server delivery said (with_queues (ipc.after_next server) work))) delivery.tid ≡ Some t) × SameNotes t (served_tx stamp before (with_queues (ipc.after_next server) work) server delivery said tx found)
              = found_lent stamp before (with_queues (ipc.after_next server) work) server delivery said tx found (lent_to delivery.op) in
              subst (λ (t : TransactionValue). HoldsNotes work.node.setting.node work.node.setting.inc delivery.tid t part3) (of_some (sym l.1 ∙ found3))
              (notes_alike work.node.setting.node work.node.setting.inc delivery.tid l.0 (served_tx stamp before (with_queues (ipc.after_next server) work) server delivery said tx found) part part3 l.2
              (ap (λ (p : Participant). p.noted) (sym is) ∙ served_noted server part) (ap (λ (p : Participant). p.waiting) (sym is) ∙ served_waiting server part)
              (notes_served work.node.setting.node work.node.setting.inc delivery.tid tx part (notes_of delivery.tid tx part found known) (record { link = record { from = delivery.from; to = work.node.setting.node }; number = delivery.number })
              (member_here work server) (inc_at (book_at stamp before work) (record { 0 = work.node.setting.node.0 })) stamp (is_done said)))

          by : (o : Option Participant) → tm.part_of delivery.tid work.node.manager ≡ o → AreNoted (after_serve server delivery said (with_queues (ipc.after_next server) work)).node.setting.node (after_serve server delivery said (with_queues (ipc.after_next server) work)).node.setting.inc delivery.tid tx3 (replied (at_server work.node.setting.node server) delivery.number request part3)
          by None unknown = absurd (cc (sym (part_unknown delivery.tid (participant.served server) work.node.manager unknown) ∙ known_now))
          by (Some part) known = subst (λ (t : Setting). AreNoted t.node t.inc delivery.tid tx3 (replied (at_server work.node.setting.node server) delivery.number request part3)) (sym alike.0)
              (replied_notes work.node.setting.node work.node.setting.inc delivery.tid tx3 part3
              (of_tx found.0 found.1 part known is)
              (subst AreApart (sym (served_waiting server part) ∙ ap (λ (p : Participant). p.waiting) is) (s.by.facts.parts delivery.tid part known).numbered.apart)
              (at_server work.node.setting.node server) delivery.number request waits)
            where
              is : participant.served server part ≡ part3
              is = of_some (sym (part_changed delivery.tid (participant.served server) work.node.manager part known) ∙ known_now)

              found : (tx : TransactionValue) × (find_transaction (book_at stamp before work) delivery.tid ≡ Some tx)
              found = stands stamp (book_at stamp before work) work.node delivery.tid part s.held.holds known

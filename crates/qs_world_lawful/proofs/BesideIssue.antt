-- A request is issued: what the machine has beside the node stands on, and a note that files issue is waited for with its count.
use Rattle.qs_world_lawful.proofs.Words.{◌≡◌, ◌⊎◌, inl, inr, ℕ, ◌≤◌, ◌<◌, ◌==◌, ◌^◌, Bool, true, false, List, [], ◌∷◌, Option, Some, None, refl, sym, ap, subst, ◌∙◌, length, list_any-append, is_at, list_any, lookup, ◌&&◌, ◌||◌, is_some, same_bytes-true, tid_cmp, NodeNo, Tid, Act, held, BookValue, crosses, find_transaction, inc_at, with_transaction, with_waiting, broken_issue, has_no_record, link_to, broken, effect, TransactionValue, is_commit, issued, Request, RequestNo, Cause, Op, Note}
use Rattle.qs_world_lawful.proofs.Words.{member_here, enter_issue, Work, here, Outstanding, Participant, entry_of, InRun, HoldsBeside, HoldsEnded, HoldsNotes, HoldsPart, HoldsReads, HoldsStranger, HoldsTidBeside, IsTrueCause, awaits_count, has_issued, is_note_by, is_note_with, book_at, at_server, eqb-self}
use Rattle.qs_book_journal.specs.declared.entry.Act.TheVariants as acts
use Rattle.qs_book_laws.proofs.Acts as of
use Rattle.qs_book_machine.specs.Clauses.{is_note, note_text}
use Rattle.qs_book_machine.specs.Transaction.{part_of}
use Rattle.qs_node_step.specs.State.{NodeValue}
use Rattle.qs_tm.specs.Manager as tm
use Rattle.qs_tm.specs.Members as rules
use Rattle.qs_tm.specs.Participant as participant
use Rattle.qs_world_lawful.proofs.Apart.{Apart, same_or_apart}
use Rattle.qs_world_lawful.proofs.BesideActs.{others_changed}
use Rattle.qs_world_lawful.proofs.BesideGoes.{Goes, goes_entry}
use Rattle.qs_world_lawful.proofs.BesideParts.{part_same, tid_on}
use Rattle.qs_world_lawful.proofs.BesidePlain.{MachineOn, beside_by, machine_alike, plain_records}
use Rattle.qs_world_lawful.proofs.Crossing.{crossing_txs, waiting_txs}
use Rattle.qs_world_lawful.proofs.Faces.{part_apart, part_changed, part_unknown}
use Rattle.qs_world_lawful.proofs.Issued.{any_more}
use Rattle.qs_world_lawful.proofs.LogActs.{acting}
use Rattle.qs_world_lawful.proofs.LogFrames.{every_on}
use Rattle.qs_world_lawful.proofs.NoteTexts.{same_text}
use Rattle.qs_world_lawful.proofs.Steps.{tx_changed}
use Rattle.qs_world_lawful.proofs.Truths.{clash, left_true, of_some, right_true}
use Rattle.qs_world_lawful.proofs.IssuedNotes.{issued_back, issued_still}

-- ---- the entry

-- a note tells a count that has room, and that files have pending
pub record TellsCount (stamp : ℕ) (before : BookValue) (work : Work) (tid : Tid) (request : Outstanding) (op : Op) : Type 0 where
  pub part : Participant
  pub known : tm.part_of tid work.node.manager ≡ Some part
  pub op_is : op ≡ Note (note_text tid (here work).0 request.count)
  pub room : request.count < 2 ^ 64
  pub pending : (tx : TransactionValue) → find_transaction (book_at stamp before work) tid ≡ Some tx → request.count ≤ (part_of tx (at_server (here work) rules.files_no) work.node.setting.inc).pending

module _ (stamp : ℕ) (before : BookValue) (run : InRun before) (tid : Tid) (request : Outstanding) (op : Op) (work : Work) (tells : participant.is_by_files request ≡ true → TellsCount stamp before work tid request op) where
  abbrev node : NodeValue
  node = work.node

  abbrev own_node : NodeNo
  own_node = node.setting.node

  abbrev book : BookValue
  book = book_at stamp before work

  abbrev act : Act
  act = acts.Issue tid (member_here work request.issuer) request.member request.number op

  abbrev new : BookValue
  new = effect book (entry_of own_node.0 stamp act)

  abbrev fresh : NodeValue
  fresh = (enter_issue tid request op work).node

  abbrev its : Request
  its = record { issuer = member_here work request.issuer; member = request.member; op = op; inc = inc_at book (record { 0 = own_node.0 }); served = false }

  abbrev key : RequestNo
  key = record { link = link_to own_node.0 request.member; number = request.number }

  abbrev f : TransactionValue → TransactionValue
  f = issued key its (inc_at book request.member.node) book.place

  txs : new.transactions ≡ (with_transaction tid f book).transactions
  txs = crossing_txs (crosses (find_transaction book tid) key request.member) tid request.member (with_waiting tid (member_here work request.issuer) request.member (with_transaction tid f book))
      ∙ waiting_txs tid (member_here work request.issuer) request.member (with_transaction tid f book)

  module _ (fine : broken book (entry_of own_node.0 stamp act) ≡ None) (causes : (t : Tid) (cause : Cause) → IsTrueCause book t cause → IsTrueCause new t cause) (h : HoldsBeside book node) where
    stands : (tx : TransactionValue) × (find_transaction book tid ≡ Some tx)
    stands = by (find_transaction book tid) refl (held h.state.up 2 _ (acting book stamp own_node.0 act h.state h.there fine)).1
      where
        by : (o : Option TransactionValue) → find_transaction book tid ≡ o → broken_issue own_node.0 h.state (length book.nodes) tid o (member_here work request.issuer) request.member request.number op ≡ None → (tx : TransactionValue) × (find_transaction book tid ≡ Some tx)
        by None is e = absurd (cc e)
        by (Some tx) is e = (tx, is)

    module _ (tx : TransactionValue) (found : find_transaction book tid ≡ Some tx) where
      found_now : find_transaction new tid ≡ Some (f tx)
      found_now = ap (λ (es : List (Tid × TransactionValue)). lookup (is_at (tid_cmp tid)) es) txs ∙ tx_changed tid f book.transactions tx found

      machine_on : MachineOn book new own_node.0 h.state
      machine_on = machine_alike book new own_node.0 h.state h.there (let a = of.by_issue own_node.0 tid (member_here work request.issuer) request.member request.number op book in record { faces = a.faces; ages = a.ages; tolds = a.tolds })

      records : (t : Tid) → has_no_record h.state t ≡ true → has_no_record machine_on.next t ≡ true
      records t = plain_records stamp book own_node.0 act refl h.state machine_on.next h.there machine_on.there t

      -- a note that was issued by this entry tells its count
      module _ (count : ℕ) (new_is : is_note_by own_node node.setting.inc (note_text tid own_node.0 count) its ≡ true) where
        files : participant.is_by_files request ≡ true
        files = left_true (participant.is_by_files request) _ (right_true ((own_node.0 == own_node.0) && (its.inc == node.setting.inc)) _ new_is)

        told : TellsCount stamp before work tid request op
        told = tells files

        count_is : count ≡ request.count
        count_is = same_text tid own_node.0 count request.count told.room
            (sym (same_bytes-true (note_text tid own_node.0 request.count) (note_text tid own_node.0 count)
            (subst (λ (o : Op). is_note (note_text tid own_node.0 count) o ≡ true) told.op_is (right_true (participant.is_by_files request) _ (right_true ((own_node.0 == own_node.0) && (its.inc == node.setting.inc)) _ new_is)))))

        waits_with : is_note_with count request ≡ true
        waits_with = subst (λ (n : ℕ). is_note_with n request ≡ true) (sym count_is) (both (participant.is_by_files request) files)
          where
            both : (b : Bool) → b ≡ true → (b && (request.count == request.count)) ≡ true
            both b e = rw (e, eqb-self request.count) refl

      -- ---- where it is known

      module _ (p : Participant) (known : tm.part_of tid node.manager ≡ Some p) where
        abbrev q : Participant
        q = participant.issued request p

        was : HoldsPart book h.state node tid tx p
        was = (h.at tid).parts tx p found known

        waits_on : (count : ℕ) → (has_issued tx own_node node.setting.inc (note_text tid own_node.0 count) ≡ true) ⊎ (is_note_by own_node node.setting.inc (note_text tid own_node.0 count) its ≡ true) → 1 ≤ count
            → (participant.has_noted count q ≡ true) ⊎ (awaits_count count q ≡ true)
        waits_on count (inl before_it) one = of (was.notes.issued count one before_it)
          where
            of : (participant.has_noted count p ≡ true) ⊎ (awaits_count count p ≡ true) → (participant.has_noted count q ≡ true) ⊎ (awaits_count count q ≡ true)
            of (inl noted) = inl noted
            of (inr waits) = inr (any_more (is_note_with count) p.waiting request waits)
        waits_on count (inr now) one = inr (list_any-append (is_note_with count) p.waiting (request ∷ []) ∙ last (list_any (is_note_with count) p.waiting) (is_note_with count request) (waits_with count now))
          where
            last : (a b : Bool) → b ≡ true → (a || (b || false)) ≡ true
            last true b e = refl
            last false b e = rw e refl

        notes_now : HoldsNotes own_node node.setting.inc tid (f tx) q
        notes_now = record {
          issued = λ count one is. waits_on count (issued_back key its (inc_at book request.member.node) book.place tx own_node node.setting.inc (note_text tid own_node.0 count) is) one;
          served = λ count one is. issued_still key its (inc_at book request.member.node) book.place tx own_node node.setting.inc (note_text tid own_node.0 count) (was.notes.served count one is);
        }

        counted_now : HoldsReads own_node node.setting.inc tid tx p → (count : ℕ) → 1 ≤ count → (has_issued tx own_node node.setting.inc (note_text tid own_node.0 count) ≡ true) ⊎ (is_note_by own_node node.setting.inc (note_text tid own_node.0 count) its ≡ true)
            → count ≤ (part_of tx (at_server own_node rules.files_no) node.setting.inc).pending
        counted_now r count one (inl before_it) = r.counted count one before_it
        counted_now r count one (inr now) = subst (λ (n : ℕ). n ≤ (part_of tx (at_server own_node rules.files_no) node.setting.inc).pending) (sym (count_is count now)) ((told count now).pending tx found)

        part_now : HoldsPart new machine_on.next fresh tid (f tx) q
        part_now = record {
          notes = notes_now;
          asked = was.asked;
          outcome = was.outcome;
          causes = λ none. every_on (IsTrueCause book tid) (IsTrueCause new tid) (causes tid) p.causes (was.causes none);
          reads = λ none. let r : HoldsReads own_node node.setting.inc tid tx p = was.reads none in record {
            readers = λ server kept. let g = r.readers server kept in record { anew = g.anew; unfresh = g.unfresh; told = g.told };
            unchanged = r.unchanged;
            counted = λ count one is. counted_now r count one (issued_back key its (inc_at book request.member.node) book.place tx own_node node.setting.inc (note_text tid own_node.0 count) is);
          };
          begun_at = was.begun_at;
          records = λ home none unended. records tid (was.records home none unended);
        }

      -- ---- all of the transaction

      ended_still : (o : Option Participant) → tm.part_of tid node.manager ≡ o → tm.part_of tid fresh.manager ≡ None → tm.part_of tid node.manager ≡ None
      ended_still None is none = is
      ended_still (Some p) is none = absurd (no (sym (part_changed tid (participant.issued request) node.manager p is) ∙ none))
        where
          no : {x : Participant} → Some x ≡ None → ⊥
          no e = cc e

      now_is : {later : TransactionValue} → find_transaction new tid ≡ Some later → f tx ≡ later
      now_is e = of_some (sym found_now ∙ e)

      own_parts : (o : Option Participant) → tm.part_of tid node.manager ≡ o → (q : Participant) → tm.part_of tid fresh.manager ≡ Some q → HoldsPart new machine_on.next fresh tid (f tx) q
      own_parts None is q known = absurd (no (sym (part_unknown tid (participant.issued request) node.manager is) ∙ known))
        where
          no : None ≡ Some q → ⊥
          no e = cc e
      own_parts (Some p) is q known = subst (λ (x : Participant). HoldsPart new machine_on.next fresh tid (f tx) x) (of_some (sym (part_changed tid (participant.issued request) node.manager p is) ∙ known)) (part_now p is)

      own_stranger : tm.part_of tid node.manager ≡ None → is_commit tx.cell ≡ false → HoldsStranger own_node node.setting.inc tid (f tx)
      own_stranger none open_still =
          let s : HoldsStranger own_node node.setting.inc tid tx = (h.at tid).strangers tx found none open_still in
          record { unissued = λ count one. never count one s (has_issued (f tx) own_node node.setting.inc (note_text tid own_node.0 count)) refl; unchanged = s.unchanged }
        where
          no : {p : Participant} → None ≡ Some p → ⊥
          no e = cc e

          never : (count : ℕ) → 1 ≤ count → HoldsStranger own_node node.setting.inc tid tx → (b : Bool) → has_issued (f tx) own_node node.setting.inc (note_text tid own_node.0 count) ≡ b → b ≡ false
          never count one s false is = refl
          never count one s true is = absurd (of (issued_back key its (inc_at book request.member.node) book.place tx own_node node.setting.inc (note_text tid own_node.0 count) is))
            where
              of : (has_issued tx own_node node.setting.inc (note_text tid own_node.0 count) ≡ true) ⊎ (is_note_by own_node node.setting.inc (note_text tid own_node.0 count) its ≡ true) → ⊥
              of (inl was) = clash (sym (s.unissued count one) ∙ was)
              of (inr now) = no (sym none ∙ (told count now).known)

      own : HoldsTidBeside new machine_on.next fresh tid
      own = record {
        stands = λ p known. ap is_some found_now;
        parts = λ later q at known. subst (λ (l : TransactionValue). HoldsPart new machine_on.next fresh tid l q) (now_is at) (own_parts (tm.part_of tid node.manager) refl q known);
        strangers = λ later at none open_still. subst (λ (l : TransactionValue). HoldsStranger own_node node.setting.inc tid l) (now_is at)
            (own_stranger (ended_still (tm.part_of tid node.manager) refl none) (ap (λ (l : TransactionValue). is_commit l.cell) (now_is at) ∙ open_still));
        unbegun = λ none. absurd (no (sym found_now ∙ none));
        ended = λ later home at. let e = (h.at tid).ended tx home found in
            subst (λ (l : TransactionValue). HoldsEnded fresh tid l) (now_is at) (record { committed = e.committed; unknown = λ none kept. e.unknown (ended_still (tm.part_of tid node.manager) refl none) kept });
      }
        where
          no : {x : TransactionValue} → Some x ≡ None → ⊥
          no e = cc e

      pub issued_beside : HoldsBeside new fresh
      issued_beside = beside_by book new node fresh refl h machine_on (record { ticks = h.clock.ticks; room = h.clock.room }) (λ t. of t (same_or_apart tid t))
        where
          of : (t : Tid) → (tid ≡ t) ⊎ Apart tid t → HoldsTidBeside new machine_on.next fresh t
          of t (inl same) = subst (HoldsTidBeside new machine_on.next fresh) same own
          of t (inr far) = tid_on book new h.state machine_on.next node fresh t refl (causes t) (records t) (others_changed own_node node.setting.inc tid t f book new txs far) (λ is. is) (h.at t)
              (part_same node fresh t (part_apart tid t (participant.issued request) node.manager far))

  pub goes_issue : Goes stamp before run work (enter_issue tid request op work)
  goes_issue = goes_entry stamp before run work (enter_issue tid request op work) act refl refl refl refl (λ fine inv causes h. let w : (tx : TransactionValue) × (find_transaction book tid ≡ Some tx) = stands fine causes h in issued_beside fine causes h w.0 w.1)

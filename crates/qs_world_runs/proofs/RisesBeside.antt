-- A restart of one node leaves what the machine has beside each other: it turns no request, no part and no cell of theirs, and no owner is lost.
use Rattle.qs_world_runs.proofs.Words.{◌≡◌, ℕ, ◌==◌, Bool, true, false, List, [], ◌∷◌, Option, Some, None, fold, refl, sym, ap, subst, ◌∙◌, is_some, if◌then◌else◌, slice_get, option_map, is_at, tid_cmp, ClientNo, NodeNo, Tid, Found, BookValue, find_transaction, with_transaction, book_after, effect, opening, is_among, record_at, TransactionValue, decided_at, is_commit, Owner, extra_no, Cause, Recovery, Participant, HoldsBeside, IsTrueCause, found_votes, rise_entry, every_on, rises_well, Turns}
use Rattle.qs_world_runs.proofs.Words.{apart_turned}
use Rattle.qs_base.specs.declared.identifiers.Outcome.{Outcome}
use Rattle.qs_base.specs.declared.identifiers.Outcome.TheVariants as outcomes
use Rattle.qs_book_laws.proofs.Maps.{changed_alike}
use Rattle.qs_book_machine.specs.Book.{decide}
use Rattle.qs_book_machine.specs.Clauses.{has_no_record}
use Rattle.qs_book_machine.specs.Nodes as machine
use Rattle.qs_book_machine.specs.Restart.{abort_begun, begun_tid, commit_found, count_of, is_open_here, learn_found, member_at, up_to, vote_found}
use Rattle.qs_book_machine.specs.Transaction.{found_at, is_abort, with_learnt}
use Rattle.qs_ops.specs.Servers.{audit_no, files_no}
use Rattle.qs_ops.specs.declared.answer.Cause.TheVariants as causes
use Rattle.qs_packet.specs.declared.message.Message.TheVariants as messages
use Rattle.qs_node_step.specs.State.{NodeValue}
use Rattle.qs_tm.specs.Manager as tm
use Rattle.qs_world_lawful.specs.Beside.{HasOwner, HoldsEnded, HoldsPart, HoldsStranger, HoldsTidBeside}
use Rattle.qs_world_lawful.proofs.AsideBegun.{KeepsBegun, begun_of}
use Rattle.qs_world_lawful.proofs.AsideBeside.{notes_beside, outcome_beside, reads_beside, stranger_beside, uncommitted_back}
use Rattle.qs_world_lawful.proofs.AsideTid.{asked_on}
use Rattle.qs_world_lawful.proofs.OthersRise.{lines, nodes_same}
use Rattle.qs_world_lawful.proofs.Restored.{committed, found_new, voted, with_found}
use Rattle.qs_world_lawful.proofs.RestoredTid.{Restarts, goes, new, was}
use Rattle.qs_world_lawful.proofs.RisesWell.{at, book_now, log, r, same_book, setting}
use Rattle.qs_world_lawful.proofs.SaidStays.{said_stays}
use Rattle.qs_world_lawful.proofs.Turning.{some_of, turns_quiet}
use Rattle.qs_world_runs.specs.RiseLaws.{EachRiseKeepsBeside}

module _ (book : BookValue) (risen : NodeNo) (stamp inc : ℕ) (log : Recovery) (state : machine.NodeValue) (r : Restarts book risen inc log state) where
  abbrev now : BookValue
  now = new book risen stamp inc log state r

  -- ---- when each transaction began

  begun_if : (x : Bool) (a b c : BookValue) → KeepsBegun a b → KeepsBegun a c → KeepsBegun a (if x then b else c)
  begun_if true a b c p q = p
  begun_if false a b c p q = q

  begun_fold : {A : Type 0} (f : BookValue → A → BookValue) → ((b : BookValue) (x : A) → KeepsBegun b (f b x)) → (xs : List A) (b : BookValue) → KeepsBegun b (fold f b xs)
  begun_fold f each [] b t = refl
  begun_fold f each (x ∷ xs) b t = begun_fold f each xs (f b x) t ∙ each b x t

  begun_learn : (t : Tid) (server : ℕ) (b : BookValue) → KeepsBegun b (learn_found risen.0 t server b)
  begun_learn t server b = begun_if (is_some (record_at risen.0 b t server)) b (with_transaction t (with_learnt (member_at risen.0 server)) b) b
      (λ u. changed_alike (is_at (tid_cmp t)) begun_of (with_learnt (member_at risen.0 server)) (λ tx. refl) (is_at (tid_cmp u)) b.transactions) (λ u. refl)

  begun_decide : (t : Tid) (outcome : Outcome) (cause : Option Cause) (b : BookValue) → KeepsBegun b (decide t outcome cause b)
  begun_decide t outcome cause b u = changed_alike (is_at (tid_cmp t)) begun_of (decided_at b.place outcome cause) (λ tx. refl) (is_at (tid_cmp u)) b.transactions

  begun_commit : (b : BookValue) (t : Tid) → KeepsBegun b (commit_found risen.0 b t)
  begun_commit b t u =
      let x = learn_found risen.0 t files_no b in
      let y = learn_found risen.0 t audit_no x in
      let z = learn_found risen.0 t extra_no y in
      begun_if (is_open_here risen.0 t (find_transaction z t)) z (decide t outcomes.Commit None z) z (begun_decide t outcomes.Commit None z) (λ u. refl) u
      ∙ (begun_learn t extra_no y u ∙ (begun_learn t audit_no x u ∙ begun_learn t files_no b u))

  begun_vote : (b : BookValue) (found : Found) → KeepsBegun b (vote_found risen.0 inc log.committed b found)
  begun_vote b found = begun_if (is_among log.committed found.tid) b b (with_transaction found.tid f b) (λ u. refl)
      (λ u. changed_alike (is_at (tid_cmp found.tid)) begun_of f (λ tx. refl) (is_at (tid_cmp u)) b.transactions)
    where
      f : TransactionValue → TransactionValue
      f = found_at (member_at risen.0 found.server.0) inc found.covers (count_of (record_at risen.0 b found.tid found.server.0))

  begun_abort : (b : BookValue) (seq : ℕ) → KeepsBegun b (abort_begun risen.0 state.inc b seq)
  begun_abort b seq = begun_if (is_open_here risen.0 (begun_tid risen.0 state.inc seq) (find_transaction b (begun_tid risen.0 state.inc seq))) b (decide (begun_tid risen.0 state.inc seq) outcomes.Abort (Some (causes.Home state.inc)) b) b
      (begun_decide (begun_tid risen.0 state.inc seq) outcomes.Abort (Some (causes.Home state.inc)) b) (λ u. refl)

  begun_now : KeepsBegun book now
  begun_now t = ap (option_map begun_of) (found_new book risen.0 stamp inc log state r.there t)
      ∙ (begun_fold (abort_begun risen.0 state.inc) begun_abort (up_to state.begun) (voted book risen.0 stamp inc log state r.there) t
      ∙ (begun_fold (vote_found risen.0 inc log.committed) begun_vote (found_votes log) (committed book risen.0 stamp inc log state r.there) t
      ∙ begun_fold (commit_found risen.0) begun_commit log.committed (with_found book risen.0 stamp inc log state r.there) t))

  begun_kept : (tid : Tid) (tx later : TransactionValue) → find_transaction book tid ≡ Some tx → find_transaction now tid ≡ Some later → later.begun_at ≡ tx.begun_at
  begun_kept tid tx later had found = some_of (sym (ap (option_map begun_of) found) ∙ (begun_now tid ∙ ap (option_map begun_of) had))

  -- ---- owners

  owner_there : (client : ClientNo) → is_some (slice_get book.owners client.0) ≡ true → is_some (slice_get now.owners client.0) ≡ true
  owner_there client is = by (slice_get book.owners client.0) refl
    where
      by : (o : Option Owner) → slice_get book.owners client.0 ≡ o → is_some (slice_get now.owners client.0) ≡ true
      by None nothing = absurd (cc (sym (ap is_some nothing) ∙ is))
      by (Some owner) there = ap is_some ((lines book risen stamp inc log state r client.0).on owner there).1

  pub owners_kept : ((tid : Tid) (tx : TransactionValue) → find_transaction book tid ≡ Some tx → HasOwner book tx) → (tid : Tid) (later : TransactionValue) → find_transaction now tid ≡ Some later → HasOwner now later
  owners_kept owners tid later found client is =
      let w = was book risen stamp inc log state r tid later found in
      owner_there client (owners tid w.0 w.1 client (sym w.2.owner ∙ is))

  -- ---- another node

  module _ (node : NodeValue) (far : (node.setting.node.0 == risen.0) ≡ false) (causes_on : (tid : Tid) (cause : Cause) → IsTrueCause book tid cause → IsTrueCause now tid cause) (b : HoldsBeside book node) where
    abbrev here : NodeNo
    here = node.setting.node

    module _ (tid : Tid) where
      abbrev held : HoldsTidBeside book b.state node tid
      held = b.at tid

      stands_on : (part : Participant) → tm.part_of tid node.manager ≡ Some part → is_some (find_transaction now tid) ≡ true
      stands_on part known = by (find_transaction book tid) refl
        where
          by : (o : Option TransactionValue) → find_transaction book tid ≡ o → is_some (find_transaction now tid) ≡ true
          by None nothing = absurd (cc (sym (ap is_some nothing) ∙ held.stands part known))
          by (Some tx) had = ap is_some (goes book risen stamp inc log state r tid tx had).1

      part_on : (tx later : TransactionValue) (part : Participant) → find_transaction book tid ≡ Some tx → find_transaction now tid ≡ Some later → Turns risen.0 inc book.place tid tx later
          → HoldsPart book b.state node tid tx part → HoldsPart now b.state node tid later part
      part_on tx later part had found t p = record {
        notes = notes_beside risen.0 inc book.place here node.setting.inc tid tx later t far part p.notes;
        asked = λ is. asked_on risen.0 inc book.place here node.setting.inc tid tx later t far (p.asked is);
        outcome = λ o is. outcome_beside risen.0 inc book.place here node.setting.inc tid tx later t far o (p.outcome o is);
        causes = λ open_now. every_on (IsTrueCause book tid) (IsTrueCause now tid) (causes_on tid) part.causes (p.causes open_now);
        reads = λ open_now. reads_beside risen.0 inc book.place here node.setting.inc tid tx later t far part (p.reads open_now);
        begun_at = λ home open_now. begun_kept tid tx later had found ∙ p.begun_at home open_now;
        records = p.records;
      }

      parts_on : (later : TransactionValue) (part : Participant) → find_transaction now tid ≡ Some later → tm.part_of tid node.manager ≡ Some part → HoldsPart now b.state node tid later part
      parts_on later part found known =
          let w = was book risen stamp inc log state r tid later found in
          part_on w.0 later part w.1 found (turns_quiet risen.0 inc book.place tid w.0 later w.2) (held.parts w.0 part w.1 known)

      strangers_on : (later : TransactionValue) → find_transaction now tid ≡ Some later → tm.part_of tid node.manager ≡ None → is_commit later.cell ≡ false → HoldsStranger here node.setting.inc tid later
      strangers_on later found unknown undone =
          let w = was book risen stamp inc log state r tid later found in
          let t : Turns risen.0 inc book.place tid w.0 later = turns_quiet risen.0 inc book.place tid w.0 later w.2 in
          stranger_beside risen.0 inc book.place here node.setting.inc tid w.0 later t far (held.strangers w.0 w.1 unknown (uncommitted_back risen.0 inc book.place here node.setting.inc tid w.0 later t far undone))

      unbegun_on : find_transaction now tid ≡ None → has_no_record b.state tid ≡ true
      unbegun_on nothing = held.unbegun (by (find_transaction book tid) refl)
        where
          by : (o : Option TransactionValue) → find_transaction book tid ≡ o → find_transaction book tid ≡ None
          by None is = is
          by (Some tx) had = let p = goes book risen stamp inc log state r tid tx had in absurd (cc (sym p.1 ∙ nothing))

      ended_on : (later : TransactionValue) → tid.home ≡ here → find_transaction now tid ≡ Some later → HoldsEnded node tid later
      ended_on later home found =
          let w = was book risen stamp inc log state r tid later found in
          like w.0 (w.2.away (ap (λ (m : NodeNo). m.0 == risen.0) home ∙ far)) (held.ended w.0 home w.1)
        where
          like : (tx : TransactionValue) → later.cell ≡ tx.cell → HoldsEnded node tid tx → HoldsEnded node tid later
          like tx same e = record { committed = λ is. e.committed (sym (ap is_commit same) ∙ is); unknown = λ unknown uncommitted. ap is_abort same ∙ e.unknown unknown uncommitted }

      at_on : HoldsTidBeside now b.state node tid
      at_on = record { stands = stands_on; parts = parts_on; strangers = strangers_on; unbegun = unbegun_on; ended = ended_on }

    beside_on : HoldsBeside now node
    beside_on = record { state = b.state; there = nodes_same book risen stamp inc log state r here.0 far (apart_turned here.0 risen.0 far) ∙ b.there; inc = b.inc; owners = owners_kept b.owners; at = at_on; clock = b.clock }

-- ---- in a world

pub rise_keeps_beside : EachRiseKeepsBeside
rise_keeps_beside opened history coherent lawful world n stamp inc lasts h may k node far here b =
    subst (λ (x : BookValue). HoldsBeside x node) (sym same)
    (beside_on before (setting before world n stamp inc lasts h may).node stamp inc (log before world n stamp inc lasts h may) (at before world n stamp inc lasts h may).state (r before world n stamp inc lasts h may) node apart causes_on b)
  where
    before : BookValue
    before = book_after (opening opened) history

    same : effect before (rise_entry world n stamp inc) ≡ book_now before world n stamp inc lasts h may
    same = same_book before world n stamp inc lasts h may

    apart : (node.setting.node.0 == (world.hosts n).node.setting.node.0) ≡ false
    apart = ap (λ (m : ℕ). m == (world.hosts n).node.setting.node.0) here ∙ (ap (λ (m : ℕ). k == m) (at before world n stamp inc lasts h may).node ∙ far)

    causes_on : (tid : Tid) (cause : Cause) → IsTrueCause before tid cause → IsTrueCause (book_now before world n stamp inc lasts h may) tid cause
    causes_on tid cause is = subst (λ (x : BookValue). IsTrueCause x tid cause) same
        (said_stays opened history (rise_entry world n stamp inc ∷ []) coherent lawful (rises_well before world n stamp inc lasts h may).lawful (messages.VotedAbort tid cause) is)

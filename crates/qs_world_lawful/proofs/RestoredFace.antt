-- After a restart the machine has of each transaction in the new incarnation what stands in doubt in the log, and nothing else.
use Rattle.qs_world_lawful.proofs.Words.{◌≡◌, ℕ, ◌≤◌, ◌==◌, Bool, true, false, List, length, map, Option, Some, None, refl, sym, ap, subst, ◌∙◌, is_some, Global, lookup, is_at, filter, list_any, member_cmp, same_tid, same_tid-true, Member, NodeNo, Tid, BookValue, find_transaction, is_recoverable, count_of, member_at, record_at, TransactionValue, has_note, is_commit, is_crossed, is_empty, is_open, is_outcome, is_standing, learnt_abort, no_part, requests_at, requests_in, sent_in, sent_on, Part}
use Rattle.qs_world_lawful.proofs.Words.{Request, RequestNo, Prepared, Recovery, is_in_doubt, names_transaction, Setting, doubt_at, share_as, StandsOnce, Every, IsToBeRecorded, AreFor, is_idle, op_in, IsLoanOf, and_parts, not-true, eqb-true, le_lt}
use Rattle.qs_node_kept.specs.declared.kept.Kept.{Kept}
use Rattle.qs_book_machine.specs.Nodes as machine
use Rattle.qs_book_machine.specs.Transaction.{borrower, is_abort, part_of}
use Rattle.qs_book_machine.specs.Transaction as transaction
use Rattle.qs_ops.specs.Servers.{files_no}
use Rattle.qs_world_lawful.proofs.FreshFace.{Fresh, FreshAt, IsDoubt, IsOldLoan}
use Rattle.qs_world_lawful.proofs.LogFrames.{every_on}
use Rattle.qs_world_lawful.proofs.Reopened.{doubt_is}
use Rattle.qs_world_lawful.proofs.RestartGoes.{Goes, IsElsewhere}
use Rattle.qs_world_lawful.proofs.Restored.{with_found}
use Rattle.qs_world_lawful.proofs.RestartVotes.{part_as}
use Rattle.qs_world_lawful.proofs.RestoredTid.{InDoubt, Restarts, before, done_committed, in_doubt, kinds, member_held, new, part_is, part_plain, sorted, unlearnt_abort, was, at_node, found_whole, goes}

module _ (alloc : Global) (setting : Setting) (saved : Kept) (book : BookValue) (stamp : ℕ) (log : Recovery) (state : machine.NodeValue) (r : Restarts book setting.node setting.inc log state) (loans : Every (IsLoanOf book state.inc) saved.loans) where
  abbrev pub after : BookValue
  after = new book setting.node stamp setting.inc log state r

  -- ---- a transaction that the machine has

  module _ (tid : Tid) (later : TransactionValue) (found : find_transaction after tid ≡ Some later) where
    abbrev prior : (tx : TransactionValue) × (find_transaction book tid ≡ Some tx) × Goes setting.node.0 (IsElsewhere setting.node.0 setting.inc) book.place tid tx later
    prior = was book setting.node stamp setting.inc log state r tid later found

    abbrev tx : TransactionValue
    tx = prior.0

    had : find_transaction book tid ≡ Some tx
    had = prior.1

    g : Goes setting.node.0 (IsElsewhere setting.node.0 setting.inc) book.place tid tx later
    g = prior.2

    nothing_sent : (peer : NodeNo) → sent_in setting.inc (sent_on later (record { from = setting.node; to = peer })) ≡ 0
    nothing_sent peer = ap (λ sent. sent_in setting.inc (lookup (is_at (transaction.link_cmp (record { from = setting.node; to = peer }))) sent)) g.sent ∙ (before book setting.node stamp setting.inc log state r tid later found).sent peer

    nothing_noted : (text : List ℕ) → has_note later (record { node = setting.node; inc = setting.inc; text = text }) ≡ false
    nothing_noted text = ap (λ noted. list_any (is_at (transaction.noted_cmp (record { node = setting.node; inc = setting.inc; text = text }))) noted) g.noted ∙ (before book setting.node stamp setting.inc log state r tid later found).noted text

    pending : (part_of later (member_at setting.node.0 files_no) setting.inc).pending ≡ length (share_as (doubt_at log.prepared tid files_no)).changes
    pending = ap (λ (p : Part). p.pending) (part_is book setting.node stamp setting.inc log state r tid later found files_no) ∙ by (doubt_at log.prepared tid files_no) refl
      where
        count : ℕ
        count = count_of (record_at setting.node.0 (with_found book setting.node.0 stamp setting.inc log state r.there) tid files_no)

        by : (o : Option Prepared) → doubt_at log.prepared tid files_no ≡ o → (part_as None o count).pending ≡ length (share_as o).changes
        by None is = refl
        by (Some v) is =
            let p = doubt_is (IsToBeRecorded setting.node.0 book log) tid files_no log.prepared r.left.recorded v is in
            let two = and_parts (is_in_doubt v) _ p.1 in
            let doubt = and_parts (names_transaction v.tid) _ two.0 in
            let at = and_parts (same_tid v.tid tid) (v.server.0 == files_no) two.1 in
            subst (λ (t : Tid). count_of (record_at setting.node.0 (with_found book setting.node.0 stamp setting.inc log state r.there) t files_no) ≡ length v.changes) (same_tid-true v.tid tid at.0)
            (subst (λ (s : ℕ). count_of (record_at setting.node.0 (with_found book setting.node.0 stamp setting.inc log state r.there) v.tid s) ≡ length v.changes) (eqb-true v.server.0 files_no at.1)
            ((p.0 doubt.0 (not-true v.committed doubt.1)).count (eqb-true v.server.0 files_no at.1)))

    same_requests : (at : RequestNo) → requests_at later at ≡ requests_at tx at
    same_requests at = ap (λ requests. requests_in requests at) g.requests

    same_crossed : (member : Member) → is_crossed later member ≡ is_crossed tx member
    same_crossed member = ap (λ crossed. is_some (lookup (is_at (member_cmp member)) crossed)) g.crossed

    once : StandsOnce tx
    once = r.lasts.waits tid tx had

    pub whole : is_commit later.cell ≡ true → is_empty later.crossed ≡ true
    whole is = ap is_empty g.crossed ∙ by (is_open tx.cell) refl
      where
        by : (b : Bool) → is_open tx.cell ≡ b → is_empty tx.crossed ≡ true
        by false shut = once.whole (sym (ap is_commit (g.decided shut)) ∙ is)
        by true undecided = found_whole book setting.node stamp setting.inc log state r tid later found is undecided

    due : is_idle (share_as (doubt_at log.prepared tid files_no)) ≡ false → (part_of later (member_at setting.node.0 files_no) setting.inc).due ≡ true
    due busy = ap (λ (p : Part). p.due) (part_is book setting.node stamp setting.inc log state r tid later found files_no) ∙ by (doubt_at log.prepared tid files_no) busy
      where
        count : ℕ
        count = count_of (record_at setting.node.0 (with_found book setting.node.0 stamp setting.inc log state r.there) tid files_no)

        by : (o : Option Prepared) → is_idle (share_as o) ≡ false → (part_as None o count).due ≡ true
        by None e = absurd (cc e)
        by (Some v) e = refl

    fresh_at : FreshAt setting.node setting.inc log tid later
    fresh_at = record {
      members = member_held book setting.node stamp setting.inc log state r tid later found;
      unaborted = unlearnt_abort book setting.node stamp setting.inc log state r tid later found;
      plain = part_plain book setting.node stamp setting.inc log state r tid later found;
      sent = nothing_sent;
      noted = nothing_noted;
      pending = pending;
      due = due;
      begun = λ home. le_lt tid.inc state.inc setting.inc ((at_node book setting.node stamp setting.inc log state r).begun tid tx had home) r.rises;
      once = record {
        whole = whole;
        once = λ member at clean. subst (λ (rs : List Request). length (filter (is_standing member) rs) ≤ 1) (sym (same_requests at)) (once.once member at (sym (same_crossed member) ∙ clean));
        fits = λ member at. subst (λ (rs : List Request). AreFor member.server (map op_in (filter (is_standing member) rs))) (sym (same_requests at)) (once.fits member at);
      };
    }

  -- ---- all of it

  stands : (tid : Tid) → is_some (find_transaction book tid) ≡ true → is_some (find_transaction after tid) ≡ true
  stands tid is = by (find_transaction book tid) refl
    where
      by : (o : Option TransactionValue) → find_transaction book tid ≡ o → is_some (find_transaction after tid) ≡ true
      by None none = absurd (cc (sym (ap is_some none) ∙ is))
      by (Some tx) had = ap is_some (goes book setting.node stamp setting.inc log state r tid tx had).1

  pub fresh : Fresh after setting.node setting.inc log
  fresh = record {
    kinds = kinds book setting.node stamp setting.inc log state r;
    sorted = sorted book setting.node stamp setting.inc log state r;
    listed = r.listed;
    doubts = every_on (λ (v : Prepared). is_in_doubt v ≡ true → InDoubt book setting.node stamp setting.inc log state r v.tid) (λ (v : Prepared). is_in_doubt v ≡ true → IsDoubt after setting.node log v.tid)
        (λ v so doubt. let d : InDoubt book setting.node stamp setting.inc log state r v.tid = so doubt in record { stands = stands v.tid d.stands; away = d.away; far = d.far }) log.prepared (in_doubt book setting.node stamp setting.inc log state r);
    committed = done_committed book setting.node stamp setting.inc log state r;
    at = fresh_at;
  }

  pub old_loans : Every (IsOldLoan after setting.inc) saved.loans
  old_loans = every_on (IsLoanOf book state.inc) (IsOldLoan after setting.inc) (λ loan is. record { stands = stands loan.tid is.stands; made = le_lt loan.inc state.inc setting.inc is.made r.rises }) saved.loans loans

-- What no client sees leaves what the course has of clients, and breaks no rule of theirs; so does a home's abort by a cause that it has.
use Rattle.std.proofs.Common.{◌≡◌, ◌∙◌, ℕ, ◌==◌, Bool, true, false, [], ◌∷◌, Option, Some, None, refl, sym, ap, subst}
use Rattle.std.specs.Prelude.{if◌then◌else◌, slice_get}
use Rattle.std.specs.List.{find}
use Rattle.std.proofs.lemmas.List.{append-nil}
use Rattle.qs_base.specs.declared.identifiers.ClientNo.{ClientNo}
use Rattle.qs_base.specs.declared.identifiers.Outcome.TheVariants as outcomes
use Rattle.qs_base.specs.declared.identifiers.Tid.{Tid}
use Rattle.qs_base_lemmas.proofs.Tests.{eqb_turned}
use Rattle.qs_ops.specs.Servers.{files_no, is_client_no}
use Rattle.qs_ops.specs.declared.answer.Cause.{Cause}
use Rattle.qs_ops.specs.declared.answer.Cause.TheVariants as causes
use Rattle.qs_book_journal.specs.declared.entry.Act.{Act}
use Rattle.qs_book_journal.specs.declared.entry.Act.TheVariants as acts
use Rattle.qs_book_conformance.specs.Course.{CourseValue}
use Rattle.qs_book_conformance.specs.Borrowing.{broken_request, node_no}
use Rattle.qs_book_conformance.specs.Effects.{course_after, sought_by, stamped}
use Rattle.qs_book_conformance.specs.Rules.{client_of}
use Rattle.qs_book_conformance.specs.declared.fault.Rule.{Rule}
use Rattle.qs_book_conformance.specs.declared.fault.Rule.TheVariants as rules
use Rattle.qs_node_kept.specs.Keeping.{has_label, is_outcome_of}
use Rattle.qs_node_kept.specs.Loans.{last_taken}
use Rattle.qs_node_step.specs.State.{Work}
use Rattle.qs_node_step.specs.declared.setting.Setting.{Setting}
use Rattle.qs_world.specs.Posting.{entry_of}
use Rattle.qs_world_course.specs.Clients.{ForClients, in_hand_of}
use Rattle.qs_world_course.specs.Going.{LeavesClient}
use Rattle.qs_world_course.specs.Kinds.{broken_said}
use Rattle.qs_world_course.specs.Loans.{loans_of}
use Rattle.qs_world_course.specs.Reasons.{Enters, IsQuietAct, IsUnseen, Nothing, Quiet, aborted}
use Rattle.qs_world_course.proofs.KindsKept.{quiet_leaves_clients}
use Rattle.qs_world_said.specs.Amid.{AreAmid, IsSaidSo, clients_of, course_amid}
use Rattle.qs_world_said.specs.Deeds.{HomeAbortsKeep, IsFound, UnseenKeeps}
use Rattle.qs_world_said.proofs.Frames.{amid_stays, goes, same_replies}
use Rattle.qs_world_said.proofs.Lookups.{found_before}

-- ---- the entry

abbrev pub LeavesIt : CourseValue → CourseValue → Type 0
LeavesIt course new = (new.clients ≡ course.clients) × (new.replies ≡ course.replies)

no_client : (server : ℕ) → (server == files_no) ≡ true → is_client_no server ≡ false
no_client server is = subst (λ (k : ℕ). is_client_no k ≡ false) (eqb_turned server files_no is) refl

pub quiet_leaves : (course : CourseValue) (stamp here : ℕ) (act : Act) → IsQuietAct act → LeavesIt course (course_after course (entry_of here stamp act))
quiet_leaves course stamp here (acts.Begin tid label client) q = absurd q
quiet_leaves course stamp here (acts.Issue tid issuer member number op) q =
    subst (λ (b : Bool). LeavesIt course (if b then sought_by (client_of issuer.server.0) (record { tid = tid; member = member; from = node_no here; number = number }) (stamped stamp here course) else stamped stamp here course))
    (sym (no_client issuer.server.0 q)) (refl, refl)
quiet_leaves course stamp here (acts.Serve tid member from number reply) q = absurd q
quiet_leaves course stamp here (acts.Ask tid) q = absurd q
quiet_leaves course stamp here (acts.Vote tid member vote covers) q = quiet_leaves_clients course (entry_of here stamp (acts.Vote tid member vote covers)) tt
quiet_leaves course stamp here (acts.Counted tid peer up_to) q = quiet_leaves_clients course (entry_of here stamp (acts.Counted tid peer up_to)) tt
quiet_leaves course stamp here (acts.Decide tid outcomes.Commit None) q = quiet_leaves_clients course (entry_of here stamp (acts.Decide tid outcomes.Commit None)) tt
quiet_leaves course stamp here (acts.Decide tid outcomes.Commit (Some cause)) q = absurd q
quiet_leaves course stamp here (acts.Decide tid outcomes.Abort None) q = absurd q
quiet_leaves course stamp here (acts.Decide tid outcomes.Abort (Some causes.Asked)) q = absurd q
quiet_leaves course stamp here (acts.Decide tid outcomes.Abort (Some (causes.Voted member reason))) q = absurd q
quiet_leaves course stamp here (acts.Decide tid outcomes.Abort (Some (causes.Gone node inc))) q = absurd q
quiet_leaves course stamp here (acts.Decide tid outcomes.Abort (Some (causes.Room need room))) q = quiet_leaves_clients course (entry_of here stamp (acts.Decide tid outcomes.Abort (Some (causes.Room need room)))) tt
quiet_leaves course stamp here (acts.Decide tid outcomes.Abort (Some (causes.Home inc))) q = absurd q
quiet_leaves course stamp here (acts.Decide tid outcomes.Abort (Some (causes.Old age))) q = absurd q
quiet_leaves course stamp here (acts.Ending tid member) q = quiet_leaves_clients course (entry_of here stamp (acts.Ending tid member)) tt
quiet_leaves course stamp here (acts.Learn tid member outcome) q = quiet_leaves_clients course (entry_of here stamp (acts.Learn tid member outcome)) tt
quiet_leaves course stamp here (acts.Answer client line answer) q = absurd q
quiet_leaves course stamp here (acts.Loan tid client) q = absurd q
quiet_leaves course stamp here (acts.Yield tid client) q = absurd q
quiet_leaves course stamp here acts.Tick q = quiet_leaves_clients course (entry_of here stamp acts.Tick) tt
quiet_leaves course stamp here (acts.Crash cause) q = quiet_leaves_clients course (entry_of here stamp (acts.Crash cause)) tt
quiet_leaves course stamp here (acts.Restart inc pend done) q = quiet_leaves_clients course (entry_of here stamp (acts.Restart inc pend done)) tt

files_issue : (a b : Bool) (request : Option Rule) → a ≡ false → b ≡ true → (if a then request else if b then None else Some rules.IssuerIsKnown) ≡ None
files_issue a b request e f = rw (e, f) refl

quiet_said : (course : CourseValue) (here : ℕ) (act : Act) → IsQuietAct act → broken_said course here act ≡ None
quiet_said course here (acts.Begin tid label client) q = absurd q
quiet_said course here (acts.Issue tid issuer member number op) q =
    files_issue (is_client_no issuer.server.0) (issuer.server.0 == files_no) (broken_request course here tid (client_of issuer.server.0) member op) (no_client issuer.server.0 q) q
quiet_said course here (acts.Serve tid member from number reply) q = absurd q
quiet_said course here (acts.Ask tid) q = absurd q
quiet_said course here (acts.Vote tid member vote covers) q = refl
quiet_said course here (acts.Counted tid peer up_to) q = refl
quiet_said course here (acts.Decide tid outcomes.Commit None) q = refl
quiet_said course here (acts.Decide tid outcomes.Commit (Some cause)) q = absurd q
quiet_said course here (acts.Decide tid outcomes.Abort None) q = absurd q
quiet_said course here (acts.Decide tid outcomes.Abort (Some causes.Asked)) q = absurd q
quiet_said course here (acts.Decide tid outcomes.Abort (Some (causes.Voted member reason))) q = absurd q
quiet_said course here (acts.Decide tid outcomes.Abort (Some (causes.Gone node inc))) q = absurd q
quiet_said course here (acts.Decide tid outcomes.Abort (Some (causes.Room need room))) q = refl
quiet_said course here (acts.Decide tid outcomes.Abort (Some (causes.Home inc))) q = absurd q
quiet_said course here (acts.Decide tid outcomes.Abort (Some (causes.Old age))) q = absurd q
quiet_said course here (acts.Ending tid member) q = refl
quiet_said course here (acts.Learn tid member outcome) q = refl
quiet_said course here (acts.Answer client line answer) q = absurd q
quiet_said course here (acts.Loan tid client) q = absurd q
quiet_said course here (acts.Yield tid client) q = absurd q
quiet_said course here acts.Tick q = refl
quiet_said course here (acts.Crash cause) q = refl
quiet_said course here (acts.Restart inc pend done) q = refl

-- ---- the clients

pub all_stay : (came : Option ClientNo) (course new : CourseValue) (node later : ForClients) → LeavesIt course new → ((client : ClientNo) → LeavesClient client node later) → AreAmid course node came → AreAmid new later came
all_stay came course new node later same leaves on client =
    amid_stays client node later (leaves client) came course new (ap (λ cs. slice_get cs client.0) same.0) (same_replies course new same.1) (on client)

unseen_leaves : (work new : Work) → IsUnseen work new → (client : ClientNo) → LeavesClient client (clients_of work) (clients_of new)
unseen_leaves work new u client = record {
  here = ap (λ (s : Setting). s.node) u.setting;
  inc = ap (λ (s : Setting). s.inc) u.setting;
  in_hand = ap (in_hand_of client) u.commands;
  labels = λ label. ap (find (has_label label)) u.labels;
  outcomes = λ tid decided there. (decided, u.outcomes tid decided there);
  loans = λ tid. ap (loans_of client tid) u.loans;
  last = λ tid. ap (last_taken client tid) u.loans;
}

pub unseen_keeps : UnseenKeeps
unseen_keeps stamp before work new u came h = by u.enters
  where
    course : CourseValue
    course = course_amid stamp before work

    here : ℕ
    here = work.node.setting.node.0

    by : Enters work.out.entries new.out.entries → IsSaidSo stamp before came new
    by (Nothing same) = goes stamp before work new [] u.setting (same ∙ sym (append-nil work.out.entries)) came came h tt (all_stay came course course (clients_of work) (clients_of new) (refl, refl) (unseen_leaves work new u) h.on)
    by (Quiet act q is) = goes stamp before work new (act ∷ []) u.setting is came came h (quiet_said course here act q, tt)
        (all_stay came course (course_after course (entry_of here stamp act)) (clients_of work) (clients_of new) (quiet_leaves course stamp here act q) (unseen_leaves work new u) h.on)

-- ---- a home aborts by a cause that it has

found_leaves : (course : CourseValue) (stamp here : ℕ) (tid : Tid) (cause : Cause) → IsFound cause → LeavesIt course (course_after course (entry_of here stamp (acts.Decide tid outcomes.Abort (Some cause))))
found_leaves course stamp here tid causes.Asked f = absurd f
found_leaves course stamp here tid (causes.Voted member reason) f = quiet_leaves_clients course (entry_of here stamp (acts.Decide tid outcomes.Abort (Some (causes.Voted member reason)))) tt
found_leaves course stamp here tid (causes.Gone node inc) f = quiet_leaves_clients course (entry_of here stamp (acts.Decide tid outcomes.Abort (Some (causes.Gone node inc)))) tt
found_leaves course stamp here tid (causes.Room need room) f = quiet_leaves_clients course (entry_of here stamp (acts.Decide tid outcomes.Abort (Some (causes.Room need room)))) tt
found_leaves course stamp here tid (causes.Home inc) f = absurd f
found_leaves course stamp here tid (causes.Old age) f = absurd f

found_said : (course : CourseValue) (here : ℕ) (tid : Tid) (cause : Cause) → IsFound cause → broken_said course here (acts.Decide tid outcomes.Abort (Some cause)) ≡ None
found_said course here tid causes.Asked f = absurd f
found_said course here tid (causes.Voted member reason) f = refl
found_said course here tid (causes.Gone node inc) f = refl
found_said course here tid (causes.Room need room) f = refl
found_said course here tid (causes.Home inc) f = absurd f
found_said course here tid (causes.Old age) f = absurd f

-- the outcome is kept, and all else is left
pub aborted_leaves : (work : Work) (tid : Tid) (cause : Cause) (client : ClientNo) → LeavesClient client (clients_of work) (clients_of (aborted tid cause work))
aborted_leaves work tid cause client = record {
  here = refl;
  inc = refl;
  in_hand = refl;
  labels = λ label. refl;
  outcomes = λ t decided there. (decided, found_before (is_outcome_of t) work.node.kept.now.outcomes (record { tid = tid; outcome = outcomes.Abort; cause = Some cause }) decided there);
  loans = λ t. refl;
  last = λ t. refl;
}

pub home_aborts_keep : HomeAbortsKeep
home_aborts_keep stamp before work tid cause f came h =
    let course : CourseValue = course_amid stamp before work in
    let here : ℕ = work.node.setting.node.0 in
    goes stamp before work (aborted tid cause work) (acts.Decide tid outcomes.Abort (Some cause) ∷ []) refl refl came came h (found_said course here tid cause f, tt)
    (all_stay came course (course_after course (entry_of here stamp (acts.Decide tid outcomes.Abort (Some cause)))) (clients_of work) (clients_of (aborted tid cause work)) (found_leaves course stamp here tid cause f) (aborted_leaves work tid cause) h.on)

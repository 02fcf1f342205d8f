-- The first step of an incarnation keeps what its node keeps for its clients, and of each transaction all but what its log has and its servers are still to learn.
use Rattle.qs_world_refine.proofs.Words.{◌≡◌, ◌||◌, Bool, true, false, List, [], ◌∷◌, ◌++◌, fold, Option, Some, None, refl, subst, ◌∙◌, if◌then◌else◌, list_any, list_any-append, is_at, tid_cmp, NodeNo, ServerNo, Tid, listed, Message, Record, Participant, send, send_next, is_other, log_if, tid_of, is_forced, notify, end_member, due_endings, end_members, learn_member, learners_at, give_notices, resume_home, resume_part, resume_tid, known_tids, begin_incarnation, NodeValue, Work, part_of, with_node}
use Rattle.qs_world_refine.proofs.Words.{record_learnt, no_flags}
use Rattle.qs_base.specs.declared.identifiers.Outcome.{Outcome}
use Rattle.qs_base.specs.declared.identifiers.Outcome.TheVariants as outcomes
use Rattle.qs_ops.specs.declared.vote.Notice.{Notice}
use Rattle.qs_ops.specs.declared.vote.Notice.TheVariants as notices
use Rattle.qs_packet.specs.declared.message.Message.TheVariants as messages
use Rattle.qs_record.specs.declared.record.Record.TheVariants as records
use Rattle.qs_tm.specs.Manager as tm
use Rattle.qs_tm.specs.Outcomes as outcome_rules
use Rattle.qs_node_step.specs.Deciding.{notice_of}
use Rattle.qs_world_refine.proofs.SaysOn.{told_changed}

-- what is kept of a transaction, but for its servers and its log
abbrev pub core_of : Participant → Option Participant
core_of part = Some (record part { members = []; log = no_flags })

abbrev pub core_found : Option Participant → Option Participant
core_found o = elim o [ None ↦ None | Some part ↦ core_of part ]

abbrev pub core_at : Tid → NodeValue → Option Participant
core_at t node = core_found (tm.part_of t node.manager)

pub record KeptOn (work new : Work) : Type 0 where
  pub setting : new.node.setting ≡ work.node.setting
  pub queues : new.node.queues ≡ work.node.queues
  pub kept : new.node.kept ≡ work.node.kept
  pub committed : new.node.committed ≡ work.node.committed
  pub begun : new.node.manager.begun ≡ work.node.manager.begun
  pub next : tm.next_tid new.node.manager ≡ tm.next_tid work.node.manager
  pub core : (t : Tid) → core_at t new.node ≡ core_at t work.node
  pub forced : list_any is_forced new.out.records ≡ list_any is_forced work.out.records

kept_then : {a b c : Work} → KeptOn a b → KeptOn b c → KeptOn a c
kept_then first second = record {
  setting = second.setting ∙ first.setting;
  queues = second.queues ∙ first.queues;
  kept = second.kept ∙ first.kept;
  committed = second.committed ∙ first.committed;
  begun = second.begun ∙ first.begun;
  next = second.next ∙ first.next;
  core = λ t. second.core t ∙ first.core t;
  forced = second.forced ∙ first.forced;
}

pub kept_itself : (work : Work) → KeptOn work work
kept_itself work = record { setting = refl; queues = refl; kept = refl; committed = refl; begun = refl; next = refl; core = λ t. refl; forced = refl }

kept_fold : {X : Type 0} (f : Work → X → Work) → ((work : Work) (x : X) → KeptOn work (f work x)) → (xs : List X) (work : Work) → KeptOn work (fold f work xs)
kept_fold f each [] work = kept_itself work
kept_fold f each (x ∷ xs) work = kept_then (each work x) (kept_fold f each xs (f work x))

kept_send : (to : NodeNo) (message : Message) (work : Work) → KeptOn work (send to message work)
kept_send to message work = by (is_other work.node.setting to)
  where
    by : (b : Bool) → KeptOn work (if b then record work { out = record work.out { messages = work.out.messages ++ record { to = to; message = message } ∷ [] } } else work)
    by true = record { setting = refl; queues = refl; kept = refl; committed = refl; begun = refl; next = refl; core = λ t. refl; forced = refl }
    by false = kept_itself work

kept_log : (rec : Option Record) (work : Work) → ((r : Record) → rec ≡ Some r → is_forced r ≡ false) → KeptOn work (log_if rec work)
kept_log None work loose = kept_itself work
kept_log (Some rec) work loose = record {
  setting = refl;
  queues = refl;
  kept = refl;
  committed = refl;
  begun = refl;
  next = refl;
  core = λ t. told_changed None core_of (is_at (tid_cmp (tid_of rec))) (is_at (tid_cmp t)) (outcome_rules.logged rec) (λ part. refl) work.node.manager.known;
  forced = list_any-append is_forced work.out.records (rec ∷ []) ∙ last (list_any is_forced work.out.records) (is_forced rec) (loose rec refl);
}
  where
    last : (a b : Bool) → b ≡ false → (a || (b || false)) ≡ a
    last true b is = refl
    last false b is = rw is refl

kept_notify : (tid : Tid) (notice : Notice) (server : ServerNo) (work : Work) → KeptOn work (notify tid notice server work)
kept_notify tid notice server work = record { setting = refl; queues = refl; kept = refl; committed = refl; begun = refl; next = refl; core = λ t. told_changed None core_of (is_at (tid_cmp tid)) (is_at (tid_cmp t)) (outcome_rules.settled server) (λ part. refl) work.node.manager.known; forced = refl }

kept_end : (tid : Tid) (work : Work) (server : ServerNo) → KeptOn work (end_member tid work server)
kept_end tid work server = let said = kept_notify tid notices.Ending server work in record { setting = said.setting; queues = said.queues; kept = said.kept; committed = said.committed; begun = said.begun; next = said.next; core = said.core; forced = said.forced }

kept_learn : (tid : Tid) (outcome : Outcome) (work : Work) (server : ServerNo) → KeptOn work (learn_member tid outcome work server)
kept_learn tid outcome work server = let said = kept_notify tid (notice_of outcome) server work in record { setting = said.setting; queues = said.queues; kept = said.kept; committed = said.committed; begun = said.begun; next = said.next; core = said.core; forced = said.forced }

kept_notices : (tid : Tid) (outcome : Outcome) (work : Work) → KeptOn work (give_notices tid outcome work)
kept_notices tid outcomes.Commit work = kept_fold (learn_member tid outcomes.Commit) (kept_learn tid outcomes.Commit) (learners_at tid work) work
kept_notices tid outcomes.Abort work = kept_then (kept_fold (end_member tid) (kept_end tid) (due_endings tid work) work) (kept_fold (learn_member tid outcomes.Abort) (kept_learn tid outcomes.Abort) (learners_at tid (end_members tid work)) (end_members tid work))

kept_resume : (work : Work) (tid : Tid) → KeptOn work (resume_tid work tid)
kept_resume work tid = by (part_of tid work)
  where
    home : (part : Participant) (o : Outcome) → KeptOn work (resume_home tid part o work)
    home part outcomes.Commit = kept_fold (send_next (messages.Tell tid outcomes.Commit)) (λ w to. kept_send to (messages.Tell tid outcomes.Commit) w) (listed part.tell) work
    home part outcomes.Abort = kept_then (kept_notices tid outcomes.Abort work) (kept_log (record_learnt tid outcomes.Abort part) (give_notices tid outcomes.Abort work) (λ r is. loose r part.log.prepared is))
      where
        loose : (r : Record) (b : Bool) → (if b then Some (records.Aborted tid) else None) ≡ Some r → is_forced r ≡ false
        loose r true is = let same : records.Aborted tid ≡ r = cc (is) in subst (λ (x : Record). is_forced x ≡ false) same refl
        loose r false is = absurd (cc (is))

    at : (part : Participant) (o : Option Outcome) → KeptOn work (elim o [ None ↦ send tid.home (messages.Inquire tid) work | Some outcome ↦ resume_home tid part outcome work ])
    at part None = kept_send tid.home (messages.Inquire tid) work
    at part (Some outcome) = home part outcome

    by : (o : Option Participant) → KeptOn work (elim o [ None ↦ work | Some part ↦ resume_part tid part work ])
    by None = kept_itself work
    by (Some part) = at part part.outcome

pub begin_keeps : (work : Work) → KeptOn work (begin_incarnation work)
begin_keeps work = by work.node.is_first
  where
    opened : Work
    opened = with_node (λ node. record node { is_first = false }) work

    first : KeptOn work opened
    first = record { setting = refl; queues = refl; kept = refl; committed = refl; begun = refl; next = refl; core = λ t. refl; forced = refl }

    by : (b : Bool) → KeptOn work (if b then fold resume_tid opened (known_tids work) else work)
    by true = kept_then first (kept_fold resume_tid kept_resume (known_tids work) opened)
    by false = kept_itself work

-- A tidy node stays tidy through the first step of an incarnation, where who is committed is at home.
use Rattle.qs_world_refine.proofs.Words.{◌≡◌, ℕ, inl, inr, Bool, true, false, List, [], ◌∷◌, fold, Option, Some, None, refl, sym, ap, subst, ◌∙◌, if◌then◌else◌, ◌⊎◌, NodeNo, ServerNo, Tid, listed, Record, send, log_if, tid_of, end_member, due_endings, end_members, learn_member, learners_at, give_notices, resume_home, resume_part, resume_tid, known_tids, begin_incarnation, NodeValue, Work, part_of, with_node, record_learnt, Manager, Participant, Stage, IsStage, IsTidy, IsTidyNode, Keeps, Reads}
use Rattle.qs_base.specs.declared.identifiers.Outcome.{Outcome}
use Rattle.qs_base.specs.declared.identifiers.Outcome.TheVariants as outcomes
use Rattle.qs_packet.specs.declared.message.Message.TheVariants as messages
use Rattle.qs_tm.specs.Manager as tm
use Rattle.qs_tm.specs.Outcomes as outcome_rules
use Rattle.qs_world_refine.proofs.PartsAfter.{IsSame, IsChanged, changed_seen}
use Rattle.qs_world_refine.proofs.SoundRules.{send_node, sends_node}
use Rattle.qs_world_refine.proofs.TidyKeeps.{tidy_keeps}
use Rattle.qs_world_refine.proofs.TidyReads.{tidy_reads}
use Rattle.qs_world_refine.proofs.WalkSettles.{resume_tid_walk}

-- who is committed is at home
abbrev pub CommitsAtHome : Manager → Type 0
CommitsAtHome m = (tid : Tid) (part : Participant) → tm.part_of tid m ≡ Some part → part.outcome ≡ Some outcomes.Commit → part.engage.home ≡ true

part_homed : (tid : Tid) (f : Participant → Participant) (m : Manager) → ((part : Participant) → ((f part).engage.home ≡ part.engage.home) × ((f part).outcome ≡ part.outcome)) → CommitsAtHome m → CommitsAtHome (tm.with_part tid f m)
part_homed tid f m same homed t part now its = by (changed_seen t tid f m part now)
  where
    by : (IsSame t tid m (tm.with_part tid f m) part ⊎ IsChanged t tid f m part) → part.engage.home ≡ true
    by (inl apart) = homed t part apart.was its
    by (inr changed) = ap (λ (p : Participant). p.engage.home) changed.now ∙ ((same changed.before).0 ∙ homed tid changed.before changed.was (sym (same changed.before).1 ∙ (ap (λ (p : Participant). p.outcome) (sym changed.now) ∙ its)))

abbrev HomedIn : Work → Type 0
HomedIn work = CommitsAtHome work.node.manager

ends_homed : (tid : Tid) (servers : List ServerNo) (work : Work) → HomedIn work → HomedIn (fold (end_member tid) work servers)
ends_homed tid [] work homed = homed
ends_homed tid (server ∷ servers) work homed = ends_homed tid servers (end_member tid work server) (part_homed tid (outcome_rules.settled server) work.node.manager (λ part. (refl, refl)) homed)

learns_homed : (tid : Tid) (outcome : Outcome) (servers : List ServerNo) (work : Work) → HomedIn work → HomedIn (fold (learn_member tid outcome) work servers)
learns_homed tid outcome [] work homed = homed
learns_homed tid outcome (server ∷ servers) work homed = learns_homed tid outcome servers (learn_member tid outcome work server) (part_homed tid (outcome_rules.settled server) work.node.manager (λ part. (refl, refl)) homed)

log_if_homed : (rec : Option Record) (work : Work) → HomedIn work → HomedIn (log_if rec work)
log_if_homed None work homed = homed
log_if_homed (Some rec) work homed = part_homed (tid_of rec) (outcome_rules.logged rec) work.node.manager (λ part. (refl, refl)) homed

resume_homed : (work : Work) (tid : Tid) → HomedIn work → HomedIn (resume_tid work tid)
resume_homed work tid homed = by (part_of tid work)
  where
    told : (part : Participant) (outcome : Outcome) → HomedIn (resume_home tid part outcome work)
    told part outcomes.Commit = subst (λ (n : NodeValue). CommitsAtHome n.manager) (sym (sends_node (listed part.tell) (messages.Tell tid outcomes.Commit) work)) homed
    told part outcomes.Abort = log_if_homed (record_learnt tid outcomes.Abort part) (give_notices tid outcomes.Abort work)
        (learns_homed tid outcomes.Abort (learners_at tid (end_members tid work)) (end_members tid work) (ends_homed tid (due_endings tid work) work homed))

    at : (part : Participant) (o : Option Outcome) → HomedIn (elim o [ None ↦ send tid.home (messages.Inquire tid) work | Some outcome ↦ resume_home tid part outcome work ])
    at part None = subst (λ (n : NodeValue). CommitsAtHome n.manager) (sym (send_node tid.home (messages.Inquire tid) work)) homed
    at part (Some outcome) = told part outcome

    by : (o : Option Participant) → HomedIn (elim o [ None ↦ work | Some part ↦ resume_part tid part work ])
    by None = homed
    by (Some part) = at part part.outcome

-- so each fact that is kept by what a step does stands after it, where it stands as it begins
module _ (P Q : Tid → Bool) (R : NodeNo → Bool) (me : NodeNo) (nodes : ℕ) (I : Work → Type 0) (reads : Reads P Q R me nodes I) (keeps : Keeps P Q R me nodes I) where
  resumes_walk : (tids : List Tid) (work : Work) → HomedIn work → I work → I (fold resume_tid work tids)
  resumes_walk [] work homed i = i
  resumes_walk (tid ∷ tids) work homed i = resumes_walk tids (resume_tid work tid) (resume_homed work tid homed) (resume_tid_walk P Q R me nodes I reads keeps work tid (homed tid) i)

  pub resume_walk : (work : Work) → (work.node.is_first ≡ true → CommitsAtHome work.node.manager) → (work.node.is_first ≡ true → I (with_node (λ node. record node { is_first = false }) work)) → (work.node.is_first ≡ false → I work) → I (begin_incarnation work)
  resume_walk work homed first later = by work.node.is_first refl
    where
      by : (b : Bool) → work.node.is_first ≡ b → I (if b then fold resume_tid (with_node (λ node. record node { is_first = false }) work) (known_tids work) else work)
      by true is = resumes_walk (known_tids work) (with_node (λ node. record node { is_first = false }) work) (homed is) (first is)
      by false is = later is

module _ (c : Stage) (stage : IsStage c) where
  -- a step begins with nothing done
  pub first_tidy : (work : Work) → IsTidyNode c work.node → work.out.messages ≡ [] → work.out.records ≡ [] → IsTidy c (with_node (λ node. record node { is_first = false }) work)
  first_tidy work n messages records = record {
    node = record {
      setting = n.setting;
      own = n.own;
      inc = n.inc;
      count = n.count;
      ordered = n.ordered;
      known = n.known;
      apart = n.apart;
      waiting = n.waiting;
      labels = n.labels;
      loans = n.loans;
      outcomes = n.outcomes;
      commands = n.commands;
      kinds = n.kinds;
      committed = n.committed;
      crossed = record { owned = n.crossed.owned; commits = n.crossed.commits; fresh = n.crossed.fresh; pasts = n.crossed.pasts; earlier = n.crossed.earlier };
    };
    begun = refl;
    out = record { messages = rw messages refl; records = rw records refl };
  }

  pub later_tidy : (work : Work) → IsTidyNode c work.node → work.node.is_first ≡ false → work.out.messages ≡ [] → work.out.records ≡ [] → IsTidy c work
  later_tidy work n later messages records = record { node = n; begun = later; out = record { messages = rw messages refl; records = rw records refl } }

  pub resume_tidy : (work : Work) → IsTidyNode c work.node → (work.node.is_first ≡ true → CommitsAtHome work.node.manager) → work.out.messages ≡ [] → work.out.records ≡ [] → IsTidy c (begin_incarnation work)
  resume_tidy work n homed messages records = resume_walk c.past c.begun c.met c.setting.node c.setting.nodes (IsTidy c) (tidy_reads c stage) (tidy_keeps c stage) work homed (λ first. first_tidy work n messages records) (λ later. later_tidy work n later messages records)

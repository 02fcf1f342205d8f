-- What a node does of itself at the end of a step keeps what is held of its log.
use Rattle.qs_world_lawful.proofs.Words.{◌≡◌, ℕ, Bool, true, false, List, [], ◌∷◌, Option, Some, None, refl, sym, ap, subst, ◌∙◌, fold, if◌then◌else◌, not, ◌&&◌, is_none, NodeNo, Outcome, ServerNo, Tid, release_of, is_no_node, listed, Inv, BookValue, vote_of, Cause, Vote, Record, server_at, Note, told_with_own, is_undecided, is_forgotten, only_read, Manager, Participant, where_undecided, end_members, decide_commit, is_pass_due, pass_rule, may_answer, is_quiet, say_yes, answer_superior, ready}
use Rattle.qs_world_lawful.proofs.Words.{ready_rule, refusal_goes_to, send_refusal, refuse_elsewhere, refuse_home, refuse_rule, forget_rule, try, settle_tid, due_tids, settle, Work, here, with_manager, doings_of, forget, change_count, owes_note, issue_note, vote_frame, vote_next, due_votes, vote_pass, vote_with, KeepsLogs, none_is, some_same, both_ways}
use Rattle.qs_base.specs.declared.identifiers.Outcome.TheVariants as outcomes
use Rattle.qs_ops.specs.declared.vote.Vote.TheVariants as votes
use Rattle.qs_packet.specs.declared.message.Message.TheVariants as messages
use Rattle.qs_node_servers.specs.Servers.{audit_no}
use Rattle.qs_tm.specs.Manager as tm
use Rattle.qs_tm.specs.Members.{files_no}
use Rattle.qs_tm.specs.Participant as participant
use Rattle.qs_node_step.specs.Deciding.{decide}
use Rattle.qs_node_step.specs.State.{part_of}
use Rattle.qs_node_step.specs.Voting.{note_text}
use Rattle.qs_world_lawful.proofs.LogDecisions.{by_decide, by_decide_commit}
use Rattle.qs_world_lawful.proofs.LogEndings.{quiet_ends}
use Rattle.qs_world_lawful.proofs.LogForgetting.{by_forget}
use Rattle.qs_world_lawful.proofs.LogKeeps.{keeps_self, keeps_then, by_quiet}
use Rattle.qs_world_lawful.proofs.LogVoting.{by_vote_with, changed, quiet_voted}
use Rattle.qs_world_lawful.proofs.Marks.{MarksOn, KnowsOn, SameMarks}
use Rattle.qs_world_lawful.proofs.QuietRequests.{quiet_issue}
use Rattle.qs_world_lawful.proofs.Recordless.{Quiet, quiet_self, quiet_then, quiet_elim, quiet_fold, quiet_part, quiet_send}

-- it is known, and its outcome is not
pub record IsUndecided (tid : Tid) (manager : Manager) : Type 0 where
  pub part : Participant
  pub known : tm.part_of tid manager ≡ Some part
  pub undecided : part.outcome ≡ None

pub undecided_on : (tid : Tid) (old new : Manager) → KnowsOn old new → IsUndecided tid old → IsUndecided tid new
undecided_on tid old new on h = by (tm.part_of tid new) refl (subst (λ (o : Option Participant). MarksOn o (tm.part_of tid new)) h.known (on.marks tid))
  where
    by : (o : Option Participant) → tm.part_of tid new ≡ o → MarksOn (Some h.part) (tm.part_of tid new) → IsUndecided tid new
    by None is marks = absurd (subst (λ (o : Option Participant). MarksOn (Some h.part) o) is marks)
    by (Some part) is marks =
        let same : SameMarks h.part part = subst (λ (o : Option Participant). MarksOn (Some h.part) o) is marks in
        record { part = part; known = is; undecided = same.outcome ∙ h.undecided }

module _ (stamp : ℕ) (before : BookValue) (i : Inv before) (disk waiting : List Record) where
  abbrev Keeps : Work → Work → Type 0
  Keeps work new = KeepsLogs stamp before disk waiting work new

  pub keeps_if : (b : Bool) (work x y : Work) → Keeps work x → Keeps work y → Keeps work (if b then x else y)
  keeps_if true work x y p q = p
  keeps_if false work x y p q = q

  pub keeps_fold : {A : Type 0} (f : Work → A → Work) → ((work : Work) (a : A) → Keeps work (f work a)) → (xs : List A) (work : Work) → Keeps work (fold f work xs)
  keeps_fold f each [] work = keeps_self stamp before i disk waiting work
  keeps_fold f each (x ∷ xs) work = keeps_then stamp before i disk waiting work (f work x) (fold f (f work x) xs) (each work x) (keeps_fold f each xs (f work x))

  pub keeps_where : (tid : Tid) (rule : Participant → Work → Work) (work : Work) → ((part : Participant) → part_of tid work ≡ Some part → part.outcome ≡ None → Keeps work (rule part work)) → Keeps work (where_undecided tid rule work)
  keeps_where tid rule work each = by (part_of tid work) refl
    where
      undecided : (part : Participant) → is_undecided part ≡ true → part.outcome ≡ None
      undecided part is = none_is part.outcome is

      of : (part : Participant) → part_of tid work ≡ Some part → (b : Bool) → is_undecided part ≡ b → Keeps work (if b then rule part work else work)
      of part known true is = each part known (undecided part is)
      of part known false is = keeps_self stamp before i disk waiting work

      by : (o : Option Participant) → part_of tid work ≡ o → Keeps work (elim o [ None ↦ work | Some part ↦ if is_undecided part then rule part work else work ])
      by None is = keeps_self stamp before i disk waiting work
      by (Some part) is = of part is (is_undecided part) refl

  -- ---- the vote pass

  voted_on : (tid : Tid) (server : ServerNo) (work : Work) → IsUndecided tid work.node.manager → (ballot : Vote) → IsUndecided tid (vote_with tid server ballot work).node.manager
  voted_on tid server work u votes.Recoverable = record { part = _; known = (changed stamp before i disk waiting tid server work u.part u.known u.undecided).now; undecided = u.undecided }
  voted_on tid server work u votes.ReadOnly = undecided_on tid work.node.manager (vote_with tid server votes.ReadOnly work).node.manager (quiet_voted tid server votes.ReadOnly work refl).knows u
  voted_on tid server work u votes.Volatile = undecided_on tid work.node.manager (vote_with tid server votes.Volatile work).node.manager (quiet_voted tid server votes.Volatile work refl).knows u
  voted_on tid server work u (votes.Abort reason) = undecided_on tid work.node.manager (vote_with tid server (votes.Abort reason) work).node.manager (quiet_voted tid server (votes.Abort reason) work refl).knows u

  pub quiet_note : (tid : Tid) (o : Option NodeNo) (work : Work) → Quiet work (issue_note tid o work)
  quiet_note tid None work = quiet_self work
  quiet_note tid (Some node) work = quiet_issue tid files_no (record { node = node; server = audit_no }) (Note (note_text tid (here work) (change_count tid work.node))) (change_count tid work.node) work

  pub record Votes (tid : Tid) (work new : Work) : Type 0 where
    pub keeps : Keeps work new
    pub undecided : IsUndecided tid new.node.manager

  pub one_vote : (tid : Tid) (work : Work) (server : ServerNo) → IsUndecided tid work.node.manager → Votes tid work (vote_next tid work server)
  one_vote tid work server u = by (owes_note tid server work)
    where
      ballot : Vote
      ballot = vote_of (server_at work.node.servers server) tid work.room (vote_frame work)

      by : (b : Bool) → Votes tid work (if b then issue_note tid work.node.setting.audit work else vote_with tid server (vote_of (server_at work.node.servers server) tid work.room (vote_frame work)) work)
      by true = record {
        keeps = by_quiet stamp before i disk waiting work (issue_note tid work.node.setting.audit work) (quiet_note tid work.node.setting.audit work);
        undecided = undecided_on tid work.node.manager (issue_note tid work.node.setting.audit work).node.manager (quiet_note tid work.node.setting.audit work).knows u;
      }
      by false = record {
        keeps = by_vote_with stamp before i disk waiting tid server work u.part u.known u.undecided (vote_of (server_at work.node.servers server) tid work.room (vote_frame work));
        undecided = voted_on tid server work u (vote_of (server_at work.node.servers server) tid work.room (vote_frame work));
      }

  all_votes : (tid : Tid) (servers : List ServerNo) (work : Work) → IsUndecided tid work.node.manager → Keeps work (fold (vote_next tid) work servers)
  all_votes tid [] work u = keeps_self stamp before i disk waiting work
  all_votes tid (server ∷ servers) work u =
      let one = one_vote tid work server u in
      keeps_then stamp before i disk waiting work (vote_next tid work server) (fold (vote_next tid) (vote_next tid work server) servers) one.keeps (all_votes tid servers (vote_next tid work server) one.undecided)

  pub by_vote_pass : (tid : Tid) (work : Work) → IsUndecided tid work.node.manager → Keeps work (vote_pass tid work)
  by_vote_pass tid work u =
      let ended : Work = end_members tid work in
      keeps_then stamp before i disk waiting work ended (vote_pass tid work) (by_quiet stamp before i disk waiting work ended (quiet_ends tid work))
      (all_votes tid (due_votes tid work) ended (undecided_on tid work.node.manager ended.node.manager (quiet_ends tid work).knows u))

  -- ---- readiness, refusal, forgetting

  quiet_yes : (tid : Tid) (part : Participant) (superior : NodeNo × ℕ) (work : Work) → Quiet work (say_yes tid part superior work)
  quiet_yes tid part superior work =
      let released : Work = with_manager (tm.released tid) work in
      quiet_then work released (say_yes tid part superior work) (quiet_part tid participant.released work (λ p. record { log = refl; outcome = refl; involved = λ is. is }))
      (quiet_send superior.0 (messages.VotedYes tid superior.1 (listed (told_with_own (here work) part))) released)

  pub quiet_superior : (tid : Tid) (part : Participant) (work : Work) → Quiet work (answer_superior tid part work)
  quiet_superior tid part work = quiet_elim (release_of part.engage) work work _ (quiet_self work) (λ superior. quiet_yes tid part superior work)

  pub by_ready : (tid : Tid) (part : Participant) (work : Work) → Keeps work (ready_rule tid part work)
  by_ready tid part work =
      keeps_if (may_answer tid part work) work (ready tid part work) work
      (keeps_if part.engage.home work (if is_quiet (doings_of tid work) then decide_commit tid work else work) (answer_superior tid part work)
      (keeps_if (is_quiet (doings_of tid work)) work (decide_commit tid work) work (by_decide_commit stamp before i disk waiting tid work) (keeps_self stamp before i disk waiting work))
      (by_quiet stamp before i disk waiting work (answer_superior tid part work) (quiet_superior tid part work)))
      (keeps_self stamp before i disk waiting work)

  quiet_refuse : (tid : Tid) (part : Participant) (work : Work) → Quiet work (refuse_elsewhere tid part work)
  quiet_refuse tid part work =
      let taken : Work = with_manager (tm.take_causes tid) work in
      quiet_then work taken (refuse_elsewhere tid part work) (quiet_part tid participant.take_causes work (λ p. record { log = refl; outcome = refl; involved = λ is. is }))
      (quiet_fold (send_refusal tid (refusal_goes_to tid part)) (λ w cause. quiet_send (refusal_goes_to tid part) (messages.VotedAbort tid cause) w) part.causes taken)

  pub by_refuse : (tid : Tid) (part : Participant) (work : Work) → Keeps work (refuse_rule tid part work)
  by_refuse tid part work = keeps_if part.engage.home work (refuse_home tid part work) (refuse_elsewhere tid part work) (home part.causes) (by_quiet stamp before i disk waiting work (refuse_elsewhere tid part work) (quiet_refuse tid part work))
    where
      home : (causes : List Cause) → Keeps work (elim causes [ [] ↦ work | cause ∷ more ↦ decide tid outcomes.Abort (Some cause) work ])
      home [] = keeps_self stamp before i disk waiting work
      home (cause ∷ more) = by_decide stamp before i disk waiting tid (Some cause) work outcomes.Abort

  -- what is in doubt is involved
  pub by_forgotten : (tid : Tid) (part : Participant) (work : Work) → part_of tid work ≡ Some part → Keeps work (forget_rule tid part work)
  by_forgotten tid part work known = by (is_forgotten part) refl
    where
      uninvolved : (a b c d : Bool) → ((a && (not b)) && ((c && not part.involved) && d)) ≡ true → part.involved ≡ false
      uninvolved a b c d is = at a b c d part.involved is
        where
          at : (a b c d e : Bool) → ((a && (not b)) && ((c && not e) && d)) ≡ true → e ≡ false
          at a b c d false h = refl
          at true false true d true h = absurd (cc h)
          at true false false d true h = absurd (cc h)
          at true true c d true h = absurd (cc h)
          at false b c d true h = absurd (cc h)

      by : (b : Bool) → is_forgotten part ≡ b → Keeps work (if b then forget tid work else work)
      by false is = keeps_self stamp before i disk waiting work
      by true is = by_forget stamp before i disk waiting tid work (λ h q at prepared.
          let same : q ≡ part = some_same (sym at ∙ known) in
          let involved : part.involved ≡ true = (h.knows.parts tid part known).involved (ap (λ (p : Participant). p.log.prepared) (sym same) ∙ prepared) in
          both_ways part.involved (uninvolved (is_undecided part) part.engage.home (is_none part.engage.superior) (is_no_node part.told && only_read part) is) involved)

  -- ---- all of it

  by_pass : (tid : Tid) (part : Participant) (work : Work) → part_of tid work ≡ Some part → part.outcome ≡ None → Keeps work (pass_rule tid part work)
  by_pass tid part work known undecided = keeps_if (is_pass_due tid part work) work (vote_pass tid work) work (by_vote_pass tid work (record { part = part; known = known; undecided = undecided })) (keeps_self stamp before i disk waiting work)

  by_settle_tid : (work : Work) (tid : Tid) → Keeps work (settle_tid work tid)
  by_settle_tid work tid =
      let passed : Work = try tid pass_rule work in
      let answered : Work = try tid ready_rule passed in
      let refused : Work = try tid refuse_rule answered in
      keeps_then stamp before i disk waiting work passed (settle_tid work tid) (keeps_where tid (pass_rule tid) work (λ part known undecided. by_pass tid part work known undecided))
      (keeps_then stamp before i disk waiting passed answered (settle_tid work tid) (keeps_where tid (ready_rule tid) passed (λ part known undecided. by_ready tid part passed))
      (keeps_then stamp before i disk waiting answered refused (settle_tid work tid) (keeps_where tid (refuse_rule tid) answered (λ part known undecided. by_refuse tid part answered))
      (keeps_where tid (forget_rule tid) refused (λ part known undecided. by_forgotten tid part refused known))))

  pub by_settle : (work : Work) → Keeps work (settle work)
  by_settle work = keeps_fold settle_tid by_settle_tid (due_tids work) work

-- What a node does of itself for one transaction behind its vote pass: readiness, then refusals, then forgetting.
use Rattle.qs_world_refine.proofs.Words.{◌≡◌, ℕ, ◌&&◌, not, Bool, true, false, List, [], ◌∷◌, Option, Some, None, fold, refl, sym, subst, ap, ◌∙◌, if◌then◌else◌, is_none, is_at, tid_cmp, NodeNo, ServerNo, Tid, listed, is_no_node, Cause, Message, Record, is_undecided, only_read, Participant, where_undecided, send, send_each, decide, decide_commit, end_member, end_members, due_endings, learn_member, learners_at, give_notices, may_answer, is_quiet, ready_rule, refuse_rule, refuse_elsewhere}
use Rattle.qs_world_refine.proofs.Words.{forget_rule, try, Work, doings_of, part_of, with_manager, forget, IsLawful, IsHome, HasNoDoubt, Scene, ShowsWork, Goes}
use Rattle.qs_base.specs.declared.identifiers.Outcome.{Outcome}
use Rattle.qs_base.specs.declared.identifiers.Outcome.TheVariants as outcomes
use Rattle.qs_ops.specs.declared.answer.Cause.TheVariants as causes
use Rattle.qs_packet.specs.declared.message.Message.TheVariants as messages
use Rattle.qs_tm.specs.Manager as tm
use Rattle.qs_tm.specs.Outcomes as outcome_rules
use Rattle.qs_node_step.specs.Settling.{refuse_home as refuse_at_home}
use Rattle.qs_world_agree.specs.World.{World}
use Rattle.qs_world_refine.specs.SettleLaws.{SettleHomeGoes}
use Rattle.qs_world_refine.proofs.Deciding as deciding
use Rattle.qs_world_refine.proofs.Deciding.{IsOwn}
use Rattle.qs_world_refine.proofs.Keeping.{nothing_goes}
use Rattle.qs_world_refine.proofs.Known.{undecided_is}
use Rattle.qs_world_refine.proofs.Maps.{lookup_changed}
use Rattle.qs_world_refine.proofs.SendGoes.{send_node}
use Rattle.qs_world_refine.proofs.Settles.{ready_home, refuse_home}

-- ---- a transaction that a node has decided, of which nothing more is due

pub record IsDecided (tid : Tid) (work : Work) : Type 0 where
  pub part : Participant
  pub known : part_of tid work ≡ Some part
  pub decided : is_undecided part ≡ false

decided_still : (tid : Tid) (rule : Participant → Work → Work) (work : Work) → IsDecided tid work → where_undecided tid rule work ≡ work
decided_still tid rule work is =
    ap (λ (o : Option Participant). elim o [ None ↦ work | Some part ↦ if is_undecided part then rule part work else work ]) is.known
    ∙ ap (λ (b : Bool). if b then rule is.part work else work) is.decided

-- it stays decided where what is kept of it changes otherwise
decided_changed : (tid : Tid) (f : Participant → Participant) (work : Work) → ((part : Participant) → is_undecided (f part) ≡ is_undecided part) → IsDecided tid work → IsDecided tid (with_manager (tm.with_part tid f) work)
decided_changed tid f work same is = record { part = f is.part; known = lookup_changed (is_at (tid_cmp tid)) f work.node.manager.known is.part is.known; decided = same is.part ∙ is.decided }

decided_each : {X : Type 0} (tid : Tid) (f : Work → X → Work) → ((work : Work) (x : X) → IsDecided tid work → IsDecided tid (f work x)) → (xs : List X) (work : Work) → IsDecided tid work → IsDecided tid (fold f work xs)
decided_each tid f each [] work is = is
decided_each tid f each (x ∷ xs) work is = decided_each tid f each xs (f work x) (each work x is)

decided_end : (tid : Tid) (work : Work) (server : ServerNo) → IsDecided tid work → IsDecided tid (end_member tid work server)
decided_end tid work server is = record { part = outcome_rules.settled server is.part; known = lookup_changed (is_at (tid_cmp tid)) (outcome_rules.settled server) work.node.manager.known is.part is.known; decided = is.decided }

decided_learn : (tid : Tid) (outcome : Outcome) (work : Work) (server : ServerNo) → IsDecided tid work → IsDecided tid (learn_member tid outcome work server)
decided_learn tid outcome work server is = record { part = outcome_rules.settled server is.part; known = lookup_changed (is_at (tid_cmp tid)) (outcome_rules.settled server) work.node.manager.known is.part is.known; decided = is.decided }

decided_notices : (tid : Tid) (outcome : Outcome) (work : Work) → IsDecided tid work → IsDecided tid (give_notices tid outcome work)
decided_notices tid outcomes.Commit work is = decided_each tid (learn_member tid outcomes.Commit) (decided_learn tid outcomes.Commit) (learners_at tid work) work is
decided_notices tid outcomes.Abort work is = decided_each tid (learn_member tid outcomes.Abort) (decided_learn tid outcomes.Abort) (learners_at tid (end_members tid work)) (end_members tid work) (decided_each tid (end_member tid) (decided_end tid) (due_endings tid work) work is)

decided_sent : (tid : Tid) (message : Message) (nodes : List NodeNo) (work : Work) → IsDecided tid work → IsDecided tid (send_each nodes message work)
decided_sent tid message nodes work is = decided_each tid (λ work to. send to message work) (λ work to is. record { part = is.part; known = ap (λ node. tm.part_of tid node.manager) (send_node to message work) ∙ is.known; decided = is.decided }) nodes work is

module _ (tid : Tid) (scene : Scene) (work : Work) (part : Participant) (is_home : IsHome tid scene work part) where
  decided_entered : (outcome : Outcome) (cause : Option Cause) (rec : Option Record) → IsOwn tid rec → IsDecided tid (deciding.entered tid scene outcome cause work part is_home rec)
  decided_entered outcome cause None own = record { part = outcome_rules.decided outcome part; known = lookup_changed (is_at (tid_cmp tid)) (outcome_rules.decided outcome) work.node.manager.known part is_home.knows.known; decided = refl }
  decided_entered outcome cause (Some r) own = record {
    part = outcome_rules.logged r (outcome_rules.decided outcome part);
    known = deciding.known_logged tid scene outcome cause work part is_home r own;
    decided = refl;
  }

  -- once it is decided it stays so
  pub decided_now : (outcome : Outcome) (cause : Option Cause) → IsDecided tid (decide tid outcome cause work)
  decided_now outcome cause = subst (λ (k : Work). IsDecided tid k) (sym (deciding.decide_is tid scene outcome cause work part is_home (outcome_rules.record_of tid outcome part) refl))
      (decided_sent tid (messages.Tell tid outcome) (listed (outcome_rules.tell_of outcome part)) (deciding.noticed tid scene outcome cause work part is_home (outcome_rules.record_of tid outcome part))
      (decided_notices tid outcome (deciding.entered tid scene outcome cause work part is_home (outcome_rules.record_of tid outcome part)) (decided_entered outcome cause (outcome_rules.record_of tid outcome part) (own outcome))))
    where
      own : (outcome : Outcome) → IsOwn tid (outcome_rules.record_of tid outcome part)
      own outcome = deciding.record_own tid outcome part

  pub settled_home : (w : World) → IsLawful w → ShowsWork tid scene tid.home.0 work w → HasNoDoubt tid scene tid.home.0 work part
      → Goes tid scene tid.home.0 (try tid forget_rule (try tid refuse_rule (try tid ready_rule work))) w
  settled_home w lawful shown clear = by (may_answer tid part work) refl
    where
      h : ℕ
      h = tid.home.0

      -- nothing is forgotten at the home
      kept_home : forget_rule tid part work ≡ work
      kept_home = ap (λ (b : Bool). if b then forget tid work else work) (off (is_undecided part) part.engage.home is_home.home ((is_none part.engage.superior && not part.involved) && (is_no_node part.told && only_read part)))
        where
          off : (a b : Bool) → b ≡ true → (c : Bool) → ((a && not b) && c) ≡ false
          off true b is c = rw is refl
          off false b is c = refl

      -- it is not ready: a cause may decide
      refused : (causes : List Cause) → part.causes ≡ causes → refuse_rule tid part work ≡ (elim causes [ [] ↦ work | cause ∷ more ↦ decide tid outcomes.Abort (Some cause) work ])
      refused causes is = ap (λ (b : Bool). if b then refuse_at_home tid part work else refuse_elsewhere tid part work) is_home.home ∙ ap (λ (l : List Cause). elim l [ [] ↦ work | cause ∷ more ↦ decide tid outcomes.Abort (Some cause) work ]) is

      unready : ready_rule tid part work ≡ work → Goes tid scene h (try tid forget_rule (try tid refuse_rule (try tid ready_rule work))) w
      unready same = subst (λ (k : Work). Goes tid scene h (try tid forget_rule (try tid refuse_rule k)) w) (sym (undecided_is tid (ready_rule tid) work part is_home.knows.known is_home.undecided ∙ same)) (caused part.causes refl)
        where
          caused : (causes : List Cause) → part.causes ≡ causes → Goes tid scene h (try tid forget_rule (try tid refuse_rule work)) w
          caused [] is = subst (λ (k : Work). Goes tid scene h (try tid forget_rule k) w) (sym (undecided_is tid (refuse_rule tid) work part is_home.knows.known is_home.undecided ∙ refused [] is))
              (subst (λ (k : Work). Goes tid scene h k w) (sym (undecided_is tid (forget_rule tid) work part is_home.knows.known is_home.undecided ∙ kept_home)) (nothing_goes tid scene h work w shown))
          caused (cause ∷ more) is = subst (λ (k : Work). Goes tid scene h (try tid forget_rule k) w) (sym (undecided_is tid (refuse_rule tid) work part is_home.knows.known is_home.undecided ∙ refused (cause ∷ more) is))
              (subst (λ (k : Work). Goes tid scene h k w) (sym (decided_still tid (forget_rule tid) (decide tid outcomes.Abort (Some cause) work) (decided_now outcomes.Abort (Some cause))))
              (subst (λ (k : Work). Goes tid scene h k w) (refused (cause ∷ more) is) (refuse_home tid scene work part w shown is_home)))

      -- it decides, and nothing more is due
      decides : (k : Work) → ready_rule tid part work ≡ k → IsDecided tid k → Goes tid scene h (try tid forget_rule (try tid refuse_rule (try tid ready_rule work))) w
      decides k same is = subst (λ (j : Work). Goes tid scene h (try tid forget_rule (try tid refuse_rule j)) w) (sym (undecided_is tid (ready_rule tid) work part is_home.knows.known is_home.undecided ∙ same))
          (subst (λ (j : Work). Goes tid scene h (try tid forget_rule j) w) (sym (decided_still tid (refuse_rule tid) k is))
          (subst (λ (j : Work). Goes tid scene h j w) (sym (decided_still tid (forget_rule tid) k is))
          (subst (λ (j : Work). Goes tid scene h j w) same (ready_home tid scene work part w lawful shown is_home clear))))

      room : (o : Option ℕ) → IsDecided tid (elim o [ None ↦ decide tid outcomes.Commit None work | Some need ↦ decide tid outcomes.Abort (Some (causes.Room need work.room)) work ])
      room None = decided_now outcomes.Commit None
      room (Some need) = decided_now outcomes.Abort (Some (causes.Room need work.room))

      quiet : may_answer tid part work ≡ true → (b : Bool) → is_quiet (doings_of tid work) ≡ b → Goes tid scene h (try tid forget_rule (try tid refuse_rule (try tid ready_rule work))) w
      quiet may true is = decides (decide_commit tid work) (rw (may, is_home.home, is) refl) (room (tm.need_past tid work.room work.node.manager))
      quiet may false is = unready (rw (may, is_home.home, is) refl)

      by : (b : Bool) → may_answer tid part work ≡ b → Goes tid scene h (try tid forget_rule (try tid refuse_rule (try tid ready_rule work))) w
      by true may = quiet may (is_quiet (doings_of tid work)) refl
      by false may = unready (rw may refl)

pub settle_home : SettleHomeGoes
settle_home tid scene work part w lawful shown is_home clear = settled_home tid scene work part is_home w lawful shown clear

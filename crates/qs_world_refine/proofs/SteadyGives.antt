-- A world that is steady gives what is said of its nodes, and of a transaction that has not begun.
use Rattle.qs_world_refine.proofs.Words.{ap, ◌≡◌, ◌≤◌, ◌&&◌, ◌||◌, not, Bool, true, false, List, [], ◌∷◌, Option, Some, None, is_some, refl, sym, subst, arith, nat_lt, nat_tests, list_all, list_any, same_tid, NodeNo, Tid, same_node, QueueValue, is_outcome_of, Decided, is_standing_loan, Prepared, recovery, names_transaction, is_untold_of, kept_outcome, was_committed, is_kept_commit, NodeValue, is_abort, Participant, may_be_known, node_no, began_here, where_so, same_flag, is_kept_part, stage_of}
use Rattle.qs_world_refine.proofs.Words.{Stage, IsTidyNode, is_tidy_superior, is_tidy_loan, is_tidy_outcome, is_begun_delivery, is_begun_queue, or_from}
use Rattle.qs_base.specs.declared.identifiers.Outcome.{Outcome}
use Rattle.qs_base.specs.declared.identifiers.Outcome.TheVariants as outcomes
use Rattle.qs_ipc.specs.Ipc as ipc
use Rattle.qs_ipc.specs.Queue as queue
use Rattle.qs_restart.specs.Recovery.{is_of}
use Rattle.qs_tm.specs.Manager as tm
use Rattle.qs_world_refine.specs.SteadyFacts.{SteadyNodeFacts, SteadySuperior, SteadyTakenUp, UnbegunUnknown}
use Rattle.qs_world_refine.proofs.Entries.{none_found}
use Rattle.qs_world_refine.proofs.SaidTidy.{IsSaidTidy, log_tidy, all_parted, is_fit_vote, is_fit_commit, may_name}
use Rattle.qs_world_refine.proofs.SoundKnown.{same_is}
use Rattle.qs_world_refine.proofs.SoundParts.{and_both}
use Rattle.qs_world_refine.proofs.SteadyBegins.{all_known}
use Rattle.qs_world_refine.proofs.SteadyGrows.{begun_past, stage_is}
use Rattle.qs_world_refine.proofs.TidyHappens.{fresh_next}
use Rattle.qs_world_refine.proofs.TidyNodes.{part_read}

-- what it keeps of one may be known
pub past_of : (c : Stage) (node : NodeValue) → IsTidyNode c node → (tid : Tid) (part : Participant) → tm.part_of tid node.manager ≡ Some part → c.past tid ≡ true
past_of c node n tid part known = (and_both (c.past tid) _ (and_both (c.past tid && same_flag part.engage.home (same_node tid.home c.setting.node)) _ (part_read c node n tid part known)).0).0

unknown_of : (c : Stage) (node : NodeValue) → IsTidyNode c node → (tid : Tid) → c.past tid ≡ false → tm.part_of tid node.manager ≡ None
unknown_of c node n tid off = by (tm.part_of tid node.manager) refl
  where
    by : (o : Option Participant) → tm.part_of tid node.manager ≡ o → o ≡ None
    by None none = refl
    by (Some part) known = absurd (let past : c.past tid ≡ true = past_of c node n tid part known in cc (past, off))

pub superior_known : SteadySuperior
superior_known world n m t part steady low known is = by part.engage.superior is (and_both (where_so part.asked (c.begun t)) _ (and_both (c.past t && same_flag part.engage.home (same_node t.home c.setting.node)) _ (part_read c (world.hosts n).node (steady.nodes n low).tidy t part known)).1).1
  where
    c : Stage
    c = stage_of world n

    by : (o : Option NodeNo) → o ≡ Some (node_no m) → is_tidy_superior c t o ≡ true → 1 ≤ world.channels.peer n m
    by None none its = absurd (cc (none))
    by (Some other) same its =
        let it : other ≡ node_no m = cc (same) in
        let met : nat_lt 0 (world.channels.peer n m) ≡ true = subst (λ (k : NodeNo). c.met k ≡ true) it (and_both (c.begun t) (c.met other) its).1 in grind (arith, nat_tests, met)

pub taken_up : SteadyTakenUp
taken_up world n free t steady low = record {
  undecided = λ first part known open_now. (((steady.nodes n low).first first).parts t part known).undecided open_now;
  committed = λ first part known committed. (((steady.nodes n low).first first).parts t part known).committed committed;
}

-- ---- a transaction that has not begun

pub none_any : {X : Type 0} (p q : X → Bool) → ((x : X) → q x ≡ true → p x ≡ false) → (xs : List X) → list_all q xs ≡ true → list_any p xs ≡ false
none_any p q off [] all = refl
none_any p q off (x ∷ xs) all = let both : (q x ≡ true) × (list_all q xs ≡ true) = and_both (q x) (list_all q xs) all in rw (off x both.0) (none_any p q off xs both.1)

module _ (tid : Tid) (past : Tid → Bool) (off : past tid ≡ false) where
  -- another one than each that may be known
  pub other : (t : Tid) → past t ≡ true → same_tid tid t ≡ false
  other t is = by (same_tid tid t) refl
    where
      by : (b : Bool) → same_tid tid t ≡ b → b ≡ false
      by false apart = refl
      by true same = absurd (let at : past tid ≡ true = subst (λ (u : Tid). past u ≡ true) (sym (same_is tid t same)) is in cc (at, off))

  turned : (t : Tid) → same_tid tid t ≡ false → same_tid t tid ≡ false
  turned t is = grind (arith, nat_tests, is)

  neither : (a b : Bool) → a ≡ false → (a && b) ≡ false
  neither a b is = rw is refl

  -- nor one of those that a log names
  named : (t : Tid) → names_transaction tid ≡ true → (not (names_transaction t) || past t) ≡ true → same_tid t tid ≡ false
  named t names is = by (same_tid t tid) refl
    where
      at : (b : Bool) → b ≡ true → (not b || past t) ≡ true → past t ≡ true
      at true so its = its
      at false so its = absurd (cc (so))

      by : (b : Bool) → same_tid t tid ≡ b → b ≡ false
      by false apart = refl
      by true same = absurd (
          let it : t ≡ tid = same_is t tid same in
          let its : past t ≡ true = at (names_transaction t) (subst (λ (u : Tid). names_transaction u ≡ true) (sym it) names) is in
          let here : past tid ≡ true = subst (λ (u : Tid). past u ≡ true) it its in cc (here, off))

pub node_facts : SteadyNodeFacts
node_facts world n steady low up = record {
  kinds = tidy.kinds;
  owned = tidy.crossed.owned;
  commits = all_known (is_kept_part node) node.manager.known tidy.ordered (λ t part known. kept t part known (began_here node t) refl part.outcome refl);
  queues = tidy.apart;
  unknown = unknown_of c node tidy (tm.next_tid node.manager) new;
  fresh = or_from (is_kept_commit (kept_outcome (tm.next_tid node.manager) node)) (list_any (same_tid (tm.next_tid node.manager)) node.committed)
      (ap (λ (o : Option Decided). is_kept_commit o) (none_found (is_outcome_of (tm.next_tid node.manager)) (is_tidy_outcome c) (λ d its. other (tm.next_tid node.manager) c.past new d.tid (and_both (c.past d.tid) _ its).0) node.kept.now.outcomes tidy.outcomes))
      (none_any (same_tid (tm.next_tid node.manager)) c.past (λ t its. other (tm.next_tid node.manager) c.past new t its) node.committed tidy.committed);
  past = λ t here names number. past (tm.knows t node.manager) (was_committed t node) (began_here node t) (tidy.crossed.pasts t here names number);
}
  where
    c : Stage
    c = stage_of world n

    node : NodeValue
    node = (world.hosts n).node

    tidy : IsTidyNode c node
    tidy = (steady.nodes n low).tidy

    new : c.past (tm.next_tid node.manager) ≡ false
    new = fresh_next c (stage_is world n low up steady.seated) node tidy

    kept : (t : Tid) (part : Participant) → tm.part_of t node.manager ≡ Some part → (b : Bool) → began_here node t ≡ b → (o : Option Outcome) → part.outcome ≡ o → where_so (b && (is_some o && not (is_abort o))) (was_committed t node) ≡ true
    kept t part known true here (Some outcomes.Commit) is = tidy.crossed.commits t part known here is
    kept t part known true here (Some outcomes.Abort) is = refl
    kept t part known true here None is = refl
    kept t part known false here o is = refl

    past : (a b h : Bool) → (a || b) ≡ true → where_so (h && not a) b ≡ true
    past true b true is = refl
    past true b false is = refl
    past false b true is = is
    past false b false is = refl

pub unbegun_unknown : UnbegunUnknown
unbegun_unknown tid world n steady low names off = record {
  part = unknown_of c node tidy tid off;
  waits = none_any (ipc.waits_in tid) (is_begun_queue c) (λ e all. none_any (queue.is_of tid) (is_begun_delivery c) (λ d its. other tid c.past off d.tid (past d.tid its)) e.1.waiting all) node.queues tidy.waiting;
  lent = none_any (is_standing_loan tid node.setting.inc) (is_tidy_loan c) (λ loan its. neither tid c.past off (same_tid tid loan.tid) _ (other tid c.past off loan.tid (past loan.tid (and_both (c.begun loan.tid) _ its).0))) node.kept.now.loans tidy.loans;
  outcome = none_found (is_outcome_of tid) (is_tidy_outcome c) (λ d its. other tid c.past off d.tid (and_both (c.past d.tid) _ its).0) node.kept.now.outcomes tidy.outcomes;
  doubt = none_any (λ (vote : Prepared). is_of tid vote && not vote.committed) (is_fit_vote c.past node.setting.node)
      (λ vote its. neither tid c.past off (is_of tid vote) _ (named tid c.past off vote.tid names (and_both (may_name c.past node.setting.node vote.tid) _ its).0)) (recovery (world.hosts n).log).prepared said.votes;
  untold = none_any (is_untold_of tid) (is_fit_commit c.past node.setting.node) (λ commit its. named tid c.past off commit.tid names (and_both (may_name c.past node.setting.node commit.tid) _ its).0) (recovery (world.hosts n).log).untold said.commits;
  committed = none_any (same_tid tid) c.past (λ t its. other tid c.past off t its) (recovery (world.hosts n).log).committed said.committed;
}
  where
    c : Stage
    c = stage_of world n

    node : NodeValue
    node = (world.hosts n).node

    tidy : IsTidyNode c node
    tidy = (steady.nodes n low).tidy

    said : IsSaidTidy c.past node.setting.node (recovery (world.hosts n).log)
    said = log_tidy c.past node.setting.node (world.hosts n).log (all_parted _ (world.hosts n).log (world.hosts n).waiting (steady.nodes n low).records).0

    past : (t : Tid) → c.begun t ≡ true → c.past t ≡ true
    past t is = (begun_past world.size (Rattle.qs_world_refine.specs.Begun.inc_in world) (Rattle.qs_world_refine.specs.Begun.count_in world) t is).0

-- The first step of an incarnation: what it found in its log is told, learnt or inquired of; the rule as a whole.
use Rattle.qs_world_lawful.proofs.Words.{◌≡◌, ℕ, Bool, true, false, List, [], ◌∷◌, Option, Some, None, refl, sym, subst, fold, if◌then◌else◌, Outcome, Tid, listed, Record, BookValue, Participant, send, log_if, give_notices, resume_home, resume_part, resume_tid, known_tids, begin_incarnation, Work, record_learnt, HoldsFiles, HoldsWork, book_at}
use Rattle.qs_base.specs.declared.identifiers.Outcome.TheVariants as outcomes
use Rattle.qs_packet.specs.declared.message.Message.TheVariants as messages
use Rattle.qs_tm.specs.Manager as tm
use Rattle.qs_node_step.specs.State.{NodeValue, with_node}
use Rattle.qs_world_lawful.proofs.Asking.{by_send, by_send_each, sent_node, sent_each_node}
use Rattle.qs_world_lawful.proofs.Bare.{by_log_if}
use Rattle.qs_world_lawful.proofs.Frames.{held_on, at_none, clients_on}
use Rattle.qs_world_lawful.proofs.Growing.{kept_on}
use Rattle.qs_world_lawful.proofs.Notices.{all_noticed}

module _ (stamp : ℕ) (before : BookValue) where
  -- what is held, and files as they are
  record Standing (work : Work) : Type 0 where
    pub held : HoldsWork stamp before work
    pub files : HoldsFiles work.node.servers

  logged : (o : Option Record) (work : Work) → Standing work → Standing (log_if o work)
  logged o work s = record { held = by_log_if stamp before work o s.held; files = by o }
    where
      by : (o : Option Record) → HoldsFiles (log_if o work).node.servers
      by None = s.files
      by (Some rec) = s.files

  resumed_home : (tid : Tid) (part : Participant) (work : Work) → Standing work → tm.part_of tid work.node.manager ≡ Some part → (outcome : Outcome) → part.outcome ≡ Some outcome → Standing (resume_home tid part outcome work)
  resumed_home tid part work s known outcomes.Commit knows = record {
    held = by_send_each stamp before work (listed part.tell) (messages.Tell tid outcomes.Commit) s.held;
    files = subst (λ (n : NodeValue). HoldsFiles n.servers) (sym (sent_each_node (messages.Tell tid outcomes.Commit) (listed part.tell) work)) s.files;
  }
  resumed_home tid part work s known outcomes.Abort knows =
      let noticed = all_noticed stamp before tid outcomes.Abort work (record { held = s.held; files = s.files; part = part; known = known; knows = knows }) in
      logged (record_learnt tid outcomes.Abort part) (give_notices tid outcomes.Abort work) (record { held = noticed.held; files = noticed.files })

  resumed_part : (tid : Tid) (part : Participant) (work : Work) → Standing work → tm.part_of tid work.node.manager ≡ Some part → Standing (resume_part tid part work)
  resumed_part tid part work s known = by part.outcome refl
    where
      by : (o : Option Outcome) → part.outcome ≡ o → Standing (elim o [ None ↦ send tid.home (messages.Inquire tid) work | Some outcome ↦ resume_home tid part outcome work ])
      by None is = record {
        held = by_send stamp before work tid.home (messages.Inquire tid) s.held;
        files = subst (λ (n : NodeValue). HoldsFiles n.servers) (sym (sent_node tid.home (messages.Inquire tid) work)) s.files;
      }
      by (Some outcome) is = resumed_home tid part work s known outcome is

  resumed : (work : Work) (tid : Tid) → Standing work → Standing (resume_tid work tid)
  resumed work tid s = by (tm.part_of tid work.node.manager) refl
    where
      by : (o : Option Participant) → tm.part_of tid work.node.manager ≡ o → Standing (elim o [ None ↦ work | Some part ↦ resume_part tid part work ])
      by None is = s
      by (Some part) is = resumed_part tid part work s is

  all_resumed : (tids : List Tid) (work : Work) → Standing work → Standing (fold resume_tid work tids)
  all_resumed [] work s = s
  all_resumed (tid ∷ tids) work s = all_resumed tids (resume_tid work tid) (resumed work tid s)

  module _ (work : Work) (h : HoldsWork stamp before work) (files : HoldsFiles work.node.servers) where
    abbrev begun_work : Work
    begun_work = with_node (λ node. record node { is_first = false }) work

    not_first : HoldsWork stamp before (with_node (λ node. record node { is_first = false }) work)
    not_first = kept_on stamp before work begun_work h refl refl
        (held_on stamp book book node new h.holds (record { setting = refl; at = refl; in_inc = refl }) refl h.holds.state (record { up = refl; inc = refl; begun = refl; format = refl })
        h.holds.order refl h.holds.there (λ t is. is) (at_none node.setting.node node.setting.inc book node new h.holds.at (λ t. record { known = refl; local = refl; changes = refl; loans = refl; waiting = λ s. refl }))
        (clients_on book book node new (λ t. refl) (λ k. refl) (record { setting = refl; at = refl; in_inc = refl }) (record { commands = refl; labels = refl; outcomes = refl }) h.holds.clients (λ t. refl)) h.holds.servers h.holds.waits)
      where
        node : NodeValue
        node = work.node

        new : NodeValue
        new = begun_work.node

        book : BookValue
        book = book_at stamp before work

    pub by_begin_incarnation : HoldsWork stamp before (begin_incarnation work)
    by_begin_incarnation = by work.node.is_first
      where
        by : (b : Bool) → HoldsWork stamp before (if b then fold resume_tid begun_work (known_tids work) else work)
        by true = (all_resumed (known_tids work) begun_work (record { held = not_first; files = files })).held
        by false = h

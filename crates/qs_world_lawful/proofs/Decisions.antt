-- The home decides, and another node takes the outcome in: the rules as wholes.
use Rattle.qs_world_lawful.proofs.Words.{◌≡◌, ℕ, true, Option, Some, None, refl, ap, slice_get, is_some, ClientNo, Outcome, Tid, Cause, TransactionValue, is_open, is_outcome, BookValue, find_transaction, broken, Record, Decision, Participant, enter, log_if, tid_of, keep_outcome, decide_as, give_notices, Work, with_manager, record_learnt, entry_of, HoldsFiles, HoldsWork, book_at}
use Rattle.qs_book_journal.specs.declared.entry.Act.TheVariants as acts
use Rattle.qs_packet.specs.declared.message.Message.TheVariants as messages
use Rattle.qs_tm.specs.Manager as tm
use Rattle.qs_tm.specs.Outcomes as outcome_rules
use Rattle.qs_node_step.specs.Deciding.{decide}
use Rattle.qs_node_step.specs.Telling.{learn}
use Rattle.qs_world_lawful.proofs.Asking.{by_send_each}
use Rattle.qs_world_lawful.proofs.Bare.{bare, bare_part, by_log_if}
use Rattle.qs_world_lawful.proofs.DecidingOne.{by_decide}
use Rattle.qs_world_lawful.proofs.Faces.{part_changed}
use Rattle.qs_world_lawful.proofs.Frames.{found_alike}
use Rattle.qs_world_lawful.proofs.LearningAll.{Midst}
use Rattle.qs_world_lawful.proofs.Notices.{all_noticed}
use Rattle.qs_world_lawful.proofs.Taking.{by_took}

module _ (stamp : ℕ) (before : BookValue) (work : Work) (tid : Tid) (outcome : Outcome) (part : Participant) (tx : TransactionValue) (h : HoldsWork stamp before work) (files : HoldsFiles work.node.servers)
    (known : tm.part_of tid work.node.manager ≡ Some part) (found : find_transaction (book_at stamp before work) tid ≡ Some tx) (unknown : part.outcome ≡ None) where
  -- ---- the decision

  module _ (cause : Option Cause) (still : is_open tx.cell ≡ true) (slot : (client : ClientNo) → tx.owner ≡ Some client → is_some (slice_get (book_at stamp before work).owners client.0) ≡ true)
      (lawful : broken (book_at stamp before work) (entry_of work.node.setting.node.0 stamp (acts.Decide tid outcome cause)) ≡ None) where
    decided_midst : (rec : Option Record) → Midst stamp before tid outcome (enter (acts.Decide tid outcome cause) (keep_outcome tid outcome cause (log_if rec (with_manager (tm.decide tid outcome) work))))
    decided_midst None = record {
      held = by_decide stamp before work tid outcome cause None part tx h known found unknown still slot lawful;
      files = files;
      part = outcome_rules.decided outcome part;
      known = part_changed tid (outcome_rules.decided outcome) work.node.manager part known;
      knows = refl;
    }
    decided_midst (Some rec) =
        let manager = tm.decide tid outcome work.node.manager in
        let now = found_alike bare (tm.part_of tid (tm.logged (tid_of rec) rec manager)) (tm.part_of tid manager) (outcome_rules.decided outcome part) ((bare_part (tid_of rec) (outcome_rules.logged rec) (λ p. refl) manager).parts tid) (part_changed tid (outcome_rules.decided outcome) work.node.manager part known) in
        record {
          held = by_decide stamp before work tid outcome cause (Some rec) part tx h known found unknown still slot lawful;
          files = files;
          part = now.0;
          known = now.1;
          knows = ap (λ (p : Participant). p.outcome) now.2;
        }

    pub by_decision : HoldsWork stamp before (decide tid outcome cause work)
    by_decision = by (tm.decision tid outcome work.node.manager)
      where
        by : (made : Decision) → HoldsWork stamp before (decide_as tid outcome cause made work)
        by made =
            let mid = enter (acts.Decide tid outcome cause) (keep_outcome tid outcome cause (log_if made.rec (with_manager (tm.decide tid outcome) work))) in
            by_send_each stamp before (give_notices tid outcome mid) made.tell (messages.Tell tid outcome) (all_noticed stamp before tid outcome mid (decided_midst made.rec)).held

  -- ---- the outcome is told, and its servers learn it

  pub by_told : is_outcome outcome tx.cell ≡ true → HoldsWork stamp before (learn tid outcome part work)
  by_told cell =
      let mid = with_manager (tm.took_outcome tid outcome) work in
      by_log_if stamp before (give_notices tid outcome mid) (record_learnt tid outcome part)
      (all_noticed stamp before tid outcome mid (record {
        held = by_took stamp before work tid outcome part tx h known found unknown cell;
        files = files;
        part = outcome_rules.took_outcome outcome part;
        known = part_changed tid (outcome_rules.took_outcome outcome) work.node.manager part known;
        knows = refl;
      })).held

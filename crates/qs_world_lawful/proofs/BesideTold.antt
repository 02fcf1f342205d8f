-- An outcome that is told is taken in, told on and forgotten: what stands before these rules stands after them.
use Rattle.qs_world_lawful.proofs.Words.{◌≡◌, inl, ℕ, Bool, true, false, List, [], ◌∷◌, ◌++◌, Option, Some, None, refl, sym, ap, subst, ◌∙◌, if◌then◌else◌, list_any, ◌||◌, is_some, same_tid, NodeNo, Outcome, Tid, listed, same_node, Act, Decided, BookValue, cell_of_transaction, find_transaction, book_after, TransactionValue, cell_of, is_commit, is_outcome, Cell, Message, Record, answer_known, answer_unknown, inquiry_came, is_kept_commit, kept_outcome, is_other, log, log_if, send}
use Rattle.qs_world_lawful.proofs.Words.{tid_of, give_notices, Work, here, with_manager, end_record, end_told, forget, is_other_node, keep_abort_told, learn_unknown, names_at, record_learnt, take_names, take_outcome, take_told, tell_came, told_at_home, told_came, told_known, told_unknown, is_undecided, Participant, entries_of, InRun, IsSent, HoldsBeside, HoldsEnded, HoldsWork, book_at, face_of, HasEnded, HoldsTid, HasAborted, HasCommitted, HasOutcome, HasNodeFacts, GoesTo, IsSaid, eqb-true}
use Rattle.qs_base.specs.declared.identifiers.Outcome.TheVariants as outcomes
use Rattle.qs_book_machine.specs.Transaction.{is_abort}
use Rattle.qs_book_machine.specs.declared.transaction.Cell.TheVariants as cells
use Rattle.qs_packet.specs.declared.message.Message.TheVariants as messages
use Rattle.qs_record.specs.declared.record.Record.TheVariants as records
use Rattle.qs_node_step.specs.Answering.{inquiry_at_home, was_committed}
use Rattle.qs_node_step.specs.State.{NodeValue, part_of}
use Rattle.qs_node_step.specs.Telling.{learn, names_of}
use Rattle.qs_tm.specs.Manager as tm
use Rattle.qs_tm.specs.Outcomes as outcome_rules
use Rattle.qs_tm.specs.Participant as participant
use Rattle.qs_world_lawful.proofs.DecidedOutcomes.{cell_is, outcome_said}
use Rattle.qs_world_lawful.proofs.BesideGoes.{Goes, goes_elim, goes_if, goes_part, goes_self, goes_send, goes_sends, goes_still, goes_then, says_on}
use Rattle.qs_world_lawful.proofs.BesideKnown.{beside_custom, goes_custom, goes_forget, goes_keep}
use Rattle.qs_world_lawful.proofs.BesideLearnt.{Ended, goes_notices, notices_still}
use Rattle.qs_world_lawful.proofs.BesideParts.{PartOn, part_ended}
use Rattle.qs_world_lawful.proofs.Clauses.{of_tid}
use Rattle.qs_world_lawful.proofs.FactsQuiet.{acknowledged_quiet}
use Rattle.qs_world_lawful.proofs.FactsStages.{log_if_keeps, part_keeps}
use Rattle.qs_world_lawful.proofs.Faces.{part_apart, part_changed, part_unknown}
use Rattle.qs_world_lawful.proofs.LogRecords.{every_append}
use Rattle.qs_world_lawful.proofs.Truths.{clash, node_is, of_some}

-- a change of what is told and acknowledged alone
pub kept_on : (p q : Participant) → q ≡ record p { tell = q.tell; told = q.told; acknowledged = q.acknowledged } → PartOn p q
kept_on p q same = subst (PartOn p) (sym same) (record { notes = record { keeps = λ c is. is }; asked = refl; outcome = refl; causes = inl refl; members = refl; involved = λ is. is; home = refl; begun_at = refl; unended = λ is. is })

outcome_so : (o : Outcome) → is_outcome o (cell_of o) ≡ true
outcome_so outcomes.Commit = refl
outcome_so outcomes.Abort = refl

-- the cell of what has that outcome
has_cell : (book : BookValue) (tid : Tid) (o : Outcome) (tx : TransactionValue) → HasOutcome book tid o → find_transaction book tid ≡ Some tx → is_outcome o tx.cell ≡ true
has_cell book tid o tx has found = subst (λ (c : Cell). is_outcome o c ≡ true) (sym (of_some (sym (ap cell_of_transaction found) ∙ has))) (outcome_so o)

module _ (stamp : ℕ) (before : BookValue) (run : InRun before) where
  abbrev On : Work → Work → Type 0
  On work new = Goes stamp before run work new

  same_book : (work new : Work) → new.node.setting ≡ work.node.setting → new.out.entries ≡ work.out.entries → book_at stamp before new ≡ book_at stamp before work
  same_book work new setting entries = ap (λ (n : ℕ). book_at_of n new.out.entries) (ap (λ s. s.node.0) setting) ∙ ap (book_at_of (here work).0) entries
    where
      book_at_of : ℕ → List Act → BookValue
      book_at_of n es = book_after before (entries_of n stamp es)

  -- ---- what was so before may be said later

  pub goes_late : (work mid : Work) (to : NodeNo) (message : Message) → On work mid → GoesTo to.0 message → (HoldsBeside (book_at stamp before work) work.node → IsSaid (book_at stamp before work) message) → On work (send to message mid)
  goes_late work mid to message g goes says = by (is_other mid.node.setting to) refl
    where
      sent : Work
      sent = record mid { out = record mid.out { messages = mid.out.messages ++ record { to = to; message = message } ∷ [] } }

      by : (b : Bool) → is_other mid.node.setting to ≡ b → On work (if b then sent else mid)
      by false is = g
      by true is = record {
        more = g.more;
        entries = g.entries;
        setting = g.setting;
        logged = g.logged;
        keeps = g.keeps;
        sends = λ lawful h all. every_append (IsSent (book_at stamp before mid) mid.node.setting) mid.out.messages (record { to = to; message = message } ∷ []) (g.sends lawful h all)
            (record { other = is; goes = goes; says = says_on stamp before run work mid g.more g.entries g.setting lawful message (says h) }, tt);
      }

  -- ---- a record of what is decided

  pub goes_logged : (work : Work) (tid : Tid) (o : Outcome) (rec : Record) → tid_of rec ≡ tid → Ended stamp before run tid o work → On work (log rec work)
  goes_logged work tid o rec at e = goes_still stamp before run work (log rec work) refl refl refl refl
      (λ h. subst (λ (t : Tid). HoldsBeside (book_at stamp before work) (record work.node { manager = tm.logged t rec work.node.manager })) (sym at)
      (beside_custom (book_at stamp before work) work.node (tm.logged tid rec work.node.manager) refl tid (λ t far. part_apart tid t (outcome_rules.logged rec) work.node.manager far) h (λ none. part_unknown tid (outcome_rules.logged rec) work.node.manager none)
      (λ tx found p known w. (
        outcome_rules.logged rec p,
        part_changed tid (outcome_rules.logged rec) work.node.manager p known,
        part_ended (book_at stamp before work) h.state (record work.node { manager = tm.logged tid rec work.node.manager }) tid tx (outcome_rules.logged rec p) o (decided p known) (w.outcome o (decided p known))
            (record { issued = w.notes.issued; served = w.notes.served }) w.asked,
      ))))
    where
      decided : (p : Participant) → tm.part_of tid work.node.manager ≡ Some p → p.outcome ≡ Some o
      decided p known = ap (λ (x : Participant). x.outcome) (of_some (sym known ∙ e.known)) ∙ e.decided

  -- ---- an outcome is taken in

  goes_took : (work : Work) (tid : Tid) (outcome : Outcome) → HasOutcome (book_at stamp before work) tid outcome → On work (with_manager (tm.took_outcome tid outcome) work)
  goes_took work tid outcome has = goes_custom stamp before run work tid (tm.took_outcome tid outcome work.node.manager) refl (λ t far. part_apart tid t (outcome_rules.took_outcome outcome) work.node.manager far)
      (λ none. part_unknown tid (outcome_rules.took_outcome outcome) work.node.manager none)
      (λ h tx found p known w. (
        outcome_rules.took_outcome outcome p,
        part_changed tid (outcome_rules.took_outcome outcome) work.node.manager p known,
        part_ended (book_at stamp before work) h.state (record work.node { manager = tm.took_outcome tid outcome work.node.manager }) tid tx (outcome_rules.took_outcome outcome p) outcome refl (has_cell (book_at stamp before work) tid outcome tx has found)
            (record { issued = w.notes.issued; served = w.notes.served }) w.asked,
      ))

  pub goes_ends_record : (work : Work) (tid : Tid) (outcome : Outcome) (part : Participant) → Ended stamp before run tid outcome work → On work (log_if (record_learnt tid outcome part) work)
  goes_ends_record work tid outcome part e = by part.log.prepared
    where
      at : (o : Outcome) → tid_of (end_record tid o) ≡ tid
      at outcomes.Commit = refl
      at outcomes.Abort = refl

      by : (b : Bool) → On work (log_if (if b then Some (end_record tid outcome) else None) work)
      by false = goes_self stamp before run work
      by true = goes_logged work tid outcome (end_record tid outcome) (at outcome) e

  goes_learn : (work : Work) (tid : Tid) (outcome : Outcome) (part : Participant) → part_of tid work ≡ Some part → HasOutcome (book_at stamp before work) tid outcome → On work (learn tid outcome part work)
  goes_learn work tid outcome part known has =
      goes_then stamp before run work taken (learn tid outcome part work) (goes_took work tid outcome has)
      (goes_then stamp before run taken (give_notices tid outcome taken) (learn tid outcome part work) (goes_notices stamp before run tid outcome outcome taken e)
      (goes_ends_record (give_notices tid outcome taken) tid outcome part (notices_still stamp before run tid outcome outcome taken e)))
    where
      taken : Work
      taken = with_manager (tm.took_outcome tid outcome) work

      e : Ended stamp before run tid outcome (with_manager (tm.took_outcome tid outcome) work)
      e = record { part = outcome_rules.took_outcome outcome part; known = part_changed tid (outcome_rules.took_outcome outcome) work.node.manager part known; decided = refl }

  -- ---- what holds of a transaction that is aborted and unknown

  module _ (work : Work) (held : HoldsWork stamp before work) where
    aborted_there : (tid : Tid) → HasAborted (book_at stamp before work) tid
        → (tx : TransactionValue) × (find_transaction (book_at stamp before work) tid ≡ Some tx) × (is_abort tx.cell ≡ true) × HoldsTid work.node.setting.node work.node.setting.inc tid tx (face_of work.node tid)
    aborted_there tid has = by (find_transaction (book_at stamp before work) tid) refl has
      where
        by : (o : Option TransactionValue) → find_transaction (book_at stamp before work) tid ≡ o → cell_of_transaction o ≡ Some cells.Abort
            → (tx : TransactionValue) × (find_transaction (book_at stamp before work) tid ≡ Some tx) × (is_abort tx.cell ≡ true) × HoldsTid work.node.setting.node work.node.setting.inc tid tx (face_of work.node tid)
        by None is e = absurd (cc e)
        by (Some tx) is e = (tx, is, ap is_abort (of_some e), of_tid stamp (book_at stamp before work) work.node held.holds tid tx is)

    -- ---- a Tell comes

    goes_outcome : (tid : Tid) (outcome : Outcome) → HasOutcome (book_at stamp before work) tid outcome → On work (take_outcome tid outcome work)
    goes_outcome tid outcome has = goes_elim stamp before run (part_of tid work) work (learn_unknown tid outcome work) (λ part. if is_undecided part then learn tid outcome part work else work) (λ none. unknown outcome has none)
        (λ part known. goes_if stamp before run (is_undecided part) work (learn tid outcome part work) work (λ is. goes_learn work tid outcome part known has) (λ is. goes_self stamp before run work))
      where
        unknown : (o : Outcome) → HasOutcome (book_at stamp before work) tid o → part_of tid work ≡ None → On work (learn_unknown tid o work)
        unknown outcomes.Commit has none = goes_self stamp before run work
        unknown outcomes.Abort has none = goes_keep stamp before run work tid (λ un. aborted_there tid has)

    pub goes_tell : (peer : NodeNo) (tid : Tid) (outcome : Outcome) → HasOutcome (book_at stamp before work) tid outcome → On work (tell_came peer tid outcome work)
    goes_tell peer tid outcome has = goes_if stamp before run (same_node tid.home (here work)) work work _ (λ is. goes_self stamp before run work)
        (λ far. goes_late work (take_outcome tid outcome work) peer (messages.Told tid (names_at tid outcome work)) (goes_outcome tid outcome has) tt (λ h. names outcome has))
      where
        names : (o : Outcome) → HasOutcome (book_at stamp before work) tid o → list_any (is_other_node tid) (names_at tid o work) ≡ true → HasAborted (book_at stamp before work) tid
        names outcomes.Abort has is = has
        names outcomes.Commit has is = absurd (of (part_of tid work) is)
          where
            of : (x : Option Participant) → list_any (is_other_node tid) (elim x [ None ↦ [] | Some p ↦ names_of tid outcomes.Commit p ]) ≡ true → ⊥
            of None e = cc e
            of (Some p) e = cc e

    -- ---- a Told comes

    goes_names : (w : Work) (tid : Tid) (further : List NodeNo) → HasAborted (book_at stamp before w) tid → On w (take_names tid further w)
    goes_names w tid further has = goes_then stamp before run w (with_manager (tm.take_names tid further) w) (take_names tid further w)
        (goes_part stamp before run tid (outcome_rules.take_names tid.home further) w (λ p at. kept_on p (outcome_rules.take_names tid.home further p) refl))
        (goes_sends stamp before run (listed (tm.new_names tid further w.node.manager)) (messages.Tell tid outcomes.Abort) (with_manager (tm.take_names tid further) w) (λ to. tt)
        (λ x at es h. subst (λ (b : BookValue). HasAborted b tid) (sym (same_book w x (ap (λ (n : NodeValue). n.setting) at) es)) has))

    goes_kept : (tid : Tid) (peer : NodeNo) → HasAborted (book_at stamp before work) tid → On work (keep_abort_told tid peer work)
    goes_kept tid peer has = goes_then stamp before run work (with_manager (tm.keep_abort tid) work) (keep_abort_told tid peer work) (goes_keep stamp before run work tid (λ none. aborted_there tid has))
        (goes_part stamp before run tid (outcome_rules.add_tell peer) (with_manager (tm.keep_abort tid) work) (λ p at. kept_on p (outcome_rules.add_tell peer p) refl))

    -- all took it in
    goes_took_told : (peer : NodeNo) (tid : Tid) (part : Participant) → HasNodeFacts work.node → part_of tid work ≡ Some part → part.outcome ≡ Some outcomes.Commit → On work (take_told peer tid work)
    goes_took_told peer tid part facts known decided = goes_then stamp before run work acked (take_told peer tid work) (goes_part stamp before run tid (outcome_rules.acknowledged peer) work (λ p at. kept_on p (outcome_rules.acknowledged peer p) refl)) (by (tm.all_acknowledged tid peer work.node.manager))
      where
        acked : Work
        acked = with_manager (tm.acknowledged tid peer) work

        ended : Work
        ended = log (records.End tid) (with_manager (tm.acknowledged tid peer) work)

        known_acked : part_of tid acked ≡ Some (outcome_rules.acknowledged peer part)
        known_acked = part_changed tid (outcome_rules.acknowledged peer) work.node.manager part known

        known_ended : part_of tid ended ≡ Some (outcome_rules.logged (records.End tid) (outcome_rules.acknowledged peer part))
        known_ended = part_changed tid (outcome_rules.logged (records.End tid)) (tm.acknowledged tid peer work.node.manager) (outcome_rules.acknowledged peer part) known_acked

        facts_ended : HasNodeFacts ended.node
        facts_ended = log_if_keeps (Some (records.End tid)) (with_manager (tm.acknowledged tid peer) work) (part_keeps tid (outcome_rules.acknowledged peer) (acknowledged_quiet peer) work facts)

        committed : (h : HoldsBeside (book_at stamp before ended) ended.node) (tx : TransactionValue) → find_transaction (book_at stamp before ended) tid ≡ Some tx → is_commit tx.cell ≡ true
        committed h tx found = ap is_commit (cell_is outcomes.Commit tx.cell (((h.at tid).parts tx _ found known_ended).outcome outcomes.Commit decided))

        by : (b : Bool) → On (with_manager (tm.acknowledged tid peer) work) (end_told b tid (with_manager (tm.acknowledged tid peer) work))
        by false = goes_self stamp before run (with_manager (tm.acknowledged tid peer) work)
        by true = goes_then stamp before run acked ended (forget tid ended)
            (goes_logged acked tid outcomes.Commit (records.End tid) refl (record { part = outcome_rules.acknowledged peer part; known = known_acked; decided = decided }))
            (goes_forget stamp before run ended tid facts_ended.rising
            (λ h tx found. (
              (λ open_still. absurd (clash (sym open_still ∙ committed h tx found))),
              (λ home. let e : HoldsEnded ended.node tid tx = (h.at tid).ended tx home found in
                  record { committed = e.committed; unknown = λ none un. absurd (clash (sym un ∙ e.committed (committed h tx found))) }),
            )))

    pub goes_told : (peer : NodeNo) (tid : Tid) (further : List NodeNo) → HasNodeFacts work.node → (list_any (is_other_node tid) further ≡ true → HasAborted (book_at stamp before work) tid) → HoldsBeside (book_at stamp before work) work.node → On work (told_came peer tid further work)
    goes_told peer tid further facts says h = goes_if stamp before run (same_node tid.home (here work)) work (told_at_home peer tid further work) work
        (λ near. goes_elim stamp before run (part_of tid work) work (told_unknown peer tid further work) (λ part. told_known peer tid further part.outcome work) (λ none. unknown)
        (λ part known. of part known part.outcome refl)) (λ far. goes_self stamp before run work)
      where
        unknown : On work (told_unknown peer tid further work)
        unknown = goes_if stamp before run (list_any (is_other_node tid) further) work (take_names tid further (keep_abort_told tid peer work)) work
            (λ is. goes_then stamp before run work (keep_abort_told tid peer work) (take_names tid further (keep_abort_told tid peer work)) (goes_kept tid peer (says is)) (goes_names (keep_abort_told tid peer work) tid further (says is)))
            (λ is. goes_self stamp before run work)

        of : (part : Participant) → part_of tid work ≡ Some part → (o : Option Outcome) → part.outcome ≡ o → On work (told_known peer tid further o work)
        of part known None is = goes_self stamp before run work
        of part known (Some outcomes.Commit) is = goes_took_told peer tid part facts known is
        of part known (Some outcomes.Abort) is = goes_names work tid further (outcome_said (book_at stamp before work) work.node tid part outcomes.Abort known is h)

    -- ---- an Inquire comes

    pub goes_inquiry : (peer : NodeNo) (tid : Tid) → HoldsBeside (book_at stamp before work) work.node → (list_any (same_tid tid) work.node.committed ≡ true → HasCommitted (book_at stamp before work) tid)
        → is_some (find_transaction (book_at stamp before work) tid) ≡ true → On work (inquiry_came peer tid work)
    goes_inquiry peer tid h logged there = goes_if stamp before run (same_node tid.home (here work)) work (inquiry_at_home peer tid work) work
        (λ near. goes_elim stamp before run (part_of tid work) work (answer_unknown peer tid work) (λ part. answer_known peer tid part.outcome work) (λ none. unknown near none) (λ part known. of part known part.outcome refl)) (λ far. goes_self stamp before run work)
      where
        home : same_node tid.home (here work) ≡ true → tid.home ≡ work.node.setting.node
        home near = node_is tid.home work.node.setting.node (eqb-true tid.home.0 work.node.setting.node.0 near)

        committed : was_committed tid work.node ≡ true → HasCommitted (book_at stamp before work) tid
        committed is = at (kept_outcome tid work.node) refl is
          where
            ended : (d : Decided) → HasEnded (book_at stamp before work) tid d → is_kept_commit (Some d) ≡ true → HasCommitted (book_at stamp before work) tid
            ended d e commits = ap cell_of_transaction e.found ∙ ap Some (commit_cell d.outcome e.tx.cell commits e.as_kept)
              where
                commit_cell : (o : Outcome) (c : Cell) → (elim o [ outcomes.Commit ↦ true | outcomes.Abort ↦ false ]) ≡ true → is_outcome o c ≡ true → c ≡ cells.Commit
                commit_cell outcomes.Commit c e is = cell_is outcomes.Commit c is
                commit_cell outcomes.Abort c e is = absurd (cc e)

            either : (d : Decided) → kept_outcome tid work.node ≡ Some d → (b : Bool) → is_kept_commit (Some d) ≡ b → (b || list_any (same_tid tid) work.node.committed) ≡ true → HasCommitted (book_at stamp before work) tid
            either d kept true commits e = ended d (held.holds.clients.outcomes tid d kept) commits
            either d kept false commits e = logged e

            at : (o : Option Decided) → kept_outcome tid work.node ≡ o → (is_kept_commit o || list_any (same_tid tid) work.node.committed) ≡ true → HasCommitted (book_at stamp before work) tid
            at None kept e = logged e
            at (Some d) kept e = either d kept (is_kept_commit (Some d)) refl e

        unknown : same_node tid.home (here work) ≡ true → part_of tid work ≡ None → On work (answer_unknown peer tid work)
        unknown near none = goes_if stamp before run (was_committed tid work.node) work _ _ (λ was. goes_send stamp before run peer (messages.Tell tid outcomes.Commit) work tt (λ k. committed was))
            (λ un. goes_then stamp before run work (keep_abort_told tid peer work) _ (goes_kept tid peer (aborted un)) (goes_send stamp before run peer (messages.Tell tid outcomes.Abort) (keep_abort_told tid peer work) tt (λ k. aborted un)))
          where
            aborted : was_committed tid work.node ≡ false → HasAborted (book_at stamp before work) tid
            aborted un = by (find_transaction (book_at stamp before work) tid) refl there
              where
                abort_cell : (c : Cell) → is_abort c ≡ true → c ≡ cells.Abort
                abort_cell cells.Abort e = refl
                abort_cell cells.Open e = absurd (cc e)
                abort_cell cells.Commit e = absurd (cc e)

                by : (o : Option TransactionValue) → find_transaction (book_at stamp before work) tid ≡ o → is_some (find_transaction (book_at stamp before work) tid) ≡ true → cell_of_transaction (find_transaction (book_at stamp before work) tid) ≡ Some cells.Abort
                by None is e = absurd (clash (sym (ap is_some is) ∙ e))
                by (Some tx) is e = ap cell_of_transaction is ∙ ap Some (abort_cell tx.cell (((h.at tid).ended tx (home near) is).unknown none un))

        of : (part : Participant) → part_of tid work ≡ Some part → (o : Option Outcome) → part.outcome ≡ o → On work (answer_known peer tid o work)
        of part known None is = goes_part stamp before run tid (participant.add_told peer) work (λ p at. kept_on p (participant.add_told peer p) refl)
        of part known (Some outcomes.Commit) is = goes_send stamp before run peer (messages.Tell tid outcomes.Commit) work tt (λ k. outcome_said (book_at stamp before work) work.node tid part outcomes.Commit known is k)
        of part known (Some outcomes.Abort) is = goes_then stamp before run work (with_manager (tm.add_tell tid peer) work) _ (goes_part stamp before run tid (outcome_rules.add_tell peer) work (λ p at. kept_on p (outcome_rules.add_tell peer p) refl))
            (goes_send stamp before run peer (messages.Tell tid outcomes.Abort) (with_manager (tm.add_tell tid peer) work) tt (λ k. outcome_said (book_at stamp before work) work.node tid part outcomes.Abort known is h))

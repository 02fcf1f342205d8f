-- What each thing of a step keeps, decisions, outcomes that are told and inquiries keep.
use Rattle.qs_world_refine.proofs.Words.{◌≡◌, inr, ℕ, Bool, true, false, List, [], ◌∷◌, Option, Some, None, refl, ap, subst, if◌then◌else◌, fold, ◌∙◌, list_any, NodeNo, ServerNo, Tid, listed, same_node, after_notice, Cause, Record, record_of, writes_commit, is_undecided, Decision, Participant, was_committed, answer_unknown, answer_known, inquiry_came, log, log_if, notify, end_member, due_endings, end_members, learn_member, learners_at, give_notices, keep_outcome, decide, decide_as, decide_commit}
use Rattle.qs_world_refine.proofs.Words.{Work, here, part_of, with_manager, change_server, names_at, end_record, record_learnt, learn, learn_unknown, take_outcome, tell_came, forget, end_told, take_told, take_names, keep_abort_told, is_other_node, told_unknown, told_known, told_came, fits_record, Reads, Keeps, MayLog, MayForget, is_decided, is_homed}
use Rattle.qs_base.specs.declared.identifiers.Outcome.{Outcome}
use Rattle.qs_base.specs.declared.identifiers.Outcome.TheVariants as outcomes
use Rattle.qs_book_journal.specs.declared.entry.Act.TheVariants as acts
use Rattle.qs_ops.specs.declared.answer.Cause.TheVariants as causes
use Rattle.qs_ops.specs.declared.vote.Notice.{Notice}
use Rattle.qs_ops.specs.declared.vote.Notice.TheVariants as notices
use Rattle.qs_packet.specs.declared.message.Message.TheVariants as messages
use Rattle.qs_record.specs.declared.record.Record.TheVariants as records
use Rattle.qs_tm.specs.Manager as tm
use Rattle.qs_tm.specs.Outcomes as outcome_rules
use Rattle.qs_tm.specs.Participant as participant
use Rattle.qs_node_step.specs.Deciding.{notice_of}
use Rattle.qs_world_refine.proofs.Maps.{lookup_changed}
use Rattle.qs_world_refine.proofs.ServerKinds.{notice_kind}
use Rattle.qs_world_refine.proofs.SoundHolds.{told_with}
use Rattle.qs_world_refine.proofs.SoundParts.{and_both, both_and}
use Rattle.qs_world_refine.proofs.WalkRules.{fold_walk, if_walk, here_home, sends_walk}

-- what a decision makes
abbrev pub made : Tid → Outcome → Option Participant → Decision
made tid outcome o = elim o [ None ↦ tm.no_decision | Some part ↦ record { rec = record_of tid outcome part; tell = listed (outcome_rules.tell_of outcome part) } ]

module _ (P Q : Tid → Bool) (R : NodeNo → Bool) (me : NodeNo) (nodes : ℕ) (I : Work → Type 0) (reads : Reads P Q R me nodes I) (keeps : Keeps P Q R me nodes I) where
  pub log_if_walk : (rec : Option Record) (work : Work) → ((r : Record) → rec ≡ Some r → fits_record P me r ≡ true) → ((r : Record) → rec ≡ Some r → MayLog r work) → I work → I (log_if rec work)
  log_if_walk None work fit may i = i
  log_if_walk (Some rec) work fit may i = keeps.log rec work (fit rec refl) (may rec refl) i

  -- ---- notices

  notify_walk : (tid : Tid) (notice : Notice) (server : ServerNo) (work : Work) → I work → I (notify tid notice server work)
  notify_walk tid notice server work i =
      keeps.part tid (outcome_rules.settled server) (change_server server (λ value. after_notice value tid notice) work) (λ part. record { home = refl; superior = refl; asked = refl; outcome = refl; log = refl; begun = refl })
      (keeps.serve server (λ value. after_notice value tid notice) work (λ value. notice_kind value tid notice) i)

  pub end_members_walk : (tid : Tid) (work : Work) → I work → I (end_members tid work)
  end_members_walk tid work i = fold_walk P Q R me nodes I reads keeps (end_member tid) (λ w server j. keeps.enter _ _ (notify_walk tid notices.Ending server w j)) (due_endings tid work) work i

  learn_members_walk : (tid : Tid) (outcome : Outcome) (work : Work) → I work → I (Rattle.qs_node_step.specs.Deciding.learn_members tid outcome work)
  learn_members_walk tid outcome work i = fold_walk P Q R me nodes I reads keeps (learn_member tid outcome) (λ w server j. keeps.enter _ _ (notify_walk tid (notice_of outcome) server w j)) (learners_at tid work) work i

  pub notices_walk : (tid : Tid) (outcome : Outcome) (work : Work) → I work → I (give_notices tid outcome work)
  notices_walk tid outcomes.Commit work i = learn_members_walk tid outcomes.Commit work i
  notices_walk tid outcomes.Abort work i = learn_members_walk tid outcomes.Abort (end_members tid work) (end_members_walk tid work i)

  -- ---- the decision

  homed_list : (tid : Tid) (list : List NodeNo) → P tid ≡ true → same_node tid.home me ≡ true → fits_record P me (records.Commit tid list) ≡ true
  homed_list tid [] its homed = both_and (P tid) true its refl
  homed_list tid (first ∷ others) its homed = both_and (P tid) _ its homed

  decided_fits : (tid : Tid) (outcome : Outcome) (rec : Record) → is_homed P me tid ≡ true → (o : Option Participant) → (made tid outcome o).rec ≡ Some rec → fits_record P me rec ≡ true
  decided_fits tid outcome rec homed None is = absurd (cc (is))
  decided_fits tid outcomes.Commit rec homed (Some part) is = by (writes_commit part) is
    where
      both : (P tid ≡ true) × (same_node tid.home me ≡ true)
      both = and_both (P tid) _ homed

      by : (b : Bool) → (if b then Some (records.Commit tid (listed part.told)) else None) ≡ Some rec → fits_record P me rec ≡ true
      by true is = let same : records.Commit tid (listed part.told) ≡ rec = cc (is) in subst (λ (r : Record). fits_record P me r ≡ true) same (homed_list tid (listed part.told) both.0 both.1)
      by false is = absurd (cc (is))
  decided_fits tid outcomes.Abort rec homed (Some part) is = by part.log.prepared is
    where
      by : (b : Bool) → (if b then Some (records.Aborted tid) else None) ≡ Some rec → fits_record P me rec ≡ true
      by true is = let same : records.Aborted tid ≡ rec = cc (is) in subst (λ (r : Record). fits_record P me r ≡ true) same (and_both (P tid) _ homed).0
      by false is = absurd (cc (is))

  -- a Commit is logged of what is decided then, and no Prepare
  decided_may : (tid : Tid) (outcome : Outcome) (cause : Option Cause) (rec : Record) (work : Work) → (o : Option Participant) → part_of tid work ≡ o → (made tid outcome o).rec ≡ Some rec → MayLog rec (keep_outcome tid outcome cause (with_manager (tm.decide tid outcome) work))
  decided_may tid outcome cause rec work None none is = absurd (cc (is))
  decided_may tid outcomes.Commit cause rec work (Some part) known is = by (writes_commit part) is
    where
      told : tm.told_of tid false is_decided (tm.decide tid outcomes.Commit work.node.manager) ≡ true
      told = told_with tid false is_decided (outcome_rules.decided outcomes.Commit) work.node.manager ∙ ap (λ (o : Option Participant). elim o [ None ↦ false | Some p ↦ is_decided (outcome_rules.decided outcomes.Commit p) ]) known

      by : (b : Bool) → (if b then Some (records.Commit tid (listed part.told)) else None) ≡ Some rec → MayLog rec (keep_outcome tid outcomes.Commit cause (with_manager (tm.decide tid outcomes.Commit) work))
      by true is = let same : records.Commit tid (listed part.told) ≡ rec = cc (is) in subst (λ (r : Record). MayLog r (keep_outcome tid outcomes.Commit cause (with_manager (tm.decide tid outcomes.Commit) work))) same told
      by false is = absurd (cc (is))
  decided_may tid outcomes.Abort cause rec work (Some part) known is = by part.log.prepared is
    where
      by : (b : Bool) → (if b then Some (records.Aborted tid) else None) ≡ Some rec → MayLog rec (keep_outcome tid outcomes.Abort cause (with_manager (tm.decide tid outcomes.Abort) work))
      by true is = let same : records.Aborted tid ≡ rec = cc (is) in subst (λ (r : Record). MayLog r (keep_outcome tid outcomes.Abort cause (with_manager (tm.decide tid outcomes.Abort) work))) same tt
      by false is = absurd (cc (is))

  -- what is kept for the owner and what is logged stand apart
  kept_then_logged : (rec : Option Record) (tid : Tid) (outcome : Outcome) (cause : Option Cause) (work : Work) → log_if rec (keep_outcome tid outcome cause work) ≡ keep_outcome tid outcome cause (log_if rec work)
  kept_then_logged None tid outcome cause work = refl
  kept_then_logged (Some rec) tid outcome cause work = refl

  -- once the node and its owner know the outcome
  pub decided_walk : (tid : Tid) (outcome : Outcome) (cause : Option Cause) (work : Work) → is_homed P me tid ≡ true → I (keep_outcome tid outcome cause (with_manager (tm.decide tid outcome) work)) → I (decide tid outcome cause work)
  decided_walk tid outcome cause work homed kept = sends_walk P Q R me nodes I reads keeps (tm.decision tid outcome work.node.manager).tell (messages.Tell tid outcome) _ (λ node. homed)
      (notices_walk tid outcome _ (keeps.enter (acts.Decide tid outcome cause) _ logged))
    where
      logged : I (keep_outcome tid outcome cause (log_if (tm.decision tid outcome work.node.manager).rec (with_manager (tm.decide tid outcome) work)))
      logged = subst I (kept_then_logged (tm.decision tid outcome work.node.manager).rec tid outcome cause (with_manager (tm.decide tid outcome) work))
          (log_if_walk (tm.decision tid outcome work.node.manager).rec _ (λ rec is. decided_fits tid outcome rec homed (part_of tid work) is) (λ rec is. decided_may tid outcome cause rec work (part_of tid work) refl is) kept)

  pub decide_walk : (tid : Tid) (outcome : Outcome) (cause : Option Cause) (work : Work) → is_homed P me tid ≡ true → (outcome ≡ outcomes.Commit → tm.told_of tid false is_undecided work.node.manager ≡ true) → I work → I (decide tid outcome cause work)
  decide_walk tid outcome cause work homed open_now i = decided_walk tid outcome cause work homed (keeps.decide tid outcome cause work homed open_now i)

  pub decide_commit_walk : (tid : Tid) (work : Work) → is_homed P me tid ≡ true → tm.told_of tid false is_undecided work.node.manager ≡ true → I work → I (decide_commit tid work)
  decide_commit_walk tid work homed open_now i = by (tm.need_past tid work.room work.node.manager)
    where
      by : (o : Option ℕ) → I (elim o [ None ↦ decide tid outcomes.Commit None work | Some need ↦ decide tid outcomes.Abort (Some (causes.Room need work.room)) work ])
      by None = decide_walk tid outcomes.Commit None work homed (λ is. open_now) i
      by (Some need) = decide_walk tid outcomes.Abort (Some (causes.Room need work.room)) work homed (λ is. absurd (cc (is))) i

  -- ---- an outcome is told

  pub learnt_fits : (tid : Tid) (outcome : Outcome) (part : Participant) (rec : Record) → P tid ≡ true → record_learnt tid outcome part ≡ Some rec → fits_record P me rec ≡ true
  learnt_fits tid outcome part rec its is = by part.log.prepared is
    where
      ended : (outcome : Outcome) → fits_record P me (end_record tid outcome) ≡ true
      ended outcomes.Commit = both_and (P tid) true its refl
      ended outcomes.Abort = its

      by : (b : Bool) → (if b then Some (end_record tid outcome) else None) ≡ Some rec → fits_record P me rec ≡ true
      by true is = let same : end_record tid outcome ≡ rec = cc (is) in subst (λ (r : Record). fits_record P me r ≡ true) same (ended outcome)
      by false is = absurd (cc (is))

  pub learnt_may : (tid : Tid) (outcome : Outcome) (part : Participant) (rec : Record) (work : Work) → (outcome ≡ outcomes.Commit → tm.told_of tid false is_decided work.node.manager ≡ true) → record_learnt tid outcome part ≡ Some rec → MayLog rec work
  learnt_may tid outcome part rec work told is = by part.log.prepared is
    where
      ended : (outcome : Outcome) → (outcome ≡ outcomes.Commit → tm.told_of tid false is_decided work.node.manager ≡ true) → MayLog (end_record tid outcome) work
      ended outcomes.Commit told = told refl
      ended outcomes.Abort told = tt

      by : (b : Bool) → (if b then Some (end_record tid outcome) else None) ≡ Some rec → MayLog rec work
      by true is = let same : end_record tid outcome ≡ rec = cc (is) in subst (λ (r : Record). MayLog r work) same (ended outcome told)
      by false is = absurd (cc (is))

  -- what is decided is so once its members learnt it
  notified : (tid : Tid) (notice : Notice) (server : ServerNo) (work : Work) → tm.told_of tid false is_decided work.node.manager ≡ true → tm.told_of tid false is_decided (notify tid notice server work).node.manager ≡ true
  notified tid notice server work is = told_with tid false is_decided (outcome_rules.settled server) work.node.manager ∙ is

  members_told : (tid : Tid) (outcome : Outcome) (servers : List ServerNo) (work : Work) → tm.told_of tid false is_decided work.node.manager ≡ true → tm.told_of tid false is_decided (fold (learn_member tid outcome) work servers).node.manager ≡ true
  members_told tid outcome [] work is = is
  members_told tid outcome (server ∷ servers) work is = members_told tid outcome servers (learn_member tid outcome work server) (notified tid (notice_of outcome) server work is)

  took_told : (tid : Tid) (part : Participant) (work : Work) → part_of tid work ≡ Some part → tm.told_of tid false is_decided (tm.took_outcome tid outcomes.Commit work.node.manager) ≡ true
  took_told tid part work known = told_with tid false is_decided (outcome_rules.took_outcome outcomes.Commit) work.node.manager ∙ ap (λ (o : Option Participant). elim o [ None ↦ false | Some p ↦ is_decided (outcome_rules.took_outcome outcomes.Commit p) ]) known

  learnt_told : (tid : Tid) (outcome : Outcome) (part : Participant) (work : Work) → part_of tid work ≡ Some part → outcome ≡ outcomes.Commit → tm.told_of tid false is_decided (give_notices tid outcome (with_manager (tm.took_outcome tid outcome) work)).node.manager ≡ true
  learnt_told tid outcomes.Commit part work known is = members_told tid outcomes.Commit (learners_at tid (with_manager (tm.took_outcome tid outcomes.Commit) work)) (with_manager (tm.took_outcome tid outcomes.Commit) work) (took_told tid part work known)
  learnt_told tid outcomes.Abort part work known is = absurd (cc is)

  take_outcome_walk : (tid : Tid) (outcome : Outcome) (work : Work) → P tid ≡ true → same_node tid.home me ≡ false → I work → I (take_outcome tid outcome work)
  take_outcome_walk tid outcome work its away i = by (part_of tid work) refl
    where
      unknown : (outcome : Outcome) → part_of tid work ≡ None → I (learn_unknown tid outcome work)
      unknown outcomes.Commit none = i
      unknown outcomes.Abort none = keeps.keep_abort tid work its none i

      by : (o : Option Participant) → part_of tid work ≡ o → I (elim o [ None ↦ learn_unknown tid outcome work | Some part ↦ if is_undecided part then learn tid outcome part work else work ])
      by None none = unknown outcome none
      by (Some part) known = if_walk P Q R me nodes I reads keeps (is_undecided part)
          (λ is. log_if_walk (record_learnt tid outcome part) _ (λ rec logged. learnt_fits tid outcome part rec its logged) (λ rec logged. learnt_may tid outcome part rec _ (learnt_told tid outcome part work known) logged) (notices_walk tid outcome _ (keeps.learn tid outcome work away i)))
          (λ is. i)

  -- it comes from the home
  pub tell_came_walk : (peer : NodeNo) (tid : Tid) (outcome : Outcome) (work : Work) → P tid ≡ true → same_node tid.home peer ≡ true → I work → I (tell_came peer tid outcome work)
  tell_came_walk peer tid outcome work its from i = if_walk P Q R me nodes I reads keeps (same_node tid.home (here work)) (λ is. i)
      (λ is. keeps.send peer (messages.Told tid (names_at tid outcome work)) _ (λ low. both_and (P tid) _ its from) (take_outcome_walk tid outcome work its (here_home P Q R me nodes I reads keeps tid false work i is) i))

  -- ---- it was taken in

  pub forget_walk : (tid : Tid) (part : Participant) (work : Work) → part_of tid work ≡ Some part → MayForget me tid part work → I work → I (forget tid work)
  forget_walk tid part work known may i = keeps.drop tid _ (keeps.forget tid part work known may i)

  take_told_walk : (peer : NodeNo) (tid : Tid) (part : Participant) (work : Work) → part_of tid work ≡ Some part → part.outcome ≡ Some outcomes.Commit → I work → I (take_told peer tid work)
  take_told_walk peer tid part work known committed i = by (tm.all_acknowledged tid peer work.node.manager)
    where
      told : Work
      told = with_manager (tm.acknowledged tid peer) work

      taken : I told
      taken = keeps.part tid (outcome_rules.acknowledged peer) work (λ part. record { home = refl; superior = refl; asked = refl; outcome = refl; log = refl; begun = refl }) i

      logged : I (log (records.End tid) told)
      logged = keeps.log (records.End tid) told (reads.known tid part work i known) tt taken

      by : (b : Bool) → I (end_told b tid told)
      by false = taken
      by true = forget_walk tid (outcome_rules.logged (records.End tid) (outcome_rules.acknowledged peer part)) (log (records.End tid) told)
          (lookup_changed _ (outcome_rules.logged (records.End tid)) told.node.manager.known (outcome_rules.acknowledged peer part) (lookup_changed _ (outcome_rules.acknowledged peer) work.node.manager.known part known)) (inr (committed, (told.out.records, refl))) logged

  take_names_walk : (tid : Tid) (further : List NodeNo) (work : Work) → is_homed P me tid ≡ true → I work → I (take_names tid further work)
  take_names_walk tid further work homed i = sends_walk P Q R me nodes I reads keeps (listed (tm.new_names tid further work.node.manager)) (messages.Tell tid outcomes.Abort) _ (λ node. homed)
      (keeps.part tid (outcome_rules.take_names tid.home further) work (λ part. record { home = refl; superior = refl; asked = refl; outcome = refl; log = refl; begun = refl }) i)

  keep_told_walk : (tid : Tid) (peer : NodeNo) (work : Work) → P tid ≡ true → part_of tid work ≡ None → I work → I (keep_abort_told tid peer work)
  keep_told_walk tid peer work its none i = keeps.part tid (outcome_rules.add_tell peer) (with_manager (tm.keep_abort tid) work) (λ part. record { home = refl; superior = refl; asked = refl; outcome = refl; log = refl; begun = refl })
      (keeps.keep_abort tid work its none i)

  pub told_came_walk : (peer : NodeNo) (tid : Tid) (further : List NodeNo) (work : Work) → P tid ≡ true → I work → I (told_came peer tid further work)
  told_came_walk peer tid further work its i = if_walk P Q R me nodes I reads keeps (same_node tid.home (here work)) (λ is. by (both_and (P tid) _ its (here_home P Q R me nodes I reads keeps tid true work i is)) (part_of tid work) refl) (λ is. i)
    where
      known_as : is_homed P me tid ≡ true → (part : Participant) → part_of tid work ≡ Some part → (o : Option Outcome) → part.outcome ≡ o → I (told_known peer tid further o work)
      known_as homed part known None is = i
      known_as homed part known (Some outcomes.Commit) is = take_told_walk peer tid part work known is i
      known_as homed part known (Some outcomes.Abort) is = take_names_walk tid further work homed i

      by : is_homed P me tid ≡ true → (o : Option Participant) → part_of tid work ≡ o → I (elim o [ None ↦ told_unknown peer tid further work | Some part ↦ told_known peer tid further part.outcome work ])
      by homed None none = if_walk P Q R me nodes I reads keeps (list_any (is_other_node tid) further) (λ is. take_names_walk tid further (keep_abort_told tid peer work) homed (keep_told_walk tid peer work its none i)) (λ is. i)
      by homed (Some part) known = known_as homed part known part.outcome refl

  -- ---- inquiries

  pub inquiry_came_walk : (peer : NodeNo) (tid : Tid) (work : Work) → P tid ≡ true → I work → I (inquiry_came peer tid work)
  inquiry_came_walk peer tid work its i = if_walk P Q R me nodes I reads keeps (same_node tid.home (here work)) (λ is. by (here_home P Q R me nodes I reads keeps tid true work i is) (part_of tid work) refl) (λ is. i)
    where
      known_as : same_node tid.home me ≡ true → (o : Option Outcome) → I (answer_known peer tid o work)
      known_as homed None = keeps.part tid (participant.add_told peer) work (λ part. record { home = refl; superior = refl; asked = refl; outcome = refl; log = refl; begun = refl }) i
      known_as homed (Some outcomes.Commit) = keeps.send peer (messages.Tell tid outcomes.Commit) work (λ low. both_and (P tid) _ its homed) i
      known_as homed (Some outcomes.Abort) = keeps.send peer (messages.Tell tid outcomes.Abort) _ (λ low. both_and (P tid) _ its homed)
          (keeps.part tid (outcome_rules.add_tell peer) work (λ part. record { home = refl; superior = refl; asked = refl; outcome = refl; log = refl; begun = refl }) i)

      by : same_node tid.home me ≡ true → (o : Option Participant) → part_of tid work ≡ o → I (elim o [ None ↦ answer_unknown peer tid work | Some part ↦ answer_known peer tid part.outcome work ])
      by homed None none = if_walk P Q R me nodes I reads keeps (was_committed tid work.node) (λ is. keeps.send peer (messages.Tell tid outcomes.Commit) work (λ low. both_and (P tid) _ its homed) i)
          (λ is. keeps.send peer (messages.Tell tid outcomes.Abort) (keep_abort_told tid peer work) (λ low. both_and (P tid) _ its homed) (keep_told_walk tid peer work its none i))
      by homed (Some part) known = known_as homed part.outcome

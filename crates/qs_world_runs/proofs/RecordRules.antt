-- Which records a node makes of itself at the end of a step: a Prepare with a vote, and a Commit or an Aborted with a decision.
use Rattle.qs_world_runs.proofs.Words.{◌≡◌, inl, ℕ, ◌≤◌, ◌+◌, arith, append-nil, zero, suc, Bool, true, false, List, [], ◌∷◌, Option, Some, None, refl, sym, ap, ◌∙◌, if◌then◌else◌, is_at, slice_set, slice_index_or, same_tid-self, tid_cmp, NodeNo, ServerNo, Tid, release_of, listed, changed_none, is_empty, changes_in, vote_of, Cause, Note, Vote, Record, server_at, enter, member_here, send_each, decide_as, end_members, give_notices, keep_outcome, learners_at, answer_superior, due_tids}
use Rattle.qs_world_runs.proofs.Words.{forget_rule, is_pass_due, is_quiet, may_answer, pass_rule, ready, ready_rule, refusal_goes_to, refuse_elsewhere, refuse_home, refuse_rule, say_yes, send_refusal, settle, settle_tid, try, Work, doings_of, here, with_manager, forget, change_count, due_votes, enter_vote, issue_note, owes_note, served_count, vote_frame, vote_next, vote_pass, vote_with, no_member, told_with_own, is_forgotten, member_of, MemberPart, Participant, Every, quiet_send, zero_le}
use Rattle.qs_world_runs.proofs.Words.{eqb-self}
use Rattle.qs_base.specs.declared.identifiers.Outcome.{Outcome}
use Rattle.qs_base.specs.declared.identifiers.Outcome.TheVariants as outcomes
use Rattle.qs_book_journal.specs.declared.entry.Act.TheVariants as acts
use Rattle.qs_book_laws.proofs.Maps.{lookup_changed}
use Rattle.qs_ops.specs.declared.answer.Cause.TheVariants as causes
use Rattle.qs_ops.specs.declared.vote.Vote.TheVariants as votes
use Rattle.qs_packet.specs.declared.message.Message.TheVariants as messages
use Rattle.qs_record.specs.declared.record.Record.TheVariants as made
use Rattle.qs_node_servers.specs.Servers.{audit_no}
use Rattle.qs_node_step.specs.Bringing.{log}
use Rattle.qs_node_step.specs.Deciding.{decide, decide_commit}
use Rattle.qs_node_step.specs.State.{part_of}
use Rattle.qs_node_step.specs.Voting.{note_text}
use Rattle.qs_tm.specs.Manager as tm
use Rattle.qs_tm.specs.Members as members
use Rattle.qs_tm.specs.Outcomes as outcome_rules
use Rattle.qs_tm.specs.Participant as participant
use Rattle.qs_world_lawful.proofs.LogEndings.{quiet_ends, quiet_notices}
use Rattle.qs_world_lawful.proofs.LogLearning.{Learns, learn_acts, learns}
use Rattle.qs_world_lawful.proofs.QuietRequests.{quiet_issue}
use Rattle.qs_world_lawful.proofs.Recordless.{quiet_sends}
use Rattle.qs_world_runs.specs.OnRecord.{IsPut}
use Rattle.qs_world_runs.proofs.VotesKeep.{vote_has_changes, vote_keeps_changes}
use Rattle.qs_world_runs.proofs.RecordMakes.{Makes, makes_fold, makes_if, makes_none, makes_quiet, makes_self, makes_then, makes_where, none_told}

-- ---- a vote leaves how much its server served

same_served : (xs : List MemberPart) (n : ℕ) (m : MemberPart) → m.served ≡ (slice_index_or xs n no_member).served → (slice_index_or (slice_set xs n m) n no_member).served ≡ (slice_index_or xs n no_member).served
same_served [] n m e = refl
same_served (x ∷ xs) zero m e = e
same_served (x ∷ xs) (suc n) m e = same_served xs n m e

pub covers_same : (tid : Tid) (server : ServerNo) (ballot : Vote) (work : Work) → served_count tid server (enter_vote tid server ballot work) ≡ served_count tid server work
covers_same tid server ballot work = by (part_of tid work) refl
  where
    voting : Participant → Participant
    voting = participant.voted (member_here work server) ballot (served_count tid server work)

    of : Option Participant → ℕ
    of o = elim o [ None ↦ 0 | Some part ↦ (member_of part server).served ]

    kept : (part : Participant) → (member_of (voting part) server).served ≡ (member_of part server).served
    kept part = same_served part.members server.0 _ refl

    by : (o : Option Participant) → part_of tid work ≡ o → of (part_of tid (enter_vote tid server ballot work)) ≡ of (part_of tid work)
    by None none = ap of (changed_none (is_at (tid_cmp tid)) voting work.node.manager.known none) ∙ sym (ap of none)
    by (Some part) known = ap of (lookup_changed (is_at (tid_cmp tid)) voting work.node.manager.known part known) ∙ (kept part ∙ sym (ap of known))

at_most : (n : ℕ) → n ≤ n + 0
at_most n = grind (arith)

learns_put : (node : NodeNo) (tid : Tid) (servers : List ServerNo) → Every (IsPut []) (learn_acts node tid servers)
learns_put node tid [] = tt
learns_put node tid (server ∷ servers) = (tt, learns_put node tid servers)

module _ (me : NodeNo) (Else : Record → Type 0) where
  abbrev pub M : Work → Work → Type 0
  M work new = Makes me Else none_told work new

  then_m : (work mid new : Work) → M work mid → M mid new → M work new
  then_m = makes_then me Else none_told

  pub still : (work new : Work) → new.out ≡ work.out → new.node.setting ≡ work.node.setting → M work new
  still work new out setting = makes_none me Else work new [] (ap (λ o. o.entries) out ∙ sym (append-nil work.out.entries)) (ap (λ o. o.records) out) setting tt

  -- ---- votes

  vote_makes : (tid : Tid) (server : ServerNo) (work : Work) (ballot : Vote) → (ballot ≡ votes.Recoverable → is_empty (changes_in (server_at work.node.servers server) tid) ≡ false) → M work (vote_with tid server ballot work)
  vote_makes tid server work (votes.Abort reason) has = makes_none me Else work (enter_vote tid server (votes.Abort reason) work) (acts.Vote tid (member_here work server) (votes.Abort reason) (served_count tid server work) ∷ []) refl refl refl (tt, tt)
  vote_makes tid server work votes.ReadOnly has = makes_none me Else work (enter_vote tid server votes.ReadOnly work) (acts.Vote tid (member_here work server) votes.ReadOnly (served_count tid server work) ∷ []) refl refl refl (tt, tt)
  vote_makes tid server work votes.Volatile has = makes_none me Else work (enter_vote tid server votes.Volatile work) (acts.Vote tid (member_here work server) votes.Volatile (served_count tid server work) ∷ []) refl refl refl (tt, tt)
  vote_makes tid server work votes.Recoverable has = record {
    more = acts.Vote tid (member_here work server) votes.Recoverable (served_count tid server work) ∷ [];
    made = made.Prepare tid server (served_count tid server voted) (changes_in (server_at voted.node.servers server) tid) ∷ [];
    entries = refl;
    records = refl;
    setting = refl;
    from = λ is. (
      inl (
        record {
          before = [];
          after = [];
          is = ap (λ (n : NodeNo). acts.Vote tid (record { node = n; server = server }) votes.Recoverable (served_count tid server work) ∷ []) is
              ∙ ap (λ (k : ℕ). acts.Vote tid (record { node = me; server = server }) votes.Recoverable k ∷ []) (sym (covers_same tid server votes.Recoverable work));
        },
        ap is_empty (vote_keeps_changes server tid work.node.servers) ∙ has refl,
      ),
      tt,
    );
    once = λ t. zero_le _;
    puts = (rw (same_tid-self tid, eqb-self server.0) refl, tt);
  }
    where
      voted : Work
      voted = enter_vote tid server votes.Recoverable work

  pass_makes : (tid : Tid) (work : Work) → M work (vote_pass tid work)
  pass_makes tid work = then_m work (end_members tid work) (vote_pass tid work) (makes_quiet me Else work (end_members tid work) (quiet_ends tid work)) (makes_fold me Else (vote_next tid) next (due_votes tid work) (end_members tid work))
    where
      note : (w : Work) (o : Option NodeNo) → M w (issue_note tid o w)
      note w None = makes_self me Else w
      note w (Some node) = makes_quiet me Else w (issue_note tid (Some node) w) (quiet_issue tid members.files_no (record { node = node; server = audit_no }) (Note (note_text tid (here w) (change_count tid w.node))) (change_count tid w.node) w)

      next : (w : Work) (server : ServerNo) → M w (vote_next tid w server)
      next w server = makes_if me Else (owes_note tid server w) w (issue_note tid w.node.setting.audit w) (vote_with tid server (vote_of (server_at w.node.servers server) tid w.room (vote_frame w)) w)
          (note w w.node.setting.audit) (vote_makes tid server w (vote_of (server_at w.node.servers server) tid w.room (vote_frame w)) (vote_has_changes (server_at w.node.servers server) tid w.room (vote_frame w)))

  -- ---- decisions

  module _ (tid : Tid) (cause : Option Cause) (work : Work) where
    abbrev entered : Outcome → Work → Work
    entered outcome w = enter (acts.Decide tid outcome cause) (keep_outcome tid outcome cause w)

    abbrev decided : Outcome → Work
    decided outcome = with_manager (tm.decide tid outcome) work

    bare : (outcome : Outcome) → M work (entered outcome (decided outcome))
    bare outcome = makes_none me Else work (entered outcome (decided outcome)) (acts.Decide tid outcome cause ∷ []) refl refl refl (tt, tt)

    with_commit : (told : List NodeNo) → M work (entered outcomes.Commit (log (made.Commit tid told) (decided outcomes.Commit)))
    with_commit told = record {
      more = acts.Decide tid outcomes.Commit cause ∷ [];
      made = made.Commit tid told ∷ [];
      entries = refl;
      records = refl;
      setting = refl;
      from = λ is. (inl (record { before = []; cause = cause; after = []; is = refl }), tt);
      once = λ t. at_most _;
      puts = (tt, tt);
    }

    with_aborted : M work (entered outcomes.Abort (log (made.Aborted tid) (decided outcomes.Abort)))
    with_aborted = record {
      more = acts.Decide tid outcomes.Abort cause ∷ [];
      made = made.Aborted tid ∷ [];
      entries = refl;
      records = refl;
      setting = refl;
      from = λ is. (inl (record { before = []; cause = cause; after = []; is = refl }), tt);
      once = λ t. zero_le _;
      puts = (tt, tt);
    }

    pub noticed : (outcome : Outcome) (w : Work) → M w (give_notices tid outcome w)
    noticed outcomes.Commit w = let l : Learns tid (learners_at tid w) w (give_notices tid outcomes.Commit w) = learns tid (learners_at tid w) w in makes_none me Else w (give_notices tid outcomes.Commit w) (learn_acts (here w) tid (learners_at tid w)) l.entries l.records l.setting (learns_put (here w) tid (learners_at tid w))
    noticed outcomes.Abort w = makes_quiet me Else w (give_notices tid outcomes.Abort w) (quiet_notices tid w)

    told_after : (outcome : Outcome) (tell : List NodeNo) (w : Work) → M work w → M work (send_each tell (messages.Tell tid outcome) (give_notices tid outcome w))
    told_after outcome tell w m = then_m work (give_notices tid outcome w) _ (then_m work w (give_notices tid outcome w) m (noticed outcome w)) (makes_quiet me Else (give_notices tid outcome w) _ (quiet_sends tell (messages.Tell tid outcome) (give_notices tid outcome w)))

    of_part : (outcome : Outcome) (part : Participant) (tell : List NodeNo) → M work (decide_as tid outcome cause (record { rec = outcome_rules.record_of tid outcome part; tell = tell }) work)
    of_part outcomes.Commit part tell = by (outcome_rules.writes_commit part)
      where
        by : (b : Bool) → M work (decide_as tid outcomes.Commit cause (record { rec = if b then Some (made.Commit tid (listed part.told)) else None; tell = tell }) work)
        by true = told_after outcomes.Commit tell _ (with_commit (listed part.told))
        by false = told_after outcomes.Commit tell _ (bare outcomes.Commit)
    of_part outcomes.Abort part tell = by part.log.prepared
      where
        by : (b : Bool) → M work (decide_as tid outcomes.Abort cause (record { rec = if b then Some (made.Aborted tid) else None; tell = tell }) work)
        by true = told_after outcomes.Abort tell _ with_aborted
        by false = told_after outcomes.Abort tell _ (bare outcomes.Abort)

    pub decide_makes : (outcome : Outcome) → M work (decide tid outcome cause work)
    decide_makes outcome = by (part_of tid work)
      where
        by : (o : Option Participant) → M work (decide_as tid outcome cause (elim o [ None ↦ tm.no_decision | Some part ↦ record { rec = outcome_rules.record_of tid outcome part; tell = listed (outcome_rules.tell_of outcome part) } ]) work)
        by None = told_after outcome [] _ (bare outcome)
        by (Some part) = of_part outcome part (listed (outcome_rules.tell_of outcome part))

  commit_makes : (tid : Tid) (work : Work) → M work (decide_commit tid work)
  commit_makes tid work = by (tm.need_past tid work.room work.node.manager)
    where
      by : (o : Option ℕ) → M work (elim o [ None ↦ decide tid outcomes.Commit None work | Some need ↦ decide tid outcomes.Abort (Some (causes.Room need work.room)) work ])
      by None = decide_makes tid None work outcomes.Commit
      by (Some need) = decide_makes tid (Some (causes.Room need work.room)) work outcomes.Abort

  -- ---- settling

  ready_makes : (tid : Tid) (part : Participant) (work : Work) → M work (ready_rule tid part work)
  ready_makes tid part work = makes_if me Else (may_answer tid part work) work (ready tid part work) work
      (makes_if me Else part.engage.home work (if is_quiet (doings_of tid work) then decide_commit tid work else work) (answer_superior tid part work)
      (makes_if me Else (is_quiet (doings_of tid work)) work (decide_commit tid work) work (commit_makes tid work) (makes_self me Else work)) (answered (release_of part.engage)))
      (makes_self me Else work)
    where
      answered : (o : Option (NodeNo × ℕ)) → M work (elim o [ None ↦ work | Some superior ↦ say_yes tid part superior work ])
      answered None = makes_self me Else work
      answered (Some superior) = let released : Work = with_manager (tm.released tid) work in then_m work released (say_yes tid part superior work) (still work released refl refl)
          (makes_quiet me Else released (say_yes tid part superior work) (quiet_send superior.0 (messages.VotedYes tid superior.1 (listed (told_with_own (here work) part))) released))

  refuse_makes : (tid : Tid) (part : Participant) (work : Work) → M work (refuse_rule tid part work)
  refuse_makes tid part work = makes_if me Else part.engage.home work (refuse_home tid part work) (refuse_elsewhere tid part work) (home part.causes)
      (let taken : Work = with_manager (tm.take_causes tid) work in then_m work taken (refuse_elsewhere tid part work) (still work taken refl refl)
      (makes_fold me Else (send_refusal tid (refusal_goes_to tid part)) (λ w cause. makes_quiet me Else w _ (quiet_send (refusal_goes_to tid part) (messages.VotedAbort tid cause) w)) part.causes taken))
    where
      home : (cs : List Cause) → M work (elim cs [ [] ↦ work | cause ∷ more ↦ decide tid outcomes.Abort (Some cause) work ])
      home [] = makes_self me Else work
      home (cause ∷ more) = decide_makes tid (Some cause) work outcomes.Abort

  settle_tid_makes : (work : Work) (tid : Tid) → M work (settle_tid work tid)
  settle_tid_makes work tid =
      let passed : Work = try tid pass_rule work in
      let answered : Work = try tid ready_rule passed in
      let refused : Work = try tid refuse_rule answered in
      then_m work refused (settle_tid work tid)
      (then_m work answered refused
      (then_m work passed answered (makes_where me Else tid (pass_rule tid) work (λ part. makes_if me Else (is_pass_due tid part work) work (vote_pass tid work) work (pass_makes tid work) (makes_self me Else work)))
      (makes_where me Else tid (ready_rule tid) passed (λ part. ready_makes tid part passed)))
      (makes_where me Else tid (refuse_rule tid) answered (λ part. refuse_makes tid part answered)))
      (makes_where me Else tid (forget_rule tid) refused (λ part. makes_if me Else (is_forgotten part) refused (forget tid refused) refused (still refused (forget tid refused) refl refl) (makes_self me Else refused)))

  pub settle_makes : (work : Work) → M work (settle work)
  settle_makes work = makes_fold me Else settle_tid settle_tid_makes (due_tids work) work

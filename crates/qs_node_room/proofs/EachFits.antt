-- Each thing that a step does leaves the log room for what it keeps, and so does a whole step.
use Rattle.std.proofs.Common.{◌≡◌, ℕ, ◌+◌, ◌-◌, ◌*◌, ◌≤◌, arith, Bool, true, false, List, [], ◌++◌, length, Option, Some, None, refl, sym, ap, subst, ◌∙◌, inl, if◌then◌else◌}
use Rattle.std.proofs.lemmas.Bool.Decides.{nat_tests}
use Rattle.std.specs.Prelude.{nat_lt, ◌||◌, is_some}
use Rattle.std.specs.Option.{option_map}
use Rattle.std.specs.BTreeMap.{is_at}
use Rattle.qs_base.specs.Order.{tid_cmp}
use Rattle.qs_base.specs.declared.identifiers.ServerNo.{ServerNo}
use Rattle.qs_base.specs.declared.identifiers.Tid.{Tid}
use Rattle.qs_ops.specs.Server.{ServerValue, after_vote, changes_in, changes_vote, vote_in_room, vote_need, vote_of, names_vote}
use Rattle.qs_ops.specs.Spelled.{prepare_length}
use Rattle.qs_ops.specs.Table.{has_changes, view_bytes, least_taken}
use Rattle.qs_ops.specs.declared.vote.Reason.TheVariants as reasons
use Rattle.qs_ops.specs.declared.operation.Op.{Op}
use Rattle.qs_ops.specs.declared.server.ServerKind.{ServerKind}
use Rattle.qs_ops.specs.declared.server.ServerKind.TheVariants as kinds
use Rattle.qs_ops.specs.declared.vote.Vote.{Vote}
use Rattle.qs_ops.specs.declared.vote.Vote.TheVariants as votes
use Rattle.qs_record.specs.declared.record.Record.{Record}
use Rattle.qs_record.specs.declared.record.Record.TheVariants as records
use Rattle.qs_node_servers.specs.Servers.{server_at}
use Rattle.qs_node_step.specs.Bringing.{log, member_here}
use Rattle.qs_node_step.specs.Restarts.{begin_incarnation}
use Rattle.qs_node_step.specs.State.{NodeValue, Work, change_server, part_of, with_doings, with_manager, work_on}
use Rattle.qs_node_step.specs.Step.{after_step, effects_of, step_work}
use Rattle.qs_node_step.specs.Voting.{enter_vote, served_count, vote_frame, vote_with}
use Rattle.qs_node_step.specs.declared.event.Event.{Event}
use Rattle.qs_tm.specs.Manager as tm
use Rattle.qs_tm.specs.Participant as participant
use Rattle.qs_tm.specs.declared.participant.InLog.{InLog}
use Rattle.qs_tm.specs.declared.participant.Participant.{Participant}
use Rattle.qs_node_room.specs.Kept.{Kept, kept_at, kept_after, kept_of, spent, total}
use Rattle.qs_node_room.specs.Fits.{AgreesAll, BeginsNew, EachStepFits, IsEnough, IsPartKept, IsRoomy}
use Rattle.qs_node_room.proofs.Goes.{Goes, IsEndOf, log_of, no_log}
use Rattle.qs_node_room.proofs.GoesSteps.{goes_step}
use Rattle.qs_book_laws.proofs.Maps.{lookup_changed}
use Rattle.qs_node_room.proofs.Roomy as roomy
use Rattle.qs_node_room.proofs.Roomy.{Steady}
use Rattle.qs_node_room.proofs.RoomyRecords.{commit_roomy, prepare_roomy}
use Rattle.qs_node_room.proofs.Sums.{kept_both, total_small}
use Rattle.qs_node_room.proofs.VotesKeep.{vote_keeps_changes}

-- a server votes so that it can commit only where there is room
not_less : (a b : ℕ) → nat_lt a b ≡ false → b ≤ a
not_less a b h = grind (arith, nat_tests)

vote_room : (server : ServerValue) (tid : Tid) (free frame : ℕ) → vote_of server tid free frame ≡ votes.Recoverable → frame + prepare_length (changes_in server tid) ≤ free
vote_room server tid free frame is = by (has_changes server.table tid) is
  where
    room : (b : Bool) → nat_lt free (vote_need server.table tid frame) ≡ b → (if b then votes.Abort (reasons.LogRoom (vote_need server.table tid frame) free) else votes.Recoverable) ≡ votes.Recoverable → frame + prepare_length (changes_in server tid) ≤ free
    room true less e = absurd (cc e)
    room false less e = not_less free (vote_need server.table tid frame) less

    in_room : vote_in_room server.table tid free frame ≡ votes.Recoverable → frame + prepare_length (changes_in server tid) ≤ free
    in_room e = room (nat_lt free (vote_need server.table tid frame)) refl e

    quota : (b : Bool) (limit : ℕ) → (if b then votes.Abort (reasons.Quota (view_bytes server.table tid) limit) else vote_in_room server.table tid free frame) ≡ votes.Recoverable → frame + prepare_length (changes_in server tid) ≤ free
    quota true limit e = absurd (cc e)
    quota false limit e = in_room e

    named : (o : Option (List ℕ)) → names_vote o ≡ votes.Recoverable → ⊥
    named None e = cc e
    named (Some name) e = cc e

    of : (kind : ServerKind) → changes_vote kind server.table tid free frame ≡ votes.Recoverable → frame + prepare_length (changes_in server tid) ≤ free
    of (kinds.Files limit) e = quota (nat_lt limit (view_bytes server.table tid)) limit e
    of kinds.Audit e = in_room e
    of kinds.Names e = absurd (named (least_taken server.table tid) e)
    of kinds.Timers e = absurd (cc e)
    of kinds.Windows e = absurd (cc e)
    of kinds.Scratch e = absurd (cc e)
    of kinds.Nothing e = absurd (cc e)

    by : (b : Bool) → (if b then changes_vote server.kind server.table tid free frame else votes.ReadOnly) ≡ votes.Recoverable → frame + prepare_length (changes_in server tid) ≤ free
    by true e = of server.kind e
    by false e = absurd (cc e)

module _ (keep extra bytes : ℕ) (before : Kept) (enough : IsEnough keep extra) where
  abbrev J : Work → Type 0
  J work = IsRoomy keep extra bytes before work

  abbrev R : Work → Work → Type 0
  R work new = J work → J new

  entered_roomy : (tid : Tid) (server : ServerNo) (ballot : Vote) (work : Work) → J work → J (enter_vote tid server ballot work)
  entered_roomy tid server ballot work j =
      roomy.still_roomy keep extra bytes before enough voted (enter_vote tid server ballot work) refl refl refl refl refl refl
      (roomy.part_roomy keep extra bytes before enough tid (participant.voted (member_here work server) ballot (served_count tid server work)) changed (λ part. record { log = refl; outcome = λ e. e; involved = λ is. still part.involved _ is })
      (roomy.still_roomy keep extra bytes before enough work changed refl refl refl refl refl refl j))
    where
      changed : Work
      changed = change_server server (λ value. after_vote value tid ballot) work

      voted : Work
      voted = with_manager (tm.voted tid (member_here work server) ballot (served_count tid server work)) changed

      still : (b c : Bool) → b ≡ true → (b || c) ≡ true
      still b c is = rw is refl

  vote_roomy : (tid : Tid) (server : ServerNo) (work : Work) → is_some (part_of tid work) ≡ true → R work (vote_with tid server (vote_of (server_at work.node.servers server) tid work.room (vote_frame work)) work)
  vote_roomy tid server work some j = by (vote_of (server_at work.node.servers server) tid work.room (vote_frame work)) refl
    where
      prepared : vote_of (server_at work.node.servers server) tid work.room (vote_frame work) ≡ votes.Recoverable → (o : Option Participant) → part_of tid work ≡ o → is_some o ≡ true → J (vote_with tid server votes.Recoverable work)
      prepared is None none found = absurd (cc found)
      prepared is (Some part) known found =
          let entered : Work = enter_vote tid server votes.Recoverable work in
          let noted : Work = with_doings tid (λ doings. record doings { prepared = true }) entered in
          let later : Participant = participant.voted (member_here work server) votes.Recoverable (served_count tid server work) part in
          prepare_roomy keep extra bytes before enough tid server (served_count tid server noted) (changes_in (server_at noted.node.servers server) tid) later noted
          (lookup_changed (is_at (tid_cmp tid)) (participant.voted (member_here work server) votes.Recoverable (served_count tid server work)) work.node.manager.known part known)
          (bound part.involved)
          (subst (λ (changes : List Op). 41 + extra + prepare_length changes + keep ≤ work.room) (sym (vote_keeps_changes server tid work.node.servers))
          (sums extra keep (prepare_length (changes_in (server_at work.node.servers server) tid)) work.room
          (subst (λ (n : ℕ). 41 + extra + n + prepare_length (changes_in (server_at work.node.servers server) tid) ≤ work.room) j.agrees.keep_is
          (subst (λ (n : ℕ). 41 + n + work.node.setting.keep + prepare_length (changes_in (server_at work.node.servers server) tid) ≤ work.room) j.agrees.extra_is
          (vote_room (server_at work.node.servers server) tid work.room (vote_frame work) is)))))
          (roomy.still_roomy keep extra bytes before enough entered noted refl refl refl refl refl refl (entered_roomy tid server votes.Recoverable work j))
        where
          bound : (b : Bool) → (b || true) ≡ true
          bound true = refl
          bound false = refl

          sums : (e k p r : ℕ) → 41 + e + k + p ≤ r → 41 + e + p + k ≤ r
          sums e k p r h = grind (arith)

      by : (ballot : Vote) → vote_of (server_at work.node.servers server) tid work.room (vote_frame work) ≡ ballot → J (vote_with tid server ballot work)
      by (votes.Abort reason) is = entered_roomy tid server (votes.Abort reason) work j
      by votes.ReadOnly is = entered_roomy tid server votes.ReadOnly work j
      by votes.Volatile is = entered_roomy tid server votes.Volatile work j
      by votes.Recoverable is = prepared is (part_of tid work) refl some

  ends_roomy : (tid : Tid) (rec : Record) (work : Work) (l : InLog) → IsEndOf tid rec → log_of tid work ≡ Some l → (l.prepared || l.listed) ≡ true → R work (log rec work)
  ends_roomy tid rec work l ending logged some j = by (part_of tid work) refl logged
    where
      unended : (part : Participant) → IsPartKept keep extra part (kept_at tid (kept_after keep extra before work.out.records)) → part.log ≡ l → part.log.unended ≡ true
      unended part at same = either l.prepared l.listed refl refl
        where
          either : (a b : Bool) → l.prepared ≡ a → l.listed ≡ b → part.log.unended ≡ true
          either true b is has = at.prepared (ap (λ (x : InLog). x.prepared) same ∙ is)
          either false true is has = at.listed (ap (λ (x : InLog). x.listed) same ∙ has)
          either false false is has = absurd (let none : (l.prepared || l.listed) ≡ false = rw (is, has) refl in cc (some, none))

      of : (t : Tid) (r : Record) → IsEndOf t r → (part : Participant) → part_of t work ≡ Some part → part.log.unended ≡ true → J (log r work)
      of t r (IsEndOf.ByCommit u) part known un = roomy.end_roomy keep extra bytes before enough (records.Commit u []) part work (roomy.IsEnding.ByCommit u) known (inl un) j
      of t r (IsEndOf.ByAborted u) part known un = roomy.end_roomy keep extra bytes before enough (records.Aborted u) part work (roomy.IsEnding.ByAborted u) known (inl un) j
      of t r (IsEndOf.ByEnd u) part known un = roomy.end_roomy keep extra bytes before enough (records.End u) part work (roomy.IsEnding.ByEnd u) known (inl un) j

      by : (o : Option Participant) → part_of tid work ≡ o → option_map (λ (p : Participant). p.log) o ≡ Some l → J (log rec work)
      by None none e = absurd (cc e)
      by (Some part) known e = of tid rec ending part known (unended part (roomy.part_at keep extra bytes before enough tid part work known j) (let same : part.log ≡ l = cc e in same))

  forget_roomy : (tid : Tid) (part : Participant) (work : Work) → part_of tid work ≡ Some part → part.outcome ≡ None → part.involved ≡ false → R work (with_manager (tm.forget tid) work)
  forget_roomy tid part work known undecided apart j = roomy.drop_roomy keep extra bytes before enough tid part work known (by part.log.unended refl) j
    where
      by : (b : Bool) → part.log.unended ≡ b → part.log.unended ≡ false
      by false is = is
      by true is = absurd (let held : part.involved ≡ true = (roomy.part_at keep extra bytes before enough tid part work known j).held is undecided in cc (held, apart))

  drop_of : (tid : Tid) (work : Work) → log_of tid work ≡ Some no_log → R work (with_manager (tm.forget tid) work)
  drop_of tid work logged j = by (part_of tid work) refl logged
    where
      by : (o : Option Participant) → part_of tid work ≡ o → option_map (λ (p : Participant). p.log) o ≡ Some no_log → J (with_manager (tm.forget tid) work)
      by None none e = absurd (cc e)
      by (Some part) known e = roomy.drop_roomy keep extra bytes before enough tid part work known (let same : part.log ≡ no_log = cc e in ap (λ (x : InLog). x.unended) same) j

  goes : Goes R
  goes = record {
    self = λ work j. j;
    both = λ work mid new a b j. b (a j);
    still = roomy.still_roomy keep extra bytes before enough;
    part = roomy.part_roomy keep extra bytes before enough;
    put = λ tid part work none blank. roomy.put_roomy keep extra bytes before enough tid part work none (record { unended = ap (λ (x : InLog). x.unended) blank; prepared = ap (λ (x : InLog). x.prepared) blank; listed = ap (λ (x : InLog). x.listed) blank });
    ends = ends_roomy;
    commit = commit_roomy keep extra bytes before enough;
    vote = vote_roomy;
    forget = forget_roomy;
    drop = drop_of;
  }

  pub step_roomy : (node : NodeValue) (event : Event) (free : ℕ) → BeginsNew event (begin_incarnation (work_on node free)) → J (work_on node free) → J (step_work node event free)
  step_roomy node event free new = goes_step R goes node event free new

pub each_step_fits : EachStepFits
each_step_fits keep extra bytes log node event free enough agrees within little new =
    let before : Kept = kept_of keep extra log in
    let last : IsRoomy keep extra bytes before (step_work node event free) = step_roomy keep extra bytes before enough node event free new (record { agrees = agrees; within = begins (total before) (keep * length before) free bytes within (total_small keep extra log) little }) in
    let both : kept_of keep extra (log ++ (effects_of node event free).records) ≡ kept_after keep extra before (effects_of node event free).records = kept_both keep extra [] log (effects_of node event free).records in (
      subst (λ (k : Kept). AgreesAll keep extra (after_step node event free) k) (sym both) (record { keep_is = last.agrees.keep_is; extra_is = last.agrees.extra_is; keep_too = last.agrees.keep_too; extra_too = last.agrees.extra_too; known = last.agrees.known; rising = last.agrees.rising; parts = last.agrees.parts }),
      subst (λ (k : Kept). spent extra (effects_of node event free).records + total k ≤ bytes) (sym both) (drops (spent extra (effects_of node event free).records + total (kept_after keep extra before (effects_of node event free).records)) (step_work node event free).room bytes last.within),
    )
  where
    begins : (t m f b : ℕ) → t ≤ b → t ≤ m → f ≤ b - m → 0 + t + f ≤ b
    begins t m f b h small low = grind (arith)

    drops : (n r b : ℕ) → n + r ≤ b → n ≤ b
    drops n r b h = grind (arith)

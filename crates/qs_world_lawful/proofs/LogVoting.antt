-- A server votes: a recoverable vote stands in the log with its Prepare, of every other vote the log says nothing.
use Rattle.qs_world_lawful.proofs.Words.{◌≡◌, ℕ, Bool, true, false, List, [], ◌∷◌, Option, Some, None, zero, suc, refl, sym, ap, subst, ◌∙◌, slice_set, slice_index_or, is_some, ◌||◌, Member, ServerNo, Tid, Act, after_vote, changes_in, Op, Vote, BookValue, IsLawful, broken, effect, Inv, Record, Prepared, names_transaction, found_prepare, found_record, server_at, no_member, member_of, MemberPart, Participant, member_here, Work, here, with_manager, with_doings, change_server, served_count, enter_vote}
use Rattle.qs_world_lawful.proofs.Words.{vote_with, entry_of, entries_so_far, book_at, IsKnown, KeepsRecords, HoldsLogs, is_plain, KeepsLogs, or-true}
use Rattle.qs_base.specs.declared.identifiers.Outcome.TheVariants as outcomes
use Rattle.qs_book_journal.specs.declared.entry.Act.TheVariants as acts
use Rattle.qs_ops.specs.declared.vote.Vote.TheVariants as votes
use Rattle.qs_record.specs.declared.record.Record.TheVariants as records
use Rattle.qs_tm.specs.Manager as tm
use Rattle.qs_tm.specs.Members.{ballot_of, is_binding}
use Rattle.qs_tm.specs.Outcomes as outcome_rules
use Rattle.qs_tm.specs.Participant as participant
use Rattle.qs_node_step.specs.State.{part_of}
use Rattle.qs_node_step.specs.Voting.{log_prepare}
use Rattle.qs_world_lawful.proofs.LogActs.{acted_later}
use Rattle.qs_world_lawful.proofs.LogFrames.{every_on}
use Rattle.qs_world_lawful.proofs.LogKeeps.{by_quiet, lawful_before, lawful_since, inv_at}
use Rattle.qs_world_lawful.proofs.LogMarks.{ChangesPart, changes_part, changes_then, known_prepared, own_known, knows_changed}
use Rattle.qs_world_lawful.proofs.LogRecords.{every_filter, every_append}
use Rattle.qs_world_lawful.proofs.LogRules.{HeldWith, held_with, log_of}
use Rattle.qs_world_lawful.proofs.LogVotes.{may, voted_there, by_vote, next}
use Rattle.qs_world_lawful.proofs.Marks.{SameMarks}
use Rattle.qs_world_lawful.proofs.NamedActs.{named_after}
use Rattle.qs_world_lawful.proofs.Recordless.{Quiet, quiet_then, quiet_enter, quiet_part}
use Rattle.qs_world_lawful.proofs.QuietRequests.{quiet_node}

-- ---- a vote that the log says nothing of

voted_marks : (member : Member) (ballot : Vote) (covers : ℕ) (part : Participant) → SameMarks part (participant.voted member ballot covers part)
voted_marks member ballot covers part = record { log = refl; outcome = refl; involved = λ is. ap (λ (b : Bool). b || is_binding (ballot_of ballot)) is }

pub quiet_voted : (tid : Tid) (server : ServerNo) (ballot : Vote) (work : Work) → is_plain (acts.Vote tid (member_here work server) ballot (served_count tid server work)) ≡ true → Quiet work (enter_vote tid server ballot work)
quiet_voted tid server ballot work plain =
    let changed : Work = change_server server (λ value. after_vote value tid ballot) work in
    let counted : Work = with_manager (tm.voted tid (member_here work server) ballot (served_count tid server work)) changed in
    let noted : Work = with_doings tid (λ doings. record doings { voted = true }) counted in
    quiet_then work changed (enter_vote tid server ballot work) (quiet_node work changed refl refl refl)
    (quiet_then changed counted (enter_vote tid server ballot work) (quiet_part tid (participant.voted (member_here work server) ballot (served_count tid server work)) changed (voted_marks (member_here work server) ballot (served_count tid server work)))
    (quiet_then counted noted (enter_vote tid server ballot work) (quiet_node counted noted refl refl refl)
    (quiet_enter (acts.Vote tid (member_here work server) ballot (served_count tid server work)) noted plain)))

-- ---- a recoverable vote

same_served : (xs : List MemberPart) (n : ℕ) (m : MemberPart) → m.served ≡ (slice_index_or xs n no_member).served → (slice_index_or (slice_set xs n m) n no_member).served ≡ (slice_index_or xs n no_member).served
same_served [] n m e = refl
same_served (x ∷ xs) zero m e = e
same_served (x ∷ xs) (suc n) m e = same_served xs n m e

module _ (stamp : ℕ) (before : BookValue) (i : Inv before) (disk waiting : List Record) (tid : Tid) (server : ServerNo) (work : Work) (part : Participant) (known : part_of tid work ≡ Some part) (undecided : part.outcome ≡ None) where
  abbrev voted : Work
  voted = enter_vote tid server votes.Recoverable work

  abbrev new : Work
  new = log_prepare tid server voted

  abbrev covers : ℕ
  covers = served_count tid server work

  abbrev act : Act
  act = acts.Vote tid (member_here work server) votes.Recoverable covers

  abbrev voting : Participant → Participant
  voting = participant.voted (member_here work server) votes.Recoverable covers

  abbrev changes : List Op
  changes = changes_in (server_at voted.node.servers server) tid

  abbrev rec : Record
  rec = records.Prepare tid server (served_count tid server voted) changes

  pub covers_are : served_count tid server voted ≡ covers
  covers_are =
      ap (λ (o : Option Participant). elim o [ None ↦ 0 | Some p ↦ (member_of p server).served ]) (changes_part tid voting work.node.manager part known).now
      ∙ (same_served part.members server.0 (record (member_of part server) { vote = Some (record { ballot = ballot_of votes.Recoverable; covers = covers }) }) refl
      ∙ sym (ap (λ (o : Option Participant). elim o [ None ↦ 0 | Some p ↦ (member_of p server).served ]) known))

  abbrev now : Participant
  now = outcome_rules.logged rec (voting part)

  pub changed : ChangesPart tid work.node.manager new.node.manager part now
  changed = changes_then tid work.node.manager (tm.with_part tid voting work.node.manager) new.node.manager part (voting part) now
      (changes_part tid voting work.node.manager part known)
      (changes_part tid (outcome_rules.logged rec) (tm.with_part tid voting work.node.manager) (voting part) (changes_part tid voting work.node.manager part known).now)

  never : {X : Type 0} → part.outcome ≡ Some outcomes.Commit → X
  never is = absurd (clash (sym undecided ∙ is))
    where
      clash : None ≡ Some outcomes.Commit → ⊥
      clash e = cc e

  never_abort : {X : Type 0} → part.outcome ≡ Some outcomes.Abort → X
  never_abort is = absurd (clash (sym undecided ∙ is))
    where
      clash : None ≡ Some outcomes.Abort → ⊥
      clash e = cc e

  module _ (lawful : IsLawful before (entries_so_far stamp new)) (h : HoldsLogs stamp before disk waiting work) where
    abbrev book : BookValue
    book = book_at stamp before work

    abbrev at : ℕ
    at = (here work).0

    abbrev after : BookValue
    after = effect book (entry_of at stamp act)

    lawful_vote : broken book (entry_of at stamp act) ≡ None
    lawful_vote = (lawful_since stamp before i disk waiting work new (act ∷ []) refl refl lawful).0

    i_now : Inv book
    i_now = inv_at stamp before i disk waiting work (lawful_before stamp before i disk waiting work new (act ∷ []) refl refl lawful)

    named : names_transaction tid ≡ true
    named = let m = may book stamp at h.state i_now h.there tid server covers changes lawful_vote in h.named tid (ap is_some m.1)

    abbrev vote : Prepared
    vote = record { tid = tid; server = server; covers = covers; changes = changes; committed = false }

    own : KeepsRecords after (found_prepare vote (log_of stamp before i disk waiting work)) tid now
    own =
        let k : KeepsRecords book (log_of stamp before i disk waiting work) tid part = h.knows.parts tid part known in
        record {
          involved = λ is. or-true part.involved;
          undone = λ is done. never done;
          aborted = λ is done. never_abort done;
          listed = λ is. k.listed is;
          committed = λ is. never (k.listed is);
          has_commit = λ is. never (k.listed is);
        }

    logged : HeldWith stamp before i disk waiting work new (act ∷ []) (found_prepare vote (log_of stamp before i disk waiting work))
    logged =
        let log = log_of stamp before i disk waiting work in
        let later = acted_later book stamp at h.state i_now h.there act refl lawful_vote in
        record {
          later = later;
          named = named_after book stamp at h.state h.there act refl lawful_vote h.named;
          next = next book stamp at h.state i_now h.there tid server covers changes lawful_vote;
          there = voted_there book stamp at h.state i_now h.there tid server covers changes lawful_vote;
          all = by_vote book stamp at h.state i_now h.there tid server covers changes lawful_vote log h.all named;
          knows = knows_changed tid work.node.manager new.node.manager part now changed book after later log (found_prepare vote log) (λ t is. is) own
              (every_append (IsKnown new.node.manager) _ (vote ∷ [])
              (every_filter (IsKnown new.node.manager) _ log.prepared (every_on (IsKnown work.node.manager) (IsKnown new.node.manager) (known_prepared tid work.node.manager new.node.manager part now changed refl) log.prepared h.knows.votes))
              (own_known tid work.node.manager new.node.manager part now changed refl vote refl, tt))
              h.knows;
          on_disk = λ unforced. absurd (forced unforced);
          alike = λ unforced. absurd (forced unforced);
        }
      where
        forced : (work.out.force || true) ≡ false → ⊥
        forced e = cc (sym (or-true work.out.force) ∙ e)

    held : HoldsLogs stamp before disk waiting new
    held = held_with stamp before i disk waiting work new h (act ∷ []) refl refl rec refl
        (subst (λ (n : ℕ). HeldWith stamp before i disk waiting work new (act ∷ []) (found_record (log_of stamp before i disk waiting work) (records.Prepare tid server n changes))) (sym covers_are) logged)

  by_recoverable : KeepsLogs stamp before disk waiting work new
  by_recoverable = record { more = act ∷ []; entries = refl; setting = refl; keeps = λ lawful h. held lawful h }

  -- the rule
  pub by_vote_with : (ballot : Vote) → KeepsLogs stamp before disk waiting work (vote_with tid server ballot work)
  by_vote_with votes.Recoverable = by_recoverable
  by_vote_with votes.ReadOnly = by_quiet stamp before i disk waiting work (vote_with tid server votes.ReadOnly work) (quiet_voted tid server votes.ReadOnly work refl)
  by_vote_with votes.Volatile = by_quiet stamp before i disk waiting work (vote_with tid server votes.Volatile work) (quiet_voted tid server votes.Volatile work refl)
  by_vote_with (votes.Abort reason) = by_quiet stamp before i disk waiting work (vote_with tid server (votes.Abort reason) work) (quiet_voted tid server (votes.Abort reason) work refl)

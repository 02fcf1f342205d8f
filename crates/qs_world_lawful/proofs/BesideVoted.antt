-- A server votes, as an entry: what the machine has beside the node stands on; a Prepare goes with its vote.
use Rattle.qs_world_lawful.proofs.Words.{◌≡◌, ◌⊎◌, inl, inr, ℕ, ◌<◌, ◌^◌, Bool, true, false, [], ◌∷◌, ◌++◌, Option, Some, None, refl, sym, ap, subst, ◌∙◌, length, true≢false, list_any-append, is_at, list_any, ◌&&◌, ◌||◌, is_some, same_member-self, NodeNo, ServerNo, Tid, Act, voter_equal, voter_exact, changed_at_here, lookup_put_apart, BookValue, crossed_in, find_transaction, inc_at, pending_in, vote_node, has_no_record, effect, TransactionValue, has_refusal, voted, OnRecord, Voter, class_of}
use Rattle.qs_world_lawful.proofs.Words.{is_two_phase, Cause, Vote, member_here, Work, member_of, InLog, Participant, entry_of, InRun, HoldsBeside, HoldsClock, HoldsNotes, HoldsPart, HoldsReads, IsTrueCause, book_at, at_server, is_plain, Every, false≢true, false_from_ne_true}
use Rattle.qs_book_journal.specs.declared.entry.Act.TheVariants as acts
use Rattle.qs_book_laws.proofs.Acts as of
use Rattle.qs_book_machine.specs.Nodes as machine
use Rattle.qs_book_machine.specs.Transaction.{is_refusal, part_of}
use Rattle.qs_ops.specs.Servers.{audit_no, extra_no, files_no}
use Rattle.qs_ops.specs.declared.vote.Vote.TheVariants as votes
use Rattle.qs_node_step.specs.State.{NodeValue}
use Rattle.qs_tm.specs.Manager as tm
use Rattle.qs_tm.specs.Members as rules
use Rattle.qs_tm.specs.Participant as participant
use Rattle.qs_tm.specs.Participant.{causes_of}
use Rattle.qs_world_lawful.specs.Holds.{is_kept}
use Rattle.qs_world_lawful.proofs.Apart.{Apart}
use Rattle.qs_world_lawful.proofs.BesideActs.{others_changed}
use Rattle.qs_world_lawful.proofs.BesideGoes.{Goes, alike_committed, goes_entry}
use Rattle.qs_world_lawful.proofs.BesideOwn.{beside_one, found_changed, own_known}
use Rattle.qs_world_lawful.proofs.BesideParts.{CommittedOn, notes_on, with_setting}
use Rattle.qs_world_lawful.proofs.BesidePlain.{MachineOn, machine_alike, plain_records}
use Rattle.qs_world_lawful.proofs.BesideVote.{reads_voted}
use Rattle.qs_world_lawful.proofs.LogFrames.{every_on}
use Rattle.qs_world_lawful.proofs.LogRecords.{every_append}
use Rattle.qs_world_lawful.proofs.Told.{same_reason-self}
use Rattle.qs_world_lawful.proofs.Truths.{of_some}

module _ (stamp : ℕ) (before : BookValue) (run : InRun before) (work new_work : Work) (tid : Tid) (server : ServerNo) (ballot : Vote) (count : ℕ) (p : Participant) (log : InLog)
    (known : tm.part_of tid work.node.manager ≡ Some p) (known_now : tm.part_of tid new_work.node.manager ≡ Some (record (participant.voted (member_here work server) ballot count p) { log = log }))
    (others : (t : Tid) → Apart tid t → tm.part_of t new_work.node.manager ≡ tm.part_of t work.node.manager) (ticks_kept : new_work.node.manager.ticks ≡ work.node.manager.ticks)
    (setting_is : new_work.node.setting ≡ work.node.setting) (outcomes_are : new_work.node.kept.now.outcomes ≡ work.node.kept.now.outcomes) (committed_are : new_work.node.committed ≡ work.node.committed)
    (ticks_are : new_work.node.servers.timers.timers.ticks ≡ work.node.servers.timers.timers.ticks)
    (grows : new_work.out.entries ≡ work.out.entries ++ acts.Vote tid (member_here work server) ballot count ∷ []) (sendings : new_work.out.messages ≡ work.out.messages)
    (size : length p.members ≡ 7) (kept : is_kept server ≡ true) (two : is_two_phase (class_of server.0) ≡ true) (count_is : count ≡ (member_of p server).served)
    (logs : (ballot ≡ votes.Recoverable → log.unended ≡ true) × ((ballot ≡ votes.Recoverable → ⊥) → log.unended ≡ p.log.unended))
    (nothing : ballot ≡ votes.ReadOnly → server ≡ rules.files_no → (tx : TransactionValue) → find_transaction (book_at stamp before work) tid ≡ Some tx → (part_of tx (at_server work.node.setting.node rules.files_no) work.node.setting.inc).pending ≡ 0) where
  abbrev node : NodeValue
  node = work.node

  abbrev fresh : NodeValue
  fresh = new_work.node

  abbrev own_node : NodeNo
  own_node = node.setting.node

  abbrev inc : ℕ
  inc = node.setting.inc

  abbrev book : BookValue
  book = book_at stamp before work

  abbrev act : Act
  act = acts.Vote tid (member_here work server) ballot count

  abbrev new : BookValue
  new = effect book (entry_of own_node.0 stamp act)

  abbrev q : Participant
  q = record (participant.voted (member_here work server) ballot count p) { log = log }

  -- whether its Prepare goes with it
  recoverable : (v : Vote) → (v ≡ votes.Recoverable) ⊎ (v ≡ votes.Recoverable → ⊥)
  recoverable votes.Recoverable = inl refl
  recoverable votes.ReadOnly = inr (λ e. other e)
    where
      other : votes.ReadOnly ≡ votes.Recoverable → ⊥
      other e = cc e
  recoverable votes.Volatile = inr (λ e. other e)
    where
      other : votes.Volatile ≡ votes.Recoverable → ⊥
      other e = cc e
  recoverable (votes.Abort reason) = inr (λ e. other e)
    where
      other : votes.Abort reason ≡ votes.Recoverable → ⊥
      other e = cc e

  plain : (v : Vote) → (v ≡ votes.Recoverable → ⊥) → is_plain (acts.Vote tid (member_here work server) v count) ≡ true
  plain votes.Recoverable never = absurd (never refl)
  plain votes.ReadOnly never = refl
  plain votes.Volatile never = refl
  plain (votes.Abort reason) never = refl

  module _ (causes_on : (t : Tid) (cause : Cause) → IsTrueCause book t cause → IsTrueCause new t cause) (h : HoldsBeside book node) where
    inc_is : inc_at book (record { 0 = own_node.0 }) ≡ inc
    inc_is = ap (λ (o : Option machine.NodeValue). elim o [ None ↦ 0 | Some s ↦ s.inc ]) h.there ∙ h.inc

    machine_on : MachineOn book new own_node.0 h.state
    machine_on = machine_alike book new own_node.0 h.state h.there (let a = of.by_vote own_node.0 tid (member_here work server) ballot count book in record { faces = a.faces; ages = a.ages; tolds = a.tolds })

    abbrev votes_on : Vote → machine.NodeValue → machine.NodeValue
    votes_on v s = vote_node (pending_in (find_transaction book tid) (member_here work server) (inc_at book (record { 0 = own_node.0 }))) (crossed_in (find_transaction book tid) (member_here work server)) tid server.0 v count s

    next_is : votes_on ballot h.state ≡ machine_on.next
    next_is = of_some (sym (changed_at_here (votes_on ballot) book.nodes own_node.0 h.state h.there) ∙ machine_on.there)

    -- a vote that goes on record leaves what is there of others
    recorded : (t : Tid) → Apart tid t → ballot ≡ votes.Recoverable → has_no_record machine_on.next t ≡ has_no_record h.state t
    recorded t far is = ap (λ (s : machine.NodeValue). has_no_record s t) (sym (ap (λ (v : Vote). votes_on v h.state) (sym is) ∙ next_is))
        ∙ rw (one files_no, one audit_no, one extra_no) refl
      where
        rec : OnRecord
        rec = record { changes = machine.pending_at h.state tid server.0; covers = count; pending = pending_in (find_transaction book tid) (member_here work server) (inc_at book (record { 0 = own_node.0 })) }

        one : (s : ℕ) → machine.record_of (votes_on votes.Recoverable h.state) t s ≡ machine.record_of h.state t s
        one s = lookup_put_apart machine.voter_cmp (machine.voter tid server.0) rec (voter_equal (machine.voter tid server.0)) (is_at (machine.voter_cmp (machine.voter t s)))
            (false_from_ne_true _ (λ is. far.differ (sym (ap (λ (v : Voter). v.tid) (voter_exact (machine.voter t s) (machine.voter tid server.0) is))))) h.state.records

    records : (t : Tid) → Apart tid t → has_no_record h.state t ≡ true → has_no_record machine_on.next t ≡ true
    records t far none = of (recoverable ballot)
      where
        of : (ballot ≡ votes.Recoverable) ⊎ (ballot ≡ votes.Recoverable → ⊥) → has_no_record machine_on.next t ≡ true
        of (inl is) = recorded t far is ∙ none
        of (inr never) = plain_records stamp book own_node.0 act (plain ballot never) h.state machine_on.next h.there machine_on.there t none

    module _ (tx : TransactionValue) (found : find_transaction book tid ≡ Some tx) where
      abbrev f : ℕ → TransactionValue → TransactionValue
      f k = voted (member_here work server) k ballot

      found_now : find_transaction new tid ≡ Some (f inc tx)
      found_now = subst (λ (k : ℕ). find_transaction new tid ≡ Some (f k tx)) inc_is (found_changed tid (f (inc_at book (record { 0 = own_node.0 }))) book new tx refl found)

      was : HoldsPart book h.state node tid tx p
      was = (h.at tid).parts tx p found known

      -- why it refuses is so
      refuses : (v : Vote) → ballot ≡ v → Every (IsTrueCause new tid) (causes_of (member_here work server) v)
      refuses votes.ReadOnly is = tt
      refuses votes.Volatile is = tt
      refuses votes.Recoverable is = tt
      refuses (votes.Abort reason) is = ((f inc tx, found_now, subst (λ (v : Vote). has_refusal (voted (member_here work server) inc v tx) (member_here work server) reason ≡ true) (sym is) refused), tt)
        where
          last : (a b c : Bool) → b ≡ true → c ≡ true → (a || ((b && c) || false)) ≡ true
          last true b c p q = refl
          last false b c p q = rw (p, q) refl

          refused : list_any (is_refusal (member_here work server) reason) (tx.refusals ++ record { member = member_here work server; reason = reason } ∷ []) ≡ true
          refused = list_any-append (is_refusal (member_here work server) reason) tx.refusals (record { member = member_here work server; reason = reason } ∷ [])
              ∙ last (list_any (is_refusal (member_here work server) reason) tx.refusals) _ _ (same_member-self (member_here work server)) (same_reason-self reason)

      part_now : HoldsPart new machine_on.next fresh tid (f inc tx) q
      part_now = record {
        notes = with_setting (λ n i. HoldsNotes n i tid (f inc tx) q) node fresh setting_is (notes_on own_node inc tid tx (f inc tx) p q refl refl (record { keeps = λ c is. is }) was.notes);
        asked = was.asked;
        outcome = was.outcome;
        causes = λ none. every_append (IsTrueCause new tid) p.causes (causes_of (member_here work server) ballot) (every_on (IsTrueCause book tid) (IsTrueCause new tid) (causes_on tid) p.causes (was.causes none)) (refuses ballot refl);
        reads = λ none. let r : HoldsReads own_node inc tid (f inc tx) (participant.voted (member_here work server) ballot count p) = reads_voted own_node inc server ballot count tid tx p size kept two count_is (λ is files. nothing is files tx found) (was.reads none) in
            with_setting (λ n i. HoldsReads n i tid (f inc tx) q) node fresh setting_is
            (record { readers = λ s k. let g = r.readers s k in record { anew = g.anew; unfresh = g.unfresh; told = g.told }; unchanged = r.unchanged; counted = r.counted });
        begun_at = was.begun_at;
        records = λ home none unended. of home none unended (recoverable ballot);
      }
        where
          of : p.engage.home ≡ true → p.outcome ≡ None → log.unended ≡ false → (ballot ≡ votes.Recoverable) ⊎ (ballot ≡ votes.Recoverable → ⊥) → has_no_record machine_on.next tid ≡ true
          of home none unended (inl is) = absurd (true≢false (sym (logs.0 is) ∙ unended))
          of home none unended (inr other) = plain_records stamp book own_node.0 act (plain ballot other) h.state machine_on.next h.there machine_on.there tid (was.records home none (sym (logs.1 other) ∙ unended))

      committed_on : (t : Tid) → CommittedOn node fresh t
      committed_on t is = alike_committed stamp before run node fresh t outcomes_are committed_are ∙ is

      clock_now : HoldsClock fresh
      clock_now = record { ticks = ticks_are ∙ (h.clock.ticks ∙ sym ticks_kept); room = subst (λ (k : ℕ). k < 2 ^ 62) (sym ticks_kept) h.clock.room }

      pub voted_beside : HoldsBeside new fresh
      voted_beside = beside_one book new node fresh setting_is h machine_on causes_on tid committed_on others records (λ t far. others_changed own_node inc tid t (f (inc_at book (record { 0 = own_node.0 }))) book new refl far) clock_now
          (own_known new machine_on.next node fresh tid (f inc tx) found_now p q known known_now part_now
          (λ home committed. committed_on tid (((h.at tid).ended tx (home ∙ ap (λ s. s.node) setting_is) found).committed committed)))

  pub goes_voted : Goes stamp before run work new_work
  goes_voted = goes_entry stamp before run work new_work act setting_is committed_are grows sendings (λ fine inv causes_on h. of h (find_transaction book tid) refl ((h.at tid).stands p known) causes_on)
    where
      of : (h : HoldsBeside book node) (o : Option TransactionValue) → find_transaction book tid ≡ o → is_some (find_transaction book tid) ≡ true → ((t : Tid) (cause : Cause) → IsTrueCause book t cause → IsTrueCause new t cause) → HoldsBeside new fresh
      of h None is there causes_on = absurd (false≢true (sym (ap is_some is) ∙ there))
      of h (Some tx) is there causes_on = voted_beside causes_on h tx is

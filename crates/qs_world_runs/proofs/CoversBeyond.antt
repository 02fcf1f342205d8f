-- A vote of a step covers more than what is on record of its member and found in the log: it was due, so the last vote did not cover all that was served as the step began.
use Rattle.qs_world_runs.proofs.Words.{◌≡◌, ℕ, ◌≤◌, ◌==◌, ◌&&◌, ◌||◌, ◌++◌, arith, not, Bool, true, false, List, [], ◌∷◌, Option, Some, None, is_some, nat_lt, refl, sym, ap, subst, ◌∙◌, nat_le, eqb-true, not-true, and_parts, nat_tests, list_any, slice_get, same_tid, Member, ServerNo, Tid, Act, BookValue, inc_at, is_recoverable, is_among, is_found_as, TransactionValue, is_commit, OnRecord, class_of, is_two_phase, Record, Prepared, Recovery, names_transaction, recovery, effects_of, Event}
use Rattle.qs_world_runs.proofs.Words.{member_of, Participant, Source, Host, Opening, World, StepMay, step_may, IsMarked, Every, found_votes, face_of, part_or_new, HoldsAt, HoldsTid, is_kept, HoldsNodeAt, HoldsUp, every_two, to_votes, MakesStep, HasCast, IsSource, Joined, book_in, entries_in, CoversAt}
use Rattle.qs_book_machine.specs.Lawful.{IsLawful}
use Rattle.qs_book_machine.specs.Nodes as machine
use Rattle.qs_book_machine.specs.Transaction.{part_of}
use Rattle.qs_record.specs.declared.record.Record.TheVariants as made
use Rattle.qs_restart.specs.Recovery.{is_in_doubt}
use Rattle.qs_node_step.specs.State.{NodeValue}
use Rattle.qs_tm.specs.Manager as tm
use Rattle.qs_tm.specs.Members as rules
use Rattle.qs_tm.specs.declared.members.Cast.{Cast}
use Rattle.qs_world_lawful.specs.Holds.{HoldsVoter}
use Rattle.qs_world_lawful.proofs.LogLearning.{any_of}
use Rattle.qs_world_lawful.proofs.LogRecords.{found_is, is_found}
use Rattle.qs_world_runs.specs.CoversAhead.{IsBeyondVote}
use Rattle.qs_world_runs.proofs.CoversCounts.{ahead_first}
use Rattle.qs_world_runs.proofs.CoversRecords.{every_place, small}
use Rattle.qs_world_runs.proofs.CoversSteps.{OwnVote, StartsAhead, VoteNow, own_vote, source_at, starts_ahead, votes_now}

module _ (P : Opening → World → Type 0) (o : Opening) (world : World) (j : Joined P o world) (h : CoversAt o world) (n stamp free : ℕ) (source : Source) (event : Event) (makes : MakesStep world n stamp source event)
    (lawful : IsLawful (book_in o world) (entries_in world n stamp free event)) where
  abbrev book : BookValue
  book = book_in o world

  abbrev host : Host
  host = world.hosts n

  abbrev node : NodeValue
  node = host.node

  abbrev done : List Act
  done = (effects_of node event free).entries

  abbrev batch : List Record
  batch = (effects_of node event free).records

  abbrev log : Recovery
  log = recovery (host.log ++ host.waiting)

  its : StepMay world n source
  its = step_may world n stamp source makes.may

  at : HoldsNodeAt book world n
  at = j.held.nodes n its.low

  up : HoldsUp n book at.state host
  up = at.runs its.runs

  -- ---- its votes cover more

  two_phase : (k : ℕ) → ((k == 0) || (k == 1)) ≡ true → is_two_phase (class_of k) ≡ true
  two_phase k is = by (k == 0) (k == 1) refl refl is
    where
      by : (a b : Bool) → (k == 0) ≡ a → (k == 1) ≡ b → (a || b) ≡ true → is_two_phase (class_of k) ≡ true
      by true b p q e = subst (λ (i : ℕ). is_two_phase (class_of i) ≡ true) (sym (eqb-true k 0 p)) refl
      by false true p q e = subst (λ (i : ℕ). is_two_phase (class_of i) ≡ true) (sym (eqb-true k 1 q)) refl
      by false false p q e = absurd (cc e)

  inc_is : inc_at book (record { 0 = n }) ≡ node.setting.inc
  inc_is = ap (λ (x : Option machine.NodeValue). elim x [ None ↦ 0 | Some state ↦ state.inc ]) (subst (λ (k : ℕ). slice_get book.nodes k ≡ Some up.still.state) at.node up.still.there) ∙ up.still.same.inc

  -- where a vote is due the last one does not cover all that was served
  uncovered : (tid : Tid) (server : ServerNo) (covers : ℕ) (v : OwnVote P o world j h n stamp free source event makes lawful tid server covers) (part : Participant) → tm.part_of tid node.manager ≡ Some part → rules.is_covering (member_of part server) ≡ false
  uncovered tid server covers v part known = not-true (rules.is_covering (member_of part server)) (sym voter.is_due ∙ waits)
    where
      member : Member
      member = record { node = node.setting.node; server = server }

      held : HoldsTid node.setting.node node.setting.inc tid v.due.tx (face_of node tid)
      held = subst (λ (x : Option TransactionValue). HoldsAt node.setting.node node.setting.inc tid x (face_of node tid)) v.due.found (up.still.at tid)

      is_held_now : (is_some (tm.part_of tid node.manager) || not (is_commit v.due.tx.cell)) ≡ true
      is_held_now = rw known refl

      kept_is : is_kept server ≡ true
      kept_is = small server.0 v.low

      voter : HoldsVoter (part_of v.due.tx member node.setting.inc) (member_of part server)
      voter = subst (λ (x : Option Participant). HoldsVoter (part_of v.due.tx member node.setting.inc) (member_of (part_or_new x) server)) known ((held.members is_held_now server kept_is).votes (two_phase server.0 v.keeps))

      waits : nat_lt (part_of v.due.tx member node.setting.inc).voted (part_of v.due.tx member node.setting.inc).served ≡ true
      waits = subst (λ (i : ℕ). nat_lt (part_of v.due.tx member i).voted (part_of v.due.tx member i).served ≡ true) inc_is (and_parts (nat_lt (part_of v.due.tx member (inc_at book (record { 0 = n }))).voted (part_of v.due.tx member (inc_at book (record { 0 = n }))).served) _ (and_parts (is_some v.due.tx.asked && not (is_commit v.due.tx.cell)) _ v.due.due).1).0

  beyond_one : (tid : Tid) (server : ServerNo) (covers : ℕ) → OwnVote P o world j h n stamp free source event makes lawful tid server covers → (rec : OnRecord) → list_any (is_found_as (machine.voter tid server.0) rec.covers) (found_votes log) ≡ true → nat_lt rec.covers covers ≡ true
  beyond_one tid server covers v rec found = beyond (any_of (λ (x : Prepared). VoteNow P o world j h n stamp free source event makes lawful x × IsMarked log x) (is_found (machine.voter tid server.0) rec.covers) log.prepared (to_votes (machine.voter tid server.0) rec.covers log found)
      (every_two (VoteNow P o world j h n stamp free source event makes lawful) (IsMarked log) (λ (x : Prepared). VoteNow P o world j h n stamp free source event makes lawful x × IsMarked log x) (λ x a b. (a, b)) log.prepared (votes_now P o world j h n stamp free source event makes lawful) up.log.all.marked))
    where
      below : (r c w z k : ℕ) → nat_le r c ≡ true → c ≤ w → w ≤ z → (w == z) ≡ false → z ≤ k → nat_lt r k ≡ true
      below r c w z k p q a b e = grind (arith, nat_tests, p, q, a, b, e)

      beyond : ((x : Prepared) × (is_found (machine.voter tid server.0) rec.covers x ≡ true) × (VoteNow P o world j h n stamp free source event makes lawful x × IsMarked log x)) → nat_lt rec.covers covers ≡ true
      beyond x = below rec.covers x.0.covers cast.cast.covers (member_of a.part server).served covers less cast.least cast.most uncast (v.cast.1 x.0.covers (member_of a.part server).served (ahead_first P o world j n stamp free source event makes tid server v.low v.apart a.part known a.involved x.0.covers cast))
        where
          parts : (names_transaction x.0.tid ≡ true) × ((same_tid x.0.tid tid && ((x.0.server.0 == server.0) && nat_le rec.covers x.0.covers)) ≡ true)
          parts = and_parts (names_transaction x.0.tid) _ x.1

          same : x.0.tid ≡ tid
          same = (found_is (machine.voter tid server.0) rec.covers x.0 x.1).0

          server_is : x.0.server ≡ server
          server_is = ap (λ (k : ℕ). record { 0 = k }) (eqb-true x.0.server.0 server.0 (found_is (machine.voter tid server.0) rec.covers x.0 x.1).1)

          less : nat_le rec.covers x.0.covers ≡ true
          less = (and_parts (x.0.server.0 == server.0) _ (and_parts (same_tid x.0.tid tid) _ parts.1).1).1

          open_vote : x.0.committed ≡ false
          open_vote = by x.0.committed refl
            where
              by : (b : Bool) → x.0.committed ≡ b → x.0.committed ≡ false
              by false e = e
              by true e = absurd (cc (subst (λ (y : Tid). is_among log.committed y ≡ true) same (x.2.1 e), v.apart))

          doubt : is_in_doubt x.0 ≡ true
          doubt = rw (parts.0, open_vote) refl

          a : StartsAhead P o world j h n stamp free source event makes lawful x.0
          a = starts_ahead P o world j h n stamp free source event makes lawful x.0 x.2.0 doubt

          known : tm.part_of tid node.manager ≡ Some a.part
          known = subst (λ (y : Tid). tm.part_of y node.manager ≡ Some a.part) same a.known

          cast : HasCast x.0.covers (member_of a.part server)
          cast = subst (λ (y : ServerNo). HasCast x.0.covers (member_of a.part y)) server_is a.cast

          uncast : (cast.cast.covers == (member_of a.part server).served) ≡ false
          uncast = ap (λ (w : Option Cast). elim w [ None ↦ (member_of a.part server).served == 0 | Some c ↦ c.covers == (member_of a.part server).served ]) (sym cast.vote) ∙ uncovered tid server covers v a.part known

  beyond_at : (state : machine.NodeValue) (rec : Record) (before after : List Record) → batch ≡ before ++ rec ∷ after → IsSource node event done rec → IsBeyondVote state log rec
  beyond_at state (made.Prepare tid server covers changes) before after is from = λ rec has found. beyond_one tid server covers (own_vote P o world j h n stamp free source event makes lawful tid server covers changes before after is from) rec found
  beyond_at state (made.Commit tid told) before after is from = tt
  beyond_at state (made.Aborted tid) before after is from = tt
  beyond_at state (made.End tid) before after is from = tt

  pub votes_beyond : (state : machine.NodeValue) → Every (IsBeyondVote state log) batch
  votes_beyond state = every_place (IsBeyondVote state log) batch [] batch refl (λ rec before after is. beyond_at state rec before after is (source_at P o world j h n stamp free source event makes lawful rec before after is))

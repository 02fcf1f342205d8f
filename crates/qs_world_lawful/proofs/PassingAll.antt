-- All servers of a node whose votes are due vote in a pass, once timers were told: the rule as a whole.
use Rattle.qs_world_lawful.proofs.Words.{◌≡◌, ◌≢◌, ℕ, ◌==◌, ◌<◌, Bool, true, false, List, [], ◌∷◌, Option, Some, None, refl, sym, ap, subst, ◌∙◌, fold, nat_lt, length, not, ◌&&◌, ◌||◌, ⊤, is_some, if◌then◌else◌, filter, NodeNo, ServerNo, Tid, BookValue, find_transaction, inc_at, member_here, TransactionValue, end_member, is_lent, is_pass_due, is_put_off, pass_rule, Work, doings_of, here, due_votes, vote_next, vote_pass, awaits_note, is_due_at, member_of, needs_pass, servers_due, Participant}
use Rattle.qs_world_lawful.proofs.Words.{HoldsWork, book_at, face_of, MayPass, HoldsTid, or_left, eqb-false}
use Rattle.qs_book_journal.specs.declared.entry.Act.TheVariants as acts
use Rattle.qs_book_machine.specs.Transaction.{is_abort}
use Rattle.qs_book_machine.specs.Transaction as machine
use Rattle.qs_world_lawful.proofs.Uncommitted.{uncommitted_on}
use Rattle.qs_ipc.specs.Ipc as ipc
use Rattle.qs_tm.specs.Manager as tm
use Rattle.qs_tm.specs.Members as rules
use Rattle.qs_tm.specs.Members.{all_servers}
use Rattle.qs_tm.specs.Outcomes as outcome_rules
use Rattle.qs_tm.specs.declared.participant.Due.TheVariants as dues
use Rattle.qs_world_lawful.specs.Holds.{is_kept}
use Rattle.qs_world_lawful.proofs.Casting.{told_all}
use Rattle.qs_world_lawful.proofs.Clauses.{of_tid}
use Rattle.qs_world_lawful.proofs.Endings.{end_if, ended_held, endings_are}
use Rattle.qs_world_lawful.proofs.Faces.{part_changed}
use Rattle.qs_world_lawful.proofs.FilesHeld.{files_held}
use Rattle.qs_world_lawful.proofs.LearningAll.{no, stands}
use Rattle.qs_world_lawful.proofs.Parts.{with_other}
use Rattle.qs_world_lawful.proofs.Passing.{Passing, files_next, left, others_next}

-- servers but files, each once
abbrev pub IsApartFrom : ServerNo → List ServerNo → Type 0
IsApartFrom s [] = ⊤
IsApartFrom s (x ∷ xs) = ((s.0 == x.0) ≡ false) × IsApartFrom s xs

abbrev pub AreOthers : List ServerNo → Type 0
AreOthers [] = ⊤
AreOthers (s ∷ ss) = (is_kept s ≡ true) × (rules.same_server s rules.files_no ≡ false) × IsApartFrom s ss × AreOthers ss

module _ (stamp : ℕ) (before : BookValue) (tid : Tid) (start : Participant) where
  abbrev due : ServerNo → Bool
  due s = is_due_at dues.Vote start s

  -- their votes are due as they were
  abbrev pub AreDue : {work : Work} → Passing stamp before tid work → List ServerNo → Type 0
  AreDue m [] = ⊤
  AreDue m (s ∷ ss) = (left stamp before tid m s ≡ due s) × AreDue m ss

  pub due_on : (s : ServerNo) (work new : Work) (m : Passing stamp before tid work) (after : Passing stamp before tid new) → ((x : ServerNo) → s.0 ≢ x.0 → left stamp before tid after x ≡ left stamp before tid m x)
      → (ss : List ServerNo) → IsApartFrom s ss → AreDue m ss → AreDue after ss
  due_on s work new m after others [] far same = tt
  due_on s work new m after others (x ∷ xs) far same = (others x (eqb-false s.0 x.0 far.0) ∙ same.0, due_on s work new m after others xs far.1 same.1)

  others_pass : (ss : List ServerNo) → AreOthers ss → (work : Work) (m : Passing stamp before tid work) → AreDue m ss → HoldsWork stamp before (fold (vote_next tid) work (filter due ss))
  others_pass [] ok work m same = m.held
  others_pass (s ∷ ss) ok work m same = by (due s) refl (λ w k alike. others_pass ss ok.3 w k alike)
    where
      by : (b : Bool) → due s ≡ b → ((w : Work) (k : Passing stamp before tid w) → AreDue k ss → HoldsWork stamp before (fold (vote_next tid) w (filter due ss)))
          → HoldsWork stamp before (fold (vote_next tid) work (if b then s ∷ filter due ss else filter due ss))
      by false is more = more work m same.1
      by true is more =
          let n = others_next stamp before tid work m s ok.0 (same.0 ∙ is) ok.1 in
          more (vote_next tid work s) n.after (due_on s work (vote_next tid work s) m n.after n.others ss ok.2 same.1)

  -- files first
  abbrev pub others : List ServerNo
  others = no 1 ∷ no 2 ∷ no 3 ∷ no 4 ∷ no 5 ∷ no 6 ∷ []

  pub they_are : AreOthers others
  they_are = (refl, refl, (refl, (refl, (refl, (refl, (refl, tt))))), (refl, refl, (refl, (refl, (refl, (refl, tt)))), (refl, refl, (refl, (refl, (refl, tt))), (refl, refl, (refl, (refl, tt)), (refl, refl, (refl, tt), (refl, refl, tt, tt))))))

  all_pass : (work : Work) (m : Passing stamp before tid work) → AreDue m (no 0 ∷ others) → awaits_note m.part ≡ false
      → ((to : NodeNo) → work.node.setting.audit ≡ Some to → (nat_lt to.0 work.node.setting.nodes ≡ true) × (to.0 < length m.part.engage.peers)) → HoldsWork stamp before (fold (vote_next tid) work (servers_due dues.Vote start))
  unfolding all_servers
  all_pass work m same idle audit = by (due (no 0)) refl
    where
      far : IsApartFrom (no 0) others
      far = (refl, (refl, (refl, (refl, (refl, (refl, tt))))))

      by : (b : Bool) → due (no 0) ≡ b → HoldsWork stamp before (fold (vote_next tid) work (if b then no 0 ∷ filter due others else filter due others))
      by false is = others_pass others they_are work m same.1
      by true is =
          let n = files_next stamp before tid work m (no 0) refl (same.0 ∙ is) idle audit in
          others_pass others they_are (vote_next tid work (no 0)) n.after (due_on (no 0) work (vote_next tid work (no 0)) m n.after n.others others far same.1)

-- ---- the endings, and then the pass

module _ (stamp : ℕ) (before : BookValue) (tid : Tid) (work : Work) (h : HoldsWork stamp before work) (part : Participant) (known : tm.part_of tid work.node.manager ≡ Some part) (asked : part.asked ≡ true) (idle : awaits_note part ≡ false)
    (given : MayPass stamp before work tid part) where
  abbrev ended_part : Participant
  ended_part = outcome_rules.settled (no 3) part

  abbrev Due : {w : Work} → Passing stamp before tid w → Type 0
  Due m = AreDue stamp before tid part m (no 0 ∷ no 1 ∷ no 2 ∷ no 3 ∷ no 4 ∷ no 5 ∷ no 6 ∷ [])

  pub in_machine : (tx : TransactionValue) × (find_transaction (book_at stamp before work) tid ≡ Some tx)
  in_machine = stands stamp (book_at stamp before work) work.node tid part h.holds known

  pub in_commit : (is_some in_machine.0.asked || is_abort in_machine.0.cell) ≡ true
  in_commit = or_left _ _ (held.asked asked)
    where
      held : HoldsTid work.node.setting.node work.node.setting.inc tid in_machine.0 (record (face_of work.node tid) { known = Some part })
      held = subst (λ (o : Option Participant). HoldsTid work.node.setting.node work.node.setting.inc tid in_machine.0 (record (face_of work.node tid) { known = o })) known (of_tid stamp (book_at stamp before work) work.node h.holds tid in_machine.0 in_machine.1)

  votes_is : due_votes tid work ≡ servers_due dues.Vote part
  votes_is = ap (λ (o : Option Participant). elim o [ None ↦ [] | Some p ↦ servers_due dues.Vote p ]) known

  abbrev pub plain_passing : Passing stamp before tid work
  plain_passing = record { held = h; part = part; known = known; asked = asked; open_still = given.open_still }

  pub plain_due : Due plain_passing
  plain_due = (refl, (refl, (refl, (refl, (refl, (refl, (refl, tt)))))))

  module _ (fresh : (member_of part (no 3)).fresh ≡ true) where
    abbrev pub ended_passing : Passing stamp before tid (end_member tid work (no 3))
    ended_passing = record {
      held = ended_held stamp before work tid part in_machine.0 h (files_held stamp before work h) known in_machine.1 in_commit fresh;
      part = ended_part;
      known = part_changed tid (outcome_rules.settled (no 3)) work.node.manager part known;
      asked = asked;
      open_still = uncommitted_on stamp before tid work (end_member tid work (no 3)) (acts.Ending tid (member_here work (no 3))) (machine.ended (member_here work (no 3)) (inc_at (book_at stamp before work) (record { 0 = (here work).0 }))) in_machine.0 (λ x. refl) refl in_machine.1 refl refl given.open_still;
    }

    other : (x : ServerNo) → 3 ≢ x.0 → rules.is_vote_due x (member_of ended_part x) ≡ rules.is_vote_due x (member_of part x)
    other x far = ap (rules.is_vote_due x) (with_other (no 3) x (told_all (member_of part (no 3))) part far)

    pub ended_due : Due ended_passing
    ended_due = (other (no 0) (eqb-false 3 0 refl), (other (no 1) (eqb-false 3 1 refl), (other (no 2) (eqb-false 3 2 refl), (refl, (other (no 4) (eqb-false 3 4 refl), (other (no 5) (eqb-false 3 5 refl), (other (no 6) (eqb-false 3 6 refl), tt)))))))

  ended : (b : Bool) → (member_of part (no 3)).fresh ≡ b → HoldsWork stamp before (fold (vote_next tid) (end_if b tid work) (servers_due dues.Vote part))
  ended false fresh = all_pass stamp before tid part work plain_passing plain_due idle given.audit
  ended true fresh = all_pass stamp before tid part (end_member tid work (no 3)) (ended_passing fresh) (ended_due fresh) idle given.audit

  pub by_pass : HoldsWork stamp before (vote_pass tid work)
  by_pass = subst (λ (w : Work). HoldsWork stamp before (fold (vote_next tid) w (due_votes tid work))) (sym (endings_are tid part work known))
      (subst (λ (ss : List ServerNo). HoldsWork stamp before (fold (vote_next tid) (end_if (member_of part (no 3)).fresh tid work) ss)) (sym votes_is)
      (ended (member_of part (no 3)).fresh refl))

-- where a pass is due
pub by_pass_rule : (stamp : ℕ) (before : BookValue) (tid : Tid) (work : Work) → HoldsWork stamp before work → (part : Participant) → tm.part_of tid work.node.manager ≡ Some part → (is_pass_due tid part work ≡ true → MayPass stamp before work tid part)
    → HoldsWork stamp before (pass_rule tid part work)
by_pass_rule stamp before tid work h part known given = by (is_pass_due tid part work) refl
  where
    parts : (a b c d e f : Bool) → ((a && not (b || (c || d))) && (e && f)) ≡ true → (a ≡ true) × (d ≡ false)
    parts true false false false e f is = (refl, refl)
    parts true true c d e f is = absurd (cc is)
    parts true false true d e f is = absurd (cc is)
    parts true false false true e f is = absurd (cc is)
    parts false b c d e f is = absurd (cc is)

    by : (b : Bool) → is_pass_due tid part work ≡ b → HoldsWork stamp before (if b then vote_pass tid work else work)
    by false is = h
    by true is =
        let its = parts part.asked (ipc.waits tid work.node.queues) (is_lent tid work.node) (awaits_note part) (needs_pass part) (not (is_put_off (doings_of tid work))) is in
        by_pass stamp before tid work h part known its.0 its.1 (given is)

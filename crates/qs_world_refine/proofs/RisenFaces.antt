-- What is seen of a transaction at a node that opens over its log in a later incarnation.
use Rattle.qs_world_refine.proofs.Words.{◌≡◌, ℕ, ◌<◌, ◌==◌, ◌&&◌, ◌||◌, not, Bool, true, false, List, [], ◌∷◌, length, fold, Option, Some, None, is_some, unwrap_or, nat_lt, refl, sym, ap, subst, ◌∙◌, arith, if◌then◌else◌, filter, list_all, list_any, eqb-true, nat_tests, same_tid, NodeNo, Tid, new_engage, no_peer, no_nodes, same_node, is_standing_loan, Lent, Record, Untold, Recovery, recovery, found_record, nothing_said, with_list, is_untold_of, no_member, committed_before, new_participant}
use Rattle.qs_world_refine.proofs.Words.{member_of, Participant, was_committed, new_manager, recovered_of, NodeValue, reopened, Open, Committed, Aborted, node_no, face, face_at, unknown, uncast_of, outcome_of, outcome_seen, loans_at, began_here, unknown_at_home, IsRisenFace, outcome_at_home, server_no, has_doubt, may_vote, is_list_of, is_loan_before, is_label_before}
use Rattle.qs_base.specs.declared.identifiers.Outcome.TheVariants as outcomes
use Rattle.qs_record.specs.declared.record.Record.TheVariants as records
use Rattle.qs_world_agree.specs.World.{Outcome}
use Rattle.qs_world_refine.specs.RiseLaws.{RisenFace, outcome_found}
use Rattle.qs_world_refine.proofs.SoundBegin.{all_last}
use Rattle.qs_world_refine.proofs.SoundLogs.{all_filtered}
use Rattle.qs_world_refine.proofs.SoundParts.{and_both}
use Rattle.qs_world_refine.proofs.StartWorlds.{alike_at, nobody}
use Rattle.qs_world_refine.proofs.TakingUp.{has_list, Known, log_taken}

-- ---- a Commit that is still to be told has a list

module _ (tid : Tid) where
  lists_with : (u : Tid) (told : List NodeNo) (said : Recovery) → list_all (has_list tid) said.untold ≡ true → list_all (has_list tid) (with_list u told said).untold ≡ true
  lists_with u [] said all = all_filtered (has_list tid) (λ commit. not (is_untold_of u commit)) said.untold all
  lists_with u (first ∷ others) said all = all_last (has_list tid) said.untold (record { tid = u; told = first ∷ others }) all (grind (arith, nat_tests))

  lists_more : (rec : Record) (said : Recovery) → list_all (has_list tid) said.untold ≡ true → list_all (has_list tid) (found_record said rec).untold ≡ true
  lists_more (records.Prepare u server covers changes) said all = all
  lists_more (records.Commit u told) said all = lists_with u told _ all
  lists_more (records.Aborted u) said all = all_filtered (has_list tid) (λ commit. not (is_untold_of u commit)) said.untold all
  lists_more (records.End u) said all = all_filtered (has_list tid) (λ commit. not (is_untold_of u commit)) said.untold all

  pub lists_from : (log : List Record) (said : Recovery) → list_all (has_list tid) said.untold ≡ true → list_all (has_list tid) (fold found_record said log).untold ≡ true
  lists_from [] said all = all
  lists_from (rec ∷ log) said all = lists_from log (found_record said rec) (lists_more rec said all)

-- ---- no loan of an earlier incarnation stands

none_stand : (tid : Tid) (inc : ℕ) (loans : List Lent) → list_all (is_loan_before inc) loans ≡ true → length (filter (is_standing_loan tid inc) loans) ≡ 0
none_stand tid inc [] all = refl
none_stand tid inc (loan ∷ loans) all =
    let both : (nat_lt loan.inc inc ≡ true) × (list_all (is_loan_before inc) loans ≡ true) = and_both (nat_lt loan.inc inc) (list_all (is_loan_before inc) loans) all in
    dropped (same_tid tid loan.tid) (not loan.yielded) (loan.inc == inc) (grind (arith, nat_tests, both.0)) (none_stand tid inc loans both.1)
  where
    dropped : (a b c : Bool) → c ≡ false → length (filter (is_standing_loan tid inc) loans) ≡ 0 → length (if a && (b && c) then loan ∷ filter (is_standing_loan tid inc) loans else filter (is_standing_loan tid inc) loans) ≡ 0
    dropped true true c off more = rw off more
    dropped true false c off more = more
    dropped false b c off more = more

module _ (tid : Tid) (n inc : ℕ) (log : List Record) (node : NodeValue) (named : node.setting.node ≡ node_no n) (earlier : tid.home.0 ≡ n → tid.inc < inc)
    (loans : list_all (is_loan_before inc) node.kept.saved.loans ≡ true) where
  abbrev said : Recovery
  said = recovery log

  abbrev opened : NodeValue
  opened = reopened inc (recovered_of log) node

  home_is : same_node tid.home node.setting.node ≡ (tid.home.0 == n)
  home_is = rw named refl

  -- it began in an earlier incarnation, or elsewhere
  not_here : began_here opened tid ≡ false
  not_here = by (tid.home.0 == n) refl home_is
    where
      by : (b : Bool) → (tid.home.0 == n) ≡ b → same_node tid.home node.setting.node ≡ b → (same_node tid.home node.setting.node && (tid.inc == inc)) ≡ false
      by false off same = rw same refl
      by true on same = rw same (let late : tid.inc < inc = earlier (eqb-true tid.home.0 n on) in grind (arith, nat_tests, late))

  none_lent : loans_at opened tid ≡ 0
  none_lent = none_stand tid inc node.kept.saved.loans loans

  -- the face of what is kept, where nothing came or went in this incarnation
  plain : (home : Bool) (part : Participant) → part.engage ≡ new_engage home → part.asked ≡ false → part.told ≡ no_nodes → ((s : ℕ) → uncast_of (member_of part (server_no s)) ≡ 0)
      → (outcome_of part ≡ Open → part.involved ≡ has_doubt tid said) → outcome_of part ≡ outcome_found tid n said → (outcome_of part ≡ Aborted → part.tell ≡ no_nodes) → IsRisenFace tid n said (face opened tid part)
  plain home part engage asked told uncast involved outcome tell = record {
    on = by (began_here opened tid) not_here;
    sent = λ m. rw (engage, alike_at 16 m no_peer) refl;
    covered = λ m. rw (engage, alike_at 16 m no_peer) refl;
    waits = λ s. refl;
    uncast = uncast;
    loans = none_lent;
    asked = asked;
    involved = involved;
    told = λ m. rw told (nobody m);
    outcome = outcome;
    tell = λ aborted m. rw (tell aborted) (nobody m);
  }
    where
      by : (b : Bool) → b ≡ false → (if b then not (is_some part.outcome) else is_some part.engage.superior) ≡ false
      by b is = rw (is, engage) refl

  fresh_votes : (s : ℕ) (home : Bool) → uncast_of (member_of (new_participant home) (server_no s)) ≡ 0
  fresh_votes s home = ap uncast_of (alike_at 7 s no_member)

  at_home : (b : Bool) → (tid.home.0 == n) ≡ b → (o : Outcome) → outcome_at_home tid said ≡ o → (if b then o else Open) ≡ outcome_found tid n said
  at_home b is o same = rw (is, same) refl

  risen : (a b : Bool) → list_any (is_untold_of tid) said.untold ≡ a → has_doubt tid said ≡ b → (a ≡ true → (tid.home.0 == n) ≡ true) → Known tid (tid.home.0 == n) a b opened.manager → IsRisenFace tid n said (face_at opened tid)
  risen true b untold doubt home known = subst (λ (p : Participant). IsRisenFace tid n said (face opened tid p)) (sym (ap (λ (o : Option Participant). unwrap_or o (unknown opened tid)) known.1))
      (plain (tid.home.0 == n) (committed_before (tid.home.0 == n) known.0) refl refl refl (λ s. fresh_votes s (tid.home.0 == n)) (λ is. absurd (let both : Committed ≡ Open = sym committed ∙ is in cc (both)))
      (committed ∙ found) (λ is. absurd (let both : Committed ≡ Aborted = sym committed ∙ is in cc (both))))
    where
      seen : (h : Bool) → h ≡ true → outcome_seen (Some outcomes.Commit) (h || false) ≡ Committed
      seen h is = rw is refl

      committed : outcome_of (committed_before (tid.home.0 == n) known.0) ≡ Committed
      committed = seen (tid.home.0 == n) (home refl)

      found : Committed ≡ outcome_found tid n said
      found = rw (home refl, untold) refl
  risen false true untold doubt home known = subst (λ (p : Participant). IsRisenFace tid n said (face opened tid p)) (sym (ap (λ (o : Option Participant). unwrap_or o (unknown opened tid)) known.1))
      (plain (tid.home.0 == n) known.0 known.2.bare.engage known.2.bare.asked known.2.bare.told known.2.bare.uncast (λ _. known.2.involved ∙ sym doubt) (by (tid.home.0 == n) refl) (λ _. known.2.bare.tell))
    where
      by : (h : Bool) → (tid.home.0 == n) ≡ h → outcome_of known.0 ≡ outcome_found tid n said
      by true is = rw (is, untold, doubt, known.2.aborted is) refl
      by false is = rw (is, known.2.bare.unknown is) refl
  risen false false untold doubt home known = subst (λ (p : Participant). IsRisenFace tid n said (face opened tid p)) (sym (ap (λ (o : Option Participant). unwrap_or o (unknown opened tid)) known))
      (by (tid.home.0 == n) refl home_is (list_any (same_tid tid) said.committed) refl)
    where
      past : (b c : Bool) → b ≡ false → (d : Bool) → (if b then c else d) ≡ d
      past b c is d = rw is refl

      by : (h : Bool) → (tid.home.0 == n) ≡ h → same_node tid.home node.setting.node ≡ h → (c : Bool) → list_any (same_tid tid) said.committed ≡ c → IsRisenFace tid n said (face opened tid (unknown opened tid))
      by false is same c commit = subst (λ (p : Participant). IsRisenFace tid n said (face opened tid p)) (sym (ap (λ (b : Bool). if b then unknown_at_home opened tid else new_participant false) same)) (plain false (new_participant false) refl refl refl (λ s. fresh_votes s false) (λ _. sym doubt) (rw is refl) (λ _. refl))
      by true is same c commit = subst (λ (p : Participant). IsRisenFace tid n said (face opened tid p))
          (sym (ap (λ (b : Bool). if b then unknown_at_home opened tid else new_participant false) same
          ∙ ap (λ (b : Bool). record (new_participant true) { outcome = if b then Some outcomes.Commit else None }) (past (began_here opened tid) (was_committed tid opened) not_here (list_any (same_tid tid) said.committed) ∙ commit))) (at c commit)
        where
          at : (c : Bool) → list_any (same_tid tid) said.committed ≡ c → IsRisenFace tid n said (face opened tid (record (new_participant true) { outcome = if c then Some outcomes.Commit else None }))
          at true commit = plain true (record (new_participant true) { outcome = Some outcomes.Commit }) refl refl refl (λ s. fresh_votes s true) (λ open_is. absurd (cc (open_is))) (rw (is, untold, doubt, commit) refl) (λ _. refl)
          at false commit = plain true (record (new_participant true) { outcome = None }) refl refl refl (λ s. fresh_votes s true) (λ _. sym doubt) (rw (is, untold, doubt, commit) refl) (λ _. refl)

pub risen_face : RisenFace
risen_face tid n inc log node numbered named earlier takes before =
    let may : (list_all may_vote (recovery log).prepared ≡ true) × (list_all (is_list_of node.setting.node) (recovery log).untold ≡ true) = and_both (list_all may_vote (recovery log).prepared) (list_all (is_list_of node.setting.node) (recovery log).untold) takes in
    let kept : (list_all (is_loan_before inc) node.kept.saved.loans ≡ true) × _ = and_both (list_all (is_loan_before inc) node.kept.saved.loans) (list_all (is_label_before node.setting.node inc) node.kept.saved.labels) before in
    risen tid n inc log node named earlier kept.0 (list_any (is_untold_of tid) (recovery log).untold) (has_doubt tid (recovery log)) refl refl (λ some. at_home (recovery log).untold may.1 some)
    (log_taken tid (tid.home.0 == n) numbered (recovery log) (new_manager node.manager.alloc (record node.setting { inc = inc })) may.0 (lists_from tid log nothing_said refl) (home_is tid n inc log node named earlier kept.0) refl)
  where
    at_home : (commits : List Untold) → list_all (is_list_of node.setting.node) commits ≡ true → list_any (is_untold_of tid) commits ≡ true → (tid.home.0 == n) ≡ true
    at_home [] all some = absurd (cc (some))
    at_home (c ∷ commits) all some =
        let both : (same_node c.tid.home node.setting.node ≡ true) × (list_all (is_list_of node.setting.node) commits ≡ true) = and_both (same_node c.tid.home node.setting.node) (list_all (is_list_of node.setting.node) commits) all in
        by (is_untold_of tid c) refl both.0 some (λ more. at_home commits both.1 more)
      where
        by : (b : Bool) → is_untold_of tid c ≡ b → same_node c.tid.home node.setting.node ≡ true → (b || list_any (is_untold_of tid) commits) ≡ true → (list_any (is_untold_of tid) commits ≡ true → (tid.home.0 == n) ≡ true) → (tid.home.0 == n) ≡ true
        by true same here some more = grind (arith, nat_tests, same, rw named at here)
        by false apart here some more = more some

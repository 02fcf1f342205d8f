-- What settling a transaction is given, from what stands at each of its stages and from what the agreement protocol gives.
use Rattle.qs_world_lawful.proofs.Words.{◌≡◌, ℕ, ◌==◌, ◌+◌, ◌<◌, ◌≤◌, Bool, true, false, List, [], ◌∷◌, ◌++◌, length, fold, suc, Option, Some, None, refl, sym, ap, subst, ◌∙◌, arith, nat_lt, nat_tests, list_any, not, ◌&&◌, ◌||◌, slice_get, if◌then◌else◌, NodeNo, Tid, is_no_node, listed, same_node, BookValue, find_transaction, TransactionValue, has_refusal, is_commit, is_unanimous, has_no_record, Cause, Work, is_forgotten, Participant, IsTrueCause, book_at, HoldsNode, HasCause, IsUncommitted}
use Rattle.qs_world_lawful.proofs.Words.{MayCommit, MayDecide, MayPass, IsPart, locals_of, Stands, StandsBy, eqb-self, and_from, eqb-true}
use Rattle.std.proofs.lemmas.Bool.{not-false}
use Rattle.std.proofs.Common.{length-append}
use Rattle.qs_engage.specs.Nodes.{all_nodes, has_node, with_listed}
use Rattle.qs_engage.specs.declared.nodes.Nodes.{Nodes}
use Rattle.qs_book_machine.specs.Nodes as machine
use Rattle.qs_book_machine.specs.Clauses.{is_gone_cause}
use Rattle.qs_ops.specs.declared.answer.Cause.TheVariants as causes
use Rattle.qs_node_step.specs.State.{NodeValue}
use Rattle.qs_tm.specs.Manager as tm
use Rattle.qs_tm.specs.Outcomes as outcome_rules
use Rattle.qs_world.specs.Openings.{is_audit}
use Rattle.qs_world_lawful.specs.Agreed.{IsIdle, IsUndone}
use Rattle.qs_world_lawful.specs.Beside.{is_committed_at, is_done}
use Rattle.qs_world_lawful.proofs.OnlyRead.{only_read_there}
use Rattle.qs_world_lawful.proofs.Truths.{clash, left_true, node_is, not_true, of_some, right_true}
use Rattle.qs_world_lawful.specs.Given.{MayForget}

-- the Commit's need stands between those of a Commit that names nobody and of one that names all nodes
room_within : (x k l nodes need room ex kp : ℕ) → ex ≡ x → kp ≡ k → 1 ≤ l → l < nodes → 41 + x + (15 + l) + k ≡ need → nat_lt room (41 + x + (15 + l) + k) ≡ true
    → ((nat_lt (56 + (ex + kp)) need && nat_lt need ((56 + (ex + kp)) + nodes)) && nat_lt room need) ≡ true
room_within x k l nodes need room ex kp p q one few e short = grind (arith, nat_tests, p, q, one, few, e, short)

-- a set that is not empty has a list that is not
module _ (nodes : Nodes) where
  grows : (xs acc : List NodeNo) → length acc ≤ length (fold (with_listed nodes) acc xs)
  grows [] acc = grind (arith)
  grows (x ∷ xs) acc = by (has_node nodes x) (grows xs acc) (grows xs (acc ++ x ∷ []))
    where
      by : (b : Bool) → length acc ≤ length (fold (with_listed nodes) acc xs) → length (acc ++ x ∷ []) ≤ length (fold (with_listed nodes) (acc ++ x ∷ []) xs) → length acc ≤ length (fold (with_listed nodes) (if b then acc ++ x ∷ [] else acc) xs)
      by true p q = let e = length-append acc (x ∷ []) in grind (arith, q, e)
      by false p q = p

  some_in : (xs acc : List NodeNo) → list_any (has_node nodes) xs ≡ true → suc (length acc) ≤ length (fold (with_listed nodes) acc xs)
  some_in [] acc is = absurd (cc is)
  some_in (x ∷ xs) acc is = by (has_node nodes x) is (grows xs (acc ++ x ∷ [])) (some_in xs acc)
    where
      by : (b : Bool) → (b || list_any (has_node nodes) xs) ≡ true → length (acc ++ x ∷ []) ≤ length (fold (with_listed nodes) (acc ++ x ∷ []) xs)
          → (list_any (has_node nodes) xs ≡ true → suc (length acc) ≤ length (fold (with_listed nodes) acc xs)) → suc (length acc) ≤ length (fold (with_listed nodes) (if b then acc ++ x ∷ [] else acc) xs)
      by true is q r = let e = length-append acc (x ∷ []) in grind (arith, q, e)
      by false is q r = r is

some_listed : (nodes : Nodes) → is_no_node nodes ≡ false → 1 ≤ length (listed nodes)
some_listed nodes some = some_in nodes all_nodes [] (not-false (list_any (has_node nodes) all_nodes) some)

module _ (stamp : ℕ) (before : BookValue) (size : ℕ) (nodes : ℕ → NodeValue) (n : ℕ) where
  -- what its home has not committed the machine has not
  pub uncommitted : (work : Work) → StandsBy stamp before size nodes n work → (tid : Tid) → IsUndone size nodes n work tid → IsUncommitted stamp before work tid
  uncommitted work s tid undone tx found = by (is_commit tx.cell) refl
    where
      here_is : (tid.home.0 == n) ≡ true → tid.home ≡ work.node.setting.node
      here_is e = node_is tid.home work.node.setting.node (eqb-true tid.home.0 n e ∙ sym s.at)

      node_now : (b : Bool) → (tid.home.0 == n) ≡ b → is_commit tx.cell ≡ true → is_committed_at (if b then work.node else nodes tid.home.0) tid ≡ true
      node_now true e is = ap (λ (b : Bool). b || tm.told_of tid false (λ part. is_done part.outcome) work.node.manager) (((s.beside.at tid).ended tx (here_is e) found).committed is)
      node_now false e is = s.homes tid tx found is undone.in_run e

      by : (c : Bool) → is_commit tx.cell ≡ c → c ≡ false
      by false is = refl
      by true is = absurd (clash (sym undone.undone ∙ node_now (tid.home.0 == n) refl is))

  -- ---- decisions at the home

  module _ (work : Work) (s : StandsBy stamp before size nodes n work) (tid : Tid) (part : Participant) (known : tm.part_of tid work.node.manager ≡ Some part) where
    is_part : IsPart work.node.setting (locals_of work.node tid) tid part
    is_part = s.facts.parts tid part known

    at_home : part.engage.home ≡ true → tid.home ≡ work.node.setting.node
    at_home home = node_is tid.home work.node.setting.node (eqb-true tid.home.0 work.node.setting.node.0 (sym is_part.homed ∙ home))

    pub may_decide : part.engage.home ≡ true → part.outcome ≡ None → MayDecide stamp before work tid
    may_decide home unknown = record {
      home = at_home home;
      inc = is_part.began home unknown;
      owner = λ tx client found owns. s.beside.owners tid tx found client owns;
    }

    -- ---- causes

    pub has_cause : (cause : Cause) → IsTrueCause (book_at stamp before work) tid cause → HasCause stamp before work tid cause
    has_cause (causes.Voted member reason) true_is state tx there found = subst (λ (t : TransactionValue). has_refusal t member reason ≡ true) (of_some (sym true_is.1 ∙ found)) true_is.2
    has_cause (causes.Gone peer inc) true_is state tx there found = subst (λ (t : TransactionValue). is_gone_cause (slice_get (book_at stamp before work).nodes peer.0) t peer inc ≡ true) (of_some (sym true_is.1 ∙ found)) true_is.2
    has_cause causes.Asked true_is state tx there found = absurd true_is
    has_cause (causes.Home inc) true_is state tx there found = absurd true_is
    has_cause (causes.Room need room) true_is state tx there found = absurd true_is
    has_cause (causes.Old age) true_is state tx there found = absurd true_is

    -- ---- the vote pass

    pub may_pass : IsUndone size nodes n work tid → MayPass stamp before work tid part
    may_pass undone = record {
      open_still = uncommitted work s tid undone;
      audit = λ to is. (audit_in to is, below to (audit_in to is));
    }
      where
        audit_in : (to : NodeNo) → work.node.setting.audit ≡ Some to → nat_lt to.0 work.node.setting.nodes ≡ true
        audit_in to is = by work.node.setting.audit is s.facts.setting.audit
          where
            by : (o : Option NodeNo) → o ≡ Some to → is_audit work.node.setting.nodes o ≡ true → nat_lt to.0 work.node.setting.nodes ≡ true
            by None e h = absurd (cc e)
            by (Some node) e h = subst (λ (k : NodeNo). nat_lt k.0 work.node.setting.nodes ≡ true) (of_some e) h

        below : (to : NodeNo) → nat_lt to.0 work.node.setting.nodes ≡ true → to.0 < length part.engage.peers
        below to is = let slots = is_part.slots in let small = s.facts.setting.small in grind (arith, nat_tests, is, slots, small)

  module _ (work : Work) (s : Stands stamp before size nodes n work) (tid : Tid) (part : Participant) (known : tm.part_of tid work.node.manager ≡ Some part) where
    -- ---- forgetting

    pub may_forget : part.engage.home ≡ false → is_forgotten part ≡ true → IsIdle part → MayForget stamp before work tid
    may_forget away forgotten idle = record {
      away = λ e. clash (sym away ∙ ((s.by.facts.parts tid part known).homed ∙ ap (λ (k : NodeNo). same_node k work.node.setting.node) e ∙ eqb-self work.node.setting.node.0));
      once = s.by.facts.rising;
      read = λ tx found. only_read_there stamp before size nodes n work s tid part known tx found forgotten idle;
    }

    -- ---- committing: what is unanimous, and where its Commit finds no room the machine finds so

    abbrev IsAgreed : Type 0
    IsAgreed = (tx : TransactionValue) → find_transaction (book_at stamp before work) tid ≡ Some tx → is_unanimous tx ≡ true

    -- the Commit names at least one node, and not all
    room_cause : part.engage.home ≡ true → part.outcome ≡ None → IsAgreed → length (listed part.told) < work.node.setting.nodes → (need : ℕ) → tm.need_past tid work.room work.node.manager ≡ Some need → HasCause stamp before work tid (causes.Room need work.room)
    room_cause home unknown agreed lacks_one need is state tx there found = and_from (is_unanimous tx && has_no_record state tid) _ (and_from (is_unanimous tx) (has_no_record state tid) (agreed tx found) unrecorded) (room_within work.node.manager.extra work.node.manager.keep (length (listed part.told)) (length (book_at stamp before work).nodes) need work.room (machine.extra_of state.format) (machine.keep_of state.format) same_extra same_keep named few lacks.1 short)
      where
        sound : IsPart work.node.setting (locals_of work.node tid) tid part
        sound = s.by.facts.parts tid part known

        need_is : (o : Option Participant) → o ≡ Some part → elim o [ None ↦ None | Some p ↦ tm.need_of work.room work.node.manager p ] ≡ Some need → tm.need_of work.room work.node.manager part ≡ Some need
        need_is None e h = absurd (cc e)
        need_is (Some p) e h = subst (λ (q : Participant). tm.need_of work.room work.node.manager q ≡ Some need) (of_some e) h

        lacking : (b : Bool) → tm.lacks_room work.room work.node.manager part ≡ b → (if b then Some (tm.commit_need work.node.manager part) else None) ≡ Some need → (tm.lacks_room work.room work.node.manager part ≡ true) × (tm.commit_need work.node.manager part ≡ need)
        lacking true e h = (e, of_some h)
        lacking false e h = absurd (cc h)

        lacks : (tm.lacks_room work.room work.node.manager part ≡ true) × (tm.commit_need work.node.manager part ≡ need)
        lacks = lacking (tm.lacks_room work.room work.node.manager part) refl (need_is (tm.part_of tid work.node.manager) known is)

        writes : outcome_rules.writes_commit part ≡ true
        writes = left_true (outcome_rules.writes_commit part) _ lacks.0

        unended : part.log.unended ≡ false
        unended = not_true part.log.unended (left_true (not part.log.unended) _ (right_true (outcome_rules.writes_commit part) _ lacks.0))

        short : nat_lt work.room (tm.commit_need work.node.manager part) ≡ true
        short = right_true (not part.log.unended) _ (right_true (outcome_rules.writes_commit part) _ lacks.0)

        unrecorded : has_no_record state tid ≡ true
        unrecorded = subst (λ (x : machine.NodeValue). has_no_record x tid ≡ true) (of_some (sym s.by.beside.there ∙ there)) (((s.by.beside.at tid).parts tx part found known).records home unknown unended)

        unprepared : (b : Bool) → part.log.prepared ≡ b → b ≡ false
        unprepared true e = absurd (clash (sym unended ∙ sound.logged e))
        unprepared false e = refl

        named : 1 ≤ length (listed part.told)
        named = some_listed part.told (not_true (is_no_node part.told) (second part.log.prepared (unprepared part.log.prepared refl) writes))
          where
            second : (b : Bool) → b ≡ false → (b || not (is_no_node part.told)) ≡ true → not (is_no_node part.told) ≡ true
            second true e h = absurd (cc e)
            second false e h = h

        few : length (listed part.told) < length (book_at stamp before work).nodes
        few = subst (λ (k : ℕ). length (listed part.told) < k) (sym s.held.holds.run) lacks_one

        same_extra : machine.extra_of state.format ≡ work.node.manager.extra
        same_extra = of_state.extra ∙ sym s.by.facts.room.extra
          where
            of_state : HoldsNode work.node state
            of_state = subst (λ (x : machine.NodeValue). HoldsNode work.node x) (of_some (sym s.held.holds.there ∙ there)) s.held.holds.same

        same_keep : machine.keep_of state.format ≡ work.node.manager.keep
        same_keep = of_state.keep ∙ sym s.by.facts.room.keep
          where
            of_state : HoldsNode work.node state
            of_state = subst (λ (x : machine.NodeValue). HoldsNode work.node x) (of_some (sym s.held.holds.there ∙ there)) s.held.holds.same

    pub may_commit : part.engage.home ≡ true → part.outcome ≡ None → IsAgreed → length (listed part.told) < work.node.setting.nodes → MayCommit stamp before work tid
    may_commit home unknown agreed lacks_one = record {
      decides = may_decide work s.by tid part known home unknown;
      agreed = agreed;
      room = room_cause home unknown agreed lacks_one;
    }

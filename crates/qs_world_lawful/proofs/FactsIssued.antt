-- A request that is issued gets the next number, so that what waits stays numbered; what else holds of the node by itself holds on.
use Rattle.qs_world_lawful.proofs.Words.{AreNumbered, Bool, HasFacts, HasNodeFacts, IsPart, Manager, NodeNo, None, Op, Option, Outstanding, Participant, Some, Tid, Work, ap, arith, enter_issue, false, here, if◌then◌else◌, is_at, last_number, length, local_count, locals_of, lookup_put, lookup_put_apart, nat_lt, nat_tests, next_local, peer_of, refl, same_node, subst, sym, tid_cmp, tid_exact, tid_itself, true, unwrap_or}
use Rattle.qs_world_lawful.proofs.Words.{with_local, with_manager, ℕ, ◌+◌, ◌<◌, ◌==◌, ◌∙◌, ◌≡◌}
use Rattle.qs_book_laws.proofs.InRun.{in_run}
use Rattle.qs_engage.specs.Engage.{next_sent}
use Rattle.qs_node_step.specs.State.{NodeValue}
use Rattle.qs_world_lawful.proofs.Apart.{Apart}
use Rattle.qs_world_lawful.proofs.FactsKept.{part_facts}
use Rattle.qs_world_lawful.proofs.FactsQuiet.{sent_home, sent_slots}
use Rattle.qs_world_lawful.proofs.IssuedAway.{counts, counts_other}
use Rattle.qs_world_lawful.proofs.Numbers.{issues_next, sends_next}
use Rattle.qs_world_lawful.proofs.Replied.{part_twice}
use Rattle.qs_world_lawful.proofs.Truths.{of_some}
use Rattle.qs_tm.specs.Manager as tm
use Rattle.qs_tm.specs.Participant as participant

-- the number is the one after those that were given
next_after : (count number : ℕ) (b : Bool) → (count == last_number) ≡ b → (if b then None else Some (count + 1)) ≡ Some number → ((count == last_number) ≡ false) × (count + 1 ≡ number)
next_after count number true is next = absurd (cc next)
next_after count number false is next = (is, of_some next)

-- to a server here
pub issued_here : (tid : Tid) (request : Outstanding) (op : Op) (work : Work) → same_node request.member.node (here work) ≡ true → next_local tid work.node ≡ Some request.number → HasNodeFacts work.node → HasNodeFacts (with_local tid request.number (enter_issue tid request op work)).node
issued_here tid request op work near next h = part_facts work.node.setting work.node.kept.now work.node.commands (locals_of work.node) tid (participant.issued request) work.node.manager (locals_of new) same own (λ p. refl) h
  where
    new : NodeValue
    new = (with_local tid request.number (enter_issue tid request op work)).node

    same : (t : Tid) → Apart tid t → local_count t new ≡ local_count t work.node
    same t far = ap (λ (o : Option ℕ). unwrap_or o 0) (lookup_put_apart tid_cmp tid request.number (tid_exact tid) (is_at (tid_cmp t)) far.at work.node.locals)

    now_given : local_count tid new ≡ request.number
    now_given = ap (λ (o : Option ℕ). unwrap_or o 0) (lookup_put tid_cmp tid request.number (tid_itself tid) work.node.locals)

    own : (p : Participant) → tm.part_of tid work.node.manager ≡ Some p → IsPart work.node.setting (local_count tid work.node) tid p → IsPart work.node.setting (local_count tid new) tid (participant.issued request p)
    own p known its = record {
      homed = its.homed;
      slots = its.slots;
      logged = its.logged;
      began = its.began;
      numbered = subst (λ (count : ℕ). AreNumbered work.node.setting.node count p.engage (participant.issued request p).waiting) (sym now_given)
          (issues_next work.node.setting.node (local_count tid work.node) p.engage request p.waiting near (next_after (local_count tid work.node) request.number (local_count tid work.node == last_number) refl next).1 its.numbered);
    }

-- to another node of the run
pub issued_away : (tid : Tid) (request : Outstanding) (op : Op) (work : Work) → same_node request.member.node (here work) ≡ false → nat_lt request.member.node.0 work.node.setting.nodes ≡ true → tm.sent_as tid request.member.node work.node.manager ≡ Some request.number
    → HasNodeFacts work.node → HasNodeFacts (with_manager (tm.sent tid request.member.node) (enter_issue tid request op work)).node
issued_away tid request op work away in_run next h =
    subst (λ (m : Manager). HasFacts work.node.setting m work.node.kept.now work.node.commands (locals_of work.node)) (sym (part_twice tid (participant.sent to) (participant.issued request) work.node.manager))
    (part_facts work.node.setting work.node.kept.now work.node.commands (locals_of work.node) tid (λ (p : Participant). participant.sent to (participant.issued request p)) work.node.manager (locals_of work.node) (λ t far. refl) own (λ p. refl) h)
  where
    to : NodeNo
    to = request.member.node

    its_number : (p : Participant) → tm.part_of tid work.node.manager ≡ Some p → (((peer_of p.engage to).sent == last_number) ≡ false) × ((peer_of p.engage to).sent + 1 ≡ request.number)
    its_number p known = next_after (peer_of p.engage to).sent request.number ((peer_of p.engage to).sent == last_number) refl (sym (ap (λ (o : Option Participant). elim o [ None ↦ None | Some q ↦ next_sent to q.engage ]) known) ∙ next)

    own : (p : Participant) → tm.part_of tid work.node.manager ≡ Some p → IsPart work.node.setting (local_count tid work.node) tid p → IsPart work.node.setting (local_count tid work.node) tid (participant.sent to (participant.issued request p))
    own p known its = record {
      homed = sent_home to p.engage ∙ its.homed;
      slots = sent_slots to p.engage ∙ its.slots;
      logged = its.logged;
      began = λ home unknown. its.began (sym (sent_home to p.engage) ∙ home) unknown;
      numbered = sends_next work.node.setting.node (local_count tid work.node) p.engage request p.waiting away (counts to p.engage (its_number p known).0 slot) (λ peer far. counts_other to peer p.engage (λ same. apart peer.0 to.0 far same)) (its_number p known).1 its.numbered;
    }
      where
        slot : to.0 < length p.engage.peers
        slot = let slots = its.slots in let small = h.setting.small in let low = in_run in grind (arith, nat_tests, slots, small, low)

        apart : (a b : ℕ) → (a == b) ≡ false → b ≡ a → ⊥
        apart a b far same = grind (arith, nat_tests, far, same)

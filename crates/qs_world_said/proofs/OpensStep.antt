-- What stays in hand as a step ends is open still: each client with a command in hand has its turn.
use Rattle.std.proofs.Common.{◌≡◌, ◌∙◌, ℕ, ◌==◌, Bool, true, false, List, [], ◌∷◌, Some, refl, sym, subst}
use Rattle.std.specs.Prelude.{fold, map}
use Rattle.std.specs.List.{list_any}
use Rattle.qs_base.specs.declared.identifiers.ClientNo.{ClientNo}
use Rattle.qs_book_conformance.specs.Course.{CourseValue}
use Rattle.qs_node_step.specs.Settling.{settle}
use Rattle.qs_node_step.specs.State.{Work}
use Rattle.qs_node_step.specs.Step.{wait_on, waiting_clients}
use Rattle.qs_node_step.specs.declared.state.OpenCommand.{OpenCommand}
use Rattle.qs_world_course.specs.Clients.{Commands, in_hand_of}
use Rattle.qs_world_walk.specs.Walked.{AtEach, done_work}
use Rattle.qs_world_said.specs.Deeds.{Knows}
use Rattle.qs_world_said.specs.Opens.{LawfulStepLeavesOpen, StepLeavesOpen}
use Rattle.qs_world_said.proofs.LawfulStages.{known}
use Rattle.qs_world_said.proofs.Lookups.{not_at, same_number}
use Rattle.qs_world_said.proofs.OpenStill.{IsRested, open_still}
use Rattle.qs_world_said.proofs.Opens.{IsTurned, turned}

-- the clients whose turn is still to come
abbrev is_due : ClientNo → List ClientNo → Bool
is_due k clients = list_any (λ (c : ClientNo). c.0 == k.0) clients

has_turn : (k : ClientNo) (cs : Commands) (command : OpenCommand) → in_hand_of k cs ≡ Some command → is_due k (map (λ (entry : ClientNo × OpenCommand). entry.0) cs) ≡ true
has_turn k [] command there = absurd (cc there)
has_turn k (entry ∷ cs) command there = by (entry.0.0 == k.0) refl (λ t. has_turn k cs command t)
  where
    by : (b : Bool) → (entry.0.0 == k.0) ≡ b → (in_hand_of k cs ≡ Some command → is_due k (map (λ (entry : ClientNo × OpenCommand). entry.0) cs) ≡ true) → is_due k (map (λ (entry : ClientNo × OpenCommand). entry.0) (entry ∷ cs)) ≡ true
    by true is rest = rw is refl
    by false is rest = rw is (rest (rw (not_at entry.0 k is) at there))

module _ (stamp : ℕ) (before : CourseValue) where
  -- who has no turn any more is rested
  abbrev AreRested : List ClientNo → Work → Type 0
  AreRested clients work = (k : ClientNo) → is_due k clients ≡ false → IsRested k work.node

  one : (client : ClientNo) (clients : List ClientNo) (work : Work) → Knows stamp before work → AreRested (client ∷ clients) work → AreRested clients (wait_on work client)
  one client clients work knows rested k none = by (client.0 == k.0) refl
    where
      t : IsTurned client work knows.machine.apart (wait_on work client)
      t = turned client work knows.machine.apart (λ command issued there has. knows.names.issued client command issued there has)

      by : (b : Bool) → (client.0 == k.0) ≡ b → IsRested k (wait_on work client).node
      by true is = subst (λ (c : ClientNo). IsRested c (wait_on work client).node) (same_number client k is) t.own
      by false is = λ command there. open_still k work.node (wait_on work client).node (t.kept k is) command (rested k (rw is none) command (sym (t.hands k is) ∙ there))

  all : (clients : List ClientNo) (work : Work) → AtEach (λ (w : Work) (client : ClientNo). Knows stamp before w) wait_on work clients → AreRested clients work → (k : ClientNo) → IsRested k (fold wait_on work clients).node
  all [] work knows rested k = rested k refl
  all (client ∷ clients) work knows rested k = all clients (wait_on work client) knows.1 (one client clients work knows.0 rested) k

pub step_leaves_open : StepLeavesOpen
step_leaves_open stamp before node event free knows client command there = let o = all stamp before (waiting_clients end) end knows.waits (λ k none c at. absurd (cc (sym none ∙ has_turn k end.node.commands c at))) client command there in
    record {
      owned = o.owned;
      lent = λ begun tid issued at of other has. let w = o.lent begun tid issued at of other has in record { its = w.its; unaborted = w.unaborted; loan = w.loan; last = w.last; ungiven = w.ungiven; present = w.present };
    }
  where
    end : Work
    end = settle (done_work node event free)

pub lawful_step_leaves_open : LawfulStepLeavesOpen
lawful_step_leaves_open stamp before size nodes n node event free on names = step_leaves_open stamp before node event free (known stamp before size nodes n node event free on names)

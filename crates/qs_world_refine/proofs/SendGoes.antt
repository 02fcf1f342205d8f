-- A message of the transaction goes to one node, or to each of a list, where its event may follow for each.
use Rattle.qs_world_refine.proofs.Words.{◌≡◌, ◌≢◌, ℕ, ◌<◌, ◌≤◌, ◌==◌, ◌||◌, not, nat_lt, Bool, true, false, List, [], ◌∷◌, arith, refl, sym, subst, ap, if◌then◌else◌, eqb-true, and_parts, nat_tests, NodeNo, Tid, same_node, Message, is_other, send, send_each, NodeValue, Work, Committed, Aborted, Leads, leads_on, Face, Said, Outcome_told, node_no, names_node, said, face_at, SightGoes, sight_said, sight_waiting, Scene, sight_during, ShowsWork, Sight, IsAt, Goes, never_not}
use Rattle.qs_base.specs.declared.identifiers.Outcome.TheVariants as outcomes
use Rattle.qs_packet.specs.declared.message.Message.TheVariants as messages
use Rattle.qs_world_agree.specs.World.{World}
use Rattle.qs_world_refine.proofs.Alike.{same_itself}
use Rattle.qs_world_refine.proofs.During.{quiet_itself, face_here, runs}
use Rattle.qs_world_refine.proofs.EventGoes.{tell}
use Rattle.qs_world_refine.proofs.Keeping.{nothing_goes}
use Rattle.qs_world_refine.proofs.Posting.{put_shown, sent_work}
use Rattle.qs_world_refine.proofs.Same.{tid_same}
use Rattle.qs_world_refine.proofs.Telling.{tell_waits, tell_abort, tell_abort_waits}
use Rattle.qs_world_refine.proofs.Unmet.{wait_shown}

-- one piece after another
pub goes_on : (tid : Tid) (scene : Scene) (n : ℕ) (new : Work) (w u : World) → Leads w u → Goes tid scene n new u → Goes tid scene n new w
goes_on tid scene n new w u first second = record { next = second.next; leads = leads_on w u second.next first second.leads; shown = second.shown }

module _ (tid : Tid) (scene : Scene) (n : ℕ) (to : NodeNo) (message : Message) (what : Said) (work : Work) (w : World) (at : IsAt scene n work) (says : said tid message ≡ what ∷ []) (shown : ShowsWork tid scene n work w) where
  abbrev pub x : Sight
  x = sight_during tid scene n work

  -- to a place that is known, or to one that is to come
  pub send_goes : (to.0 < scene.size → to.0 ≢ n → 1 ≤ scene.knows n to.0 → SightGoes tid (sight_said x n to.0 (scene.knows n to.0) (x.face n) what) w)
      → (to.0 < scene.size → scene.knows n to.0 ≡ 0 → SightGoes tid (sight_waiting x n to.0 (x.face n) what) w)
      → Goes tid scene n (send to message work) w
  send_goes known unmet = by (is_other work.node.setting to) refl
    where
      is_same : (b : Bool) → is_other work.node.setting to ≡ b → send to message work ≡ (if b then sent_work to message work else work)
      is_same b is = rw is refl

      posted : is_other work.node.setting to ≡ true → (c : Bool) → (scene.knows n to.0 == 0) ≡ c → Goes tid scene n (sent_work to message work) w
      posted other c is = at_once c is
        where
          in_run : to.0 < scene.size
          in_run = subst (λ (k : ℕ). to.0 < k) at.nodes (grind (arith, nat_tests, (and_parts (not (same_node work.node.setting.node to)) (nat_lt to.0 work.node.setting.nodes) other).1))

          apart : to.0 ≢ n
          apart e = never_not (same_node work.node.setting.node to) (rw at.node (grind (arith, nat_tests, e))) (and_parts (not (same_node work.node.setting.node to)) (nat_lt to.0 work.node.setting.nodes) other).0

          same : (x.face n).is_home ≡ (face_at work.node tid).is_home
          same = ap (λ (f : Face). f.is_home) (face_here tid scene n work)

          at_once : (c : Bool) → (scene.knows n to.0 == 0) ≡ c → Goes tid scene n (sent_work to message work) w
          at_once false is =
              let some : 1 ≤ scene.knows n to.0 = grind (arith, nat_tests, is) in
              let turn = known in_run apart some in
              record {
                next = turn.next;
                leads = turn.leads;
                shown = put_shown tid scene n to message what work work turn.next (quiet_itself tid work) says to.0 (scene.knows n to.0) refl refl some (x.face n) turn.shown (rw (face_here tid scene n work) (same_itself (face_at work.node tid)));
              }
          at_once true is =
              let turn = unmet in_run (eqb-true (scene.knows n to.0) 0 is) in
              record {
                next = turn.next;
                leads = turn.leads;
                shown = wait_shown tid scene n to message what work work turn.next (quiet_itself tid work) says is (x.face n) turn.shown (rw (face_here tid scene n work) (same_itself (face_at work.node tid)));
              }

      by : (b : Bool) → is_other work.node.setting to ≡ b → Goes tid scene n (send to message work) w
      by false is = subst (λ (k : Work). Goes tid scene n k w) (sym (is_same false is)) (nothing_goes tid scene n work w shown)
      by true is = subst (λ (k : Work). Goes tid scene n k w) (sym (is_same true is)) (posted is (scene.knows n to.0 == 0) refl)

-- ---- a message changes nothing of the node

pub send_node : (to : NodeNo) (message : Message) (work : Work) → (send to message work).node ≡ work.node
send_node to message work = by (is_other work.node.setting to)
  where
    by : (b : Bool) → ◌≡◌ {A = NodeValue} (if b then sent_work to message work else work).node work.node
    by true = refl
    by false = refl

pub sent_at : (scene : Scene) (n : ℕ) (to : NodeNo) (message : Message) (work : Work) → IsAt scene n work → IsAt scene n (send to message work)
sent_at scene n to message work at = record { in_run = at.in_run; up = at.up; node = rw (send_node to message work) at.node; nodes = rw (send_node to message work) at.nodes; inc = rw (send_node to message work) at.inc }

-- ---- the home tells an outcome to each node of a list

module _ (tid : Tid) (scene : Scene) (n : ℕ) (home : n ≡ tid.home.0) where
  -- commit to anybody
  pub tells_go : (nodes : List NodeNo) (work : Work) (w : World) → IsAt scene n work → (face_at work.node tid).outcome ≡ Committed → ShowsWork tid scene n work w
      → Goes tid scene n (send_each nodes (messages.Tell tid outcomes.Commit) work) w
  tells_go [] work w at committed shown = nothing_goes tid scene n work w shown
  tells_go (node ∷ nodes) work w at committed shown =
      let first = send_goes tid scene n node (messages.Tell tid outcomes.Commit) (Outcome_told true) work w at (rw (tid_same tid) refl) shown
      (λ in_run _ _. tell tid (sight_during tid scene n work) w n node.0 (scene.knows n node.0) shown (runs tid scene n work at) in_run (rw (face_here tid scene n work) committed) home)
      (λ _ _. tell_waits tid (sight_during tid scene n work) w n node.0 shown (runs tid scene n work at) (rw (face_here tid scene n work) committed) home) in
      goes_on tid scene n (send_each nodes (messages.Tell tid outcomes.Commit) (send node (messages.Tell tid outcomes.Commit) work)) w first.next first.leads
      (tells_go nodes (send node (messages.Tell tid outcomes.Commit) work) first.next (sent_at scene n node (messages.Tell tid outcomes.Commit) work at) (rw (send_node node (messages.Tell tid outcomes.Commit) work) committed) first.shown)

  -- abort to those whom it is to tell
  pub tells_abort : (nodes : List NodeNo) (work : Work) (w : World) → IsAt scene n work → (face_at work.node tid).outcome ≡ Aborted
      → ((k : ℕ) → names_node nodes (node_no k) ≡ true → (face_at work.node tid).tell k ≡ true) → ShowsWork tid scene n work w
      → Goes tid scene n (send_each nodes (messages.Tell tid outcomes.Abort) work) w
  tells_abort [] work w at aborted tells shown = nothing_goes tid scene n work w shown
  tells_abort (node ∷ nodes) work w at aborted tells shown =
      let now = tells node.0 (named_first node nodes) in
      let first = send_goes tid scene n node (messages.Tell tid outcomes.Abort) (Outcome_told false) work w at (rw (tid_same tid) refl) shown
      (λ in_run _ _. tell_abort tid (sight_during tid scene n work) w n node.0 (scene.knows n node.0) shown (runs tid scene n work at) in_run (rw (face_here tid scene n work) aborted) (rw (face_here tid scene n work) now) home)
      (λ _ _. tell_abort_waits tid (sight_during tid scene n work) w n node.0 shown (runs tid scene n work at) (rw (face_here tid scene n work) aborted) (rw (face_here tid scene n work) now) home) in
      goes_on tid scene n (send_each nodes (messages.Tell tid outcomes.Abort) (send node (messages.Tell tid outcomes.Abort) work)) w first.next first.leads
      (tells_abort nodes (send node (messages.Tell tid outcomes.Abort) work) first.next (sent_at scene n node (messages.Tell tid outcomes.Abort) work at) (rw (send_node node (messages.Tell tid outcomes.Abort) work) aborted)
      (λ k named. rw (send_node node (messages.Tell tid outcomes.Abort) work) (tells k (named_more k node nodes named))) first.shown)
    where
      named_first : (node : NodeNo) (nodes : List NodeNo) → names_node (node ∷ nodes) (node_no node.0) ≡ true
      named_first node nodes = by (node.0 == node.0) (grind (arith, nat_tests))
        where
          by : (b : Bool) → b ≡ true → (b || names_node nodes (node_no node.0)) ≡ true
          by b is = rw is refl

      named_more : (k : ℕ) (node : NodeNo) (nodes : List NodeNo) → names_node nodes (node_no k) ≡ true → names_node (node ∷ nodes) (node_no k) ≡ true
      named_more k node nodes named = by (k == node.0)
        where
          by : (b : Bool) → (b || names_node nodes (node_no k)) ≡ true
          by true = refl
          by false = named

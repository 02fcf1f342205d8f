-- What an event takes from the channels of a steady world, and from its clients, leaves whom its nodes know and the rest of the scripts as they should be.
use Rattle.qs_world_refine.proofs.Words.{◌≡◌, ℕ, ◌≤◌, ◌<◌, ◌==◌, ◌&&◌, Bool, true, false, List, [], ◌∷◌, drop, Option, Some, None, refl, sym, subst, arith, nat_lt, if◌then◌else◌, nat_tests, list_all, list_any, Source, Commanded, Handed, Queues, Clock, Noticed, client_count, event_of, taken_by, log_after, stepped_host, next_parcel, Parcel, node_no, IsSteadyWorld, is_steady_line, are_two}
use Rattle.qs_node_step.specs.declared.event.ClientAnswer.{ClientAnswer}
use Rattle.qs_node_step.specs.declared.event.Event.{Event}
use Rattle.qs_world.specs.Moves.{handed_by, waiting_after, stepped}
use Rattle.qs_world.specs.Posting.{clients_after, answered, is_answer_to}
use Rattle.qs_world.specs.World.{World}
use Rattle.qs_world_refine.proofs.Seating.{noticed_is}
use Rattle.qs_world_refine.proofs.SoundParts.{and_both}

pub all_dropped_one : {X : Type 0} (q : X → Bool) (xs : List X) → list_all q xs ≡ true → list_all q (drop 1 xs) ≡ true
all_dropped_one q [] all = refl
all_dropped_one q (x ∷ xs) all = (and_both (q x) (list_all q xs) all).1

module _ (world : World) (steady : IsSteadyWorld world) (n stamp : ℕ) (event : Event) where
  itself : (n == n) ≡ true
  itself = grind (arith, nat_tests)

  -- whom a node knows it knows still
  pub peer_here : (s : Source) → event_of world n stamp s ≡ Some event → (m : ℕ) → 1 ≤ world.channels.peer n m → 1 ≤ (taken_by world n s).peer n m
  peer_here (Commanded k) is m knows = knows
  peer_here (Handed h) is m knows = by (next_parcel world n h)
    where
      by : (o : Option Parcel) → 1 ≤ (Rattle.qs_world.specs.Moves.hand_next n h o world.channels).peer n m
      by None = knows
      by (Some parcel) = knows
  peer_here Queues is m knows = knows
  peer_here Clock is m knows = knows
  peer_here (Noticed h later) is m knows = by (m == h)
    where
      new_one : 1 ≤ later
      new_one = let its : world.channels.peer n h < later = (noticed_is world n stamp h later event is).0 in grind (arith, its)

      by : (b : Bool) → 1 ≤ (if n == n then (if b then later else world.channels.peer n m) else world.channels.peer n m)
      by true = rw itself new_one
      by false = rw itself knows

  -- ---- whom it knows, and the scripts

  pub peers_taken : (p q : ℕ) (source : Source) → event_of world n stamp source ≡ Some event → 1 ≤ (taken_by world n source).peer p q → are_two world.size p q ≡ true
  peers_taken p q source is knows = by source is knows
    where
      by : (s : Source) → event_of world n stamp s ≡ Some event → 1 ≤ (taken_by world n s).peer p q → are_two world.size p q ≡ true
      by (Commanded k) is knows = steady.peers p q knows
      by (Handed h) is knows = at (next_parcel world n h) knows
        where
          at : (o : Option Parcel) → 1 ≤ (Rattle.qs_world.specs.Moves.hand_next n h o world.channels).peer p q → are_two world.size p q ≡ true
          at None knows = steady.peers p q knows
          at (Some parcel) knows = steady.peers p q knows
      by Queues is knows = steady.peers p q knows
      by Clock is knows = steady.peers p q knows
      by (Noticed h later) is knows = at (p == n) refl (q == h) refl knows
        where
          met : 1 ≤ world.channels.peer n h
          met = known_one world n stamp h later event is
            where
              known_one : (world : World) (n stamp m new : ℕ) (event : Event) → Rattle.qs_world.specs.Moves.notice_of world n stamp m new ≡ Some event → 1 ≤ world.channels.peer n m
              known_one world n stamp m new event is = one (nat_lt 0 (world.channels.peer n m)) refl is
                where
                  one : (b : Bool) → nat_lt 0 (world.channels.peer n m) ≡ b
                      → (if b && (nat_lt (world.channels.peer n m) new && Rattle.qs_world.specs.Moves.has_begun world stamp m new) then Some (Rattle.qs_node_step.specs.declared.event.Event.TheVariants.PeerRestarted (node_no m) (world.channels.peer n m) new) else None) ≡ Some event → 1 ≤ world.channels.peer n m
                  one true it is = grind (arith, nat_tests, it)
                  one false it is = absurd (cc (is))

          at : (a : Bool) → (p == n) ≡ a → (b : Bool) → (q == h) ≡ b → 1 ≤ (if a then (if b then later else world.channels.peer p q) else world.channels.peer p q) → are_two world.size p q ≡ true
          at true pa true qb knows =
              let p_is : p ≡ n = grind (arith, nat_tests, pa) in let q_is : q ≡ h = grind (arith, nat_tests, qb) in
              subst (λ (k : ℕ). are_two world.size k q ≡ true) (sym p_is) (subst (λ (k : ℕ). are_two world.size n k ≡ true) (sym q_is) (steady.peers n h met))
          at true pa false qb knows = steady.peers p q knows
          at false pa b qb knows = steady.peers p q knows

  pub scripts_taken : (source : Source) (answers : List ClientAnswer) (k : ℕ) → k < client_count → list_all (is_steady_line world.size) (clients_after answers (handed_by source world.clients) k).lines ≡ true
  scripts_taken source answers k below = by (list_any (is_answer_to k) answers)
    where
      first : (s : Source) → list_all (is_steady_line world.size) (handed_by s world.clients k).lines ≡ true
      first (Commanded c) = at (k == c) refl
        where
          at : (b : Bool) → (k == c) ≡ b → list_all (is_steady_line world.size) (if b then record (world.clients c) { is_handed = true } else world.clients k).lines ≡ true
          at true same = let it : k ≡ c = grind (arith, nat_tests, same) in subst (λ (j : ℕ). list_all (is_steady_line world.size) (world.clients j).lines ≡ true) it (steady.scripts k below)
          at false apart = steady.scripts k below
      first (Handed h) = steady.scripts k below
      first Queues = steady.scripts k below
      first Clock = steady.scripts k below
      first (Noticed h later) = steady.scripts k below

      by : (b : Bool) → list_all (is_steady_line world.size) (if b then answered (handed_by source world.clients k) else handed_by source world.clients k).lines ≡ true
      by true = all_dropped_one (is_steady_line world.size) (handed_by source world.clients k).lines (first source)
      by false = first source

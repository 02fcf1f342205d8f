-- The clock of a node shows its stamp at most: it begins at nothing, and each tick has a later stamp; so a tick that comes has room.
use Rattle.qs_world_runs.proofs.Words.{◌≡◌, ℕ, ◌+◌, ◌≤◌, ◌<◌, ◌^◌, ◌&&◌, true, ◌++◌, refl, sym, subst, arith, nat_le, nat_lt, nat_tests, Global, Recovered, new_manager, after_step, Event, Setting, Source, is_later, Opening, World, first_work, MakesStep, HoldsRunning, Joined, book_in, ltb-true}
use Rattle.qs_node_step.specs.Opening.{opened_manager}
use Rattle.qs_world.specs.Moves.{is_in_order}
use Rattle.qs_world_refine.proofs.SoundParts.{and_both}
use Rattle.qs_world_runs.proofs.AgreesEach.{low, up}
use Rattle.qs_world_runs.proofs.BareTaken.{all_bare}
use Rattle.qs_world_runs.proofs.StaysWorlds.{first_on_time, steps_tick_once}
use Rattle.std.proofs.lemmas.Bool.{leb-true}

pub opens_on_time : (alloc : Global) (setting : Setting) (found : Recovered) → (opened_manager alloc setting found).ticks ≡ 0
opens_on_time alloc setting found = (all_bare (found.in_doubt ++ found.untold) (new_manager alloc setting) (record { parts = λ tid part known. absurd (cc known); ticks = refl })).ticks

pub in_order_stamp : (world : World) (n stamp : ℕ) → is_in_order world n stamp ≡ true → (world.hosts n).stamp ≤ stamp
in_order_stamp world n stamp is = leb-true (world.hosts n).stamp stamp (and_both _ (nat_le (world.hosts n).stamp stamp) (and_both (nat_lt n world.size && _) _ is).1).1

module _ (P : Opening → World → Type 0) (o : Opening) (world : World) (j : Joined P o world) (n stamp free : ℕ) (source : Source) (event : Event) (makes : MakesStep world n stamp source event) where
  its_low : n < world.size
  its_low = low world j.shown n stamp free source event makes

  running : HoldsRunning (book_in o world) (world.hosts n).node
  running = j.running n its_low (up world j.shown n stamp free source event makes)

  later : is_later world n stamp ≡ true
  later = (and_both (is_later world n stamp) _ (and_both (world.channels.up n) _ makes.may).1).0

  less : (world.hosts n).stamp < stamp
  less = ltb-true (world.hosts n).stamp stamp (and_both (is_in_order world n stamp) (nat_lt (world.hosts n).stamp stamp) later).1

  pub step_on_time : (after_step (world.hosts n).node event free).manager.ticks ≤ stamp
  step_on_time = of (after_step (world.hosts n).node event free).manager.ticks (world.hosts n).node.manager.ticks (world.hosts n).stamp stamp
      (steps_tick_once world n stamp free source event j.shown makes (j.facts n its_low) running.beside.clock.room running.young) (j.clocks n its_low) less
    where
      of : (a t s k : ℕ) → a ≤ t + 1 → t ≤ s → s < k → a ≤ k
      of a t s k p q r = grind (arith, p, q, r)

  -- a tick has room
  pub tick_room : (first_work (world.hosts n).node free).node.manager.ticks + 1 < 2 ^ 62
  tick_room = subst (λ (t : ℕ). t + 1 < 2 ^ 62) (sym (first_on_time world n stamp free source event j.shown makes (j.facts n its_low) running.beside.clock.room running.young))
      (of (world.hosts n).node.manager.ticks (world.hosts n).stamp stamp (j.clocks n its_low) less
      (and_both (nat_lt n world.size) (nat_lt stamp (2 ^ 62)) (and_both (nat_lt n world.size && nat_lt stamp (2 ^ 62)) _ (and_both (is_in_order world n stamp) _ later).0).0).1)
    where
      of : (t s k : ℕ) → t ≤ s → s < k → nat_lt k (2 ^ 62) ≡ true → t + 1 < 2 ^ 62
      of t s k p q r = grind (arith, nat_tests, p, q, r)

-- The channels of a world are sound after each of its moves.
use Rattle.qs_world_lawful.proofs.Words.{◌≡◌, ℕ, ◌==◌, ◌<◌, ◌≤◌, ◌+◌, ◌++◌, ◌&&◌, not, Bool, true, false, List, [], ◌∷◌, length, Option, Some, None, refl, ap, arith, is_some, nat_le, nat_lt, if◌then◌else◌, nat_tests, slice_get_within, slice_get, Channels, with_at, with_at2, effects_of, Event, Sending, Commanded, Clock, Handed, Meet, Noticed, Queues, Rise, Source, Step, event_of, is_later, next_parcel, post_all, post_next, Parcel, World, known_of, AreSound}
use Rattle.qs_session_channels.specs.Channels as channel
use Rattle.qs_node_step.specs.declared.event.Event.TheVariants as events
use Rattle.qs_world.specs.Moves.{Cut, Stop, cut_with, hand_next, is_before, is_in_order, node_no, step_with, taken_by}
use Rattle.qs_world_lawful.specs.WayLaws.{EachWorldMovesSoundly}
use Rattle.qs_world_lawful.proofs.ParcelsKept.{at_one, at_two}
use Rattle.qs_world_lawful.proofs.SoundChannels.{length_both, more_posted, same_sound}
use Rattle.std.proofs.lemmas.Bool.{leb-true}

-- sound channels of nodes that know incarnations that began
record AreGood (c : Channels Parcel) : Type 0 where
  sound : AreSound c
  known : (n m : ℕ) → c.peer n m ≤ c.inc m

posts : (n stamp : ℕ) (sendings : List Sending) (c : Channels Parcel) → AreGood c → AreGood (post_all n stamp sendings c)
posts n stamp [] c g = g
posts n stamp (sending ∷ sendings) c g = posts n stamp sendings (post_next n stamp c sending) (one (c.peer n sending.to.0 == 0))
  where
    one : (b : Bool) → AreGood (channel.moved (if b then channel.Wait n sending.to.0 (record { stamp = stamp; message = sending.message }) else channel.Post n sending.to.0 (record { stamp = stamp; message = sending.message })) c)
    one true = record { sound = same_sound c g.known g.sound _ refl refl refl; known = g.known }
    one false = record { sound = more_posted c g.known g.sound n sending.to.0 (c.peer n sending.to.0) (record { stamp = stamp; message = sending.message } ∷ []) (g.known n sending.to.0); known = g.known }

hands : (c : Channels Parcel) (n m : ℕ) (x : Parcel) → slice_get (c.posted m n (c.peer n m) (c.inc n)) (length (c.handed m n (c.peer n m) (c.inc n))) ≡ Some x → AreGood c → AreGood (channel.moved (channel.Hand n m x) c)
hands c n m x next g = record {
  sound = record {
    by_none = g.sound.by_none;
    for_none = g.sound.for_none;
    within = λ p q. at_two (λ (p q : ℕ) (f : ℕ → ℕ → List Parcel). (i j : ℕ) → length (f i j) ≤ length (c.posted p q i j)) c.handed m n (with_at2 (c.handed m n) (c.peer n m) (c.inc n) (c.handed m n (c.peer n m) (c.inc n) ++ x ∷ []))
        (at_two (λ (i j : ℕ) (ps : List Parcel). length ps ≤ length (c.posted m n i j)) (c.handed m n) (c.peer n m) (c.inc n) (c.handed m n (c.peer n m) (c.inc n) ++ x ∷ []) own (g.sound.within m n)) g.sound.within p q;
  };
  known = g.known;
}
  where
    of : (k l p : ℕ) → l ≡ k + 1 → k < p → l ≤ p
    of k l p e f = grind (arith, e, f)

    own : length (c.handed m n (c.peer n m) (c.inc n) ++ x ∷ []) ≤ length (c.posted m n (c.peer n m) (c.inc n))
    own = of (length (c.handed m n (c.peer n m) (c.inc n))) (length (c.handed m n (c.peer n m) (c.inc n) ++ x ∷ [])) (length (c.posted m n (c.peer n m) (c.inc n))) (length_both (c.handed m n (c.peer n m) (c.inc n)) (x ∷ []))
        (slice_get_within (c.posted m n (c.peer n m) (c.inc n)) (length (c.handed m n (c.peer n m) (c.inc n))) x next)

takes : (world : World) (n stamp : ℕ) (source : Source) → is_some (event_of world n stamp source) ≡ true → AreGood world.channels → AreGood (taken_by world n source)
takes world n stamp (Commanded k) is g = g
takes world n stamp Queues is g = g
takes world n stamp Clock is g = g
takes world n stamp (Handed m) is g = by (next_parcel world n m) refl
  where
    by : (o : Option Parcel) → next_parcel world n m ≡ o → AreGood (hand_next n m o world.channels)
    by None none = g
    by (Some parcel) next = hands world.channels n m parcel next g
takes world n stamp (Noticed m new) is g = record {
  sound = same_sound world.channels g.known g.sound _ refl refl refl;
  known = at_two (λ (p q k : ℕ). k ≤ world.channels.inc q) world.channels.peer n m new (leb-true new (world.channels.inc m) (begun (nat_lt 0 (known_of world n m)) (nat_lt (known_of world n m) new) (nat_le new (world.channels.inc m)) (is_before stamp (world.born m new)) is)) g.known;
}
  where
    begun : (a b c d : Bool) → is_some (if a && (b && (c && d)) then Some (events.PeerRestarted (node_no m) (known_of world n m) new) else None) ≡ true → c ≡ true
    begun true true true d e = refl
    begun true true false d e = absurd (cc e)
    begun true false c d e = absurd (cc e)
    begun false b c d e = absurd (cc e)

-- ---- each move

crashed : (c : Channels Parcel) (n : ℕ) → AreGood c → AreSound (channel.moved (channel.Crash n) c)
crashed c n g = same_sound c g.known g.sound _ refl refl refl

pub world_moves_soundly : EachWorldMovesSoundly
world_moves_soundly (Step n stamp free source) world may known sound = by (event_of world n stamp source) refl
  where
    good : AreGood world.channels
    good = record { sound = sound; known = known }

    by : (o : Option Event) → event_of world n stamp source ≡ o → AreSound (step_with world n stamp free source o).channels
    by None none = sound
    by (Some event) is = (posts n stamp (effects_of (world.hosts n).node event free).messages (taken_by world n source) (takes world n stamp source (ap is_some is) good)).sound
world_moves_soundly (Cut n stamp free source is_kept cause) world may known sound = by (event_of world n stamp source)
  where
    by : (o : Option Event) → AreSound (cut_with world n stamp free is_kept cause o).channels
    by None = sound
    by (Some event) = crashed world.channels n (record { sound = sound; known = known })
world_moves_soundly (Stop n stamp cause) world may known sound = crashed world.channels n (record { sound = sound; known = known })
world_moves_soundly (Rise n stamp inc) world may known sound = record {
  by_none = λ p q i j late. sound.by_none p q i j (before p i late);
  for_none = λ p q i j late. sound.for_none p q i j (before q j late);
  within = sound.within;
}
  where
    last : (x y z : Bool) → (x && (y && z)) ≡ true → z ≡ true
    last true true z e = e
    last true false z e = absurd (cc e)
    last false y z e = absurd (cc e)

    past : (a b d : ℕ) → nat_lt a b ≡ true → b < d → a < d
    past a b d e f = grind (arith, nat_tests, e, f)

    before : (p k : ℕ) → with_at world.channels.inc n inc p < k → world.channels.inc p < k
    before p k = at_one (λ (p l : ℕ). l < k → world.channels.inc p < k) world.channels.inc n inc (λ late. past (world.channels.inc n) inc k (last (not (world.channels.up n)) (is_in_order world n stamp) (nat_lt (world.channels.inc n) inc) may) late) (λ p late. late) p
world_moves_soundly (Meet n stamp m inc) world may known sound = record { by_none = p.by_none; for_none = p.for_none; within = p.within }
  where
    begun : (s t u w x y z : Bool) → (s && (t && (u && (w && (x && (y && z)))))) ≡ true → y ≡ true
    begun true true true true true true z e = refl
    begun true true true true true false z e = absurd (cc e)
    begun true true true true false y z e = absurd (cc e)
    begun true true true false x y z e = absurd (cc e)
    begun true true false w x y z e = absurd (cc e)
    begun true false u w x y z e = absurd (cc e)
    begun false t u w x y z e = absurd (cc e)

    low : inc ≤ world.channels.inc m
    low = leb-true inc (world.channels.inc m) (begun (world.channels.up n) (is_later world n stamp) (not (m == n) && nat_lt m world.size) (known_of world n m == 0) (nat_lt 0 inc) (nat_le inc (world.channels.inc m)) (is_before stamp (world.born m inc)) may)

    p : AreSound (record world.channels { posted = channel.with_at4 world.channels.posted n m (world.channels.inc n) inc (world.channels.posted n m (world.channels.inc n) inc ++ world.channels.waits n m) })
    p = more_posted world.channels known sound n m inc (world.channels.waits n m) low

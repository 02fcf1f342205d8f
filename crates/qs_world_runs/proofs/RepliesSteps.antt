-- What was posted and what waits says of numbers that were given, and of requests that were served, stays so through a whole step, where what it sends and what waits then is so.
use Rattle.qs_world_runs.proofs.Words.{◌≡◌, ℕ, ◌≤◌, ◌<◌, ◌==◌, Bool, true, false, List, [], ◌∷◌, ◌++◌, Option, Some, None, refl, sym, ap, subst, ◌∙◌, arith, if◌then◌else◌, eqb-true, Channels, with_at2, Delivery, BookValue, book_after, Message, after_step, effects_of, Event, Sending, Clock, Commanded, Handed, Noticed, Queues, Source, hand_next, step_with, stepped_host, taken_by, next_parcel, post_all, Opening, Parcel, World, Every, every_on, at_two, every_more, Joined, book_in, entries_in}
use Rattle.qs_world_runs.proofs.Words.{PlacesAt, HasGiven, IsOfKnown, IsOfLast, RepliesAt}
use Rattle.qs_session_channels.specs.Channels as channel
use Rattle.qs_book_machine.specs.Lawful.{IsLawful}
use Rattle.qs_packet.specs.declared.message.Message.TheVariants as messages
use Rattle.qs_world.specs.Posting.{post_next}
use Rattle.qs_world_lawful.specs.Face.{waiting_at}
use Rattle.qs_world_runs.specs.RepliesTrue.{AreFresh, HoldsReplies, IsFresh, IsKeptBack, IsSentSo, IsTold, StepKeepsReplies, TellsSo}
use Rattle.qs_world_runs.proofs.JoinedParts.{book_on}
use Rattle.qs_world_runs.proofs.JoinedWays.{lasts_now}
use Rattle.qs_world_runs.proofs.RepliesMoves.{replies_on}

module _ (now : BookValue) (n : ℕ) (knows : ℕ → ℕ → ℕ) (incs : ℕ → ℕ) where
  -- what channels hold of it, with those incarnations
  record Tells (c : Channels Parcel) : Type 0 where
    posted : (p q i j : ℕ) → Every (λ (parcel : Parcel). IsTold now p q i j parcel.message) (c.posted p q i j)
    keeps : (p q : ℕ) → Every (λ (parcel : Parcel). IsKeptBack now p q (incs p) parcel.message) (c.waits p q)
    incs_are : c.inc ≡ incs
    peers_are : c.peer ≡ knows

  -- what is sent to a node that is known, and to one that is not
  told : (to j : ℕ) (message : Message) → j ≡ knows n to → IsSentSo now n (incs n) (knows n) to message → IsTold now n to (incs n) j message
  told to j (messages.Request tid label member number issuer op) is sent = sent
  told to j (messages.Answered tid member number reply) is sent = subst (λ (i : ℕ). IsTold now n to (incs n) i (messages.Answered tid member number reply)) (sym is) sent.1
  told to j message is sent = tt

  back : (to : ℕ) (message : Message) → knows n to ≡ 0 → IsSentSo now n (incs n) (knows n) to message → IsKeptBack now n to (incs n) message
  back to (messages.Request tid label member number issuer op) unknown sent = sent
  back to (messages.Answered tid member number reply) unknown sent = none (knows n to) unknown sent.0
    where
      none : (a : ℕ) → a ≡ 0 → 1 ≤ a → ⊥
      none a is some = omega (arith, is, some)
  back to message unknown sent = tt

  module _ (stamp : ℕ) where
    next : (c : Channels Parcel) (s : Sending) → IsSentSo now n (incs n) (knows n) s.to.0 s.message → Tells c → Tells (post_next n stamp c s)
    next c s sent t = by (c.peer n s.to.0 == 0) refl
      where
        parcel : Parcel
        parcel = record { stamp = stamp; message = s.message }

        known : c.peer n s.to.0 ≡ knows n s.to.0
        known = ap (λ (f : ℕ → ℕ → ℕ). f n s.to.0) t.peers_are

        inc_is : incs n ≡ c.inc n
        inc_is = ap (λ (f : ℕ → ℕ). f n) (sym t.incs_are)

        posts : (a : ℕ) → incs n ≡ a → (i j : ℕ) → Every (λ (x : Parcel). IsTold now n s.to.0 i j x.message) (with_at2 (c.posted n s.to.0) a (c.peer n s.to.0) (c.posted n s.to.0 a (c.peer n s.to.0) ++ parcel ∷ []) i j)
        posts a is = at_two (λ (i j : ℕ) (ps : List Parcel). Every (λ (x : Parcel). IsTold now n s.to.0 i j x.message) ps) (c.posted n s.to.0) a (c.peer n s.to.0) (c.posted n s.to.0 a (c.peer n s.to.0) ++ parcel ∷ [])
            (every_more (λ (x : Parcel). IsTold now n s.to.0 a (c.peer n s.to.0) x.message) (c.posted n s.to.0 a (c.peer n s.to.0)) (parcel ∷ []) (t.posted n s.to.0 a (c.peer n s.to.0))
            (subst (λ (b : ℕ). IsTold now n s.to.0 b (c.peer n s.to.0) s.message) is (told s.to.0 (c.peer n s.to.0) s.message known sent), tt))
            (t.posted n s.to.0)

        by : (b : Bool) → (c.peer n s.to.0 == 0) ≡ b → Tells (channel.moved (if b then channel.Wait n s.to.0 parcel else channel.Post n s.to.0 parcel) c)
        by true unknown = record {
          posted = t.posted;
          keeps = at_two (λ (p q : ℕ) (ps : List Parcel). Every (λ (x : Parcel). IsKeptBack now p q (incs p) x.message) ps) c.waits n s.to.0 (c.waits n s.to.0 ++ parcel ∷ [])
              (every_more (λ (x : Parcel). IsKeptBack now n s.to.0 (incs n) x.message) (c.waits n s.to.0) (parcel ∷ []) (t.keeps n s.to.0) (back s.to.0 s.message (sym known ∙ eqb-true (c.peer n s.to.0) 0 unknown) sent, tt)) t.keeps;
          incs_are = t.incs_are;
          peers_are = t.peers_are;
        }
        by false some = record {
          posted = at_two (λ (p q : ℕ) (g : ℕ → ℕ → List Parcel). (i j : ℕ) → Every (λ (x : Parcel). IsTold now p q i j x.message) (g i j)) c.posted n s.to.0 (with_at2 (c.posted n s.to.0) (c.inc n) (c.peer n s.to.0) (c.posted n s.to.0 (c.inc n) (c.peer n s.to.0) ++ parcel ∷ []))
              (posts (c.inc n) inc_is) t.posted;
          keeps = t.keeps;
          incs_are = t.incs_are;
          peers_are = t.peers_are;
        }

    all : (sendings : List Sending) (c : Channels Parcel) → Every (λ (s : Sending). IsSentSo now n (incs n) (knows n) s.to.0 s.message) sendings → Tells c → Tells (post_all n stamp sendings c)
    all [] c sent t = t
    all (s ∷ sendings) c sent t = all sendings (post_next n stamp c s) sent.1 (next c s sent.0 t)

-- ---- the step

module _ (o : Opening) (world : World) (n stamp free : ℕ) (source : Source) (event : Event) (j : Joined PlacesAt o world) (h : RepliesAt o world) (lawful : IsLawful (book_in o world) (entries_in world n stamp free event)) (tells : TellsSo o world n stamp free source event) where
  abbrev now : BookValue
  now = book_after (book_in o world) (entries_in world n stamp free event)

  abbrev after : World
  after = step_with world n stamp free source (Some event)

  abbrev c : Channels Parcel
  c = taken_by world n source

  on : HoldsReplies now world
  on = replies_on (entries_in world n stamp free event) (book_in o world) (lasts_now o world j.opens j.lawful) lawful world h

  -- what comes changes nothing that was posted, and a node knows no others' incarnations otherwise
  begins : Tells now n c.peer world.channels.inc c
  begins = of source
    where
      handed : (m : ℕ) (x : Option Parcel) → Tells now n (hand_next n m x world.channels).peer world.channels.inc (hand_next n m x world.channels)
      handed m None = record { posted = on.posted; keeps = on.keeps; incs_are = refl; peers_are = refl }
      handed m (Some parcel) = record { posted = on.posted; keeps = on.keeps; incs_are = refl; peers_are = refl }

      of : (s : Source) → Tells now n (taken_by world n s).peer world.channels.inc (taken_by world n s)
      of (Commanded k) = record { posted = on.posted; keeps = on.keeps; incs_are = refl; peers_are = refl }
      of (Handed m) = handed m (next_parcel world n m)
      of Queues = record { posted = on.posted; keeps = on.keeps; incs_are = refl; peers_are = refl }
      of Clock = record { posted = on.posted; keeps = on.keeps; incs_are = refl; peers_are = refl }
      of (Noticed m new) = record { posted = on.posted; keeps = on.keeps; incs_are = refl; peers_are = refl }

  ends : Tells now n c.peer world.channels.inc after.channels
  ends = all now n c.peer world.channels.inc stamp (effects_of (world.hosts n).node event free).messages c tells.sent begins

  -- another node knows what it knew
  still : (m q : ℕ) → (m == n) ≡ false → c.peer m q ≡ world.channels.peer m q
  still m q far = of source
    where
      handed : (k : ℕ) (x : Option Parcel) → (hand_next n k x world.channels).peer m q ≡ world.channels.peer m q
      handed k None = refl
      handed k (Some parcel) = refl

      of : (s : Source) → (taken_by world n s).peer m q ≡ world.channels.peer m q
      of (Commanded k) = refl
      of (Handed k) = handed k (next_parcel world n k)
      of Queues = refl
      of Clock = refl
      of (Noticed k new) = rw far refl

  still_fresh : (m : ℕ) → (m == n) ≡ false → (d : Delivery) → IsFresh now (world.channels.peer m) m d → IsFresh now (c.peer m) m d
  still_fresh m far d fresh live apart = let k : IsOfKnown now (world.channels.peer m) m d = fresh live apart in record {
    known = subst (λ (x : ℕ). 1 ≤ x) (sym (still m d.from.0 far)) k.known;
    given = subst (λ (x : ℕ). IsOfLast now d.from.0 x d.tid (HasGiven d.from.0 x m d.number)) (sym (still m d.from.0 far)) k.given;
  }

  queued : (m : ℕ) → m < world.size → AreFresh now (after.channels.peer m) m (after.hosts m).node
  queued m low = subst (λ (f : ℕ → ℕ). AreFresh now f m (after.hosts m).node) (ap (λ (f : ℕ → ℕ → ℕ). f m) (sym ends.peers_are)) (by (m == n) refl)
    where
      by : (b : Bool) → (m == n) ≡ b → AreFresh now (c.peer m) m (if b then stepped_host stamp (after_step (world.hosts n).node event free) (effects_of (world.hosts n).node event free) (world.hosts n) else world.hosts m).node
      by true near = subst (λ (k : ℕ). AreFresh now (c.peer k) k (after_step (world.hosts n).node event free)) (sym (eqb-true m n near)) tells.queued
      by false far = λ tid server. every_on (IsFresh now (world.channels.peer m) m) (IsFresh now (c.peer m) m) (still_fresh m far) (waiting_at (world.hosts m).node tid server) (on.queued m low tid server)

  stepped : HoldsReplies now after
  stepped = record {
    posted = ends.posted;
    keeps = λ p q. subst (λ (i : ℕ). Every (λ (x : Parcel). IsKeptBack now p q i x.message) (after.channels.waits p q)) (ap (λ (f : ℕ → ℕ). f p) (sym ends.incs_are)) (ends.keeps p q);
    queued = queued;
  }

pub step_keeps_replies : StepKeepsReplies
step_keeps_replies o world n stamp free source event j h lawful tells = subst (λ (b : BookValue). HoldsReplies b after) (sym (book_on o world after (entries_in world n stamp free event) refl)) (stepped o world n stamp free source event j h lawful tells)
  where
    after : World
    after = step_with world n stamp free source (Some event)

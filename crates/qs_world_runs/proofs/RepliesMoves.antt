-- What was posted and what waits says of numbers that were given, and of requests that were served, stays so as a node crashes, restarts, or meets another.
use Rattle.qs_world_runs.proofs.Words.{◌≡◌, ℕ, ◌≤◌, ◌<◌, ◌==◌, ◌&&◌, not, Bool, true, false, List, [], ◌∷◌, ◌++◌, Option, Some, None, refl, sym, ap, subst, ◌∙◌, arith, nat_lt, if◌then◌else◌, eqb-true, Member, ServerNo, Tid, Channels, with_at2, Delivery, CrashCause, Entry, BookValue, book_after, effect, Message, Record, recovered_of, effects_of, Event, book_of, Cut, Meet, Move, Rise, Step, Stop, cut_log, cut_with, event_of, is_later, may_move, moved, risen_host, stopped, entry_of, Opening}
use Rattle.qs_world_runs.proofs.Words.{Parcel, World, known_of, node_stopped, Every, rise_entry, lasts_on, LastsWell, every_on, at_two, every_more, Joined, book_in, IsBetweenSteps, PlacesAt, HasGiven, IsOfKnown, IsOfLast, IsServed, RepliesAt}
use Rattle.qs_book_journal.specs.declared.entry.Act.TheVariants as acts
use Rattle.qs_book_machine.specs.Lawful.{IsLawful}
use Rattle.qs_packet.specs.declared.message.Message.TheVariants as messages
use Rattle.qs_node_step.specs.State.{NodeValue}
use Rattle.qs_world_refine.proofs.SoundParts.{and_both}
use Rattle.qs_world_lawful.specs.Face.{waiting_at}
use Rattle.qs_world_runs.specs.RepliesTrue.{AreFresh, BetweenKeepReplies, HoldsReplies, IsFresh, IsKeptBack, IsTold, OpensReplies}
use Rattle.qs_world_runs.proofs.JoinedParts.{book_on, lawful_more}
use Rattle.qs_world_runs.proofs.JoinedWays.{lasts_now}
use Rattle.qs_world_runs.proofs.RepliesEntries.{given_stays, served_stays}

-- ---- through lawful entries

pub given_on : (entries : List Entry) (book : BookValue) → LastsWell book → IsLawful book entries → (n i m : ℕ) (tid : Tid) (number : ℕ) → IsOfLast book n i tid (HasGiven n i m number) → IsOfLast (book_after book entries) n i tid (HasGiven n i m number)
given_on [] book w lawful n i m tid number last = last
given_on (entry ∷ entries) book w lawful n i m tid number last = given_on entries (effect book entry) (lasts_on book entry w lawful.0) lawful.1 n i m tid number (given_stays book entry n i m tid number w.inv lawful.0 last)

pub served_on : (entries : List Entry) (book : BookValue) → LastsWell book → IsLawful book entries → (n i : ℕ) (tid : Tid) (member : Member) (number : ℕ) → IsOfLast book n i tid (IsServed n i member number) → IsOfLast (book_after book entries) n i tid (IsServed n i member number)
served_on [] book w lawful n i tid member number last = last
served_on (entry ∷ entries) book w lawful n i tid member number last = served_on entries (effect book entry) (lasts_on book entry w lawful.0) lawful.1 n i tid member number (served_stays book entry n i tid member number w.inv lawful.0 last)

module _ (entries : List Entry) (book : BookValue) (w : LastsWell book) (lawful : IsLawful book entries) where
  abbrev later : BookValue
  later = book_after book entries

  pub told_on : (n m i j : ℕ) (message : Message) → IsTold book n m i j message → IsTold later n m i j message
  told_on n m i j (messages.Request tid label member number issuer op) told = given_on entries book w lawful n i m tid number told
  told_on n m i j (messages.Answered tid member number reply) told = served_on entries book w lawful m j tid member number told
  told_on n m i j message told = tt

  pub back_on : (n m i : ℕ) (message : Message) → IsKeptBack book n m i message → IsKeptBack later n m i message
  back_on n m i (messages.Request tid label member number issuer op) back = given_on entries book w lawful n i m tid number back
  back_on n m i (messages.Answered tid member number reply) back = back
  back_on n m i message back = tt

  pub fresh_on : (knows : ℕ → ℕ) (m : ℕ) (delivery : Delivery) → IsFresh book knows m delivery → IsFresh later knows m delivery
  fresh_on knows m delivery fresh live far = let k : IsOfKnown book knows m delivery = fresh live far in
      record { known = k.known; given = given_on entries book w lawful delivery.from.0 (knows delivery.from.0) m delivery.tid delivery.number k.given }

  -- in a world that has the same channels and nodes
  pub replies_on : (world : World) → HoldsReplies book world → HoldsReplies later world
  replies_on world h = record {
    posted = λ n m i j. every_on (λ (p : Parcel). IsTold book n m i j p.message) (λ (p : Parcel). IsTold later n m i j p.message) (λ p. told_on n m i j p.message) (world.channels.posted n m i j) (h.posted n m i j);
    keeps = λ n m. every_on (λ (p : Parcel). IsKeptBack book n m (world.channels.inc n) p.message) (λ (p : Parcel). IsKeptBack later n m (world.channels.inc n) p.message) (λ p. back_on n m (world.channels.inc n) p.message) (world.channels.waits n m) (h.keeps n m);
    queued = λ m low tid server. every_on (IsFresh book (world.channels.peer m) m) (IsFresh later (world.channels.peer m) m) (fresh_on (world.channels.peer m) m) (waiting_at (world.hosts m).node tid server) (h.queued m low tid server);
  }

-- what was kept back may be posted to any incarnation
back_told : (book : BookValue) (n m i j : ℕ) (message : Message) → IsKeptBack book n m i message → IsTold book n m i j message
back_told book n m i j (messages.Request tid label member number issuer op) back = back
back_told book n m i j (messages.Answered tid member number reply) back = absurd back
back_told book n m i j message back = tt

-- ---- as a run begins nothing is posted, and nothing waits

pub opens_replies : OpensReplies
opens_replies o opens = record { posted = λ n m i j. tt; keeps = λ n m. tt; queued = λ m low tid server. tt }

module _ (o : Opening) (world : World) (j : Joined PlacesAt o world) (h : RepliesAt o world) where
  abbrev book : BookValue
  book = book_in o world

  well : LastsWell book
  well = lasts_now o world j.opens j.lawful

  -- ---- a crash

  crash_replies : (n stamp : ℕ) (cause : CrashCause) (log : List Record) → IsLawful (book_of o) (stopped world n stamp cause log).journal → RepliesAt o (stopped world n stamp cause log)
  crash_replies n stamp cause log lawful = subst (λ (b : BookValue). HoldsReplies b after) (sym (book_on o world after (entry ∷ []) refl)) (record {
    posted = on.posted;
    keeps = on.keeps;
    queued = λ m low. subst (AreFresh (book_after book (entry ∷ [])) (world.channels.peer m) m) (sym (node_stopped world n stamp cause log m)) (on.queued m low);
  })
    where
      after : World
      after = stopped world n stamp cause log

      entry : Entry
      entry = entry_of n stamp (acts.Crash cause)

      on : HoldsReplies (book_after book (entry ∷ [])) world
      on = replies_on (entry ∷ []) book well (lawful_more o world after (entry ∷ []) refl lawful) world h

  -- ---- a restart: nothing waits at the node, nor is anything kept back there

  rise_replies : (n stamp inc : ℕ) → IsLawful (book_of o) (moved (Rise n stamp inc) world).journal → RepliesAt o (moved (Rise n stamp inc) world)
  rise_replies n stamp inc lawful = subst (λ (b : BookValue). HoldsReplies b after) (sym (book_on o world after (entry ∷ []) refl)) (record { posted = on.posted; keeps = keeps; queued = λ m low tid server. queued m low tid server (m == n) refl })
    where
      after : World
      after = moved (Rise n stamp inc) world

      entry : Entry
      entry = rise_entry world n stamp inc

      now : BookValue
      now = book_after book (entry ∷ [])

      on : HoldsReplies now world
      on = replies_on (entry ∷ []) book well (lawful_more o world after (entry ∷ []) refl lawful) world h

      keeps : (p q : ℕ) → Every (λ (parcel : Parcel). IsKeptBack now p q (after.channels.inc p) parcel.message) (after.channels.waits p q)
      keeps p q = by (p == n)
        where
          by : (b : Bool) → Every (λ (parcel : Parcel). IsKeptBack now p q (if b then inc else world.channels.inc p) parcel.message) ((if b then (λ (m : ℕ). []) else world.channels.waits p) q)
          by true = tt
          by false = on.keeps p q

      queued : (m : ℕ) → m < world.size → (tid : Tid) (server : ServerNo) (b : Bool) → (m == n) ≡ b
          → Every (IsFresh now ((if b then (λ (k : ℕ). 0) else world.channels.peer m)) m) (waiting_at (if b then risen_host stamp inc (recovered_of (world.hosts n).log) (world.hosts n) else world.hosts m).node tid server)
      queued m low tid server true near = tt
      queued m low tid server false far = on.queued m low tid server

  -- ---- a first meeting: what was kept back is posted

  meet_replies : (n stamp m inc : ℕ) → world.channels.peer n m ≡ 0 → RepliesAt o (moved (Meet n stamp m inc) world)
  meet_replies n stamp m inc unknown = record {
    posted = at_two (λ (p q : ℕ) (g : ℕ → ℕ → List Parcel). (a b : ℕ) → Every (λ (parcel : Parcel). IsTold book p q a b parcel.message) (g a b)) c.posted n m (with_at2 (c.posted n m) (c.inc n) inc (c.posted n m (c.inc n) inc ++ c.waits n m)) more h.posted;
    keeps = at_two (λ (p q : ℕ) (ps : List Parcel). Every (λ (parcel : Parcel). IsKeptBack book p q (c.inc p) parcel.message) ps) c.waits n m [] tt h.keeps;
    queued = λ k low tid server. subst (λ (node : NodeValue). Every (IsFresh book (after.channels.peer k) k) (waiting_at node tid server)) (sym (met_node k))
        (every_on (IsFresh book (c.peer k) k) (IsFresh book (after.channels.peer k) k) (λ delivery fresh live far. met k delivery (fresh live far)) (waiting_at (world.hosts k).node tid server) (h.queued k low tid server));
  }
    where
      c : Channels Parcel
      c = world.channels

      after : World
      after = moved (Meet n stamp m inc) world

      more : (a b : ℕ) → Every (λ (parcel : Parcel). IsTold book n m a b parcel.message) (with_at2 (c.posted n m) (c.inc n) inc (c.posted n m (c.inc n) inc ++ c.waits n m) a b)
      more = at_two (λ (a b : ℕ) (ps : List Parcel). Every (λ (parcel : Parcel). IsTold book n m a b parcel.message) ps) (c.posted n m) (c.inc n) inc (c.posted n m (c.inc n) inc ++ c.waits n m)
          (every_more (λ (parcel : Parcel). IsTold book n m (c.inc n) inc parcel.message) (c.posted n m (c.inc n) inc) (c.waits n m) (h.posted n m (c.inc n) inc)
          (every_on (λ (p : Parcel). IsKeptBack book n m (c.inc n) p.message) (λ (p : Parcel). IsTold book n m (c.inc n) inc p.message) (λ p. back_told book n m (c.inc n) inc p.message) (c.waits n m) (h.keeps n m)))
          (h.posted n m)

      met_node : (k : ℕ) → (after.hosts k).node ≡ (world.hosts k).node
      met_node k = picked (k == n) refl
        where
          picked : (b : Bool) → (k == n) ≡ b → (if b then record (world.hosts n) { stamp = stamp } else world.hosts k).node ≡ (world.hosts k).node
          picked true near = ap (λ (i : ℕ). (world.hosts i).node) (sym (eqb-true k n near))
          picked false far = refl

      -- nothing that is not stale came from it
      met : (k : ℕ) (delivery : Delivery) → IsOfKnown book (c.peer k) k delivery → IsOfKnown book (after.channels.peer k) k delivery
      met k delivery known = by (k == n) refl (delivery.from.0 == m) refl
        where
          none : (a : ℕ) → a ≡ 0 → 1 ≤ a → ⊥
          none a is some = omega (arith, is, some)

          Known : ℕ → Type 0
          Known i = (1 ≤ i) × IsOfLast book delivery.from.0 i delivery.tid (HasGiven delivery.from.0 i k delivery.number)

          of : (x : ℕ → ℕ) → Known (x delivery.from.0) → IsOfKnown book x k delivery
          of x its = record { known = its.0; given = its.1 }

          same : (a b : Bool) → (k == n) ≡ a → (delivery.from.0 == m) ≡ b → Known (if a then (if b then inc else c.peer k delivery.from.0) else c.peer k delivery.from.0)
          same true true near too = absurd (none (c.peer k delivery.from.0) (ap (λ (i : ℕ). c.peer i delivery.from.0) (eqb-true k n near) ∙ (ap (c.peer n) (eqb-true delivery.from.0 m too) ∙ unknown)) known.known)
          same true false near far = (known.known, known.given)
          same false b far is = (known.known, known.given)

          by : (a : Bool) → (k == n) ≡ a → (b : Bool) → (delivery.from.0 == m) ≡ b → IsOfKnown book (after.channels.peer k) k delivery
          by a near b too = of (after.channels.peer k) (same (k == n) (delivery.from.0 == m) refl refl)

  -- ---- each of these moves

  between : (move : Move) → IsBetweenSteps move → may_move world move ≡ true → IsLawful (book_of o) (moved move world).journal → RepliesAt o (moved move world)
  between (Step n stamp free source) kind may lawful = absurd kind
  between (Cut n stamp free source is_kept cause) kind may lawful = by (event_of world n stamp source) lawful
    where
      by : (e : Option Event) → IsLawful (book_of o) (cut_with world n stamp free is_kept cause e).journal → RepliesAt o (cut_with world n stamp free is_kept cause e)
      by None lawful = h
      by (Some event) lawful = crash_replies n stamp cause (cut_log (world.hosts n) is_kept (effects_of (world.hosts n).node event free)) lawful
  between (Stop n stamp cause) kind may lawful = crash_replies n stamp cause (world.hosts n).log lawful
  between (Rise n stamp inc) kind may lawful = rise_replies n stamp inc lawful
  between (Meet n stamp m inc) kind may lawful = meet_replies n stamp m inc (eqb-true (known_of world n m) 0 (and_both (known_of world n m == 0) _ (and_both (not (m == n) && nat_lt m world.size) _ (and_both (is_later world n stamp) _ (and_both (world.channels.up n) _ may).1).1).1).0)

pub between_keep_replies : BetweenKeepReplies
between_keep_replies o world move kind j h may lawful = between o world j h move kind may lawful

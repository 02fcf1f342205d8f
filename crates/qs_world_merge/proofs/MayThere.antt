-- What a node may do by itself it may do in the run of all, wherever it has the same there.
use Rattle.qs_world_merge.proofs.Words.{◌≡◌, ℕ, ◌==◌, ◌<◌, Bool, true, false, List, Option, Some, None, refl, sym, ap, subst, ◌∙◌, if◌then◌else◌, ◌&&◌, is_some, not, End, Packet, answer, Among, is_crash, ClientAnswer, Event, Host, Parcel, Source, Commanded, Queues, Clock, Brought, Move, Cut, Stop, Rise, Meet, Take, event_of, is_in_order, is_later, may_move, may_serve, may_step, PacketWorld, AnswersOnly, AnswersOwn, IsMadeAt, answers_with, event_in, node_of, is_after, PutBy, SourcePut, WasPut, SameAt}
use Rattle.std.proofs.Common.{nat_lt}
use Rattle.std.specs.Prelude.{nat_le}
use Rattle.std.proofs.lemmas.Bool.{and_from, and_parts, ltb-true}
use Rattle.qs_world.specs.Moves.{stamp_limit}
use Rattle.qs_world_packets.specs.PacketMoves.{SourceSent, Step, Tick, WasSent, is_aside, may_meet}
use Rattle.qs_world_merge.proofs.PartsSame.{ClientsAt, events_alike}

order_there : (n stamp : ℕ) (a b : PacketWorld) → a.size ≡ b.size → a.hosts n ≡ b.hosts n → is_after a.last stamp n ≡ true → is_in_order b n stamp ≡ true → is_in_order a n stamp ≡ true
order_there n stamp a b size host after is =
    let there = and_parts (nat_lt n b.size && nat_lt stamp stamp_limit) _ is in
    and_from (nat_lt n a.size && nat_lt stamp stamp_limit) _ (ap (λ (s : ℕ). nat_lt n s && nat_lt stamp stamp_limit) size ∙ there.0)
    (and_from (is_after a.last stamp n) _ after (ap (λ (h : Host). nat_le h.stamp stamp) host ∙ (and_parts (is_after b.last stamp n) (nat_le (b.hosts n).stamp stamp) there.1).1))

later_there : (n stamp : ℕ) (a b : PacketWorld) → a.size ≡ b.size → a.hosts n ≡ b.hosts n → is_after a.last stamp n ≡ true → is_later b n stamp ≡ true → is_later a n stamp ≡ true
later_there n stamp a b size host after is =
    let there = and_parts (is_in_order b n stamp) _ is in
    and_from (is_in_order a n stamp) _ (order_there n stamp a b size host after there.0) (ap (λ (h : Host). nat_lt h.stamp stamp) host ∙ there.1)

module _ (clients_at : ℕ → ℕ) (a b : PacketWorld) (sa : ClientsAt clients_at a) (sb : ClientsAt clients_at b) where
  step_there : (n stamp : ℕ) (source : Source) → SameAt clients_at n a b → is_after a.last stamp n ≡ true → may_step b n stamp source ≡ true → may_step a n stamp source ≡ true
  step_there n stamp source same after is =
      let one = and_parts (b.network.up n) _ is in
      let two = and_parts (is_later b n stamp) _ one.1 in
      let three = and_parts (is_some (event_of b n stamp source)) _ two.1 in
      and_from (a.network.up n) _ (same.network.up ∙ one.0)
      (and_from (is_later a n stamp) _ (later_there n stamp a b same.size same.host after two.0)
      (and_from (is_some (event_of a n stamp source)) _ (ap (λ (o : Option Event). is_some o) (events_alike clients_at n stamp source a b sa sb same) ∙ three.0) (ap (λ (h : Host). may_serve h.node source) same.host ∙ three.1)))

  meet_there : (n stamp m : ℕ) (p : Packet Parcel) → SameAt clients_at n a b → is_after a.last stamp n ≡ true → may_meet b n stamp m p ≡ true → may_meet a n stamp m p ≡ true
  meet_there n stamp m p same after is =
      let one = and_parts (b.network.up n) _ is in
      let two = and_parts (is_later b n stamp) _ one.1 in
      let three = and_parts (not (m == n) && nat_lt m b.size) _ two.1 in
      and_from (a.network.up n) _ (same.network.up ∙ one.0)
      (and_from (is_later a n stamp) _ (later_there n stamp a b same.size same.host after two.0)
      (and_from (not (m == n) && nat_lt m a.size) _ (ap (λ (s : ℕ). not (m == n) && nat_lt m s) same.size ∙ three.0) (ap (λ (e : End Parcel). (e.known == 0) && nat_lt p.stamp stamp) (same.network.ends m) ∙ three.1)))

  pub may_there : (move : Move) (s : ℕ) → IsMadeAt s move → SameAt clients_at (node_of move) a b → is_after a.last s (node_of move) ≡ true → may_move b move ≡ true → may_move a move ≡ true
  may_there (Step n stamp free source) s at same after is = step_there n stamp source same (now n stamp s at after) is
    where
      now : (n stamp s : ℕ) → stamp ≡ s → is_after a.last s n ≡ true → is_after a.last stamp n ≡ true
      now n stamp s at after = ap (λ (k : ℕ). is_after a.last k n) at ∙ after
  may_there (Cut n stamp free source is_kept cause) s at same after is =
      let can = and_parts (may_step b n stamp source) (is_crash cause) is in
      and_from (may_step a n stamp source) (is_crash cause) (step_there n stamp source same (ap (λ (k : ℕ). is_after a.last k n) at ∙ after) can.0) can.1
  may_there (Stop n stamp cause) s at same after is =
      let one = and_parts (b.network.up n) _ is in
      let two = and_parts (is_in_order b n stamp) _ one.1 in
      and_from (a.network.up n) _ (same.network.up ∙ one.0) (and_from (is_in_order a n stamp) _ (order_there n stamp a b same.size same.host (ap (λ (k : ℕ). is_after a.last k n) at ∙ after) two.0) two.1)
  may_there (Rise n stamp inc) s at same after is =
      let one = and_parts (not (b.network.up n)) _ is in
      let two = and_parts (is_in_order b n stamp) _ one.1 in
      and_from (not (a.network.up n)) _ (ap (λ (u : Bool). not u) same.network.up ∙ one.0)
      (and_from (is_in_order a n stamp) _ (order_there n stamp a b same.size same.host (ap (λ (k : ℕ). is_after a.last k n) at ∙ after) two.0) (ap (λ (i : ℕ). nat_lt i inc) same.network.inc ∙ two.1))
  may_there (Meet n stamp m p) s at same after is = meet_there n stamp m p same (ap (λ (k : ℕ). is_after a.last k n) at ∙ after) is
  may_there (Take n m p) s at same after is =
      let one = and_parts (b.network.up n) _ is in
      and_from (a.network.up n) _ (same.network.up ∙ one.0) (ap (λ (e : End Parcel). is_aside (answer e p)) (same.network.ends m) ∙ one.1)
  may_there (Tick n m stamp) s at same after is =
      let one = and_parts (b.network.up n) _ is in
      and_from (a.network.up n) _ (same.network.up ∙ one.0) (ap (λ (h : Host). nat_le h.stamp stamp) same.host ∙ one.1)

  answers_there : (n stamp free : ℕ) (source : Source) → SameAt clients_at n a b → AnswersOnly clients_at n (answers_with b n free (event_of b n stamp source)) → AnswersOnly clients_at n (answers_with a n free (event_of a n stamp source))
  answers_there n stamp free source same own = subst (λ (answers : List ClientAnswer). AnswersOnly clients_at n answers) (sym alike) own
    where
      said : Option Event → Host → List ClientAnswer
      said o h = answers_with (record b { hosts = λ k. h }) n free o

      one : (o : Option Event) (w : PacketWorld) → answers_with w n free o ≡ said o (w.hosts n)
      one None w = refl
      one (Some event) w = refl

      alike : answers_with a n free (event_of a n stamp source) ≡ answers_with b n free (event_of b n stamp source)
      alike = one (event_of a n stamp source) a ∙ (ap (λ (o : Option Event). said o (a.hosts n)) (events_alike clients_at n stamp source a b sa sb same) ∙ (ap (said (event_of b n stamp source)) same.host ∙ sym (one (event_of b n stamp source) b)))

  pub own_there : (move : Move) → SameAt clients_at (node_of move) a b → AnswersOwn clients_at b move → AnswersOwn clients_at a move
  own_there (Step n stamp free source) same own = answers_there n stamp free source same own
  own_there (Cut n stamp free source is_kept cause) same own = tt
  own_there (Stop n stamp cause) same own = tt
  own_there (Rise n stamp inc) same own = tt
  own_there (Meet n stamp m p) same own = tt
  own_there (Take n m p) same own = tt
  own_there (Tick n m stamp) same own = tt

  pub event_there : (move : Move) → SameAt clients_at (node_of move) a b → event_in a move ≡ event_in b move
  event_there (Step n stamp free source) same = events_alike clients_at n stamp source a b sa sb same
  event_there (Cut n stamp free source is_kept cause) same = events_alike clients_at n stamp source a b sa sb same
  event_there (Stop n stamp cause) same = refl
  event_there (Rise n stamp inc) same = refl
  event_there (Meet n stamp m p) same = refl
  event_there (Take n m p) same = refl
  event_there (Tick n m stamp) same = refl

-- ---- what is taken was sent

less_of : (b : Bool) (o : Option Event) → is_some (if b then o else None) ≡ true → b ≡ true
less_of true o some = refl
less_of false o some = absurd (cc some)

pub steps_below : (w : PacketWorld) (n stamp s m : ℕ) (p : Packet Parcel) → stamp ≡ s → may_step w n stamp (Brought m p) ≡ true → p.stamp < s
steps_below w n stamp s m p at may =
    let one = and_parts (w.network.up n) _ may in
    let two = and_parts (is_later w n stamp) _ one.1 in
    let three = and_parts (is_some (event_of w n stamp (Brought m p))) _ two.1 in
    subst (λ (k : ℕ). p.stamp < k) at (ltb-true p.stamp stamp (less_of (nat_lt p.stamp stamp) _ three.0))

pub meets_below : (w : PacketWorld) (n stamp s m : ℕ) (p : Packet Parcel) → stamp ≡ s → may_meet w n stamp m p ≡ true → p.stamp < s
meets_below w n stamp s m p at may =
    let one = and_parts (w.network.up n) _ may in
    let two = and_parts (is_later w n stamp) _ one.1 in
    let three = and_parts (not (m == n) && nat_lt m w.size) _ two.1 in
    subst (λ (k : ℕ). p.stamp < k) at (ltb-true p.stamp stamp (and_parts ((w.network.end n m).known == 0) _ three.1).1)

module _ (size : ℕ) (ends : ℕ → PacketWorld) (j w : PacketWorld) (s : ℕ) (brought : (n m : ℕ) (p : Packet Parcel) → PutBy size ends n m p → p.stamp < s → Among (j.network.packets m n) p) where
  source_sent : (n stamp : ℕ) (source : Source) → stamp ≡ s → may_step w n stamp source ≡ true → SourcePut size ends n source → SourceSent j n source
  source_sent n stamp (Commanded k) at may put = tt
  source_sent n stamp Queues at may put = tt
  source_sent n stamp Clock at may put = tt
  source_sent n stamp (Brought m p) at may put = brought n m p put (steps_below w n stamp s m p at may)

  pub was_sent : (move : Move) → IsMadeAt s move → may_move w move ≡ true → WasPut size ends move → WasSent j move
  was_sent (Step n stamp free source) at may put = source_sent n stamp source at may put
  was_sent (Cut n stamp free source is_kept cause) at may put = source_sent n stamp source at (and_parts (may_step w n stamp source) (is_crash cause) may).0 put
  was_sent (Stop n stamp cause) at may put = tt
  was_sent (Rise n stamp inc) at may put = tt
  was_sent (Meet n stamp m p) at may put = brought n m p put (meets_below w n stamp s m p at may)
  was_sent (Take n m p) at may put = brought n m p put at
  was_sent (Tick n m stamp) at may put = tt

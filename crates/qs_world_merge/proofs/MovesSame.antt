-- A move of a node does the same to what it has wherever that is the same, and nothing to what other nodes have.
use Rattle.qs_world_merge.proofs.Words.{◌≡◌, ◌≢◌, ◌⊎◌, ℕ, ◌==◌, Bool, true, false, List, ◌∷◌, [], Option, Some, None, refl, ap, sym, subst, ◌∙◌, arith, inl, inr, if◌then◌else◌, is_some, map, cases_eq, nat_tests, Packet, with_at, CrashCause, effects_of, ClientAnswer, Event, entries_of, Host, Parcel, Source, Commanded, Queues, Clock, Brought, Move, Cut, Stop, Rise, Meet, Take, cut_with, event_of, moved, step_with, taken_by, PacketWorld, AnswersOnly, AnswersOwn, answers_with, node_of, SameAt}
use Rattle.std.specs.List.{list_any}
use Rattle.qs_book_journal.specs.declared.entry.Act.TheVariants as acts
use Rattle.qs_record.specs.declared.record.Record.{Record}
use Rattle.qs_restart.specs.declared.recovered.Recovered.{Recovered}
use Rattle.qs_node_step.specs.Opening.{recovered_of}
use Rattle.qs_node_step.specs.State.{NodeValue}
use Rattle.qs_node_step.specs.Step.{after_step}
use Rattle.qs_node_step.specs.declared.event.Effects.{Effects}
use Rattle.qs_world.specs.Moves.{cut_log, found_of, risen_host, stepped_host, stopped_host}
use Rattle.qs_world.specs.Posting.{answered, clients_after, handed, handed_back, is_answer_to}
use Rattle.qs_world.specs.World.{Client}
use Rattle.qs_world_packets.specs.PacketMoves.{Step, Tick, handed_by, met, risen, stepped, stopped}
use Rattle.qs_world_merge.proofs.NetworkSame.{at_alike, at_other, at_place, cond_alike, crash_alike, crash_other, network_then, receive_alike, receive_other, restart_alike, restart_other, same_network, sends_alike, sends_other, tick_alike, tick_other}
use Rattle.qs_world_merge.proofs.PartsSame.{ClientsAt, after_alike, back_alike, commands_own, entries_alike, entries_other, events_alike, handed_alike, taken_alike, taken_other}

-- ---- where a node has the same, its move leaves it the same

module _ (clients_at : ℕ → ℕ) (n : ℕ) (a b : PacketWorld) (same : SameAt clients_at n a b) where
  stepped_alike : (stamp : ℕ) (source : Source) (node : NodeValue) (out : Effects) → SameAt clients_at n (stepped a n stamp source node out) (stepped b n stamp source node out)
  stepped_alike stamp source node out = record {
    size = same.size;
    host = at_alike a.hosts b.hosts n (stepped_host stamp node out (a.hosts n)) (stepped_host stamp node out (b.hosts n)) (ap (stepped_host stamp node out) same.host);
    network = sends_alike n stamp out.messages (taken_by a n source) (taken_by b n source) (taken_alike n source a b same.network);
    born = same.born;
    clients = λ k at. after_alike out.answers (handed_by source a.clients) (handed_by source b.clients) k (handed_alike clients_at n source a.clients b.clients same.clients k at);
    entries = entries_alike n a.journal b.journal (entries_of n stamp out.entries) same.entries;
  }

  step_alike : (stamp free : ℕ) (source : Source) (o : Option Event) → SameAt clients_at n (step_with a n stamp free source o) (step_with b n stamp free source o)
  step_alike stamp free source None = same
  step_alike stamp free source (Some event) =
      subst (λ (h : Host). SameAt clients_at n (stepped a n stamp source (after_step (a.hosts n).node event free) (effects_of (a.hosts n).node event free)) (stepped b n stamp source (after_step h.node event free) (effects_of h.node event free))) same.host
      (stepped_alike stamp source (after_step (a.hosts n).node event free) (effects_of (a.hosts n).node event free))

  stopped_alike : (stamp : ℕ) (cause : CrashCause) (log : List Record) → SameAt clients_at n (stopped a n stamp cause log) (stopped b n stamp cause log)
  stopped_alike stamp cause log = record {
    size = same.size;
    host = at_alike a.hosts b.hosts n (stopped_host stamp log (a.hosts n)) (stopped_host stamp log (b.hosts n)) (ap (stopped_host stamp log) same.host);
    network = crash_alike n a.network b.network same.network;
    born = same.born;
    clients = λ k at. back_alike n a.clients b.clients k (same.clients k at);
    entries = entries_alike n a.journal b.journal _ same.entries;
  }

  cut_alike : (stamp free : ℕ) (is_kept : Bool) (cause : CrashCause) (o : Option Event) → SameAt clients_at n (cut_with a n stamp free is_kept cause o) (cut_with b n stamp free is_kept cause o)
  cut_alike stamp free is_kept cause None = same
  cut_alike stamp free is_kept cause (Some event) =
      subst (λ (h : Host). SameAt clients_at n (stopped a n stamp cause (cut_log (a.hosts n) is_kept (effects_of (a.hosts n).node event free))) (stopped b n stamp cause (cut_log h is_kept (effects_of h.node event free)))) same.host
      (stopped_alike stamp cause (cut_log (a.hosts n) is_kept (effects_of (a.hosts n).node event free)))

  stop_alike : (stamp : ℕ) (cause : CrashCause) → SameAt clients_at n (stopped a n stamp cause (a.hosts n).log) (stopped b n stamp cause (b.hosts n).log)
  stop_alike stamp cause = subst (λ (h : Host). SameAt clients_at n (stopped a n stamp cause (a.hosts n).log) (stopped b n stamp cause h.log)) same.host (stopped_alike stamp cause (a.hosts n).log)

  risen_alike : (stamp inc : ℕ) (found : Recovered) → SameAt clients_at n (risen a n stamp inc found) (risen b n stamp inc found)
  risen_alike stamp inc found = record {
    size = same.size;
    host = at_alike a.hosts b.hosts n (risen_host stamp inc found (a.hosts n)) (risen_host stamp inc found (b.hosts n)) (ap (risen_host stamp inc found) same.host);
    network = restart_alike n inc a.network b.network same.network;
    born = λ i. ap (λ (f : ℕ → Option ℕ). f i) (at_place a.born n (with_at (a.born n) inc (Some stamp)))
        ∙ (cond_alike (i == inc) (Some stamp) (Some stamp) (a.born n i) (b.born n i) refl (same.born i)
        ∙ sym (ap (λ (f : ℕ → Option ℕ). f i) (at_place b.born n (with_at (b.born n) inc (Some stamp)))));
    clients = same.clients;
    entries = entries_alike n a.journal b.journal _ same.entries;
  }

  rise_alike : (stamp inc : ℕ) → SameAt clients_at n (risen a n stamp inc (recovered_of (a.hosts n).log)) (risen b n stamp inc (recovered_of (b.hosts n).log))
  rise_alike stamp inc = subst (λ (h : Host). SameAt clients_at n (risen a n stamp inc (recovered_of (a.hosts n).log)) (risen b n stamp inc (recovered_of h.log))) same.host (risen_alike stamp inc (recovered_of (a.hosts n).log))

  meet_alike : (stamp m : ℕ) (p : Packet Parcel) → SameAt clients_at n (met a n stamp m p) (met b n stamp m p)
  meet_alike stamp m p = record {
    size = same.size;
    host = at_alike a.hosts b.hosts n (record (a.hosts n) { stamp = stamp }) (record (b.hosts n) { stamp = stamp }) (ap (λ (h : Host). record h { stamp = stamp }) same.host);
    network = receive_alike n m p a.network b.network same.network;
    born = same.born;
    clients = same.clients;
    entries = same.entries;
  }

  take_alike : (m : ℕ) (p : Packet Parcel) → SameAt clients_at n (moved (Take n m p) a) (moved (Take n m p) b)
  take_alike m p = record { size = same.size; host = same.host; network = receive_alike n m p a.network b.network same.network; born = same.born; clients = same.clients; entries = same.entries }

  ticks_alike : (m stamp : ℕ) → SameAt clients_at n (moved (Tick n m stamp) a) (moved (Tick n m stamp) b)
  ticks_alike m stamp = record { size = same.size; host = same.host; network = tick_alike n m stamp a.network b.network same.network; born = same.born; clients = same.clients; entries = same.entries }

pub moved_alike : (clients_at : ℕ → ℕ) (a b : PacketWorld) → ClientsAt clients_at a → ClientsAt clients_at b → (move : Move) → SameAt clients_at (node_of move) a b → SameAt clients_at (node_of move) (moved move a) (moved move b)
moved_alike clients_at a b sa sb (Step n stamp free source) same =
    subst (λ (o : Option Event). SameAt clients_at n (step_with a n stamp free source (event_of a n stamp source)) (step_with b n stamp free source o)) (events_alike clients_at n stamp source a b sa sb same) (step_alike clients_at n a b same stamp free source (event_of a n stamp source))
moved_alike clients_at a b sa sb (Cut n stamp free source is_kept cause) same =
    subst (λ (o : Option Event). SameAt clients_at n (cut_with a n stamp free is_kept cause (event_of a n stamp source)) (cut_with b n stamp free is_kept cause o)) (events_alike clients_at n stamp source a b sa sb same) (cut_alike clients_at n a b same stamp free is_kept cause (event_of a n stamp source))
moved_alike clients_at a b sa sb (Stop n stamp cause) same = stop_alike clients_at n a b same stamp cause
moved_alike clients_at a b sa sb (Rise n stamp inc) same = rise_alike clients_at n a b same stamp inc
moved_alike clients_at a b sa sb (Meet n stamp m p) same = meet_alike clients_at n a b same stamp m p
moved_alike clients_at a b sa sb (Take n m p) same = take_alike clients_at n a b same m p
moved_alike clients_at a b sa sb (Tick n m stamp) same = ticks_alike clients_at n a b same m stamp

-- ---- what other nodes have stays

pub same_at : (clients_at : ℕ → ℕ) (n : ℕ) (a : PacketWorld) → SameAt clients_at n a a
same_at clients_at n a = record { size = refl; host = refl; network = same_network n a.network; born = λ inc. refl; clients = λ k at. refl; entries = refl }

pub then_same_at : (clients_at : ℕ → ℕ) (n : ℕ) (a b c : PacketWorld) → SameAt clients_at n a b → SameAt clients_at n b c → SameAt clients_at n a c
then_same_at clients_at n a b c s t = record {
  size = s.size ∙ t.size;
  host = s.host ∙ t.host;
  network = network_then n a.network b.network c.network s.network t.network;
  born = λ inc. s.born inc ∙ t.born inc;
  clients = λ k at. s.clients k at ∙ t.clients k at;
  entries = s.entries ∙ t.entries;
}

not_both : (clients_at : ℕ → ℕ) (i j k n : ℕ) → i ≡ j → clients_at j ≡ n → clients_at i ≡ k → (k == n) ≡ false → ⊥
not_both clients_at i j k n is at there other = absurd (grind (arith, nat_tests, ap clients_at is, at, there, other))

module _ (clients_at : ℕ → ℕ) (k n : ℕ) (a : PacketWorld) (stands : ClientsAt clients_at a) (other : (k == n) ≡ false) where
  handed_other : (stamp : ℕ) (source : Source) → is_some (event_of a n stamp source) ≡ true → (j : ℕ) → clients_at j ≡ k → handed_by source a.clients j ≡ a.clients j
  handed_other stamp (Commanded i) some j at = by (cases_eq j i)
    where
      by : (j ≡ i) ⊎ (j ≢ i) → handed i a.clients j ≡ a.clients j
      by (inl is) = absurd (not_both clients_at j i k n is (commands_own clients_at n stamp i a stands some) at other)
      by (inr apart) = at_other a.clients i _ j (grind (arith, nat_tests, apart))
  handed_other stamp Queues some j at = refl
  handed_other stamp Clock some j at = refl
  handed_other stamp (Brought m p) some j at = refl

  after_other : (answers : List ClientAnswer) → AnswersOnly clients_at n answers → (clients : ℕ → Client) (j : ℕ) → clients_at j ≡ k → clients j ≡ a.clients j → clients_after answers clients j ≡ a.clients j
  after_other answers own clients j at same = by (list_any (is_answer_to j) answers) (own j)
    where
      by : (b : Bool) → (b ≡ true → clients_at j ≡ n) → (if b then answered (clients j) else clients j) ≡ a.clients j
      by true is = absurd (not_both clients_at j j k n refl (is refl) at other)
      by false is = same

  back_other : (j : ℕ) → clients_at j ≡ k → handed_back n a.clients j ≡ a.clients j
  back_other j at = by ((a.clients j).at == n) (grind (arith, nat_tests, stands j, at, other))
    where
      by : (b : Bool) → b ≡ false → (if b then record (a.clients j) { is_handed = false } else a.clients j) ≡ a.clients j
      by true is = absurd (cc is)
      by false is = refl

  step_other : (stamp free : ℕ) (source : Source) (o : Option Event) → (is_some o ≡ true → is_some (event_of a n stamp source) ≡ true) → AnswersOnly clients_at n (answers_with a n free o) → SameAt clients_at k (step_with a n stamp free source o) a
  step_other stamp free source None some own = same_at clients_at k a
  step_other stamp free source (Some event) some own = record {
    size = refl;
    host = at_other a.hosts n _ k other;
    network = network_then k _ (taken_by a n source) a.network (sends_other k n stamp (effects_of (a.hosts n).node event free).messages (taken_by a n source) other) (taken_other k n source a other);
    born = λ inc. refl;
    clients = λ j at. after_other (effects_of (a.hosts n).node event free).answers own (handed_by source a.clients) j at (handed_other stamp source (some refl) j at);
    entries = entries_other k n stamp a.journal (effects_of (a.hosts n).node event free).entries other;
  }

  stopped_other : (stamp : ℕ) (cause : CrashCause) (log : List Record) → SameAt clients_at k (stopped a n stamp cause log) a
  stopped_other stamp cause log = record {
    size = refl;
    host = at_other a.hosts n _ k other;
    network = crash_other k n a.network other;
    born = λ inc. refl;
    clients = back_other;
    entries = entries_other k n stamp a.journal (acts.Crash cause ∷ []) other;
  }

  cut_other : (stamp free : ℕ) (is_kept : Bool) (cause : CrashCause) (o : Option Event) → SameAt clients_at k (cut_with a n stamp free is_kept cause o) a
  cut_other stamp free is_kept cause None = same_at clients_at k a
  cut_other stamp free is_kept cause (Some event) = stopped_other stamp cause (cut_log (a.hosts n) is_kept (effects_of (a.hosts n).node event free))

  risen_other : (stamp inc : ℕ) (found : Recovered) → SameAt clients_at k (risen a n stamp inc found) a
  risen_other stamp inc found = record {
    size = refl;
    host = at_other a.hosts n _ k other;
    network = restart_other k n inc a.network other;
    born = λ i. ap (λ (f : ℕ → Option ℕ). f i) (at_other a.born n (with_at (a.born n) inc (Some stamp)) k other);
    clients = λ j at. refl;
    entries = entries_other k n stamp a.journal (acts.Restart inc (map found_of found.votes) found.committed ∷ []) other;
  }

  meet_other : (stamp m : ℕ) (p : Packet Parcel) → SameAt clients_at k (met a n stamp m p) a
  meet_other stamp m p = record { size = refl; host = at_other a.hosts n _ k other; network = receive_other k n m p _ a.network other; born = λ inc. refl; clients = λ j at. refl; entries = refl }

  take_other : (m : ℕ) (p : Packet Parcel) → SameAt clients_at k (moved (Take n m p) a) a
  take_other m p = record { size = refl; host = refl; network = receive_other k n m p _ a.network other; born = λ inc. refl; clients = λ j at. refl; entries = refl }

  ticks_other : (m stamp : ℕ) → SameAt clients_at k (moved (Tick n m stamp) a) a
  ticks_other m stamp = record { size = refl; host = refl; network = tick_other k n m stamp a.network other; born = λ inc. refl; clients = λ j at. refl; entries = refl }

pub moved_other : (clients_at : ℕ → ℕ) (k : ℕ) (a : PacketWorld) → ClientsAt clients_at a → (move : Move) → (k == node_of move) ≡ false → AnswersOwn clients_at a move → SameAt clients_at k (moved move a) a
moved_other clients_at k a sa (Step n stamp free source) other own = step_other clients_at k n a sa other stamp free source (event_of a n stamp source) (λ some. some) own
moved_other clients_at k a sa (Cut n stamp free source is_kept cause) other own = cut_other clients_at k n a sa other stamp free is_kept cause (event_of a n stamp source)
moved_other clients_at k a sa (Stop n stamp cause) other own = stopped_other clients_at k n a sa other stamp cause (a.hosts n).log
moved_other clients_at k a sa (Rise n stamp inc) other own = risen_other clients_at k n a sa other stamp inc (recovered_of (a.hosts n).log)
moved_other clients_at k a sa (Meet n stamp m p) other own = meet_other clients_at k n a sa other stamp m p
moved_other clients_at k a sa (Take n m p) other own = take_other clients_at k n a sa other m p
moved_other clients_at k a sa (Tick n m stamp) other own = ticks_other clients_at k n a sa other m stamp

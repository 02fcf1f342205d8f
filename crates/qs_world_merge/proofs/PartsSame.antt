-- What moves are made of, at one node: the same wherever the node has the same, and nothing to what other nodes have.
use Rattle.qs_world_merge.proofs.Words.{◌≡◌, ◌≢◌, ◌⊎◌, ℕ, ◌==◌, Bool, true, false, List, [], ◌∷◌, ◌++◌, Option, Some, None, refl, sym, ap, subst, ◌∙◌, arith, inl, inr, if◌then◌else◌, append-nil, ◌&&◌, is_some, cases_eq, nat_tests, End, answer, CrashCause, Entry, effects_of, ClientAnswer, Event, entries_of, Parcel, Source, Commanded, Queues, Clock, Brought, Move, Cut, Stop, Rise, Meet, Take, cut_with, event_of, moved, step_with, taken_by, PacketWorld, of_node, SameAt, SameNetworkAt, entry_key}
use Rattle.std.proofs.Common.{nat_lt}
use Rattle.std.specs.List.{list_any}
use Rattle.qs_base_lemmas.proofs.Tests.{apart_turned}
use Rattle.qs_book_journal.specs.declared.entry.Act.{Act}
use Rattle.qs_world.specs.Moves.{client_count, command_of}
use Rattle.qs_world.specs.Posting.{answered, clients_after, handed, handed_back, is_answer_to, next_line}
use Rattle.qs_world.specs.World.{Client}
use Rattle.qs_world_packets.specs.PacketMoves.{Step, Tick, command_from, event_by, handed_by}
use Rattle.qs_world_merge.proofs.KeyOrder.{of_both}
use Rattle.qs_world_merge.proofs.NetworkSame.{at_alike, at_other, cond_alike, receive_alike, receive_other, same_network}

-- ---- entries

none_of : (k n stamp : ℕ) (acts : List Act) → (n == k) ≡ false → of_node entry_key k (entries_of n stamp acts) ≡ []
none_of k n stamp [] other = refl
none_of k n stamp (act ∷ acts) other = rw other (none_of k n stamp acts other)

pub entries_alike : (n : ℕ) (a b es : List Entry) → of_node entry_key n a ≡ of_node entry_key n b → of_node entry_key n (a ++ es) ≡ of_node entry_key n (b ++ es)
entries_alike n a b es same = of_both entry_key n a es ∙ (ap (λ (xs : List Entry). xs ++ of_node entry_key n es) same ∙ sym (of_both entry_key n b es))

pub entries_other : (k n stamp : ℕ) (a : List Entry) (acts : List Act) → (k == n) ≡ false → of_node entry_key k (a ++ entries_of n stamp acts) ≡ of_node entry_key k a
entries_other k n stamp a acts other =
    of_both entry_key k a (entries_of n stamp acts)
    ∙ (ap (λ (xs : List Entry). of_node entry_key k a ++ xs) (none_of k n stamp acts (apart_turned k n other)) ∙ append-nil (of_node entry_key k a))

-- ---- clients stay at their nodes

abbrev pub ClientsAt : (ℕ → ℕ) → PacketWorld → Type 0
ClientsAt clients_at world = (k : ℕ) → (world.clients k).at ≡ clients_at k

handed_at : (clients_at : ℕ → ℕ) (source : Source) (clients : ℕ → Client) → ((k : ℕ) → (clients k).at ≡ clients_at k) → (k : ℕ) → (handed_by source clients k).at ≡ clients_at k
handed_at clients_at (Commanded i) clients stand k = by (cases_eq k i)
  where
    by : (k ≡ i) ⊎ (k ≢ i) → (handed i clients k).at ≡ clients_at k
    by (inl is) = grind (arith, nat_tests, is, stand k, stand i)
    by (inr other) = grind (arith, nat_tests, other, stand k)
handed_at clients_at Queues clients stand k = stand k
handed_at clients_at Clock clients stand k = stand k
handed_at clients_at (Brought m p) clients stand k = stand k

cond_at : (b : Bool) (c d : Client) (at : ℕ) → c.at ≡ at → d.at ≡ at → (if b then c else d).at ≡ at
cond_at true c d at p q = p
cond_at false c d at p q = q

after_at : (clients_at : ℕ → ℕ) (answers : List ClientAnswer) (clients : ℕ → Client) → ((k : ℕ) → (clients k).at ≡ clients_at k) → (k : ℕ) → (clients_after answers clients k).at ≡ clients_at k
after_at clients_at answers clients stand k = cond_at (list_any (is_answer_to k) answers) (answered (clients k)) (clients k) (clients_at k) (stand k) (stand k)

back_at : (clients_at : ℕ → ℕ) (n : ℕ) (clients : ℕ → Client) → ((k : ℕ) → (clients k).at ≡ clients_at k) → (k : ℕ) → (handed_back n clients k).at ≡ clients_at k
back_at clients_at n clients stand k = cond_at ((clients k).at == n) (record (clients k) { is_handed = false }) (clients k) (clients_at k) (stand k) (stand k)

step_at : (clients_at : ℕ → ℕ) (n stamp free : ℕ) (source : Source) (w : PacketWorld) (o : Option Event) → ClientsAt clients_at w → ClientsAt clients_at (step_with w n stamp free source o)
step_at clients_at n stamp free source w None s = s
step_at clients_at n stamp free source w (Some event) s = after_at clients_at (effects_of (w.hosts n).node event free).answers (handed_by source w.clients) (handed_at clients_at source w.clients s)

cut_at : (clients_at : ℕ → ℕ) (n stamp free : ℕ) (is_kept : Bool) (cause : CrashCause) (w : PacketWorld) (o : Option Event) → ClientsAt clients_at w → ClientsAt clients_at (cut_with w n stamp free is_kept cause o)
cut_at clients_at n stamp free is_kept cause w None s = s
cut_at clients_at n stamp free is_kept cause w (Some event) s = back_at clients_at n w.clients s

pub clients_stay : (clients_at : ℕ → ℕ) (move : Move) (w : PacketWorld) → ClientsAt clients_at w → ClientsAt clients_at (moved move w)
clients_stay clients_at (Step n stamp free source) w s = step_at clients_at n stamp free source w (event_of w n stamp source) s
clients_stay clients_at (Cut n stamp free source is_kept cause) w s = cut_at clients_at n stamp free is_kept cause w (event_of w n stamp source) s
clients_stay clients_at (Stop n stamp cause) w s = back_at clients_at n w.clients s
clients_stay clients_at (Rise n stamp inc) w s = s
clients_stay clients_at (Meet n stamp m p) w s = s
clients_stay clients_at (Take n m p) w s = s
clients_stay clients_at (Tick n m stamp) w s = s

-- ---- which event comes

abbrev command_of_client : ℕ → ℕ → Client → Option Event
command_of_client n k client = if nat_lt k client_count && (client.at == n) then elim (next_line client) [ None ↦ None | Some line ↦ Some (command_of line) ] else None

nobody : (b c : Bool) (o : Option Event) → c ≡ false → ◌≡◌ {A = Option Event} (if b && c then o else None) None
nobody true true o is = absurd (cc is)
nobody true false o is = refl
nobody false c o is = refl

not_at : (at n node : ℕ) → at ≡ node → node ≢ n → (at == n) ≡ false
not_at at n node is other = grind (arith, nat_tests, is, other)

no_command : (clients_at : ℕ → ℕ) (w : PacketWorld) (n k : ℕ) → ClientsAt clients_at w → clients_at k ≢ n → command_from w n k ≡ None
no_command clients_at w n k s other =
    nobody (nat_lt k client_count) ((w.clients k).at == n) (elim (next_line (w.clients k)) [ None ↦ None | Some line ↦ Some (command_of line) ]) (not_at (w.clients k).at n (clients_at k) (s k) other)

pub events_alike : (clients_at : ℕ → ℕ) (n stamp : ℕ) (source : Source) (a b : PacketWorld) → ClientsAt clients_at a → ClientsAt clients_at b → SameAt clients_at n a b → event_of a n stamp source ≡ event_of b n stamp source
events_alike clients_at n stamp (Commanded k) a b sa sb same = by (cases_eq (clients_at k) n)
  where
    by : (clients_at k ≡ n) ⊎ (clients_at k ≢ n) → command_from a n k ≡ command_from b n k
    by (inl is) = ap (command_of_client n k) (same.clients k is)
    by (inr other) = no_command clients_at a n k sa other ∙ sym (no_command clients_at b n k sb other)
events_alike clients_at n stamp Queues a b sa sb same = refl
events_alike clients_at n stamp Clock a b sa sb same = refl
events_alike clients_at n stamp (Brought m p) a b sa sb same = ap (λ (e : End Parcel). if nat_lt p.stamp stamp then event_by m (answer e p) else None) (same.network.ends m)

-- a command that comes is of a client of the node
of_its_node : (b c : Bool) (o : Option Event) → is_some (if b && c then o else None) ≡ true → c ≡ true
of_its_node true true o some = refl
of_its_node true false o some = absurd (cc some)
of_its_node false c o some = absurd (cc some)

pub commands_own : (clients_at : ℕ → ℕ) (n stamp k : ℕ) (w : PacketWorld) → ClientsAt clients_at w → is_some (event_of w n stamp (Commanded k)) ≡ true → clients_at k ≡ n
commands_own clients_at n stamp k w s some = by (of_its_node (nat_lt k client_count) ((w.clients k).at == n) _ some) (s k)
  where
    by : ((w.clients k).at == n) ≡ true → (w.clients k).at ≡ clients_at k → clients_at k ≡ n
    by is at = grind (arith, nat_tests, is, at)

-- ---- what a step takes

pub taken_alike : (n : ℕ) (source : Source) (a b : PacketWorld) → SameNetworkAt n a.network b.network → SameNetworkAt n (taken_by a n source) (taken_by b n source)
taken_alike n (Commanded k) a b same = same
taken_alike n Queues a b same = same
taken_alike n Clock a b same = same
taken_alike n (Brought m p) a b same = receive_alike n m p a.network b.network same

pub taken_other : (k n : ℕ) (source : Source) (a : PacketWorld) → (k == n) ≡ false → SameNetworkAt k (taken_by a n source) a.network
taken_other k n (Commanded i) a other = same_network k a.network
taken_other k n Queues a other = same_network k a.network
taken_other k n Clock a other = same_network k a.network
taken_other k n (Brought m p) a other = receive_other k n m p (answer (a.network.end n m) p) a.network other

-- ---- clients of a node

pub handed_alike : (clients_at : ℕ → ℕ) (n : ℕ) (source : Source) (a b : ℕ → Client) → ((k : ℕ) → clients_at k ≡ n → a k ≡ b k) → (k : ℕ) → clients_at k ≡ n → handed_by source a k ≡ handed_by source b k
handed_alike clients_at n (Commanded i) a b same k at = by (cases_eq k i)
  where
    by : (k ≡ i) ⊎ (k ≢ i) → handed i a k ≡ handed i b k
    by (inl is) = subst (λ (j : ℕ). handed j a k ≡ handed j b k) is (at_alike a b k (record (a k) { is_handed = true }) (record (b k) { is_handed = true }) (ap (λ (c : Client). record c { is_handed = true }) (same k at)))
    by (inr other) = let apart : (k == i) ≡ false = grind (arith, nat_tests, other) in at_other a i _ k apart ∙ (same k at ∙ sym (at_other b i _ k apart))
handed_alike clients_at n Queues a b same k at = same k at
handed_alike clients_at n Clock a b same k at = same k at
handed_alike clients_at n (Brought m p) a b same k at = same k at

pub after_alike : (answers : List ClientAnswer) (a b : ℕ → Client) (k : ℕ) → a k ≡ b k → clients_after answers a k ≡ clients_after answers b k
after_alike answers a b k same = cond_alike (list_any (is_answer_to k) answers) (answered (a k)) (answered (b k)) (a k) (b k) (ap (λ (c : Client). answered c) same) same

pub back_alike : (n : ℕ) (a b : ℕ → Client) (k : ℕ) → a k ≡ b k → handed_back n a k ≡ handed_back n b k
back_alike n a b k same = ap (λ (c : Client). if c.at == n then record c { is_handed = false } else c) same

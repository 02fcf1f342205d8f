-- A whole step of one node leaves what two others have on its way between them.
use Rattle.qs_world_lawful.proofs.Words.{◌≡◌, ℕ, ◌+◌, ◌-◌, ◌==◌, ◌++◌, Bool, true, false, List, [], ◌∷◌, drop, length, Option, Some, None, refl, sym, ap, ◌∙◌, if◌then◌else◌, ServerNo, Tid, Channels, after_both, lawful_front, lawful_rest, BookValue, find_transaction, book_after, opening, after_step, effects_of, Effects, Event, Sending, Commanded, Clock, Handed, Noticed, Queues, Source, Step, event_of, moved, next_parcel, post_all, post_next, Parcel, World, on_its_way, ops_of, pending_from}
use Rattle.qs_world_lawful.proofs.Words.{way_between, waiting_ops}
use Rattle.qs_session_channels.specs.Channels as channel
use Rattle.qs_node_step.specs.State.{NodeValue}
use Rattle.qs_world.specs.Moves.{hand_next, step_with, stepped, taken_by}
use Rattle.qs_world_lawful.specs.Face.{waiting_at}
use Rattle.qs_world_lawful.specs.WayLaws.{EachStepKeepsOtherWays}
use Rattle.qs_world_lawful.proofs.LastsOpening.{lasts_first, lasts_ran}
use Rattle.qs_world_lawful.proofs.NumberedLogs.{opening_named}
use Rattle.qs_world_lawful.proofs.OtherWays.{HoldsOps, entries_leave, none_of, on_way_so}

-- ---- channels

pub record KeepsPair (c d : Channels Parcel) (a b : ℕ) : Type 0 where
  pub peer : d.peer b a ≡ c.peer b a
  pub inc : d.inc ≡ c.inc
  pub up : d.up ≡ c.up
  pub waits : d.waits a b ≡ c.waits a b
  pub posted : d.posted a b ≡ c.posted a b
  pub handed : d.handed a b ≡ c.handed a b

pair_self : (c : Channels Parcel) (a b : ℕ) → KeepsPair c c a b
pair_self c a b = record { peer = refl; inc = refl; up = refl; waits = refl; posted = refl; handed = refl }

pair_then : (c d e : Channels Parcel) (a b : ℕ) → KeepsPair c d a b → KeepsPair d e a b → KeepsPair c e a b
pair_then c d e a b p q = record { peer = q.peer ∙ p.peer; inc = q.inc ∙ p.inc; up = q.up ∙ p.up; waits = q.waits ∙ p.waits; posted = q.posted ∙ p.posted; handed = q.handed ∙ p.handed }

-- what is on its way, of these
abbrev way_of : ℕ → (ℕ → ℕ) → List Parcel → (ℕ → ℕ → List Parcel) → (ℕ → ℕ → List Parcel) → ℕ → ℕ → List Parcel
way_of peer inc waits posted handed a b = pending_from (λ i. drop (length (handed i (inc b))) (posted i (inc b))) peer ((inc a + 1) - peer) ++ waits

pub way_same : (c d : Channels Parcel) (a b : ℕ) → KeepsPair c d a b → on_its_way d a b ≡ on_its_way c a b
way_same c d a b k =
    ap (λ x. way_of x d.inc (d.waits a b) (d.posted a b) (d.handed a b) a b) k.peer
    ∙ (ap (λ x. way_of (c.peer b a) x (d.waits a b) (d.posted a b) (d.handed a b) a b) k.inc
    ∙ (ap (λ x. way_of (c.peer b a) c.inc x (d.posted a b) (d.handed a b) a b) k.waits
    ∙ (ap (λ x. way_of (c.peer b a) c.inc (c.waits a b) x (d.handed a b) a b) k.posted
    ∙ ap (λ x. way_of (c.peer b a) c.inc (c.waits a b) (c.posted a b) x a b) k.handed)))

-- what a node posts leaves what another posts
module _ (a b n : ℕ) (a_far : (a == n) ≡ false) where
  pair_waits : (c : Channels Parcel) (m : ℕ) (x : Parcel) → KeepsPair c (channel.moved (channel.Wait n m x) c) a b
  pair_waits c m x = record { peer = refl; inc = refl; up = refl; waits = rw a_far refl; posted = refl; handed = refl }

  pair_posts : (c : Channels Parcel) (m : ℕ) (x : Parcel) → KeepsPair c (channel.moved (channel.Post n m x) c) a b
  pair_posts c m x = record { peer = refl; inc = refl; up = refl; waits = refl; posted = rw a_far refl; handed = refl }

  pub pair_all : (stamp : ℕ) (sendings : List Sending) (c : Channels Parcel) → KeepsPair c (post_all n stamp sendings c) a b
  pair_all stamp [] c = pair_self c a b
  pair_all stamp (sending ∷ sendings) c = pair_then c (post_next n stamp c sending) (post_all n stamp sendings (post_next n stamp c sending)) a b (one (c.peer n sending.to.0 == 0)) (pair_all stamp sendings (post_next n stamp c sending))
    where
      one : (x : Bool) → KeepsPair c (channel.moved (if x then channel.Wait n sending.to.0 (record { stamp = stamp; message = sending.message }) else channel.Post n sending.to.0 (record { stamp = stamp; message = sending.message })) c) a b
      one true = pair_waits c sending.to.0 (record { stamp = stamp; message = sending.message })
      one false = pair_posts c sending.to.0 (record { stamp = stamp; message = sending.message })

-- and what it takes what goes to another
module _ (a b n : ℕ) (b_far : (b == n) ≡ false) where
  pair_hands : (c : Channels Parcel) (m : ℕ) (x : Parcel) → KeepsPair c (channel.moved (channel.Hand n m x) c) a b
  pair_hands c m x = record { peer = refl; inc = refl; up = refl; waits = refl; posted = refl; handed = rw b_far (by (a == m)) }
    where
      by : (y : Bool) → (if y then c.handed a b else c.handed a b) ≡ c.handed a b
      by true = refl
      by false = refl

  pair_notices : (c : Channels Parcel) (m j : ℕ) → KeepsPair c (channel.moved (channel.Notice n m j) c) a b
  pair_notices c m j = record { peer = rw b_far refl; inc = refl; up = refl; waits = refl; posted = refl; handed = refl }

  pub pair_taken : (world : World) (source : Source) → KeepsPair world.channels (taken_by world n source) a b
  pair_taken world (Commanded k) = pair_self world.channels a b
  pair_taken world Queues = pair_self world.channels a b
  pair_taken world Clock = pair_self world.channels a b
  pair_taken world (Noticed m new) = pair_notices world.channels m new
  pair_taken world (Handed m) = by (next_parcel world n m)
    where
      by : (o : Option Parcel) → KeepsPair world.channels (hand_next n m o world.channels) a b
      by None = pair_self world.channels a b
      by (Some parcel) = pair_hands world.channels m parcel

module _ (a b n : ℕ) (a_far : (a == n) ≡ false) (b_far : (b == n) ≡ false) where
  -- the world after a whole step
  pub record KeepsWay (world next : World) : Type 0 where
    pub way : on_its_way next.channels a b ≡ on_its_way world.channels a b
    pub node : (next.hosts b).node ≡ (world.hosts b).node
    pub host : next.hosts b ≡ world.hosts b
    pub size : next.size ≡ world.size
    pub inc : next.channels.inc ≡ world.channels.inc
    pub up : next.channels.up ≡ world.channels.up

  pub step_keeps : (world : World) (stamp free : ℕ) (source : Source) → KeepsWay world (moved (Step n stamp free source) world)
  step_keeps world stamp free source = by (event_of world n stamp source)
    where
      one : (node : NodeValue) (out : Effects) → KeepsWay world (stepped world n stamp source node out)
      one node out = record {
        way = way_same world.channels (post_all n stamp out.messages (taken_by world n source)) a b pair;
        node = rw b_far refl;
        host = rw b_far refl;
        size = refl;
        inc = pair.inc;
        up = pair.up;
      }
        where
          pair : KeepsPair world.channels (post_all n stamp out.messages (taken_by world n source)) a b
          pair = pair_then world.channels (taken_by world n source) (post_all n stamp out.messages (taken_by world n source)) a b (pair_taken a b n b_far world source) (pair_all a b n a_far stamp out.messages (taken_by world n source))

      by : (o : Option Event) → KeepsWay world (step_with world n stamp free source o)
      by None = record { way = refl; node = refl; host = refl; size = refl; inc = refl; up = refl }
      by (Some event) = one (after_step (world.hosts n).node event free) (effects_of (world.hosts n).node event free)

-- ---- the whole

pub step_other_ways : EachStepKeepsOtherWays
step_other_ways opened history more coherent numbered lawful world n stamp free source own a b a_far b_far channels known way tid tx server number found =
    rw (k.node, k.way) (after.stands tid tx server number (ap (λ (x : BookValue). find_transaction x tid) (sym (after_both history more (opening opened))) ∙ found))
  where
    book : BookValue
    book = book_after (opening opened) history

    k : KeepsWay a b n a_far b_far world (moved (Step n stamp free source) world)
    k = step_keeps a b n a_far b_far world stamp free source

    node : NodeValue
    node = (world.hosts b).node

    empty_waiting : (t : Tid) (s : ServerNo) (number : ℕ) → find_transaction (book_after (opening opened) history) t ≡ None → waiting_ops (way_between a b number) (waiting_at (world.hosts b).node t s) ≡ []
    empty_waiting t s number none = ap (waiting_ops (way_between a b number)) (known t s none)

    before : HoldsOps (book_after (opening opened) history) a b (λ t s number. waiting_ops (way_between a b number) (waiting_at (world.hosts b).node t s) ++ ops_of t s number (on_its_way world.channels a b))
    before = record {
      stands = λ t tx s number is. way t tx s number is;
      none = λ t s number none. rw (empty_waiting t s number none) (none_of (book_after (opening opened) history) world.size a b t none s number (on_its_way world.channels a b) (on_way_so (book_after (opening opened) history) world.size a b world.channels channels));
    }

    after : HoldsOps (book_after (book_after (opening opened) history) more) a b (λ t s number. waiting_ops (way_between a b number) (waiting_at (world.hosts b).node t s) ++ ops_of t s number (on_its_way world.channels a b))
    after = entries_leave a b n a_far b_far _ more (book_after (opening opened) history) (lasts_ran history (opening opened) (lasts_first opened coherent (opening_named opened numbered)) (lawful_front history more (opening opened) lawful)) (lawful_rest history more (opening opened) lawful) own before

-- A whole step, stage by stage: it begins, what comes is done, the node settles, commands that stayed open are answered, and the world after it has what it sent.
use Rattle.qs_world_runs.proofs.Words.{◌≡◌, ◌⊎◌, inl, inr, ℕ, Bool, true, false, [], Option, Some, None, refl, sym, ap, subst, ◌∙◌, same_tid-self, same_tid, NodeNo, ServerNo, Tid, Channels, same_node, BookValue, Message, enter, is_dropped, request_came, Work, change_server, here, with_manager, abort_old, age_rule, message_came, tick, Handed, hand_next, taken_by, next_parcel, Parcel, World, same_is, is_asking_for, first_work, Field, field_of, LeavesPlaces, PlacedAmid, Extends, HoldsOr}
use Rattle.qs_world_runs.proofs.Words.{AreLawful, IsAmid}
use Rattle.qs_base.specs.declared.identifiers.Outcome.TheVariants as outcomes
use Rattle.qs_book_journal.specs.declared.entry.Act.TheVariants as acts
use Rattle.qs_ops.specs.declared.answer.Cause.TheVariants as causes
use Rattle.qs_ops.specs.Timers as clock
use Rattle.qs_packet.specs.declared.message.Message.TheVariants as messages
use Rattle.qs_node_servers.specs.Servers.{timers_no}
use Rattle.qs_node_step.specs.State.{NodeValue, part_of}
use Rattle.qs_tm.specs.Manager as tm
use Rattle.qs_world.specs.Moves.{node_no}
use Rattle.qs_world_runs.specs.PlacesGo.{Goes}
use Rattle.qs_world_runs.specs.PlacesWhole.{TakesIn}
use Rattle.qs_world_runs.proofs.LeftOutcomes.{ask_came_leaves, closer_leaves, decide_leaves, inquiry_leaves, refusal_leaves, tell_leaves, told_leaves}
use Rattle.qs_world_runs.proofs.LeftRequests.{came_leaves, reply_leaves}
use Rattle.qs_world_runs.proofs.PlacedAmid.{left_on}
use Rattle.qs_world_runs.proofs.PlacedComes.{message_comes, request_comes}
use Rattle.qs_world_runs.proofs.PlacesGo.{beside, extends_of, is_beside}
use Rattle.qs_world_runs.proofs.PlacesLeft.{entry_leaves, fold_leaves, itself_leaves, then_leaves}

-- ---- time, and messages, that bear on none of it

pub tick_leaves : (t : Tid) (work : Work) → LeavesPlaces t work (tick work)
tick_leaves t work = then_leaves t work ticked (tick work) (entry_leaves t acts.Tick work ticked refl refl refl refl refl) (aged work.node.setting.age ticked)
  where
    ticked : Work
    ticked = with_manager tm.tick (change_server timers_no (λ value. record value { timers = clock.ticked value.timers }) (enter acts.Tick work))

    aged : (age : Option ℕ) (w : Work) → LeavesPlaces t w (age_rule age w)
    aged None w = itself_leaves t w
    aged (Some age) w = fold_leaves t (abort_old age) (λ v tid. decide_leaves t tid outcomes.Abort (Some (causes.Old age)) v) (tm.aged age w.node.manager) w

-- a request of it
abbrev pub IsOwn : Tid → Message → Type 0
IsOwn t (messages.Request tid label member number issuer op) = tid ≡ t
IsOwn t message = ⊥

pub message_leaves : (t : Tid) (peer : NodeNo) (message : Message) (work : Work) → (IsOwn t message → ⊥) → LeavesPlaces t work (message_came peer message work)
message_leaves t peer messages.Hello work other = itself_leaves t work
message_leaves t peer (messages.Request tid label member number issuer op) work other = by (same_tid tid t) refl
  where
    by : (b : Bool) → same_tid tid t ≡ b → LeavesPlaces t work (request_came peer tid label member number op work)
    by true same = absurd (other (same_is tid t same))
    by false far = came_leaves t tid far peer label member number op work
message_leaves t peer (messages.Answered tid member number reply) work other = reply_leaves t tid member number reply work
message_leaves t peer (messages.AskVote tid) work other = ask_came_leaves t peer tid work
message_leaves t peer (messages.Covered tid up_to) work other = closer_leaves t peer tid up_to [] work
message_leaves t peer (messages.VotedYes tid up_to told) work other = closer_leaves t peer tid up_to told work
message_leaves t peer (messages.VotedAbort tid cause) work other = refusal_leaves t tid cause work
message_leaves t peer (messages.Tell tid outcome) work other = tell_leaves t peer tid outcome work
message_leaves t peer (messages.Told tid further) work other = told_leaves t peer tid further work
message_leaves t peer (messages.Inquire tid) work other = inquiry_leaves t peer tid work

asks_none : (t : Tid) (message : Message) → (IsOwn t message → ⊥) → (server : ServerNo) (number : ℕ) → is_asking_for t server number message ≡ []
asks_none t messages.Hello other server number = refl
asks_none t (messages.Request tid label member k issuer op) other server number = by (same_tid t tid) refl
  where
    own : same_tid t tid ≡ true → tid ≡ t
    own same = sym (same_is t tid same)

    by : (b : Bool) → same_tid t tid ≡ b → is_asking_for t server number (messages.Request tid label member k issuer op) ≡ []
    by true same = absurd (other (own same))
    by false far = rw far refl
asks_none t (messages.Answered tid member k reply) other server number = refl
asks_none t (messages.AskVote tid) other server number = refl
asks_none t (messages.Covered tid up_to) other server number = refl
asks_none t (messages.VotedYes tid up_to told) other server number = refl
asks_none t (messages.VotedAbort tid cause) other server number = refl
asks_none t (messages.Tell tid outcome) other server number = refl
asks_none t (messages.Told tid further) other server number = refl
asks_none t (messages.Inquire tid) other server number = refl

-- ---- the step

module _ (D : Type 0) (t : Tid) (world : World) (n stamp free : ℕ) (before : BookValue) where
  abbrev node : NodeValue
  node = (world.hosts n).node

  abbrev first : Work
  first = first_work node free

  abbrev old_base : Field
  old_base = field_of world

  abbrev Old : Work → Type 0
  Old work = HoldsOr D t old_base (world.channels.peer n) n stamp before work

  -- what the world has then, once it took what came
  abbrev New : Channels Parcel → Work → Type 0
  New c work = HoldsOr D t (field_of (record world { channels = c })) (c.peer n) n stamp before work

  pub record Comes (c : Channels Parcel) (done : Work) : Type 0 where
    pub extends : Extends first done
    pub amid : IsAmid (field_of world) n stamp before first → IsAmid (field_of (record world { channels = c })) n stamp before first
    pub on : AreLawful n stamp before done → IsAmid (field_of world) n stamp before first → Old first → New c done

  -- where the channels are as they were
  pub by_goes : (done : Work) → Goes D t old_base (world.channels.peer n) n stamp before first done → Comes world.channels done
  by_goes done g = record { extends = g.extends; amid = λ is. is; on = g.on }

  or_on : {A B : Type 0} → (A → B) → D ⊎ A → D ⊎ B
  or_on f (inl doomed) = inl doomed
  or_on f (inr a) = inr (f a)

  -- ---- a message

  module _ (m : ℕ) (parcel : Parcel) (next : next_parcel world n m ≡ Some parcel) where
    abbrev handed : Channels Parcel
    handed = hand_next n m (Some parcel) world.channels

    taken_is : taken_by world n (Handed m) ≡ handed
    taken_is = ap (λ (o : Option Parcel). hand_next n m o world.channels) next

    amid_handed : IsAmid (field_of world) n stamp before first → IsAmid (field_of (record world { channels = handed })) n stamp before first
    amid_handed is = record { inv = is.inv; here = is.here; in_run = is.in_run; up = is.up; inc = is.inc }

    other_comes : (message : Message) → parcel.message ≡ message → (IsOwn t message → ⊥) → Comes handed (message_came (node_no m) message first)
    other_comes message says other = record {
      extends = extends_of t first (message_came (node_no m) message first) leaves;
      amid = amid_handed;
      on = λ lawful is old. or_on (λ placed. left_on t (field_of (record world { channels = handed })) (handed.peer n) n stamp before is.inv first (message_came (node_no m) message first) leaves lawful (came placed)) old;
    }
      where
        leaves : LeavesPlaces t first (message_came (node_no m) message first)
        leaves = message_leaves t (node_no m) message first other

        came : PlacedAmid t old_base (world.channels.peer n) n stamp before first → PlacedAmid t (field_of (record world { channels = handed })) (handed.peer n) n stamp before first
        came placed = subst (λ (c : Channels Parcel). PlacedAmid t (field_of (record world { channels = c })) (c.peer n) n stamp before first) taken_is
            (message_comes t world n m stamp before first parcel next (λ server number. ap (λ (x : Message). is_asking_for t server number x) says ∙ asks_none t message other server number) placed)

    own_comes : (message : Message) → parcel.message ≡ message → IsOwn t message → TakesIn D t first message → Comes handed (message_came (node_no m) message first)
    own_comes (messages.Request tid label member number issuer op) says own takes = subst (λ (k : Tid). Comes handed (request_came (node_no m) k label member number op first)) (sym own) (record {
      extends = extends_of (beside t) first (request_came (node_no m) t label member number op first) (came_leaves (beside t) t (is_beside t) (node_no m) label member number op first);
      amid = amid_handed;
      on = λ lawful is old. by lawful is old (takes own).1;
    })
      where
        its : parcel.message ≡ messages.Request t label member number issuer op
        its = says ∙ ap (λ (k : Tid). messages.Request k label member number issuer op) own

        dropped_own : is_dropped (same_node t.home (here first)) (part_of t first) ≡ false → AreLawful n stamp before (request_came (node_no m) t label member number op first) → IsAmid (field_of world) n stamp before first
            → PlacedAmid t old_base (world.channels.peer n) n stamp before first → PlacedAmid t (field_of (record world { channels = handed })) (handed.peer n) n stamp before (request_came (node_no m) t label member number op first)
        dropped_own kept lawful is placed = subst (λ (c : Channels Parcel). PlacedAmid t (field_of (record world { channels = c })) (c.peer n) n stamp before (request_came (node_no m) t label member number op first)) taken_is
            (request_comes t world n m stamp before first label member number issuer op parcel is.inv next its (takes own).0 kept lawful placed)

        by : AreLawful n stamp before (request_came (node_no m) t label member number op first) → IsAmid (field_of world) n stamp before first → Old first → D ⊎ (is_dropped (same_node t.home (here first)) (part_of t first) ≡ false)
            → New handed (request_came (node_no m) t label member number op first)
        by lawful is (inl doomed) kept = inl doomed
        by lawful is (inr placed) (inl doomed) = inl doomed
        by lawful is (inr placed) (inr kept) = inr (dropped_own kept lawful is placed)
    own_comes messages.Hello says own takes = absurd own
    own_comes (messages.Answered tid member number reply) says own takes = absurd own
    own_comes (messages.AskVote tid) says own takes = absurd own
    own_comes (messages.Covered tid up_to) says own takes = absurd own
    own_comes (messages.VotedYes tid up_to told) says own takes = absurd own
    own_comes (messages.VotedAbort tid cause) says own takes = absurd own
    own_comes (messages.Tell tid outcome) says own takes = absurd own
    own_comes (messages.Told tid further) says own takes = absurd own
    own_comes (messages.Inquire tid) says own takes = absurd own

    is_own : (message : Message) → IsOwn t message ⊎ (IsOwn t message → ⊥)
    is_own (messages.Request tid label member number issuer op) = by (same_tid tid t) refl
      where
        apart : same_tid tid t ≡ false → tid ≡ t → ⊥
        apart far e = let self : same_tid tid t ≡ true = ap (λ (k : Tid). same_tid k t) e ∙ same_tid-self t in cc (far, self)

        by : (b : Bool) → same_tid tid t ≡ b → (tid ≡ t) ⊎ (tid ≡ t → ⊥)
        by true same = inl (same_is tid t same)
        by false far = inr (apart far)
    is_own messages.Hello = inr (λ e. e)
    is_own (messages.Answered tid member number reply) = inr (λ e. e)
    is_own (messages.AskVote tid) = inr (λ e. e)
    is_own (messages.Covered tid up_to) = inr (λ e. e)
    is_own (messages.VotedYes tid up_to told) = inr (λ e. e)
    is_own (messages.VotedAbort tid cause) = inr (λ e. e)
    is_own (messages.Tell tid outcome) = inr (λ e. e)
    is_own (messages.Told tid further) = inr (λ e. e)
    is_own (messages.Inquire tid) = inr (λ e. e)

    pub parcel_comes : TakesIn D t first parcel.message → Comes handed (message_came (node_no m) parcel.message first)
    parcel_comes takes = by (is_own parcel.message)
      where
        by : IsOwn t parcel.message ⊎ (IsOwn t parcel.message → ⊥) → Comes handed (message_came (node_no m) parcel.message first)
        by (inl own) = own_comes parcel.message refl own takes
        by (inr other) = other_comes parcel.message refl other

-- What comes to a node in a step may come, as far as its node is to stay sound.
use Rattle.qs_world_refine.proofs.Words.{◌≡◌, ◌≢◌, ℕ, ◌+◌, ◌<◌, ◌≤◌, ◌==◌, ◌&&◌, nat_lt, nat_le, Bool, true, false, List, [], ◌∷◌, ◌++◌, length, drop, map, zero, suc, Option, Some, None, refl, sym, ap, subst, ◌∙◌, arith, if◌then◌else◌, list_all, same_Some, nat_tests, same_node, Command, ScriptLine, Work, work_on, Source, Commanded, Handed, Queues, Clock, Noticed, event_of, command_of, client_count, next_parcel, Parcel, known_of, MessagesFit, node_no, BeginsNew, message_of, scene_of, goes_in_run}
use Rattle.qs_world_refine.proofs.Words.{MayHappen, begun, IsSteady, is_fit_message, IsNext, rest_behind}
use Rattle.std.specs.Prelude.{slice_get}
use Rattle.std.proofs.lemmas.Option.{slice_get_within}
use Rattle.qs_session_channels.proofs.Lists.{tail_from}
use Rattle.qs_book_journal.specs.declared.script_line.Command.TheVariants as commands
use Rattle.qs_node_step.specs.declared.event.Event.{Event}
use Rattle.qs_node_step.specs.declared.event.Event.TheVariants as events
use Rattle.qs_world.specs.Moves.{command_from, message_from, notice_of, has_begun}
use Rattle.qs_world.specs.Posting.{next_line}
use Rattle.qs_world.specs.World.{World, inc_of}
use Rattle.qs_world_refine.specs.EachMove.{EachMayCome}
use Rattle.qs_world_refine.specs.Steady.{is_line_in_run, is_fit_parcel}
use Rattle.qs_world_refine.proofs.BeginKeeps.{begin_keeps}
use Rattle.qs_world_refine.proofs.Calm.{IsCalm, calm}
use Rattle.qs_world_refine.proofs.SoundParts.{and_both}

-- ---- a line of a client

pub record FromClient (world : World) (n k : ℕ) (event : Event) : Type 0 where
  pub line : ScriptLine
  pub is : event ≡ command_of line
  pub in_run : goes_in_run world.size line.command ≡ true

first_line : (size : ℕ) (lines : List ScriptLine) (line : ScriptLine) → slice_get lines 0 ≡ Some line → list_all (is_line_in_run size) lines ≡ true → goes_in_run size line.command ≡ true
first_line size [] line is all = absurd (cc (is))
first_line size (l ∷ rest) line is all = let same : l ≡ line = same_Some l line is in subst (λ (x : ScriptLine). goes_in_run size x.command ≡ true) same (and_both (is_line_in_run size l) (list_all (is_line_in_run size) rest) all).0

pub from_client : (world : World) (n k : ℕ) (event : Event) → IsSteady world → command_from world n k ≡ Some event → FromClient world n k event
from_client world n k event steady is = by (nat_lt k client_count) refl ((world.clients k).at == n) is
  where
    handed : k < client_count → (b : Bool) → (world.clients k).is_handed ≡ b → (o : Option ScriptLine) → (if b then None else slice_get (world.clients k).lines 0) ≡ o → (elim o [ None ↦ None | Some line ↦ Some (command_of line) ]) ≡ Some event → FromClient world n k event
    handed low b was None none so = absurd (cc (so))
    handed low true was (Some line) found so = absurd (cc (found))
    handed low false was (Some line) found so = record { line = line; is = sym (same_Some (command_of line) event so); in_run = first_line world.size (world.clients k).lines line found (steady.scripts k low) }

    by : (a : Bool) → nat_lt k client_count ≡ a → (b : Bool) → (if a && b then elim (next_line (world.clients k)) [ None ↦ None | Some line ↦ Some (command_of line) ] else None) ≡ Some event → FromClient world n k event
    by true low true so = handed (grind (arith, nat_tests, low)) (world.clients k).is_handed refl (next_line (world.clients k)) refl so
    by true low false so = absurd (cc (so))
    by false low b so = absurd (cc (so))

-- ---- a message

pub record FromNode (world : World) (n m : ℕ) (event : Event) : Type 0 where
  pub parcel : Parcel
  pub found : next_parcel world n m ≡ Some parcel
  pub is : event ≡ events.Received (node_no m) parcel.message

pub from_node : (world : World) (n stamp m : ℕ) (event : Event) → message_from world n stamp m ≡ Some event → FromNode world n m event
from_node world n stamp m event is = by (next_parcel world n m) refl is
  where
    timely : (parcel : Parcel) → next_parcel world n m ≡ Some parcel → (b : Bool) → (if b then Some (events.Received (node_no m) parcel.message) else None) ≡ Some event → FromNode world n m event
    timely parcel found true so = record { parcel = parcel; found = found; is = sym (same_Some (events.Received (node_no m) parcel.message) event so) }
    timely parcel found false so = absurd (cc (so))

    by : (o : Option Parcel) → next_parcel world n m ≡ o → (elim o [ None ↦ None | Some parcel ↦ if nat_lt parcel.stamp stamp then Some (events.Received (node_no m) parcel.message) else None ]) ≡ Some event → FromNode world n m event
    by None none so = absurd (cc (so))
    by (Some parcel) found so = timely parcel found (nat_lt parcel.stamp stamp) so

pub all_get : {A : Type 0} (p : A → Bool) (k : ℕ) (xs : List A) (x : A) → slice_get xs k ≡ Some x → list_all p xs ≡ true → p x ≡ true
all_get p zero [] x is all = absurd (cc (is))
all_get p zero (y ∷ xs) x is all = let same : y ≡ x = cc (is) in subst (λ z. p z ≡ true) same (and_both (p y) (list_all p xs) all).0
all_get p (suc k) [] x is all = absurd (cc (is))
all_get p (suc k) (y ∷ xs) x is all = all_get p k xs x is (and_both (p y) (list_all p xs) all).1

module _ (world : World) (n m : ℕ) (parcel : Parcel) (steady : IsSteady world) (found : next_parcel world n m ≡ Some parcel) where
  -- it comes from a place that is known
  known_sender : 1 ≤ world.channels.peer n m
  known_sender = some (world.channels.peer n m) (λ none. never (world.channels.posted m n 0 (world.channels.inc n)) (steady.nobody m n (world.channels.inc n)) (length (world.channels.handed m n 0 (world.channels.inc n)))
      (subst (λ (i : ℕ). slice_get (world.channels.posted m n i (world.channels.inc n)) (length (world.channels.handed m n i (world.channels.inc n))) ≡ Some parcel) none found))
    where
      some : (k : ℕ) → k ≢ 0 → 1 ≤ k
      some k other = omega (arith, other)

      never : (xs : List Parcel) → xs ≡ [] → (k : ℕ) → slice_get xs k ≡ Some parcel → ⊥
      never xs none k is = past (length xs) (ap length none) (slice_get_within xs k parcel is)
        where
          past : (l : ℕ) → l ≡ 0 → k < l → ⊥
          past l zero_is less = omega (arith, zero_is, less)

  pub is_next : IsNext (scene_of world) n m (world.channels.peer n m) parcel.message (rest_behind world n m parcel)
  is_next = record {
    from = record { in_run = (steady.peers n m known_sender).0; other = (steady.peers n m known_sender).1; knows = refl; some = known_sender };
    head = ap (map message_of) (tail_from (length handed) posted parcel found) ∙ ap (λ (k : ℕ). parcel.message ∷ map message_of (drop k posted)) (sym (longer handed));
  }
    where
      posted : List Parcel
      posted = world.channels.posted m n (world.channels.peer n m) (world.channels.inc n)

      handed : List Parcel
      handed = world.channels.handed m n (world.channels.peer n m) (world.channels.inc n)

      longer : (xs : List Parcel) → length (xs ++ parcel ∷ []) ≡ length xs + 1
      longer [] = refl
      longer (x ∷ xs) = omega (arith, longer xs)

  pub is_fit : is_fit_message world.size m n parcel.message ≡ true
  is_fit = all_get (is_fit_parcel world.size m n) (length (world.channels.handed m n (world.channels.peer n m) (world.channels.inc n))) (world.channels.posted m n (world.channels.peer n m) (world.channels.inc n)) parcel found (steady.posted m n (world.channels.peer n m) (world.channels.inc n))

-- ---- a restart

pub record FromNotice (world : World) (n m new : ℕ) (event : Event) : Type 0 where
  pub is : event ≡ events.PeerRestarted (node_no m) (world.channels.peer n m) new
  pub known : 1 ≤ world.channels.peer n m
  pub later : world.channels.peer n m < new
  pub begun : new ≤ world.channels.inc m

pub from_notice : (world : World) (n stamp m new : ℕ) (event : Event) → notice_of world n stamp m new ≡ Some event → FromNotice world n m new event
from_notice world n stamp m new event is = by (nat_lt 0 (known_of world n m) && (nat_lt (known_of world n m) new && has_begun world stamp m new)) refl is
  where
    by : (b : Bool) → (nat_lt 0 (known_of world n m) && (nat_lt (known_of world n m) new && has_begun world stamp m new)) ≡ b → (if b then Some (events.PeerRestarted (node_no m) (known_of world n m) new) else None) ≡ Some event → FromNotice world n m new event
    by false tests so = absurd (cc (so))
    by true tests so =
        let first : (nat_lt 0 (known_of world n m) ≡ true) × ((nat_lt (known_of world n m) new && has_begun world stamp m new) ≡ true) = and_both (nat_lt 0 (known_of world n m)) (nat_lt (known_of world n m) new && has_begun world stamp m new) tests in
        let second : (nat_lt (known_of world n m) new ≡ true) × (has_begun world stamp m new ≡ true) = and_both (nat_lt (known_of world n m) new) (has_begun world stamp m new) first.1 in
        record {
          is = sym (same_Some (events.PeerRestarted (node_no m) (known_of world n m) new) event so);
          known = grind (arith, nat_tests, first.0);
          later = grind (arith, nat_tests, second.0);
          begun = grind (arith, nat_tests, (and_both (nat_le new (inc_of world m)) _ second.1).0);
        }

-- ---- each

module _ (world : World) (n free : ℕ) (steady : IsSteady world) (fits : MessagesFit world) (n_in : n < world.size) (on : world.channels.up n ≡ true) where
  abbrev work : Work
  work = begun (world.hosts n).node free

  its : IsCalm work
  its = calm (world.hosts n).node free (steady.sound n n_in).node (steady.nodes n n_in on)

  setting_is : work.node.setting ≡ (world.hosts n).node.setting
  setting_is = (begin_keeps (work_on (world.hosts n).node free)).setting

  nodes_is : work.node.setting.nodes ≡ world.size
  nodes_is = ap (λ s. s.nodes) setting_is ∙ steady.seated.nodes n n_in

  node_is : work.node.setting.node ≡ node_no n
  node_is = ap (λ s. s.node) setting_is ∙ steady.seated.node n n_in

  known_low : (m : ℕ) → 1 ≤ world.channels.peer n m → (nat_lt m work.node.setting.nodes ≡ true) × (same_node (node_no m) work.node.setting.node ≡ false)
  known_low m known = let both = steady.peers n m known in (rw nodes_is (grind (arith, nat_tests, both.0)), rw node_is (grind (arith, nat_tests, both.1)))

  commanded : (line : ScriptLine) → goes_in_run world.size line.command ≡ true → MayHappen (command_of line) work × BeginsNew (command_of line) work
  commanded line in_run = ((subst (λ (k : ℕ). goes_in_run k line.command ≡ true) (sym nodes_is) in_run, its.owned), new line.command)
    where
      new : (command : Command) → BeginsNew (events.Command line.client line.line line.label command) work
      new commands.Begin = its.unknown
      new commands.Commit = tt
      new commands.Abort = tt
      new commands.Take = tt
      new commands.Yield = tt
      new (commands.Request member op) = tt

  pub may_come : (stamp : ℕ) (source : Source) (event : Event) → event_of world n stamp source ≡ Some event → MayHappen event work × BeginsNew event work
  may_come stamp (Commanded k) event is = let from = from_client world n k event steady is in subst (λ (e : Event). MayHappen e work × BeginsNew e work) (sym from.is) (commanded from.line from.in_run)
  may_come stamp (Handed m) event is = let from = from_node world n stamp m event is in
      subst (λ (e : Event). MayHappen e work × BeginsNew e work) (sym from.is) (((known_low m (known_sender world n m from.parcel steady from.found)).0, ((known_low m (known_sender world n m from.parcel steady from.found)).1, fits n m free from.parcel n_in on from.found)), tt)
  may_come stamp Queues event is = subst (λ (e : Event). MayHappen e work × BeginsNew e work) (same_Some events.ServeAll event is) (tt, tt)
  may_come stamp Clock event is = subst (λ (e : Event). MayHappen e work × BeginsNew e work) (same_Some events.Tick event is) (tt, tt)
  may_come stamp (Noticed m new) event is = let from = from_notice world n stamp m new event is in subst (λ (e : Event). MayHappen e work × BeginsNew e work) (sym from.is) ((known_low m from.known).0, tt)

pub each_may_come : EachMayCome
each_may_come world n stamp free source event steady fits n_in on is = may_come world n free steady fits n_in on stamp source event is

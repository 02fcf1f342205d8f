-- Through a step, what is in hand is of clients of the stepping node: so each transaction that begins has an owner, no client is answered that
-- has a command in hand elsewhere, and no entry is a restart.
use Rattle.qs_world_runs.proofs.Words.{◌≡◌, ℕ, ◌+◌, ◌<◌, ◌==◌, ◌&&◌, Bool, true, false, List, Option, Some, None, Equal, refl, sym, ap, subst, ◌∙◌, arith, nat_lt, is_some, if◌then◌else◌, slice_get, insert_entry, is_at, lookup, eqb-true, nat_tests, nat_cmp_total, tied_itself, ClientNo, Tid, Act, ScriptLine, IsRising, BookValue, client_cmp, effects_of, step_work, ClientAnswer, Event, OpenCommand, Clock, Commanded, Handed, Noticed, Queues, Source, client_count, command_of, event_of, handed_by}
use Rattle.qs_world_runs.proofs.Words.{IsOpening, labels_begun, next_line, Opening, World, from_node, from_notice, AnswersElsewhere, IsOfStep, Every, HoldsScripts, client_exact, every_on, IsOfOpen, with_event, ClientsAt, IsOwnClient, fresh_command, trace_of, some_same, eqb-self, same_Some}
use Rattle.std.proofs.lemmas.Map.Lookups.{exact_unsigned}
use Rattle.qs_session_channels.proofs.Lists.{get_drop}
use Rattle.qs_book_journal.specs.declared.entry.Act.TheVariants as acts
use Rattle.qs_book_laws.proofs.Maps.{lookup_put, lookup_put_apart}
use Rattle.qs_node_step.specs.State.{NodeValue}
use Rattle.qs_node_step.specs.declared.event.Event.TheVariants as events
use Rattle.qs_world.specs.Moves.{command_from}
use Rattle.qs_world.specs.Openings.{is_line}
use Rattle.qs_world_refine.proofs.EachMay.{all_get}
use Rattle.qs_world_refine.proofs.SoundParts.{and_both}
use Rattle.qs_world_lawful.proofs.GivenByWorld.{line_comes}
use Rattle.qs_world_runs.specs.Answering.{Answering, BeginsOpen, Commands, IsFree}
use Rattle.qs_world_runs.specs.JoinedLaws.{HasOwner}
use Rattle.qs_world_runs.proofs.Answered.{step_answers}
use Rattle.qs_world_runs.proofs.JoinedFacts.{formed}

-- no entry of a step is a restart
pub is_of_step : (was : Commands) (said : List ClientAnswer) (act : Act) → IsOfOpen was said act → IsOfStep act
is_of_step was said (acts.Restart inc pend done) of = of
is_of_step was said act of = tt

module _ (o : Opening) (opens : IsOpening o) (book : BookValue) (world : World) (n stamp free : ℕ) (source : Source) (event : Event) (comes : event_of world n stamp source ≡ Some event)
    (scripts : HoldsScripts o book world) (clients : ClientsAt world) (sized : world.size ≡ o.size) (low : n < world.size) (up : world.channels.up n ≡ true)
    (nodes : (world.hosts n).node.setting.nodes ≡ world.size) (rising : IsRising client_cmp (world.hosts n).node.commands) where
  abbrev node : NodeValue
  node = (world.hosts n).node

  in_run : nat_lt n world.size ≡ true
  in_run = grind (arith, nat_tests, low)

  -- ---- the line that comes

  pub record LineCame (k : ℕ) (line : ScriptLine) : Type 0 where
    pub small : nat_lt k client_count ≡ true
    pub at : (world.clients k).at ≡ n
    pub first : slice_get (world.clients k).lines 0 ≡ Some line
    pub client : line.client ≡ record { 0 = k }
    pub none : lookup (is_at (client_cmp line.client)) node.commands ≡ None

  from_command : (k : ℕ) → command_from world n k ≡ Some event → (line : ScriptLine) × (event ≡ command_of line) × LineCame k line
  from_command k is = by (nat_lt k client_count && ((world.clients k).at == n)) refl is
    where
      came : (nat_lt k client_count ≡ true) × (((world.clients k).at == n) ≡ true) → (line : ScriptLine) → next_line (world.clients k) ≡ Some line → LineCame k line
      came tests line next = record {
        small = tests.0;
        at = eqb-true (world.clients k).at n tests.1;
        first = first (world.clients k).is_handed next;
        client = ap (λ (i : ℕ). record { 0 = i }) (eqb-true line.client.0 k (and_both (line.client.0 == k) _ is_its).0);
        none = (line_comes o book world k n (scripts.clients k tests.0) tests.0 in_run up (eqb-true (world.clients k).at n tests.1) nodes (formed o opens book world n stamp free scripts sized low up nodes k tests.0) line next).free;
      }
        where
          first : (b : Bool) → (if b then None else slice_get (world.clients k).lines 0) ≡ Some line → slice_get (world.clients k).lines 0 ≡ Some line
          first true e = absurd (cc e)
          first false e = e

          is_its : is_line world.size k (labels_begun (o.clients k).1) line ≡ true
          is_its = let rest = (scripts.clients k tests.0).rest in
              all_get (is_line world.size k (labels_begun (o.clients k).1)) (rest.done + 0) (o.clients k).1 line
              (sym (get_drop rest.done (o.clients k).1 0) ∙ (ap (λ (ls : List ScriptLine). slice_get ls 0) (sym rest.rest) ∙ first (world.clients k).is_handed next)) (formed o opens book world n stamp free scripts sized low up nodes k tests.0)

      of : (nat_lt k client_count ≡ true) × (((world.clients k).at == n) ≡ true) → (l : Option ScriptLine) → next_line (world.clients k) ≡ l → (elim l [ None ↦ None | Some line ↦ Some (command_of line) ]) ≡ Some event → (line : ScriptLine) × (event ≡ command_of line) × LineCame k line
      of tests None next so = absurd (cc so)
      of tests (Some line) next so = (line, sym (same_Some (command_of line) event so), came tests line next)

      by : (b : Bool) → (nat_lt k client_count && ((world.clients k).at == n)) ≡ b → (if b then elim (next_line (world.clients k)) [ None ↦ None | Some line ↦ Some (command_of line) ] else None) ≡ Some event → (line : ScriptLine) × (event ≡ command_of line) × LineCame k line
      by true tests so = of (and_both (nat_lt k client_count) ((world.clients k).at == n) tests) (next_line (world.clients k)) refl so
      by false tests so = absurd (cc so)

  -- ---- what is in hand once it came

  pub record WasInHand (s : Source) (client : ClientNo) (old : OpenCommand) : Type 0 where
    pub own : IsOwnClient world n client
    pub first : slice_get (world.clients client.0).lines 0 ≡ Some old.line
    pub handed : (handed_by s world.clients client.0).is_handed ≡ true

  pub handed_still : (s : Source) (k : ℕ) → (world.clients k).is_handed ≡ true → (handed_by s world.clients k).is_handed ≡ true
  handed_still (Commanded j) k was = by (k == j)
    where
      by : (b : Bool) → (if b then record (world.clients j) { is_handed = true } else world.clients k).is_handed ≡ true
      by true = refl
      by false = was
  handed_still (Handed m) k was = was
  handed_still Queues k was = was
  handed_still Clock k was = was
  handed_still (Noticed m new) k was = was

  before : (s : Source) (client : ClientNo) (old : OpenCommand) → lookup (is_at (client_cmp client)) node.commands ≡ Some old → WasInHand s client old
  before s client old there =
      let its = clients n low client old there in
      let hand = (scripts.clients client.0 its.small).in_hand n in_run up old there in
      record { own = its; first = hand.1.1; handed = handed_still s client.0 hand.1.0 }

  -- the command that comes, or one of before
  commanded : (k : ℕ) → command_from world n k ≡ Some event → (client : ClientNo) (old : OpenCommand) → lookup (is_at (client_cmp client)) (with_event event node.commands) ≡ Some old → WasInHand (Commanded k) client old
  commanded k is client old there = let p = from_command k is in of p.0 p.2 (subst (λ (e : Event). lookup (is_at (client_cmp client)) (with_event e node.commands) ≡ Some old) p.1 there)
    where
      of : (line : ScriptLine) → LineCame k line → lookup (is_at (client_cmp client)) (insert_entry client_cmp node.commands line.client (fresh_command line)) ≡ Some old → WasInHand (Commanded k) client old
      of line came there = by (is_at (client_cmp client) line.client) refl
        where
          exact : (x : ClientNo) → client_cmp line.client x ≡ Equal → line.client ≡ x
          exact x e = ap (λ (i : ℕ). record { 0 = i }) (exact_unsigned line.client.0 x.0 e)

          by : (b : Bool) → is_at (client_cmp client) line.client ≡ b → WasInHand (Commanded k) client old
          by false far = before (Commanded k) client old (sym (lookup_put_apart client_cmp line.client (fresh_command line) exact (is_at (client_cmp client)) far node.commands) ∙ there)
          by true near = subst (λ (c : ClientNo). WasInHand (Commanded k) c old) (sym (client_exact client line.client near ∙ came.client)) (record {
            own = record { small = came.small; at = came.at };
            first = came.first ∙ ap (λ (c : OpenCommand). Some c.line) (some_same (sym (lookup_put client_cmp line.client (fresh_command line) (tied_itself nat_cmp_total line.client.0) node.commands)
                ∙ subst (λ (c : ClientNo). lookup (is_at (client_cmp c)) (insert_entry client_cmp node.commands line.client (fresh_command line)) ≡ Some old) (client_exact client line.client near) there));
            handed = handed (k == k) (eqb-self k);
          })
            where
              handed : (b : Bool) → b ≡ true → (if b then record (world.clients k) { is_handed = true } else world.clients k).is_handed ≡ true
              handed b is = rw is refl

  -- where no command comes
  other_event : (s : Source) (e : Event) → event ≡ e → ((commands : Commands) → with_event e commands ≡ commands) → (client : ClientNo) (old : OpenCommand) → lookup (is_at (client_cmp client)) (with_event event node.commands) ≡ Some old → WasInHand s client old
  other_event s e is same client old there = before s client old (subst (λ (cs : Commands). lookup (is_at (client_cmp client)) cs ≡ Some old) (ap (λ (x : Event). with_event x node.commands) is ∙ same node.commands) there)

  one_event : (e : Event) → Some e ≡ Some event → event ≡ e
  one_event e same = cc same

  pub in_hand : (client : ClientNo) (old : OpenCommand) → lookup (is_at (client_cmp client)) (with_event event node.commands) ≡ Some old → WasInHand source client old
  in_hand = by source comes
    where
      by : (s : Source) → event_of world n stamp s ≡ Some event → (client : ClientNo) (old : OpenCommand) → lookup (is_at (client_cmp client)) (with_event event node.commands) ≡ Some old → WasInHand s client old
      by (Commanded k) is = commanded k is
      by (Handed m) is = let from = from_node world n stamp m event is in other_event (Handed m) (events.Received (record { 0 = m }) from.parcel.message) from.is (λ commands. refl)
      by Queues is = other_event Queues events.ServeAll (one_event events.ServeAll is) (λ commands. refl)
      by Clock is = other_event Clock events.Tick (one_event events.Tick is) (λ commands. refl)
      by (Noticed m new) is = other_event (Noticed m new) (events.PeerRestarted (record { 0 = m }) (world.channels.peer n m) new) (from_notice world n stamp m new event is).is (λ commands. refl)

  pub free_event : IsFree event node.commands
  free_event = by source comes
    where
      by : (s : Source) → event_of world n stamp s ≡ Some event → IsFree event node.commands
      by (Commanded k) is = let p = from_command k is in subst (λ (e : Event). IsFree e node.commands) (sym p.1) p.2.none
      by (Handed m) is = subst (λ (e : Event). IsFree e node.commands) (sym (from_node world n stamp m event is).is) tt
      by Queues is = subst (λ (e : Event). IsFree e node.commands) (sym (one_event events.ServeAll is)) tt
      by Clock is = subst (λ (e : Event). IsFree e node.commands) (sym (one_event events.Tick is)) tt
      by (Noticed m new) is = subst (λ (e : Event). IsFree e node.commands) (sym (from_notice world n stamp m new event is).is) tt

  -- ---- what the step answers and begins

  pub answering : Answering (with_event event node.commands) (trace_of (step_work node event free))
  answering = step_answers node event free rising free_event

  abbrev said : List ClientAnswer
  said = (effects_of node event free).answers

  pub begins_owned : Every (HasOwner book) (effects_of node event free).entries
  begins_owned = every_on (IsOfOpen (with_event event node.commands) said) (HasOwner book)
      (λ act of tid label client is. owner tid label client (subst (IsOfOpen (with_event event node.commands) said) is of)) (effects_of node event free).entries answering.entries
    where
      owner : (tid : Tid) (label : List ℕ) (client : ClientNo) → BeginsOpen (with_event event node.commands) said client label → is_some (slice_get book.owners client.0) ≡ true
      owner tid label client b = ap is_some (scripts.clients client.0 (in_hand client b.old b.there).own.small).behind.there

  pub answers_aside : (k : ℕ) → (k == n) ≡ false → k < world.size → Every (AnswersElsewhere (world.hosts k).node) (effects_of node event free).entries
  answers_aside k far k_low = every_on (IsOfOpen (with_event event node.commands) said) (AnswersElsewhere (world.hosts k).node) aside (effects_of node event free).entries answering.entries
    where
      none : (client : ClientNo) → IsOwnClient world n client → (c : Option OpenCommand) → lookup (is_at (client_cmp client)) (world.hosts k).node.commands ≡ c → c ≡ None
      none client own None is = refl
      none client own (Some command) is = absurd (let on : (k == n) ≡ true = ap (λ (i : ℕ). i == n) (sym (clients k k_low client command is).at ∙ own.at) ∙ eqb-self n in let both : true ≡ false = sym on ∙ far in cc (both))

      aside : (act : Act) → IsOfOpen (with_event event node.commands) said act → AnswersElsewhere (world.hosts k).node act
      aside (acts.Answer client line answer) of = none client (in_hand client of.old of.there).own (lookup (is_at (client_cmp client)) (world.hosts k).node.commands) refl
      aside act of = tt

  pub of_steps : Every IsOfStep (effects_of node event free).entries
  of_steps = every_on (IsOfOpen (with_event event node.commands) said) IsOfStep (is_of_step (with_event event node.commands) said) (effects_of node event free).entries answering.entries
